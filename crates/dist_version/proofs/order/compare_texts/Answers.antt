use Rattle.std.proofs.Common.{ap, ap₂, ◌∙◌}
use Rattle.std.specs.Ordering.{is_ne}
use Rattle.std.proofs.lemmas.List.{take_rest}
use Rattle.dist_version.proofs.InStep.{texts_cmp, texts_go_on}
use Rattle.dist_version.proofs.order.compare_texts.Goals as goal

pub loop-a-preserved : goal.loop-a-preserved
loop-a-preserved c =
    let a = c.loop-a.a.now in
    let b = c.loop-a.b.now in
    let on = texts_go_on a b (c.if-is_ne.ensures ∙ ap is_ne c.compare_heads-order.ensures) c.if-not-begins_with_text.ensures in
    ap₂ texts_cmp (take_rest a 1) (take_rest b 1) ∙ on.2 ∙ c.loop-a.invariant
