use Rattle.std.proofs.Common.{sym, ap, ◌∙◌}
use Rattle.std.proofs.lemmas.Bool.{not-true}
use Rattle.dist_base.specs.Ascii.{is_white}
use Rattle.dist_control.proofs.TrimLemmas.{trim-between}
use Rattle.dist_control.proofs.field.is_trimmed.Goals as goal

pub returns-then-not-is_white : goal.returns-then-not-is_white
returns-then-not-is_white c both =
    let first = c.in-Some-Some.ensures.item.3 in
    let last = c.in-Some-Some.ensures'.item.3 in
    trim-between c.args.text.now first.0
    (ap is_white (sym (first.1 0)) ∙ sym c.is_white.ensures ∙ c.if-not-is_white.true)
    (ap is_white (sym (last.1 0)) ∙ sym c.is_white-then-not-is_white.ensures ∙ not-true _ both)
