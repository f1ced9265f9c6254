use Rattle.std.proofs.Common.{ℕ, ◌++◌, ap, ◌∙◌, arith}
use Rattle.std.specs.Prelude.{codes}
use Rattle.dist_generate.specs.Generator.{item, item_text, item_text}
use Rattle.dist_generate.proofs.Adding.{next-moved, next-first, next-more}
use Rattle.dist_generate.proofs.stanzas.add_items.Goals as goal
use Rattle.dist_generate.proofs.stanzas.add_items.Goals.{then-place-gt0+in_ok-extend_from_slice, else-place-gt0}

pub loop-place-preserved : goal.loop-place-preserved
loop-place-preserved c =
    let each = λ (_ : ℕ). item c.args.number in
    let old = c.args.text.now.items in
    let start = c.args.draws.now.state in
    let adds = c.in_ok-add_item.ensures in
    let was = c.loop-place.invariant.moved in
    let before = c.loop-place.invariant.text in
    record {
      text = elim c.if-place-gt0.branch [
        | then-place-gt0+in_ok-extend_from_slice w ↦
            next-more each item_text (codes ", ") old start c.loop-place.place c.loop-place.text.items c.loop-place.draws.state _ c.if-place-gt0.text.items
            w.if-place-gt0.true before was
            (ap (λ t. t.items) w.text-is ∙ w.in_ok-extend_from_slice.ensures.items) adds.text
        | else-place-gt0 w ↦
            next-first each item_text (codes ", ") old start c.loop-place.place c.loop-place.text.items c.loop-place.draws.state _
            (omega (arith, w.if-place-gt0.false)) before was
            (adds.text ∙ ap (λ t. t.items ++ item_text (each c.loop-place.place c.loop-place.draws.state).0) w.text-is)
      ];
      moved = next-moved each start c.loop-place.place c.loop-place.draws.state _ was adds.moved;
    }
