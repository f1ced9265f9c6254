use Rattle.std.proofs.Common.{◌≡◌, ℕ, suc, ◌++◌, ap, ◌∙◌, arith}
use Rattle.std.specs.Prelude.{codes}
use Rattle.dist_generate.specs.Draws.{draw, next_state}
use Rattle.dist_generate.specs.Generator.{alternative, alternative_text, item_text}
use Rattle.dist_generate.proofs.Adding.{next-moved, next-first, next-more, many-at}
use Rattle.dist_generate.proofs.stanzas.add_item.Goals as goal
use Rattle.dist_generate.proofs.stanzas.add_item.Goals.{then-place-gt0+in_ok-extend_from_slice, else-place-gt0}

pub loop-place-preserved : goal.loop-place-preserved
loop-place-preserved c =
    let each = λ (_ : ℕ). alternative c.args.number in
    let old = c.args.text.now.items in
    let start = c.draw-alternatives.new.self.state in
    let adds = c.in_ok-add_alternative.ensures in
    let was = c.loop-place.invariant.moved in
    let before = c.loop-place.invariant.text in
    record {
      text = elim c.if-place-gt0.branch [
        | then-place-gt0+in_ok-extend_from_slice w ↦
            next-more each alternative_text (codes " | ") old start c.loop-place.place c.loop-place.text.items c.loop-place.draws.state _
            c.if-place-gt0.text.items w.if-place-gt0.true before was
            (ap (λ t. t.items) w.text-is ∙ w.in_ok-extend_from_slice.ensures.items) adds.text
        | else-place-gt0 w ↦
            next-first each alternative_text (codes " | ") old start c.loop-place.place c.loop-place.text.items c.loop-place.draws.state _
            (omega (arith, w.if-place-gt0.false)) before was
            (adds.text ∙ ap (λ t. t.items ++ alternative_text (each c.loop-place.place c.loop-place.draws.state).0) w.text-is)
      ];
      moved = next-moved each start c.loop-place.place c.loop-place.draws.state _ was adds.moved;
    }

pub returns : goal.returns
returns c =
    let state = c.args.draws.now.state in
    let ended : c.loop-place.place ≡ suc (draw 2 state).0 =
    omega (arith, c.loop-place-test.false, c.loop-place.auto.place-end, c.draw-alternatives.ensures.value) in
    let same = many-at (λ _. alternative c.args.number) c.loop-place.place (suc (draw 2 state).0) c.draw-alternatives.new.self.state (next_state state) ended
    c.draw-alternatives.ensures.moved in
    record {
      text = c.loop-place.invariant.text ∙ ap (λ r. c.args.text.now.items ++ item_text r.0) same;
      moved = c.loop-place.invariant.moved ∙ ap (λ r. r.1) same;
    }
