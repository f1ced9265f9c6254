use Rattle.std.proofs.Common.{◌≡◌, ℕ, ◌<◌, List, [], ◌∷◌, ◌++◌, length, append_assoc, refl, ap, sym, ◌∙◌, arith}
use Rattle.std.specs.Prelude.{codes}
use Rattle.std.specs.List.{join_by}
use Rattle.dist_generate.specs.Draws.{draw, next_state, many}
use Rattle.dist_generate.specs.Generator.{item, items, item_text, depends_lines, text_of_lines}
use Rattle.dist_generate.proofs.Adding.{adds-is, many-at, depends-text}
use Rattle.dist_generate.proofs.SmallDraws.{length-many}
use Rattle.dist_generate.proofs.stanzas.add_depends.Goals as goal

pub returns-in_ok-push : goal.returns-in_ok-push
returns-in_ok-push c =
    let state = c.args.draws.now.state in
    let old = c.args.text.now.items in
    let adds = c.in_ok-add_items.ensures in
    let all = items c.args.number state in
    let same : many (λ _. item c.args.number) c.draw-count.result c.draw-count.new.self.state ≡ all =
    many-at (λ _. item c.args.number) c.draw-count.result (draw 3 state).0 c.draw-count.new.self.state (next_state state) c.draw-count.ensures.value
    c.draw-count.ensures.moved in
    let some : 0 < length all.0 = omega (
      arith,
      length-many (λ _. item c.args.number) (draw 3 state).0 (next_state state),
      c.draw-count.ensures.value,
      c.if-count-gt0.true,
    ) in
    adds-is (items c.args.number) (λ o. text_of_lines (depends_lines o)) old state _ _ all.0 all.1 refl
    (c.in_ok-push.ensures.items
    ∙ ap (λ (t : List ℕ). t ++ 10 ∷ []) (
    adds.text
    ∙ ap (λ r. c.extend_from_slice.new.self.items ++ join_by item_text (codes ", ") r.0) same
    ∙ ap (λ (t : List ℕ). t ++ join_by item_text (codes ", ") all.0) c.in_ok-extend_from_slice.ensures.items
    )
    ∙ append_assoc (old ++ codes "Depends: ") (join_by item_text (codes ", ") all.0) (10 ∷ [])
    ∙ append_assoc old (codes "Depends: ") (join_by item_text (codes ", ") all.0 ++ 10 ∷ [])
    ∙ ap (λ (t : List ℕ). old ++ t) (sym (depends-text all.0 some)))
    (adds.moved ∙ ap (λ r. r.1) same)
