use Rattle.std.proofs.Common.{◌≡◌, ◌++◌, ap, sym, ◌∙◌, Some}
use Rattle.dist_generate.specs.Draws.{draw, next_state}
use Rattle.dist_generate.specs.Generator.{conflict, conflicts_lines, text_of_lines}
use Rattle.dist_generate.proofs.Adding.{adds-is, conflict-some}
use Rattle.dist_generate.proofs.stanzas.add_conflict.Goals as goal

pub returns-in_ok-add_line : goal.returns-in_ok-add_line
returns-in_ok-add_line c =
    let state = c.args.draws.now.state in
    let other : c.draw-other.result ≡ (draw c.args.number (next_state state)).0 = c.draw-other.ensures.value
    ∙ ap (λ s. (draw c.args.number s).0) c.draw.ensures.moved in
    adds-is (conflict c.args.number) (λ o. text_of_lines (conflicts_lines o)) _ state _ _ (Some (draw c.args.number (next_state state)).0)
    (next_state (next_state state))
    (conflict-some c.args.number state (sym c.draw.ensures.value ∙ c.if-draw-eq0.true))
    (c.in_ok-add_line.ensures ∙ ap (λ n. c.args.text.now.items ++ text_of_lines (conflicts_lines (Some n))) other)
    (c.draw-other.ensures.moved ∙ ap next_state c.draw.ensures.moved)
