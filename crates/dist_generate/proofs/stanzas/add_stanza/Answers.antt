use Rattle.std.proofs.Common.{◌++◌, [], ◌∷◌, ap, ◌∙◌}
use Rattle.std.specs.Prelude.{None}
use Rattle.dist_generate.specs.Generator.{stanza_head, text_of_lines}
use Rattle.dist_generate.proofs.Adding.{stanza-first, stanza-more}
use Rattle.dist_generate.proofs.stanzas.add_stanza.Goals as goal
use Rattle.dist_generate.proofs.stanzas.add_stanza.Goals.{then-number-gt0+in_ok-add_depends+in_ok-add_conflict, else-number-gt0}

pub returns : goal.returns
returns c =
    let number = c.args.number in
    let old = c.args.text.now.items in
    let text = c.add_head.new.text.items in
    let moved = c.draw-digit.ensures.moved in
    let head = c.in_ok-add_head.ensures ∙ ap (λ d. old ++ text_of_lines (stanza_head (record { number = number; digit = d; items = []; conflict = None })))
    c.draw-digit.ensures.value in
    elim c.if-number-gt0.branch [
      | then-number-gt0+in_ok-add_depends+in_ok-add_conflict w ↦
          stanza-more number c.args.draws.now.state _ moved old text head _ _ c.if-number-gt0.text.items _ _ _ _ w.if-number-gt0.true
          w.in_ok-add_depends.ensures w.in_ok-add_conflict.ensures (ap (λ t. t.items) w.text-is) (ap (λ d. d.state) w.draws-is) c.in_ok-push.ensures.items
      | else-number-gt0 w ↦
          stanza-first number c.args.draws.now.state _ moved old text head _ _ w.if-number-gt0.false
          (ap (λ d. d.state) w.draws-is) (c.in_ok-push.ensures.items ∙ ap (λ t. t.items ++ 10 ∷ []) w.text-is)
    ]
