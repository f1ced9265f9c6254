use Rattle.std.proofs.Common.{◌∙◌, [], Ordering, ap, nat_cmp, sym}
use Rattle.std.specs.Ordering.{ordering_then}
use Rattle.dist_version.specs.Order.{after_turn, number_of, part_cmp}
use Rattle.dist_version.proofs.BetweenOrder.{letter-order}
use Rattle.dist_version.proofs.between_order.compare_letter.Goals as goal

pub returns : goal.returns
returns c =
    let other = c.args.other.now in
    c.compare_alone.ensures ∙ ap (λ (o : Ordering). ordering_then o (ordering_then (nat_cmp 0 (number_of other)) (part_cmp [] (after_turn other))))
    c.compare_letter_text.ensures ∙ sym (letter-order c.args.tildes other)
