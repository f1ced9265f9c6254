use Rattle.dist_version.proofs.Turns.{digit_start-all}
use Rattle.dist_version.proofs.order.next_turn.Goals as goal

pub returns-clause-only_digits : goal.returns-clause-only_digits
returns-clause-only_digits c = rw (c.split_at-2.ensures.front, c.digits_len.ensures.value) (digit_start-all c.split_at.result.1.now)
