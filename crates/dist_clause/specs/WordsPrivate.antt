-- A literal's word is twice its variable and one more where it is positive.
use Rattle.std.proofs.Common.{◌≡◌, ◌==◌, ℕ, ◌+◌, ◌*◌, ◌/◌, ◌%◌, if◌then◌else◌, arith}
use Rattle.std.proofs.lemmas.Bool.Decides.{nat_tests}

pub word-of_parts : (w : ℕ) → 2 * (w / 2) + (if w % 2 == 1 then 1 else 0) ≡ w
word-of_parts w = grind (arith, nat_tests)
