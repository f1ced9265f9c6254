-- How long a first line of some numbers is.
use Rattle.std.proofs.Common.{ℕ, zero, suc, ◌+◌, ◌*◌, ◌/◌, ◌%◌, ◌==◌, ◌≤◌, Bool, true, false, List, [], ◌∷◌, length, if◌then◌else◌, arith, length-append}
use Rattle.std.specs.Fmt.{decimal, digit_glyph, digits, digits_onto}
use Rattle.dist_cert.specs.FirstLines.{first_line}
use Rattle.dist_cert.specs.Form.{plains, words_text}
use Rattle.dist_cert.specs.Writing.{ended}

onto-width : (k n : ℕ) (behind : List ℕ) → length (digits_onto k 10 false n behind) ≤ k + length behind
onto-width zero n behind = omega arith
onto-width (suc k) n behind = by (n / 10 == 0) (onto-width k (n / 10) (digit_glyph false (n % 10) ∷ behind))
  where
    by : (b : Bool) → length (digits_onto k 10 false (n / 10) (digit_glyph false (n % 10) ∷ behind)) ≤ k + length (digit_glyph false (n % 10) ∷ behind)
        → length (if b then digit_glyph false (n % 10) ∷ behind else digits_onto k 10 false (n / 10) (digit_glyph false (n % 10) ∷ behind))
        ≤ suc k + length behind
    by true rest = omega arith
    by false rest = omega (arith, rest)

decimal-width : (n : ℕ) → length (decimal n) ≤ 64
unfolding digits
decimal-width n = onto-width 64 n []

numbers-width : (numbers : List ℕ) → length (words_text (plains numbers)) ≤ 65 * length numbers
numbers-width [] = omega arith
numbers-width (n ∷ numbers) =
    omega (arith, decimal-width n, numbers-width numbers, length-append (32 ∷ decimal n) (words_text (plains numbers)))

pub first-width : (front numbers : List ℕ) → length (ended (first_line front numbers)) ≤ length front + 65 * length numbers + 1
first-width front numbers = omega (
  arith,
  numbers-width numbers,
  length-append (first_line front numbers) (10 ∷ []),
  length-append front (words_text (plains numbers)),
)
