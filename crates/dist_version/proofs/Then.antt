-- Answers of comparisons, one after another, and what `nat_cmp` answers.
use Rattle.std.proofs.Common.{◌≡◌, ℕ, ◌<◌, Ordering, Less, Equal, Greater, nat_cmp, true, false, true≢false, lt-ltb, le-ltb, eq-eqb, ne_eqb, ◌==◌, refl, sym}
use Rattle.std.proofs.Common.{arith}
use Rattle.std.specs.Ordering.{ordering_then, is_ne}

pub then_assoc : (o p q : Ordering) → ordering_then o (ordering_then p q) ≡ ordering_then (ordering_then o p) q
then_assoc Less p q = refl
then_assoc Equal p q = refl
then_assoc Greater p q = refl

pub then_equal : (o : Ordering) → ordering_then o Equal ≡ o
then_equal Less = refl
then_equal Equal = refl
then_equal Greater = refl

-- where the code tests a first answer by `is_ne`
pub then_stop : (o p : Ordering) → true ≡ is_ne o → ordering_then o p ≡ o
then_stop Less p h = refl
then_stop Equal p h = absurd (true≢false h)
then_stop Greater p h = refl

pub then_go_on : (o p : Ordering) → false ≡ is_ne o → ordering_then o p ≡ p
then_go_on Less p h = absurd (true≢false (sym h))
then_go_on Equal p h = refl
then_go_on Greater p h = absurd (true≢false (sym h))

pub nat_cmp-less : (a b : ℕ) → a < b → nat_cmp a b ≡ Less
nat_cmp-less a b h = rw (lt-ltb a b h) refl

pub nat_cmp-same : (a b : ℕ) → a ≡ b → nat_cmp a b ≡ Equal
nat_cmp-same a b e = rw (le-ltb a b (omega arith), eq-eqb a b e) refl

pub nat_cmp-greater : (a b : ℕ) → b < a → nat_cmp a b ≡ Greater
nat_cmp-greater a b h =
    let other : (a == b) ≡ false = ne_eqb a b (λ e. absurd (omega (arith, e, h))) in
    rw (le-ltb a b (omega arith), other) refl
