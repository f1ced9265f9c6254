-- Tests of orders, and what holds of each element.
use Rattle.std.proofs.Common.{◌≡◌, ◌↔◌, ℕ, ◌<◌, Bool, List, Ordering, Less, Equal, Greater, refl, sym, ◌∙◌, length, get_or, slice_get}
use Rattle.std.specs.Prelude.{All, IsSomeAnd, IsTrue}
use Rattle.std.specs.Ordering.{is_eq, is_lt}
use Rattle.std.proofs.lemmas.Bool.{false≢true}
use Rattle.std.proofs.lemmas.Option.{slice_get-get_or}
use Rattle.dist_base.specs.ListLaws.{has-at}

pub lt-less : (o : Ordering) → IsTrue (is_lt o) ↔ (o ≡ Less)
lt-less Less = ((λ yes. refl), λ is. refl)
lt-less Equal = ((λ yes. absurd (false≢true yes)), λ is. absurd (let no-one : Equal ≡ Less = is in cc))
lt-less Greater = ((λ yes. absurd (false≢true yes)), λ is. absurd (let no-one : Greater ≡ Less = is in cc))

pub below-test : (b : Bool) (o order : Ordering) → b ≡ is_lt o → o ≡ order → IsTrue b ↔ (order ≡ Less)
below-test b o order test is = (
  (λ yes. sym is ∙ (lt-less o).0 (sym test ∙ yes)),
  λ less. test ∙ (lt-less o).1 (is ∙ less),
)

pub eq-equal : (o : Ordering) → IsTrue (is_eq o) ↔ (o ≡ Equal)
eq-equal Less = ((λ yes. absurd (false≢true yes)), λ is. absurd (let no-one : Less ≡ Equal = is in cc))
eq-equal Equal = ((λ yes. refl), λ is. refl)
eq-equal Greater = ((λ yes. absurd (false≢true yes)), λ is. absurd (let no-one : Greater ≡ Equal = is in cc))

pub equal-test : (b : Bool) (o order : Ordering) → b ≡ is_eq o → o ≡ order → IsTrue b ↔ (order ≡ Equal)
equal-test b o order test is = (
  (λ yes. sym is ∙ (eq-equal o).0 (sym test ∙ yes)),
  λ equal. test ∙ (eq-equal o).1 (is ∙ equal),
)

pub all-by-place : {X : Type 0} (P : X → Type 0) (xs : List X) → ((k : ℕ) → k < length xs → IsSomeAnd (slice_get xs k) P) → All P xs
all-by-place P xs each k d short = has-at P xs k (get_or xs k d) (slice_get-get_or xs k d short) (each k short)
