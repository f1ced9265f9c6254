-- Tests of all or some numbers, and what they say.
use Rattle.std.proofs.Common.{◌≡◌, ◌≢◌, inl, inr, ℕ, ◌≤◌, ◌↔◌, ◌==◌, ◌&&◌, ◌||◌, Bool, true, false, not, List, [], ◌∷◌, refl, sym, ap, ◌∙◌, arith, nat_le}
use Rattle.std.specs.List.{All, Any, Contains, list_all, list_any}
use Rattle.std.proofs.lemmas.Bool.{false≢true, cases_Bool, and_parts, and_from, or_cases, or_parts, or_left, or_right, leb-true, le-leb, eqb-false, ne_eqb}
use Rattle.std.proofs.lemmas.Bool.{not-true, not_from_false}
use Rattle.std.proofs.lemmas.List.Elements.{All-nil, All-cons, All-head, All-tail}
use Rattle.dist_base.specs.ListLaws.{any-cases, any-head, any-later}
use Rattle.dist_cert.specs.Rising.{is_among}
use Rattle.dist_cert.specs.ListLaws.{any-from, contains-later, from-any}

-- a test that is passed where a fact holds, of the numbers of a list
abbrev pub Tests : (ℕ → Bool) → (ℕ → Type 0) → List ℕ → Type 0
Tests test P numbers = (n : ℕ) → Contains numbers n → (test n ≡ true) ↔ P n

first-there : (n : ℕ) (numbers : List ℕ) → Contains (n ∷ numbers) n
first-there n numbers = (0, omega arith, refl)

tests-tail : (test : ℕ → Bool) (P : ℕ → Type 0) (n : ℕ) (numbers : List ℕ) → Tests test P (n ∷ numbers) → Tests test P numbers
tests-tail test P n numbers tests m there = tests m (contains-later n numbers m there)

pub all-tested : (test : ℕ → Bool) (P : ℕ → Type 0) (numbers : List ℕ) → Tests test P numbers → (list_all test numbers ≡ true) ↔ All P numbers
all-tested test P [] tests = ((λ e. All-nil P), λ all. refl)
all-tested test P (n ∷ numbers) tests =
    let rest = all-tested test P numbers (tests-tail test P n numbers tests) in
    let here = tests n (first-there n numbers) in (
      (λ e. let parts = and_parts (test n) (list_all test numbers) e in All-cons P n numbers (here.0 parts.0) (rest.0 parts.1)),
      λ all. and_from (test n) (list_all test numbers) (here.1 (All-head P n numbers all)) (rest.1 (All-tail P n numbers all)),
    )

pub any-tested : (test : ℕ → Bool) (P : ℕ → Type 0) (numbers : List ℕ) → Tests test P numbers → (list_any test numbers ≡ true) ↔ Any P numbers
any-tested test P [] tests = ((λ e. absurd (false≢true e)), λ any. absurd (omega (arith, any.2)))
any-tested test P (n ∷ numbers) tests =
    let rest = any-tested test P numbers (tests-tail test P n numbers tests) in
    let here = tests n (first-there n numbers) in (
      (λ e. elim (or_cases (test n) (list_any test numbers) e) [
        | inl first ↦ any-head P n numbers (here.0 first)
        | inr later ↦ any-later P n numbers (rest.0 later)
      ]),
      λ any. elim (any-cases P n numbers any) [
        | inl first ↦ or_left (test n) (list_any test numbers) (here.1 first)
        | inr later ↦ or_right (test n) (list_any test numbers) (rest.1 later)
      ],
    )

pub none-tested : (test : ℕ → Bool) (P : ℕ → Type 0) (numbers : List ℕ) → Tests test P numbers → (list_any test numbers ≡ false) ↔ All (λ n. ¬ P n) numbers
none-tested test P [] tests = ((λ e. All-nil (λ n. ¬ P n)), λ all. refl)
none-tested test P (n ∷ numbers) tests =
    let rest = none-tested test P numbers (tests-tail test P n numbers tests) in
    let here = tests n (first-there n numbers) in (
      (λ e.
          let parts = or_parts (test n) (list_any test numbers) e in
          All-cons (λ m. ¬ P m) n numbers (λ holds. false≢true (sym parts.0 ∙ here.1 holds)) (rest.0 parts.1)),
      λ all. elim (cases_Bool (test n)) [
        | inl passed ↦ absurd (All-head (λ m. ¬ P m) n numbers all (here.0 passed))
        | inr no_test ↦ ap (λ (b : Bool). b || list_any test numbers) no_test ∙ rest.1 (All-tail (λ m. ¬ P m) n numbers all)
      ],
    )

pub among-tests : (members numbers : List ℕ) → Tests (is_among members) (λ n. Contains members n) numbers
among-tests members numbers n there = ((λ e. from-any n members e), λ h. any-from n members h)

pub other-tests : (p last : ℕ) (numbers : List ℕ) → Tests (λ q. not (q == p) && nat_le q last) (λ q. (q ≢ p) × (q ≤ last)) numbers
other-tests p last numbers q there = (
  (λ e. let parts = and_parts (not (q == p)) (nat_le q last) e in (eqb-false q p (not-true (q == p) parts.0), leb-true q last parts.1)),
  λ h. and_from (not (q == p)) (nat_le q last) (not_from_false (q == p) (ne_eqb q p h.0)) (le-leb q last h.1),
)
