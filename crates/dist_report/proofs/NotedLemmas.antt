-- A package that is put into the lists of those on which it depends.
use Rattle.std.proofs.Common.{◌≡◌, ℕ, ◌+◌, ◌-◌, ◌<◌, ◌==◌, ◌||◌, Bool, true, false, List, [], ◌∷◌, ◌++◌, length, get_or, set, take, Option, None, Some, refl}
use Rattle.std.proofs.Common.{sym, ap, subst, ◌∙◌, arith, slice_get, inl, inr}
use Rattle.std.specs.Prelude.{All}
use Rattle.std.proofs.Math.Bool.{or-false}
use Rattle.std.proofs.lemmas.Bool.{cases_eq, eq-eqb, eqb-true}
use Rattle.std.proofs.lemmas.List.{get_or-set_other, get_or-set_same, get_or_push, length-set, length_push, take_more}
use Rattle.std.proofs.lemmas.List.Folds.{list_any-append}
use Rattle.std.proofs.lemmas.Option.{get_or_from_slice_get, slice_get-get_or, slice_get_within}
use Rattle.dist_cert.specs.Rising.{is_among}
use Rattle.dist_report.specs.ClaimPartsPrivate.{ended_by, ends_with, noted}

same-number : (n : ℕ) → (n == n) ≡ true
same-number n = eq-eqb n n refl

other-number : (a b : ℕ) (c : Bool) → (a == b) ≡ c → (a ≡ b → ⊥) → c ≡ false
other-number a b true is other = absurd (other (eqb-true a b is))
other-number a b false is other = refl

-- ---- the end of a list

end-of : (numbers : List ℕ) (number : ℕ) (o : Option ℕ) → slice_get numbers (length numbers - 1) ≡ o → All (λ p. p < number) numbers
    → ends_with numbers number ≡ false
end-of numbers number None is lower = rw is refl
end-of numbers number (Some last) is lower =
    let place = length numbers - 1 in
    let short = slice_get_within numbers place last is in
    let here : get_or numbers place last ≡ last = get_or_from_slice_get numbers place last last is in
    let below : get_or numbers place last < number = lower place last short in
    let other : last ≡ number → ⊥ = λ same. omega (arith, here, below, same) in
    rw is (other-number last number (last == number) refl other)

end-of-push : (numbers : List ℕ) (number : ℕ) → ends_with (numbers ++ number ∷ []) number ≡ true
end-of-push numbers number =
    let whole = numbers ++ number ∷ [] in
    let long : length whole ≡ length numbers + 1 = length_push numbers number in
    let place : length whole - 1 ≡ length numbers = omega (arith, long) in
    let found : slice_get whole (length numbers) ≡ Some number = slice_get-get_or whole (length numbers) number (omega (arith, long))
    ∙ ap (λ (n : ℕ). Some n) (get_or_push numbers number number (length numbers) refl) in
    rw (place, found) (same-number number)

ended-noted : (number : ℕ) (there : Bool) (numbers : List ℕ) → All (λ p. p < number) numbers
    → ended_by (noted number there numbers) number ≡ numbers ++ number ∷ []
ended-noted number true numbers lower = rw (end-of-push numbers number) refl
ended-noted number false numbers lower = rw (end-of numbers number (slice_get numbers (length numbers - 1)) refl lower) refl

-- ---- the lists so far

among-more : (on : List ℕ) (k x q : ℕ) → k < length on → x ≡ get_or on k x → is_among (take (k + 1) on) q ≡ (is_among (take k on) q || (q == x))
among-more on k x q short here =
    let pushed : take (k + 1) on ≡ take k on ++ x ∷ [] = take_more on k x short ∙ ap (λ (y : ℕ). take k on ++ y ∷ []) (sym here) in
    ap (λ (list : List ℕ). is_among list q) pushed ∙ list_any-append (λ n. q == n) (take k on) (x ∷ [])
    ∙ ap (λ (b : Bool). is_among (take k on) q || b) (or-false (q == x))

or-true : (b : Bool) → (b || true) ≡ true
or-true true = refl
or-true false = refl

-- a package is in the lists of the first of those on which it depends
pub record AreNoted (number : ℕ) (on : List ℕ) (old new : List (List ℕ)) : Type 0 where
  pub same_length : length new ≡ length old
  pub each : (q : ℕ) → q < length old → get_or new q [] ≡ noted number (is_among on q) (get_or old q [])

pub noted-none : (number : ℕ) (lists : List (List ℕ)) → AreNoted number [] lists lists
noted-none number lists = record { same_length = refl; each = λ q short. refl }

noted-at : (number : ℕ) (on : List ℕ) (k x : ℕ) (old lists new : List (List ℕ)) → k < length on → x ≡ get_or on k x
    → All (λ list. All (λ p. p < number) list) old → AreNoted number (take k on) old lists → new ≡ set lists x (ended_by (get_or lists x []) number)
    → (q : ℕ) → q < length old → get_or new q [] ≡ noted number (is_among (take (k + 1) on) q) (get_or old q [])
noted-at number on k x old lists new short here lower so_far now q inner = elim (cases_eq q x) [
  | inl same ↦
      let within : x < length old = omega (arith, inner, same) in
      let inside : x < length lists = omega (arith, so_far.same_length) in
      let put : get_or new x [] ≡ ended_by (get_or lists x []) number = ap (λ (l : List (List ℕ)). get_or l x []) now
      ∙ get_or-set_same lists x (ended_by (get_or lists x []) number) [] inside in
      let pushed : get_or new x [] ≡ get_or old x [] ++ number ∷ [] =
      put ∙ ap (λ (l : List ℕ). ended_by l number) (so_far.each x within) ∙ ended-noted number (is_among (take k on) x) (get_or old x []) (lower x [] within) in
      let among : is_among (take (k + 1) on) x ≡ true =
      among-more on k x x short here ∙ ap (λ (b : Bool). is_among (take k on) x || b) (same-number x) ∙ or-true (is_among (take k on) x) in
      let At : ℕ → Type 0 = λ n. get_or new n [] ≡ noted number (is_among (take (k + 1) on) n) (get_or old n []) in
      subst At (sym same) (pushed ∙ ap (λ (b : Bool). noted number b (get_or old x [])) (sym among))
  | inr other ↦
      let kept : get_or new q [] ≡ get_or lists q [] = ap (λ (l : List (List ℕ)). get_or l q []) now
      ∙ get_or-set_other lists x q (ended_by (get_or lists x []) number) [] other in
      let among : is_among (take (k + 1) on) q ≡ is_among (take k on) q =
      among-more on k x q short here ∙ ap (λ (b : Bool). is_among (take k on) q || b) (other-number q x (q == x) refl other)
      ∙ or-false (is_among (take k on) q) in
      kept ∙ so_far.each q inner ∙ ap (λ (b : Bool). noted number b (get_or old q [])) (sym among)
]

pub noted-more : (number : ℕ) (on : List ℕ) (k x : ℕ) (old lists new : List (List ℕ)) → k < length on → x ≡ get_or on k x
    → All (λ list. All (λ p. p < number) list) old → AreNoted number (take k on) old lists → new ≡ set lists x (ended_by (get_or lists x []) number)
    → AreNoted number (take (k + 1) on) old new
noted-more number on k x old lists new short here lower so_far now = record {
  same_length = ap length now ∙ length-set lists x (ended_by (get_or lists x []) number) ∙ so_far.same_length;
  each = noted-at number on k x old lists new short here lower so_far now;
}
