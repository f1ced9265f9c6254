-- Claims that leave something undecided.
use Rattle.std.proofs.Common.{◌≡◌, ◌<◌, ◌≤◌, ◌||◌, ◌∙◌, ap, ℕ, zero, suc, ◌+◌, Bool, true, false, List, [], ◌∷◌, length, take, get_or, Some, slice_get, refl}
use Rattle.std.proofs.Common.{arith}
use Rattle.std.specs.List.{list_any}
use Rattle.std.proofs.lemmas.List.Folds.{list_any_at, list_any_more}
use Rattle.dist_cert.specs.declared.records.Claim.{Claim}
use Rattle.dist_report.specs.Marks.{has_mark}

at : (made : List Claim) (place : ℕ) (claim : Claim) → slice_get made place ≡ Some claim → (place < length made) × (get_or made place claim ≡ claim)
at [] place claim is = cc
at (c ∷ made) zero claim is = (omega arith, cc)
at (c ∷ made) (suc place) claim is = let rest = at made place claim is in (omega (arith, rest.0), rest.1)

pub marked : (made : List Claim) (place : ℕ) (claim : Claim) → slice_get made place ≡ Some claim → has_mark claim ≡ true → true ≡ list_any has_mark made
marked made place claim is mark =
    let here = at made place claim is in
    let some : list_any has_mark made ≡ true = list_any_at has_mark made place claim here.0 (ap has_mark here.1 ∙ mark) in
    rw some refl

pub none_more : (made : List Claim) (place : ℕ) (claim : Claim) → slice_get made place ≡ Some claim → has_mark claim ≡ false
    → list_any has_mark (take place made) ≡ false
    → list_any has_mark (take (place + 1) made) ≡ false
none_more made place claim is mark before =
    let here = at made place claim is in
    let last : has_mark (get_or made place claim) ≡ false = ap has_mark here.1 ∙ mark in
    list_any_more has_mark made place claim here.0 ∙ rw (before, last) refl

either : (a b : Bool) → (a || b) ≡ false → (a ≡ false) × (b ≡ false)
either true b e = cc
either false b e = (refl, e)

none_all : (xs : List Claim) (n : ℕ) → list_any has_mark (take n xs) ≡ false → length xs ≤ n → list_any has_mark xs ≡ false
none_all [] n h le = refl
none_all (x ∷ xs) zero h le = absurd (omega arith)
none_all (x ∷ xs) (suc n) h le =
    let parts = either (has_mark x) (list_any has_mark (take n xs)) h in
    rw (parts.0, none_all xs n parts.1 (omega arith)) refl

pub unmarked : (made : List Claim) (place : ℕ) → list_any has_mark (take place made) ≡ false → length made ≤ place → false ≡ list_any has_mark made
unmarked made place before end = rw (none_all made place before end) refl
