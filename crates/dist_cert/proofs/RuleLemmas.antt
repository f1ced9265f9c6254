-- Numbers that rise, and variables that stand once.
use Rattle.std.proofs.Common.{◌≡◌, ◌≢◌, ℕ, suc, ◌<◌, ◌≤◌, Bool, true, nat_eq, List, All, AllPairs, IsTrue, length, get_or, map, ap, sym, subst, ◌∙◌, arith}
use Rattle.std.proofs.Common.{add-one, ⊎_elim}
use Rattle.std.specs.Prelude.{◌↔◌}
use Rattle.std.specs.List.Sorted.{IsPermutation, IsSorted}
use Rattle.std.specs.Ordering.{nat_cmp}
use Rattle.std.proofs.Math.ListN.{get_or-map}
use Rattle.std.proofs.lemmas.List.{length-map}
use Rattle.std.proofs.lemmas.Bool.{ne_eqb}
use Rattle.std.proofs.lemmas.Bool.Decides.{Decides-eqb, eqb_tells}
use Rattle.std.proofs.lemmas.List.Kept.{AllPairs-from_increasing}
use Rattle.std.proofs.lemmas.List.Sorted.{IsNonDecreasingBy-from_sort, IsPermutation-sym}
use Rattle.std.proofs.lemmas.Map.Keys.{IsDistinct-IsPermutation, IsStrictlyIncreasing-from_distinct}
use Rattle.std.proofs.lemmas.Map.Made.{AllPairs-from_IsDistinct, IsDistinct-from_AllPairs}
use Rattle.dist_cert.specs.Form.{Word, AreFromOne, AreLiterals}

abbrev pub Rise : List ℕ → Type 0
Rise numbers = AllPairs (λ v w. v < w) numbers

pub rises : (numbers : List ℕ) (i : ℕ) → length numbers ≤ i → ((k : ℕ) → suc k < i → get_or numbers k 0 < get_or numbers (suc k) 0) → Rise numbers
rises numbers i done below = AllPairs-from_increasing numbers (λ k within.
    subst (λ j. get_or numbers k 0 < get_or numbers j 0) (sym (add-one k)) (below k (omega arith)))

-- ---- variables

abbrev pub variable : Word → ℕ
variable word = word.0

abbrev pub OnceEach : List Word → Type 0
OnceEach literals = AllPairs (λ l m. l.0 ≢ m.0) literals

from_variables : (literals : List Word) → AllPairs (λ v w. v ≢ w) (map variable literals) → OnceEach literals
from_variables literals once i j d low high same = once i j d.0 low (omega (arith, high, length-map literals variable))
    (get_or-map variable literals i d ∙ same ∙ sym (get_or-map variable literals j d))

to_variables : (literals : List Word) → OnceEach literals → AllPairs (λ v w. v ≢ w) (map variable literals)
to_variables literals once i j d low high same = once i j (d, true) low (omega (arith, high, length-map literals variable))
    (sym (get_or-map variable literals i (d, true)) ∙ same ∙ get_or-map variable literals j (d, true))

flips : (x y : ℕ) → nat_eq x y ≡ nat_eq y x
flips x y = ⊎_elim
    (λ h. ap (λ z. nat_eq x z) (sym h.1) ∙ ap (λ z. nat_eq z x) h.1)
    (λ h. h.0 ∙ sym (ne_eqb y x (λ e. h.1 (sym e))))
    (eqb_tells x y)

to_sorted : (xs sorted : List ℕ) → IsPermutation xs sorted → AllPairs (λ v w. v ≢ w) xs → AllPairs (λ v w. v ≢ w) sorted
to_sorted xs sorted same once = AllPairs-from_IsDistinct Decides-eqb sorted
    (IsDistinct-IsPermutation nat_eq flips xs sorted same (IsDistinct-from_AllPairs Decides-eqb xs once))

-- variables that rise once they are sorted stand once each
pub once_from_rise : (literals : List Word) (sorted : List ℕ) → IsPermutation (map variable literals) sorted → Rise sorted → OnceEach literals
once_from_rise literals sorted same rise = from_variables literals
    (to_sorted sorted (map variable literals) (IsPermutation-sym (map variable literals) sorted same)
    (λ i j d low high e. omega (arith, rise i j d low high, e)))

pub rise_from_once : (literals : List Word) (sorted : List ℕ) → IsPermutation (map variable literals) sorted → IsSorted nat_cmp sorted → OnceEach literals
    → Rise sorted
rise_from_once literals sorted same order once = AllPairs-from_increasing sorted
    (IsStrictlyIncreasing-from_distinct sorted (IsNonDecreasingBy-from_sort (λ x. x) sorted order)
    (IsDistinct-from_AllPairs Decides-eqb sorted (to_sorted (map variable literals) sorted same (to_variables literals once))))

-- ---- numbers from 1

from_one_of : (literals : List Word) → All (λ n. 1 ≤ n) (map variable literals) → All (λ l. 1 ≤ l.0) literals
from_one_of literals all k d within = subst (λ n. 1 ≤ n) (get_or-map variable literals k d) (all k d.0 (omega (arith, within, length-map literals variable)))

to_one_of : (literals : List Word) → All (λ l. 1 ≤ l.0) literals → All (λ n. 1 ≤ n) (map variable literals)
to_one_of literals all k d within = subst (λ n. 1 ≤ n) (sym (get_or-map variable literals k (d, true)))
    (all k (d, true) (omega (arith, within, length-map literals variable)))

pub literals_from : (literals : List Word) (sorted : List ℕ) → IsPermutation (map variable literals) sorted
    → All (λ n. 1 ≤ n) (map variable literals) → Rise sorted → AreLiterals literals
literals_from literals sorted same all rise = (from_one_of literals all, once_from_rise literals sorted same rise)

pub literals_to : (literals : List Word) (sorted : List ℕ) → IsPermutation (map variable literals) sorted → IsSorted nat_cmp sorted
    → AreLiterals literals → All (λ n. 1 ≤ n) (map variable literals) × Rise sorted
literals_to literals sorted same order are = (to_one_of literals are.0, rise_from_once literals sorted same order are.1)

-- what the two tests tell of literals
pub tells : (literals : List Word) (variables before sorted after : List ℕ) (low up : Bool) → variables ≡ map variable literals → before ≡ variables
    → IsPermutation variables sorted → after ≡ sorted → IsSorted nat_cmp sorted → (IsTrue low ↔ AreFromOne before) → (IsTrue up ↔ Rise after)
    → ((IsTrue low × IsTrue up) ↔ AreLiterals literals)
tells literals variables before sorted after low up is same permuted also order lows ups =
    let moved : IsPermutation (map variable literals) sorted = subst (λ vs. IsPermutation vs sorted) is permuted in (
      λ both. literals_from literals sorted moved (subst AreFromOne (same ∙ is) (lows.0 both.0)) (subst Rise also (ups.0 both.1)),
      λ are. let parts = literals_to literals sorted moved order are in
          (lows.1 (subst AreFromOne (sym (same ∙ is)) parts.0), ups.1 (subst Rise (sym also) parts.1)),
    )
