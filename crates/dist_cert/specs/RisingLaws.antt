-- Laws of rising numbers: what is found among them by halving. No public clause cites them; proofs of the crates above
-- do.
use Rattle.std.proofs.Common.{◌≡◌, inl, inr, ℕ, ◌<◌, ◌≤◌, ◌↔◌, Bool, true, false, List, length, get_or, Result, Ok, Err}
use Rattle.std.proofs.Common.{refl, sym, ap, ◌∙◌, arith, nat_cmp}
use Rattle.std.specs.List.{Contains}
use Rattle.std.specs.List.Sorted.{IsBinarySearchResult}
use Rattle.std.specs.Result.{is_ok}
use Rattle.std.specs.Bool.{IsTrue}
use Rattle.std.proofs.lemmas.Bool.{cases_lt, cases_order, true≢false, false≢true}
use Rattle.std.proofs.lemmas.List.{get_or_default}
use Rattle.std.proofs.lemmas.List.Sorted.{searched}
use Rattle.dist_cert.specs.Rising.{AreRising, is_among}
use Rattle.dist_cert.specs.ListLaws.{any-from, from-any}

-- rising numbers do not fall
not-falling : (numbers : List ℕ) → AreRising numbers → (i j : ℕ) → i ≤ j → j < length numbers
    → get_or numbers i 0 ≤ get_or numbers j 0
not-falling numbers rising i j upto within = elim (cases_order i j) [
  | inl same ↦ let e = ap (λ (k : ℕ). get_or numbers k 0) same in omega arith
  | inr (inl less) ↦ let e = rising i j 0 less within in omega arith
  | inr (inr more) ↦ absurd (omega arith)
]

searched-has : (numbers : List ℕ) (number : ℕ) (r : Result ℕ ℕ) → AreRising numbers
    → IsBinarySearchResult (λ y. nat_cmp y number) numbers r → IsTrue (is_ok r) ↔ Contains numbers number
searched-has numbers number (Ok i) rising result =
    let found = searched numbers number (Ok i) result (not-falling numbers rising) in
    ((λ yes. (i, found.0, get_or_default numbers i number 0 found.0 ∙ found.1)), λ there. refl)
searched-has numbers number (Err i) rising result =
    let none = searched numbers number (Err i) result (not-falling numbers rising) in
    ((λ yes. absurd (true≢false (sym yes))), λ there. absurd (never none.1 none.2 there))
  where
    never : ((k : ℕ) → k < i → get_or numbers k 0 < number)
        → ((k : ℕ) → i ≤ k → k < length numbers → number < get_or numbers k 0) → ¬ Contains numbers number
    never below above there =
        let is : get_or numbers there.0 0 ≡ number = get_or_default numbers there.0 0 number there.1 ∙ there.2 in
        elim (cases_lt there.0 i) [
          | inl less ↦ let low = below there.0 less in omega arith
          | inr past ↦ let high = above there.0 past there.1 in omega arith
        ]

same-answer : (b : Bool) (numbers : List ℕ) (number : ℕ) → IsTrue b ↔ Contains numbers number
    → b ≡ is_among numbers number
same-answer true numbers number iff = sym (any-from number numbers (iff.0 refl))
same-answer false numbers number iff = sym (none (is_among numbers number) refl)
  where
    none : (a : Bool) → is_among numbers number ≡ a → a ≡ false
    none false is = refl
    none true is = absurd (false≢true (iff.1 (from-any number numbers is)))

-- the search answers whether the number is there
pub searched-among : (numbers : List ℕ) (number : ℕ) (r : Result ℕ ℕ) → AreRising numbers
    → IsBinarySearchResult (λ y. nat_cmp y number) numbers r → is_ok r ≡ is_among numbers number
searched-among numbers number r rising result =
    same-answer (is_ok r) numbers number (searched-has numbers number r rising result)
