-- Names in order, and the place of one.
use Rattle.std.proofs.Common.{◌≡◌, ◌≢◌, ℕ, ◌+◌, ◌<◌, ◌≤◌, List, [], length, get_or, Some, Less, nat_cmp, subst, arith, inl, inr, slice_get}
use Rattle.std.specs.Cmp.Lexicographic.{slice_cmp}
use Rattle.std.specs.List.Sorted.{IsStrictlySortedBy}
use Rattle.std.proofs.lemmas.Bool.{cases_lt}
use Rattle.std.proofs.lemmas.Cmp.{nat_list_cmp_total, tied_itself}
use Rattle.std.proofs.lemmas.Map.Keys.{Less-from_sorted}
use Rattle.std.proofs.lemmas.Option.{get_or_from_slice_get, slice_get_within}

-- names before one place are less than a name, and those from another place on are not
pub record IsBetween (names : List (List ℕ)) (name : List ℕ) (start end : ℕ) : Type 0 where
  pub below : (k : ℕ) → k < start → slice_cmp nat_cmp (get_or names k []) name ≡ Less
  pub above : (k : ℕ) → end ≤ k → k < length names → slice_cmp nat_cmp (get_or names k []) name ≢ Less

pub between-all : (names : List (List ℕ)) (name : List ℕ) (end : ℕ) → length names ≤ end → IsBetween names name 0 end
between-all names name end past = record { below = λ k less. absurd (omega (arith, less)); above = λ k more short. absurd (omega (arith, past, more, short)) }

less-self : (name : List ℕ) → slice_cmp nat_cmp name name ≢ Less
less-self name less = let same = tied_itself nat_list_cmp_total name in cc

module _ (names : List (List ℕ)) (name : List ℕ) (rising : IsStrictlySortedBy (slice_cmp nat_cmp) names) where
  rises : (i j : ℕ) → i < j → j < length names → slice_cmp nat_cmp (get_or names i []) (get_or names j []) ≡ Less
  rises i j less short = Less-from_sorted (slice_cmp nat_cmp) names i j [] rising less short

  pub between-later : (start middle end : ℕ) → IsBetween names name start end → middle < length names → slice_cmp nat_cmp (get_or names middle []) name ≡ Less
      → IsBetween names name (middle + 1) end
  between-later start middle end between short less = record {
    below = λ k up. elim (cases_lt k middle) [
      | inl early ↦ nat_list_cmp_total.trans (get_or names k []) (get_or names middle []) name (rises k middle early short) less
      | inr past ↦ let same : middle ≡ k = omega (arith, up, past) in subst (λ (i : ℕ). slice_cmp nat_cmp (get_or names i []) name ≡ Less) same less
    ];
    above = between.above;
  }

  pub between-earlier : (start middle end : ℕ) → IsBetween names name start end → middle < length names → slice_cmp nat_cmp (get_or names middle []) name ≢ Less
      → IsBetween names name start middle
  between-earlier start middle end between short not_less = record {
    below = between.below;
    above = λ k from inside. elim (cases_lt middle k) [
      | inl later ↦ λ less. not_less (nat_list_cmp_total.trans (get_or names middle []) (get_or names k []) name (rises middle k later inside) less)
      | inr past ↦ let same : middle ≡ k = omega (arith, from, past) in subst (λ (i : ℕ). slice_cmp nat_cmp (get_or names i []) name ≢ Less) same not_less
    ];
  }

  -- where halving has ended, the name can stand at that place alone
  pub place-is : (start x : ℕ) → IsBetween names name start start → slice_get names x ≡ Some name → x ≡ start
  place-is start x between is =
      let short = slice_get_within names x name is in
      let here : get_or names x [] ≡ name = get_or_from_slice_get names x name [] is in
      elim (cases_lt x start) [
        | inl less ↦ absurd (less-self name (subst (λ (n : List ℕ). slice_cmp nat_cmp n name ≡ Less) here (between.below x less)))
        | inr more ↦ elim (cases_lt start x) [
          | inl later ↦ absurd (between.above start (omega arith) (omega (arith, later, short))
              (subst (λ (n : List ℕ). slice_cmp nat_cmp (get_or names start []) n ≡ Less) here (rises start x later short)))
          | inr also ↦ omega (arith, more, also)
        ]
      ]
