-- The variables of meanings: each meaning of the space has a place, and its value is found there.
use Rattle.std.proofs.Common.{◌≡◌, ℕ, Bool, true, false, List, Some, Ordering, Less, Equal, Greater, nat_cmp, get_or, refl, sym, ap, subst, ◌∙◌, inl, inr}
use Rattle.std.proofs.Common.{arith, slice_get}
use Rattle.std.specs.Prelude.{AllPairs, Contains}
use Rattle.std.specs.Cmp.Lexicographic.{slice_cmp}
use Rattle.std.specs.Ordering.{is_lt}
use Rattle.std.specs.List.Sorted.{IsPartitionPoint, IsPartitionedBy}
use Rattle.std.proofs.lemmas.Bool.{cases_lt, false≢true}
use Rattle.std.proofs.lemmas.Cmp.{nat_list_cmp_total}
use Rattle.std.proofs.lemmas.Option.{get_or_from_slice_get, slice_get_within}
use Rattle.dist_base.specs.ListLaws.{place-of}
use Rattle.dist_space.specs.Space.{SpaceView, StandsBefore, key_of}
use Rattle.dist_space.specs.declared.meaning.Meaning.{Meaning}
use Rattle.dist_space.specs.VariableLaws.{not-itself}

-- ---- where a meaning is found by halving

abbrev pub before_it : SpaceView → Meaning → Meaning → Bool
before_it s m a = is_lt (slice_cmp nat_cmp (key_of s a) (key_of s m))

pub less-is : (o : Ordering) → is_lt o ≡ true → o ≡ Less
less-is Less is = refl
less-is Equal is = cc
less-is Greater is = cc

pub meanings-parted : (s : SpaceView) (m : Meaning) (ms : List Meaning) → AllPairs (StandsBefore s) ms → IsPartitionedBy (before_it s m) ms
meanings-parted s m ms rising i j d less short holds = elim (cases_lt i j) [
  | inl below ↦
      let first = rising i j d below short in
      let second = less-is (slice_cmp nat_cmp (key_of s (get_or ms j d)) (key_of s m)) holds in
      ap is_lt (nat_list_cmp_total.trans (key_of s (get_or ms i d)) (key_of s (get_or ms j d)) (key_of s m) first second)
  | inr same ↦ let is : j ≡ i = omega (arith, less, same) in subst (λ (k : ℕ). before_it s m (get_or ms k d) ≡ true) is holds
]

pub point-is : (s : SpaceView) (m : Meaning) (ms : List Meaning) (i : ℕ) → AllPairs (StandsBefore s) ms → Contains ms m
    → IsPartitionPoint (λ y. before_it s m y ≡ true) (λ y. before_it s m y ≡ false) ms i → slice_get ms i ≡ Some m
point-is s m ms i rising there point =
    let at = place-of ms m there in
    let inside = slice_get_within ms at.place m at.is in
    let here : get_or ms at.place m ≡ m = get_or_from_slice_get ms at.place m m at.is in
    let same : i ≡ at.place = elim (cases_lt at.place i) [
      | inl less ↦
          let holds = subst (λ (y : Meaning). before_it s m y ≡ true) here (point.0 at.place m (omega arith) less) in
          absurd (false≢true (sym (not-itself (key_of s) m) ∙ holds))
      | inr more ↦ elim (cases_lt i at.place) [
        | inl less ↦
            let fails = point.1 i m (omega arith) (omega (arith, less, inside)) in
            let before = subst (λ (y : Meaning). StandsBefore s (get_or ms i m) y) here (rising i at.place m less inside) in
            absurd (false≢true (sym fails ∙ ap is_lt before))
        | inr also ↦ omega (arith, more, also)
      ]
    ] in
    ap (λ (k : ℕ). slice_get ms k) same ∙ at.is
