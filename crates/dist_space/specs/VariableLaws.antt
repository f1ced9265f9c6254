-- Laws of the variables of a space: each meaning of the space has a place, its value is found there, and one variable
-- has one meaning. No public clause cites them; proofs do, those of the crates above too.
use Rattle.std.proofs.Common.{◌≡◌, ℕ, zero, suc, ◌+◌, ◌-◌, ◌<◌, ◌≤◌, Bool, false, cond, List, [], ◌∷◌, Some, Ordering}
use Rattle.std.proofs.Common.{Less, nat_cmp, length, get_or, map, refl, sym, ap, subst, ◌∙◌, arith, slice_get}
use Rattle.std.specs.Prelude.{AllPairs, count_by}
use Rattle.std.specs.Cmp.Lexicographic.{slice_cmp}
use Rattle.std.specs.Option.{option_map}
use Rattle.std.specs.Ordering.{is_lt, ordering_reverse}
use Rattle.std.proofs.lemmas.Cmp.{nat_list_cmp_total, tied_itself}
use Rattle.std.proofs.lemmas.List.Sums.{sum_by-cons}
use Rattle.std.proofs.lemmas.Option.{get_or_from_slice_get, same_Some, slice_get-map, slice_get_within}
use Rattle.dist_base.specs.ListLaws.{place-of}
use Rattle.dist_clause.specs.Formula.{value_of}
use Rattle.dist_space.specs.Space.{IsMeaning, IsSpace, SpaceView, StandsBefore, key_of, variable_of}
use Rattle.dist_space.specs.declared.meaning.Meaning.{Meaning}

-- ---- how many stand before a key

abbrev cmp : List ℕ → List ℕ → Ordering
cmp a b = slice_cmp nat_cmp a b

abbrev counted : Bool → ℕ
counted b = cond b 1 0

module _ {X : Type 0} (key : X → List ℕ) where
  abbrev IsLess : X → X → Type 0
  IsLess a b = cmp (key a) (key b) ≡ Less

  abbrev stands_before : X → X → Bool
  stands_before m a = is_lt (cmp (key a) (key m))

  pairs-tail : (x : X) (xs : List X) → AllPairs IsLess (x ∷ xs) → AllPairs IsLess xs
  pairs-tail x xs pairs i j d less short = pairs (suc i) (suc j) d (omega (arith, less)) (omega (arith, short))

  not-before : (a m : X) → IsLess m a → stands_before m a ≡ false
  not-before a m less = ap is_lt (nat_list_cmp_total.antisymm (key a) (key m) ∙ ap ordering_reverse less)

  pub not-itself : (m : X) → stands_before m m ≡ false
  not-itself m = ap is_lt (tied_itself nat_list_cmp_total (key m))

  count-none : (xs : List X) (m : X) → ((k : ℕ) (d : X) → k < length xs → IsLess m (get_or xs k d))
      → count_by (stands_before m) xs ≡ 0
  count-none [] m above = refl
  count-none (x ∷ xs) m above =
      let first = not-before x m (above 0 x (omega arith)) in
      let rest = count-none xs m (λ k d short. above (suc k) d (omega (arith, short))) in
      let one : counted (stands_before m x) ≡ 0 = ap counted first in
      let e : count_by (stands_before m) (x ∷ xs) ≡ counted (stands_before m x) + count_by (stands_before m) xs =
      sum_by-cons (λ a. counted (stands_before m a)) x xs in
      omega (arith, e, one, rest)

  pub count-before : (xs : List X) (m : X) (i : ℕ) → AllPairs IsLess xs → slice_get xs i ≡ Some m
      → count_by (stands_before m) xs ≡ i
  count-before [] m i pairs is = cc
  count-before (x ∷ xs) m zero pairs is =
      let same : x ≡ m = cc in
      let one : counted (stands_before m x) ≡ 0 =
      ap counted (subst (λ (y : X). stands_before m y ≡ false) (sym same) (not-itself m)) in
      let rest = count-none xs m (λ k d short. subst (λ (y : X). IsLess y (get_or xs k d)) same
      (pairs 0 (suc k) d (omega arith) (omega (arith, short)))) in
      let e : count_by (stands_before m) (x ∷ xs) ≡ counted (stands_before m x) + count_by (stands_before m) xs =
      sum_by-cons (λ a. counted (stands_before m a)) x xs in
      omega (arith, e, one, rest)
  count-before (x ∷ xs) m (suc i) pairs is =
      let less : IsLess x m = subst (λ (y : X). IsLess x y) (get_or_from_slice_get xs i m x is)
      (pairs 0 (suc i) x (omega arith) (let inside = slice_get_within xs i m is in omega arith)) in
      let one : counted (stands_before m x) ≡ 1 = ap (λ (o : Ordering). counted (is_lt o)) less in
      let rest = count-before xs m i (pairs-tail x xs pairs) is in
      let e : count_by (stands_before m) (x ∷ xs) ≡ counted (stands_before m x) + count_by (stands_before m) xs =
      sum_by-cons (λ a. counted (stands_before m a)) x xs in
      omega (arith, e, one, rest)

-- the meaning of a place has the variable one above it
pub variable-at : (s : SpaceView) (m : Meaning) (i : ℕ) → AllPairs (StandsBefore s) s.meanings
    → slice_get s.meanings i ≡ Some m → variable_of s m ≡ i + 1
variable-at s m i rising is = ap (λ (n : ℕ). n + 1) (count-before (key_of s) s.meanings m i rising is)

pub value-at : (s : SpaceView) (f : Meaning → Bool) (m : Meaning) → IsSpace s → IsMeaning s m
    → value_of (map f s.meanings) (variable_of s m) ≡ f m
value-at s f m space is_meaning =
    let at = place-of s.meanings m ((space.meanings.exact m).1 (is_meaning, tt)) in
    let variable : variable_of s m ≡ at.place + 1 = variable-at s m at.place space.meanings.rising at.is in
    let place : variable_of s m - 1 ≡ at.place = omega (arith, variable) in
    ap (λ (k : ℕ). get_or (map f s.meanings) k false) place
    ∙ get_or_from_slice_get (map f s.meanings) at.place (f m) false
    (slice_get-map f s.meanings at.place ∙ ap (option_map f) at.is)

-- ---- places

-- the place of a meaning
pub place-at : (s : SpaceView) (m : Meaning) → IsSpace s → IsMeaning s m
    → slice_get s.meanings (variable_of s m - 1) ≡ Some m
place-at s m space is =
    let at = place-of s.meanings m ((space.meanings.exact m).1 (is, tt)) in
    let variable = variable-at s m at.place space.meanings.rising at.is in
    let place : at.place ≡ variable_of s m - 1 = omega (arith, variable) in
    ap (λ (k : ℕ). slice_get s.meanings k) (sym place) ∙ at.is

pub variable-range : (s : SpaceView) (m : Meaning) → IsSpace s → IsMeaning s m → (1 ≤ variable_of s m)
    × (variable_of s m ≤ length s.meanings)
variable-range s m space is =
    let at = place-of s.meanings m ((space.meanings.exact m).1 (is, tt)) in
    let variable = variable-at s m at.place space.meanings.rising at.is in
    let inside = slice_get_within s.meanings at.place m at.is in
    (omega (arith, variable), omega (arith, variable, inside))

-- one variable has one meaning
pub one-meaning : (s : SpaceView) (m n : Meaning) → IsSpace s → IsMeaning s m → IsMeaning s n
    → variable_of s m ≡ variable_of s n → m ≡ n
one-meaning s m n space is_m is_n same =
    let first = place-at s m space is_m in
    let second : slice_get s.meanings (variable_of s m - 1) ≡ Some n = ap (λ (k : ℕ). slice_get s.meanings (k - 1)) same
    ∙ place-at s n space is_n in
    same_Some m n (sym first ∙ second)

-- the meaning at a place
pub variable-back : (s : SpaceView) (m : Meaning) (variable : ℕ) → IsSpace s → 1 ≤ variable
    → slice_get s.meanings (variable - 1) ≡ Some m → variable_of s m ≡ variable
variable-back s m variable space from is = let at = variable-at s m (variable - 1) space.meanings.rising is in
    omega (arith, at, from)
