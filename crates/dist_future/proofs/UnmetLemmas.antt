-- Which items of packages nothing meets.
use Rattle.std.proofs.Common.{◌≡◌, ℕ, ◌+◌, ◌<◌, ◌≤◌, ◌^◌, Bool, false, List, Option, None, Some, length, sum_by, take, refl, sym, ap, subst, ◌∙◌, inl, inr}
use Rattle.std.proofs.Common.{arith, slice_get}
use Rattle.std.specs.Prelude.{IsSomeAnd}
use Rattle.std.proofs.lemmas.Bool.{cases_lt}
use Rattle.std.proofs.lemmas.List.Sums.{sum_by_more, sum_by-take-le, get_or-le-sum_by}
use Rattle.std.proofs.lemmas.Option.{get_or_from_slice_get, same_Some, slice_get_within}
use Rattle.dist_base.specs.Least.{IsLeastIfAny}
use Rattle.dist_asked.specs.AskedPlaces.{AreEnough, IsPlaceAsked}
use Rattle.dist_base.specs.ListLaws.{any-at, at-has, contains-at, found-at, has-at, here-at}
use Rattle.dist_clause.specs.Formula.{value_of}
use Rattle.dist_relation.specs.declared.atom.Atom.{Atom}
use Rattle.dist_repo.specs.PackageList.{PackageList}
use Rattle.dist_repo.specs.Size.{IsWithinSize, relations_of}
use Rattle.dist_repo.specs.declared.package.Package.{Package}
use Rattle.dist_future.specs.FutureHealth.{Holds, IsUnmetAt, SomeHolds}
use Rattle.dist_space.specs.Space.{IsMeaningOf, IsMatched, IsMetBy, IsSpace, SpaceView, variable_of}
use Rattle.dist_future.specs.MatchingPrivate.{IsOther, IsUnmetItem}
use Rattle.dist_space_clauses.specs.SpaceClauses.{IsItemAnd}
use Rattle.dist_space_clauses.specs.WithinLaws.{matched-wider}
use Rattle.dist_space.specs.declared.meaning.Meaning.{Meaning}
use Rattle.dist_space.specs.declared.meaning.Meaning.TheVariants.{Now, Present, At, New, Kept, Fresh}
use Rattle.dist_space.specs.VariableLaws.{variable-range}
use Rattle.dist_future.proofs.FoundLemmas.{IsAny}
use Rattle.dist_future.proofs.Leasts.{IsNoneBelow, least-shift}
use Rattle.dist_future.proofs.NoFutureLemmas.{meaning-holds, never-holds}

number-of : (a b : ℕ) → Present a ≡ Present b → a ≡ b
number-of a b same = cc

-- ---- one item

other-none : (m : Meaning) → IsOther None m
other-none Now = tt
other-none (Present q) = λ is. let no : None ≡ Some q = is in cc
other-none (At c k) = tt
other-none (New q k) = λ is. let no : None ≡ Some q = is in cc
other-none (Kept q k j) = λ is. let no : None ≡ Some q = is in cc
other-none (Fresh x k) = tt

module _ (s : SpaceView) (values : List Bool) where
  -- nothing that holds is matched by the alternatives so far, of those that are asked
  abbrev pub IsNoneMet : List Atom → List Bool → ℕ → Type 0
  IsNoneMet item marks count = (k : ℕ) (atom : Atom) → k < count → IsPlaceAsked marks k → slice_get item k ≡ Some atom → (m : Meaning) → Holds s values m
      → ¬ IsMatched s atom m

  pub any-met : (item : List Atom) (place v : ℕ) (atom : Atom) → slice_get item place ≡ Some atom → IsAny s values atom None v
      → SomeHolds s values (IsMetBy s item)
  any-met item place v atom is found = record {
    meaning = found.1.meaning;
    holds = found.1.holds;
    has = any-at (λ a. IsMatched s a found.1.meaning) item place atom is (found.0, found.1.matched);
  }

  pub none-more : (item : List Atom) (marks : List Bool) (place : ℕ) (atom : Atom) → slice_get item place ≡ Some atom
      → (IsPlaceAsked marks place → (v : ℕ) → ¬ IsAny s values atom None v) → IsNoneMet item marks place → IsNoneMet item marks (place + 1)
  none-more item marks place atom is none before k other short asked at m holds matched = elim (cases_lt k place) [
    | inl less ↦ before k other less asked at m holds matched
    | inr past ↦
        let same : k ≡ place = omega (arith, short, past) in
        let one : other ≡ atom = same_Some other atom (sym at ∙ ap (λ (i : ℕ). slice_get item i) same ∙ is) in
        let own : IsMatched s atom m = subst (λ (a : Atom). IsMatched s a m) one matched in
        none (subst (IsPlaceAsked marks) same asked) (variable_of s m)
        (own.0, record { meaning = m; variable_is = refl; holds = holds; matched = own.1; kind = other-none m })
  ]

  pub none-met : (item : List Atom) (marks : List Bool) (count : ℕ) → length item ≤ count → AreEnough item marks → IsNoneMet item marks count
      → ¬ SomeHolds s values (IsMetBy s item)
  none-met item marks count past enough none some =
      let at = found-at (λ a. IsMatched s a some.meaning) item some.has in
      let wide = enough at.element (contains-at item at.place at.element at.is) in
      let inside = slice_get_within item wide.place wide.wider wide.is_wider in
      none wide.place wide.wider (omega (arith, past, inside)) wide.is_asked wide.is_wider some.meaning some.holds
      (matched-wider s at.element wide.wider some.meaning wide.within at.holds)

  -- ---- the items of a package

  pub unmet-none : (items : List (List Atom)) (place : ℕ) (item : List Atom) → slice_get items place ≡ Some item → SomeHolds s values (IsMetBy s item)
      → ¬ IsUnmetItem s values items place
  unmet-none items place item is met unmet = has-at (λ i. ¬ SomeHolds s values (IsMetBy s i)) items place item is unmet met

  pub unmet-past : (items : List (List Atom)) (count : ℕ) → length items ≤ count → ((n : ℕ) → n < count → ¬ IsUnmetItem s values items n) → (n : ℕ)
      → ¬ IsUnmetItem s values items n
  unmet-past items count past none n unmet =
      let at = here-at (λ i. ¬ SomeHolds s values (IsMetBy s i)) items n unmet in
      let inside = slice_get_within items n at.element at.is in
      none n (omega (arith, past, inside)) unmet

  -- ---- rows

  pub no-unmet : (v : ℕ) (b : Bool) → b ≡ value_of values v → b ≡ false → (k : ℕ) → ¬ IsUnmetAt s values v k
  no-unmet v b told fails k f = never-holds s values (Present f.number) v b told fails f.installed f.variable_is

  pub other-unmet : (v : ℕ) (m : Meaning) → IsMeaningOf s v m → ((n : ℕ) → ¬ (m ≡ Present n)) → (k : ℕ) → ¬ IsUnmetAt s values v k
  other-unmet v m of not k f = not f.number (sym (meaning-holds s values m (Present f.number) v of f.installed f.variable_is))

  pub unmet-row : (v n : ℕ) (p : Package) (o : Option ℕ) → IsMeaningOf s v (Present n) → Holds s values (Present n) → slice_get s.repository.packages n ≡ Some p
      → IsLeastIfAny (IsUnmetItem s values p.depends) o
      → IsLeastIfAny (IsUnmetAt s values v) o
  unmet-row v n p o of holds is least =
      let Unmet : Package → List Atom → Type 0 = λ q item. ¬ SomeHolds s values (IsMetBy s item) in
      least-shift (IsUnmetItem s values p.depends) (IsUnmetAt s values v) o
      (λ k unmet. record {
        number = n;
        variable_is = of.variable_is;
        installed = holds;
        unmet = at-has (λ q. IsSomeAnd (slice_get q.depends k) (Unmet q)) s.repository.packages n p is unmet;
      })
      (λ k f.
      let same : f.number ≡ n = number-of f.number n (meaning-holds s values (Present n) (Present f.number) v of f.installed f.variable_is) in
      has-at (λ q. IsSomeAnd (slice_get q.depends k) (Unmet q)) s.repository.packages n p is (subst (λ (i : ℕ). IsItemAnd s i k Unmet) same f.unmet))
      least

  pub all-unmet : (count : ℕ) → IsSpace s → length s.meanings < count → IsNoneBelow (IsUnmetAt s values) count → (n k : ℕ) → ¬ IsUnmetAt s values n k
  all-unmet count space past none n k f =
      let range = variable-range s (Present f.number) space f.installed.is_meaning in
      let is = f.variable_is in
      none n k (omega (arith, past, range.1, is)) f

-- ---- the place of an item fits in 32 bits, since each item has an atom

abbrev pub atom_count : List (List Atom) → ℕ
atom_count items = sum_by (λ item. length item) items

pub count-more : (items : List (List Atom)) (place : ℕ) (item : List Atom) → slice_get items place ≡ Some item → 0 < length item
    → place ≤ atom_count (take place items) → place + 1 ≤ atom_count (take (place + 1) items)
count-more items place item is some few =
    let size : List Atom → ℕ = λ item. length item in
    omega (arith, few, some, sum_by_more size items place item (slice_get_within items place item is), ap size (get_or_from_slice_get items place item item is))

pub place-fits : (r : PackageList) (number : ℕ) (p : Package) (place : ℕ) → IsWithinSize r → slice_get r.packages number ≡ Some p
    → place ≤ atom_count (take place p.depends) → place < 2 ^ 32
place-fits r number p place size is few =
    let within = slice_get_within r.packages number p is in
    omega (
      arith,
      few,
      size.relations,
      sum_by-take-le (λ (item : List Atom). length item) p.depends place,
      get_or-le-sum_by relations_of r.packages number p within,
      ap relations_of (get_or_from_slice_get r.packages number p p is),
    )
