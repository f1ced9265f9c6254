-- What no atom has at a place that is asked, no atom of the list has. No public clause cites these laws; proofs do,
-- here and above.
use Rattle.std.proofs.Common.{◌≡◌, ℕ, ◌+◌, ◌<◌, ◌≤◌, Bool, List, length, slice_get, arith, inl, inr, subst}
use Rattle.std.specs.Prelude.{Any, IsSomeAnd}
use Rattle.std.proofs.lemmas.Bool.{cases_lt}
use Rattle.std.proofs.lemmas.Option.{slice_get_within}
use Rattle.dist_base.specs.ListLaws.{at-has, contains-at, found-at}
use Rattle.dist_asked.specs.AskedPlaces.{AreEnough, IsPlaceAsked}
use Rattle.dist_asked.specs.Within.{IsWithin}
use Rattle.dist_relation.specs.declared.atom.Atom.{Atom}

-- none of the first places is asked and has the property
abbrev pub IsNoneAsked : (Atom → Type 0) → List Atom → List Bool → ℕ → Type 0
IsNoneAsked P atoms marks count = (i : ℕ) → i < count → IsPlaceAsked marks i → ¬ IsSomeAnd (slice_get atoms i) P

pub none-asked-more : (P : Atom → Type 0) (atoms : List Atom) (marks : List Bool) (count : ℕ)
    → (IsPlaceAsked marks count → ¬ IsSomeAnd (slice_get atoms count) P) → IsNoneAsked P atoms marks count
    → IsNoneAsked P atoms marks (count + 1)
none-asked-more P atoms marks count here none i short asked has = elim (cases_lt i count) [
  | inl less ↦ none i less asked has
  | inr past ↦
      let same : i ≡ count = omega arith in
      here (subst (IsPlaceAsked marks) same asked) (subst (λ (k : ℕ). IsSomeAnd (slice_get atoms k) P) same has)
]

pub none-asked-any : (P : Atom → Type 0) (atoms : List Atom) (marks : List Bool) (count : ℕ)
    → ((atom other : Atom) → IsWithin atom other → P atom → P other) → length atoms ≤ count → AreEnough atoms marks
    → IsNoneAsked P atoms marks count → ¬ Any P atoms
none-asked-any P atoms marks count wider past enough none any =
    let at = found-at P atoms any in
    let wide = enough at.element (contains-at atoms at.place at.element at.is) in
    none wide.place (omega (arith, past, slice_get_within atoms wide.place wide.wider wide.is_wider)) wide.is_asked
    (at-has P atoms wide.place wide.wider wide.is_wider (wider at.element wide.wider wide.within at.holds))
