-- Atoms with their places in a list, and which of these are marked. No public clause cites it.
use Rattle.std.specs.Prelude.{◌≡◌, ℕ, ◌<◌, Bool, List, Some, Contains, IsSomeAnd, slice_get}
use Rattle.std.specs.Ordering.{is_eq, is_ge, is_le}
use Rattle.std.specs.declared.cmp.Ordering.{Ordering}
use Rattle.dist_relation.specs.declared.atom.Atom.{Atom}
use Rattle.dist_relation.specs.declared.atom.Op.{Op}
use Rattle.dist_relation.specs.declared.atom.Op.TheVariants.{Lt, Le, Eq, Ge, Gt}
use Rattle.dist_asked.specs.AskedPlaces.{IsPlaceAsked}
use Rattle.dist_asked.specs.Within.{IsWithin}

-- by an operator, what meets a version meets another one that the first stands so to
abbrev pub carries_over : Op → Ordering → Bool
carries_over Lt order = is_le order
carries_over Le order = is_le order
carries_over Eq order = is_eq order
carries_over Ge order = is_ge order
carries_over Gt order = is_ge order

pub record PlacedAtom : Type 0 where
  pub atom : Atom
  pub place : ℕ

-- exactly the atoms of a list
pub record AreAllOf (atoms : List Atom) (placed : List PlacedAtom) : Type 0 where
  pub sound : (p : PlacedAtom) → Contains placed p → slice_get atoms p.place ≡ Some p.atom
  pub whole : (place : ℕ) (atom : Atom) → slice_get atoms place ≡ Some atom
      → Contains placed (record { atom = atom; place = place })

-- their places are below a number
abbrev pub ArePlacedBelow : List PlacedAtom → ℕ → Type 0
ArePlacedBelow placed count = (p : PlacedAtom) → Contains placed p → p.place < count

-- the one that stands somewhere among them is marked
abbrev pub IsMarkedAt : List PlacedAtom → List Bool → ℕ → Type 0
IsMarkedAt placed marks k = IsSomeAnd (slice_get placed k) (λ p. IsPlaceAsked marks p.place)

-- the one that stands somewhere is at least as wide as another one
abbrev pub IsWiderAt : List PlacedAtom → (wider k : ℕ) → Type 0
IsWiderAt placed wider k = IsSomeAnd (slice_get placed k) (λ p. IsSomeAnd (slice_get placed wider)
    (λ q. IsWithin p.atom q.atom))

-- one that is marked is at least as wide as an atom
pub record HasMarked (placed : List PlacedAtom) (marks : List Bool) (atom : Atom) : Type 0 where
  pub wider : PlacedAtom
  pub there : Contains placed wider
  pub marked : IsPlaceAsked marks wider.place
  pub within : IsWithin atom wider.atom

-- for each there is such a one
abbrev pub AreMarked : List PlacedAtom → List Bool → Type 0
AreMarked placed marks = (p : PlacedAtom) → Contains placed p → HasMarked placed marks p.atom
