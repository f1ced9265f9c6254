-- When an atom allows no more than another one (Debian Policy 7.1).
use Rattle.std.specs.Prelude.{◌≡◌, ℕ, List, Option, None, Some}
use Rattle.dist_relation.specs.Satisfies.{Satisfies}
use Rattle.dist_relation.specs.declared.atom.Atom.{Atom}
use Rattle.dist_relation.specs.declared.atom.Bound.{Bound}

-- each version that meets the first bound meets the second
abbrev pub MeetsToo : Bound → Bound → Type 0
MeetsToo bound other = (version : List ℕ) → Satisfies version bound → Satisfies version other

-- the same of bounds that may be missing: what meets none may have no version
abbrev pub IsBoundWithin : Option Bound → Option Bound → Type 0
IsBoundWithin None None = Unit {0}
IsBoundWithin None (Some other) = ⊥
IsBoundWithin (Some bound) None = Unit {0}
IsBoundWithin (Some bound) (Some other) = MeetsToo bound other

-- The atoms have one name and one qualifier, and what meets the first one's bound meets the second one's.
pub record IsWithin (atom other : Atom) : Type 0 where
  pub name : atom.name ≡ other.name
  pub qualifier : atom.qualifier ≡ other.qualifier
  pub bound : IsBoundWithin atom.bound other.bound
