-- Which entries can be carried: some of the old ones, in their order. No public clause cites it.
use Rattle.std.specs.Prelude.{◌≡◌, ◌≤◌, ◌+◌, ℕ, Bool, List, Some, IsSomeAnd, slice_get}
use Rattle.dist_version.specs.Spelling.{IsVersion}
use Rattle.dist_relation.specs.declared.atom.Provide.{Provide}
use Rattle.dist_classes.specs.NewVersion.{AreCarried, IsAt, IsCarried}

-- how the version of an entry is carried
pub record IsVersionCarried (old new : List ℕ) (entry carried : Provide) : Type 0 where
  pub moved : IsAt entry old → IsAt carried new
  pub spelled : IsAt entry old → IsSomeAnd carried.version IsVersion
  pub stays : ¬ IsAt entry old → carried.version ≡ entry.version

abbrev pub CanCarry : (old new : List ℕ) → (entries carried : List Provide) → Type 0
CanCarry old new entries carried = (kept : List Bool) × AreCarried old new kept entries carried

-- an entry before a place, and at this one or behind it, is carried
pub record IsCarriedFrom (old new : List ℕ) (entries : List Provide) (carried : Provide) (from behind : ℕ) : Type 0
  where
    pub place : ℕ
    pub entry : Provide
    pub is : slice_get entries place ≡ Some entry
    pub fits : IsCarried old new entry carried
    pub later : from ≤ place
    pub next : behind ≡ place + 1
