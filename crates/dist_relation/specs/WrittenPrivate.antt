-- What the private printers say: how far they came, and that what they print is a name or a version.
use Rattle.std.specs.Prelude.{◌≡◌, ℕ, List, ◌++◌, Option, None, Some}
use Rattle.std.specs.List.{AllByRecursion}
use Rattle.dist_version.specs.Spelling.{IsVersion}
use Rattle.dist_relation.specs.declared.atom.Atom.{Atom}
use Rattle.dist_relation.specs.declared.atom.Bound.{Bound}
use Rattle.dist_relation.specs.Bytes.{IsName}
use Rattle.dist_relation.specs.Grammar.{IsQualifier}

-- something was added at the end
pub record Extends (old new : List ℕ) : Type 0 where
  pub more : List ℕ
  pub whole : new ≡ old ++ more

abbrev pub IsBound : Option Bound → Type 0
IsBound None = Unit {0}
IsBound (Some bound) = IsVersion bound.version

-- its parts are names and a version
pub record IsAtom (atom : Atom) : Type 0 where
  pub name : IsName atom.name
  pub qualifier : IsQualifier atom.qualifier
  pub bound : IsBound atom.bound

abbrev pub AreAtoms : List Atom → Type 0
AreAtoms atoms = AllByRecursion IsAtom atoms
