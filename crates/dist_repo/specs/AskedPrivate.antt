-- Which places of the lists of packages have to be asked. No public clause cites it.
use Rattle.std.specs.Prelude.{◌≡◌, List, Some, Contains, slice_get}
use Rattle.dist_relation.specs.declared.atom.Atom.{Atom}
use Rattle.dist_asked.specs.AskedPlaces.{AreEnough}
use Rattle.dist_repo.specs.declared.asked_lists.AskedList.{AskedList}
use Rattle.dist_repo.specs.declared.package.Package.{Package}

-- the places are enough for the item of a number and a place, if it is there
abbrev pub AreEnoughForItem : List Package → AskedList → Type 0
AreEnoughForItem packages list = (p : Package) (atoms : List Atom) → slice_get packages list.number ≡ Some p
    → slice_get p.depends list.place ≡ Some atoms → AreEnough atoms list.asked

-- and for the conflicts of the package of a number
abbrev pub AreEnoughForConflicts : List Package → AskedList → Type 0
AreEnoughForConflicts packages list = (p : Package) → slice_get packages list.number ≡ Some p
    → AreEnough p.conflicts list.asked

-- so for all lists that are kept
abbrev pub AreAskedOfItems : List Package → List AskedList → Type 0
AreAskedOfItems packages lists = (list : AskedList) → Contains lists list → AreEnoughForItem packages list

abbrev pub AreAskedOfConflicts : List Package → List AskedList → Type 0
AreAskedOfConflicts packages lists = (list : AskedList) → Contains lists list → AreEnoughForConflicts packages list
