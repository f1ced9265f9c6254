-- The places that are asked of lists are enough, while lists are added.
use Rattle.std.proofs.Common.{◌≡◌, ℕ, Bool, List, [], Some, slice_get, arith, inl, inr, sym, subst}
use Rattle.std.specs.Prelude.{◌⊎◌, Contains}
use Rattle.dist_base.specs.ListLaws.{same-at}
use Rattle.dist_asked.specs.AskedPlaces.{AreEnough}
use Rattle.dist_relation.specs.declared.atom.Atom.{Atom}
use Rattle.dist_repo.specs.AskedPrivate.{AreAskedOfConflicts, AreAskedOfItems, AreEnoughForConflicts, AreEnoughForItem}
use Rattle.dist_repo.specs.declared.asked_lists.AskedList.{AskedList}
use Rattle.dist_repo.specs.declared.package.Package.{Package}

-- no list is told but old ones and another one
abbrev pub AddsAtMost : (old new : List AskedList) → AskedList → Type 0
AddsAtMost old new made = (list : AskedList) → Contains new list → Contains old list ⊎ (list ≡ made)

pub none-told : (P : AskedList → Type 0) (list : AskedList) → Contains [] list → P list
none-told P list there = absurd (omega (arith, there.1))

pub more-told : (P : AskedList → Type 0) (old new : List AskedList) (made : AskedList) → AddsAtMost old new made → P made
    → ((list : AskedList) → Contains old list → P list) → (list : AskedList) → Contains new list → P list
more-told P old new made adds is are list there = elim (adds list there) [
  | inl earlier ↦ are list earlier
  | inr same ↦ subst P (sym same) is
]

pub more-items : (packages : List Package) (old new : List AskedList) (number place : ℕ) (p : Package) (item : List Atom) (asked : List Bool)
    → slice_get packages number ≡ Some p → slice_get p.depends place ≡ Some item → AreEnough item asked
    → AddsAtMost old new (record { number = number; place = place; asked = asked }) → AreAskedOfItems packages old → AreAskedOfItems packages new
more-items packages old new number place p item asked is is_item enough adds are =
    more-told (AreEnoughForItem packages) old new (record { number = number; place = place; asked = asked }) adds
    (λ q atoms is_q is_atoms.
    let same : p ≡ q = same-at packages number p q is is_q in
    let Here : Package → Type 0 = λ x. slice_get x.depends place ≡ Some item in
    subst (λ (list : List Atom). AreEnough list asked) (same-at q.depends place item atoms (subst Here same is_item) is_atoms) enough)
    are

pub more-conflicts : (packages : List Package) (old new : List AskedList) (number place : ℕ) (p : Package) (asked : List Bool)
    → slice_get packages number ≡ Some p → AreEnough p.conflicts asked
    → AddsAtMost old new (record { number = number; place = place; asked = asked }) → AreAskedOfConflicts packages old → AreAskedOfConflicts packages new
more-conflicts packages old new number place p asked is enough adds are =
    more-told (AreEnoughForConflicts packages) old new (record { number = number; place = place; asked = asked }) adds
    (λ q is_q. subst (λ (x : Package). AreEnough x.conflicts asked) (same-at packages number p q is is_q) enough)
    are
