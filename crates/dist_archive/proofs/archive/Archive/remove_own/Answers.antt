use Rattle.std.proofs.Common.{◌≡◌, ◌↔◌, ◌++◌, ◌∙◌, ◌<◌, List, Some, false, length, refl, true, set, slice_get, subst, sym}
use Rattle.std.specs.Prelude.{IsTrue}
use Rattle.std.proofs.lemmas.Bool.{false≢true}
use Rattle.dist_base.specs.ListLaws.{element-at}
use Rattle.dist_repo.specs.declared.package.Package.{Package}
use Rattle.dist_archive.specs.Archive.{ArchiveView}
use Rattle.dist_archive.specs.MembersPrivate.{IsArchive}
use Rattle.dist_archive.specs.SlotsPrivate.{standing}
use Rattle.dist_archive.specs.Steps.{IsHeld, Removes}
use Rattle.dist_archive.specs.declared.slots.Slot.{Slot}
use Rattle.dist_archive.specs.declared.slots.Slot.TheVariants.{Gone}
use Rattle.dist_archive.proofs.ChangeLemmas.{held-in-slot, own-removed}
use Rattle.dist_archive.proofs.MembersLemmas.{left-removed}
use Rattle.dist_archive.proofs.archive.Archive.remove_own.Goals as goal

pub returns-then-not-is_filled-clause-there : goal.returns-then-not-is_filled-clause-there
returns-then-not-is_filled-clause-there c =
    subst (λ (v : ArchiveView). (p : Package) → slice_get v.space.repository.packages c.args.number ≡ Some p → IsTrue false ↔ IsHeld v.packages p.name)
    c.self.view_is (λ p own.
    let here = held-in-slot c.self.inside.space c.self.inside.slots c.self.inside.names c.self.invariant.kept c.args.number p c.get.result.now own
    c.get.ensures in (
      (λ no. absurd (false≢true no)),
      λ held. absurd (false≢true (sym c.if-not-is_filled.true ∙ c.is_filled.ensures ∙ here.1 held)),
    ))

pub invariant_of-self : goal.invariant_of-self
invariant_of-self c =
    let s = c.self.inside.space in
    let at = element-at s.repository.packages c.args.number
    (subst (λ (v : ArchiveView). c.args.number < length v.space.repository.packages) (sym c.self.view_is) c.requires) in
    subst (λ (slots : List Slot). IsArchive s slots c.self.inside.names c.self.inside.held) (sym c.put.ensures) (record {
      kept = (own-removed s c.self.inside.slots c.self.inside.names c.self.invariant.kept c.args.number at.element c.get.result.now at.is c.get.ensures
          (sym c.is_filled.ensures ∙ c.if-not-is_filled.false)).still;
      left = left-removed s.clusters.members c.self.inside.slots c.self.inside.held c.args.number c.self.invariant.left;
    })

pub returns-clause-there : goal.returns-clause-there
returns-clause-there c =
    subst (λ (v : ArchiveView). (p : Package) → slice_get v.space.repository.packages c.args.number ≡ Some p → IsTrue true ↔ IsHeld v.packages p.name)
    c.self.view_is (λ p own.
    let here = held-in-slot c.self.inside.space c.self.inside.slots c.self.inside.names c.self.invariant.kept c.args.number p c.get.result.now own
    c.get.ensures in (
      (λ yes. here.0 (sym c.is_filled.ensures ∙ c.if-not-is_filled.false)),
      λ held. refl,
    ))

pub returns-clause-made : goal.returns-clause-made
returns-clause-made c =
    let s = c.self.inside.space in
    subst (λ (slots : List Slot). (p : Package) → slice_get c.args.self.now.space.repository.packages c.args.number ≡ Some p
    → Removes p.name c.args.self.now.packages (standing s.repository.packages slots ++ c.self.inside.names)) (sym c.put.ensures)
    (subst (λ (v : ArchiveView). (p : Package) → slice_get v.space.repository.packages c.args.number ≡ Some p
    → Removes p.name v.packages (standing s.repository.packages (set c.self.inside.slots c.args.number Gone) ++ c.self.inside.names)) c.self.view_is
    (λ p own.
    (own-removed s c.self.inside.slots c.self.inside.names c.self.invariant.kept c.args.number p c.get.result.now own c.get.ensures
    (sym c.is_filled.ensures ∙ c.if-not-is_filled.false)).made))
