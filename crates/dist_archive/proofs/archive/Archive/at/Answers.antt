use Rattle.std.proofs.Common.{◌≡◌, ◌↔◌, ℕ, None, Option, Some, ap, slice_get, subst, sym, ◌∙◌}
use Rattle.dist_base.specs.ListLaws.{same-at}
use Rattle.dist_repo.specs.declared.package.Package.{Package}
use Rattle.dist_archive.specs.Archive.{ArchiveView, IsHeldAs}
use Rattle.dist_archive.specs.SlotsPrivate.{slot_package}
use Rattle.dist_archive.proofs.HeldLemmas.{slot-answer}
use Rattle.dist_archive.proofs.archive.Archive.at.Goals as goal

-- the answer is what is held of the name of the package of a number
abbrev AnswersAt : Option Package → ℕ → ArchiveView → Type 0
AnswersAt answer number v = (p n : Package) → slice_get v.space.repository.packages number ≡ Some p → (answer ≡ Some n) ↔ IsHeldAs v.packages p.name n

pub returns-in-Kept : goal.returns-in-Kept
returns-in-Kept c =
    let s = c.self.inside.space in
    subst (AnswersAt (Some c.package.result.now) c.args.number) c.self.view_is (λ p n own.
    slot-answer s.repository c.self.invariant.kept.space.frame.flat c.self.inside.slots c.self.inside.names c.self.invariant.kept.named
    c.self.invariant.kept.untaken
    c.args.number p c.get.result.now (Some c.package.result.now) own c.get.ensures
    (ap (λ (x : Package). Some x) (same-at s.repository.packages c.args.number c.package.result.now p c.package.ensures.value own)
    ∙ sym (ap (slot_package p) c.in-Kept.is)) n)

pub returns-in-Gone : goal.returns-in-Gone
returns-in-Gone c =
    let s = c.self.inside.space in
    subst (AnswersAt None c.args.number) c.self.view_is (λ p n own.
    slot-answer s.repository c.self.invariant.kept.space.frame.flat c.self.inside.slots c.self.inside.names c.self.invariant.kept.named
    c.self.invariant.kept.untaken
    c.args.number p c.get.result.now None own c.get.ensures (sym (ap (slot_package p) c.in-Gone.is)) n)

pub returns-in-New : goal.returns-in-New
returns-in-New c =
    let s = c.self.inside.space in
    subst (AnswersAt (Some c.deref.result.now) c.args.number) c.self.view_is (λ p n own.
    slot-answer s.repository c.self.invariant.kept.space.frame.flat c.self.inside.slots c.self.inside.names c.self.invariant.kept.named
    c.self.invariant.kept.untaken
    c.args.number p c.get.result.now (Some c.deref.result.now) own c.get.ensures
    (ap (λ (x : Package). Some x) c.deref.ensures ∙ sym (ap (slot_package p) c.in-New.is)) n)
