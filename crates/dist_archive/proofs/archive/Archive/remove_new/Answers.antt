use Rattle.std.proofs.Common.{◌++◌, subst, sym}
use Rattle.dist_archive.specs.Archive.{ArchiveView}
use Rattle.dist_archive.specs.SlotsPrivate.{standing}
use Rattle.dist_archive.specs.Steps.{IsHeld, Removes}
use Rattle.dist_future.specs.Future.{IsTaken}
use Rattle.dist_archive.proofs.ChangeLemmas.{held-new, new-removed}
use Rattle.dist_archive.proofs.archive.Archive.remove_new.Goals as goal

pub invariant_of-self : goal.invariant_of-self
invariant_of-self c =
    let free = subst (λ (v : ArchiveView). ¬ IsTaken v.space.repository c.args.name.now) (sym c.self.view_is) c.requires in
    let held = subst (λ (v : ArchiveView). IsHeld v.packages c.args.name.now) (sym c.self.view_is) (c.holds.ensures.0 c.if-not-holds.false) in
    record {
      kept = (new-removed c.self.inside.space c.self.inside.slots c.self.inside.names c.self.invariant.kept c.args.name.now c.remove.new.self free
          ((held-new c.self.inside.space c.self.inside.slots c.self.inside.names c.self.invariant.kept c.args.name.now free).0 held)
          c.remove.ensures.made).still;
      left = c.self.invariant.left;
    }

pub returns-clause-made : goal.returns-clause-made
returns-clause-made c =
    let free = subst (λ (v : ArchiveView). ¬ IsTaken v.space.repository c.args.name.now) (sym c.self.view_is) c.requires in
    let held = subst (λ (v : ArchiveView). IsHeld v.packages c.args.name.now) (sym c.self.view_is) (c.holds.ensures.0 c.if-not-holds.false) in
    subst (λ (v : ArchiveView). Removes c.args.name.now v.packages
    (standing c.self.inside.space.repository.packages c.self.inside.slots ++ c.remove.new.self)) c.self.view_is
    (new-removed c.self.inside.space c.self.inside.slots c.self.inside.names c.self.invariant.kept c.args.name.now c.remove.new.self free
    ((held-new c.self.inside.space c.self.inside.slots c.self.inside.names c.self.invariant.kept c.args.name.now free).0 held) c.remove.ensures.made).made
