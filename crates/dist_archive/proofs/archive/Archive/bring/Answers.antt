use Rattle.std.proofs.Common.{◌≡◌, ◌+◌, ◌<◌, ◌++◌, ◌≢◌, ◌∷◌, [], List, Result, ap, arith, length, subst, sym}
use Rattle.dist_repo.specs.declared.package.Package.{Package}
use Rattle.dist_archive.specs.Archive.{ArchiveView}
use Rattle.dist_archive.specs.BringingPrivate.{IsFreeBlock}
use Rattle.dist_archive.specs.SlotsPrivate.{standing}
use Rattle.dist_archive.specs.Steps.{BringsName}
use Rattle.dist_archive.proofs.ChangeLemmas.{held-new, new-come}
use Rattle.dist_archive.proofs.NameLemmas.{brought-one, one-element}
use Rattle.dist_archive.proofs.RefusalLemmas.{free-none, name-one}
use Rattle.dist_archive.proofs.UploadLemmas.{by-exit}
use Rattle.std.specs.Prelude.{IfErr}
use Rattle.dist_archive.specs.AnswersPrivate.{IsOnlyRefusal}
use Rattle.dist_archive.specs.Refusals.{RefusesName}
use Rattle.dist_archive.specs.declared.step.StepError.{StepError}
use Rattle.dist_archive.specs.declared.step.StepError.TheVariants.{NoMemory}
use Rattle.dist_archive.proofs.archive.Archive.bring.Goals as goal

pub insert-requires : goal.insert-requires
insert-requires c =
    let held : List Package = standing c.self.inside.space.repository.packages c.self.inside.slots ++ c.self.inside.names in
    let block = subst (λ (v : ArchiveView). IsFreeBlock v.space.repository v.packages c.args.block.now) (sym c.self.view_is) c.in_ok-check_block.ensures in
    let free = brought-one c.self.inside.space.repository held c.args.block.now c.package.result.now block c.package.ensures in
    λ there. free.unheld ((held-new c.self.inside.space c.self.inside.slots c.self.inside.names c.self.invariant.kept c.package.result.now.name
    free.untaken).1 there)

pub invariant_of-self-2 : goal.invariant_of-self-2
invariant_of-self-2 c =
    let held : List Package = standing c.self.inside.space.repository.packages c.self.inside.slots ++ c.self.inside.names in
    let block = subst (λ (v : ArchiveView). IsFreeBlock v.space.repository v.packages c.args.block.now) (sym c.self.view_is) c.in_ok-check_block.ensures in
    let free = brought-one c.self.inside.space.repository held c.args.block.now c.package.result.now block c.package.ensures in
    let one = ap (λ (l : List Package). length l) block.one in
    let few = subst (λ (v : ArchiveView). length v.packages + length c.args.block.now.packages < 4294967295) (sym c.self.view_is) c.requires in
    record {
      kept = (new-come c.self.inside.space c.self.inside.slots c.self.inside.names c.self.invariant.kept c.package.result.now c.insert.new.self free
          c.in_ok-insert.ensures.ok c.in_ok-insert.ensures.one_more (omega (arith, few, one))).still;
      left = c.self.invariant.left;
    }

pub returns-clause-made : goal.returns-clause-made
returns-clause-made c =
    let held : List Package = standing c.self.inside.space.repository.packages c.self.inside.slots ++ c.self.inside.names in
    let block = subst (λ (v : ArchiveView). IsFreeBlock v.space.repository v.packages c.args.block.now) (sym c.self.view_is) c.in_ok-check_block.ensures in
    let free = brought-one c.self.inside.space.repository held c.args.block.now c.package.result.now block c.package.ensures in
    let one = ap (λ (l : List Package). length l) block.one in
    let few = subst (λ (v : ArchiveView). length v.packages + length c.args.block.now.packages < 4294967295) (sym c.self.view_is) c.requires in
    let changed = new-come c.self.inside.space c.self.inside.slots c.self.inside.names c.self.invariant.kept c.package.result.now c.insert.new.self free
    c.in_ok-insert.ensures.ok c.in_ok-insert.ensures.one_more (omega (arith, few, one)) in
    subst (λ (v : ArchiveView). (x : Package) × (c.args.block.now.packages ≡ x ∷ []) × BringsName v.space.repository x v.packages
    (standing c.self.inside.space.repository.packages c.self.inside.slots ++ c.insert.new.self)) c.self.view_is
    (c.package.result.now, one-element c.args.block.now.packages c.package.result.now one c.package.ensures, changed.made)

pub returns-clause-future : goal.returns-clause-future
returns-clause-future c =
    let held : List Package = standing c.self.inside.space.repository.packages c.self.inside.slots ++ c.self.inside.names in
    let block = subst (λ (v : ArchiveView). IsFreeBlock v.space.repository v.packages c.args.block.now) (sym c.self.view_is) c.in_ok-check_block.ensures in
    let free = brought-one c.self.inside.space.repository held c.args.block.now c.package.result.now block c.package.ensures in
    let one = ap (λ (l : List Package). length l) block.one in
    let few = subst (λ (v : ArchiveView). length v.packages + length c.args.block.now.packages < 4294967295) (sym c.self.view_is) c.requires in
    (new-come c.self.inside.space c.self.inside.slots c.self.inside.names c.self.invariant.kept c.package.result.now c.insert.new.self free
    c.in_ok-insert.ensures.ok c.in_ok-insert.ensures.one_more (omega (arith, few, one))).still.future

pub returns-clause-accepted : goal.returns-clause-accepted
returns-clause-accepted c = free-none c.args.self.now.space.repository c.args.self.now.packages c.args.block.now c.in_ok-check_block.ensures

pub returns-in_err-check_block-clause-refused : goal.returns-in_err-check_block-clause-refused
returns-in_err-check_block-clause-refused c =
    let r = c.args.self.now.space.repository in
    let archive = c.args.self.now.packages in
    by-exit (λ (x : Result (Unit {0}) StepError). IfErr x (λ error. error ≢ NoMemory → IsOnlyRefusal (RefusesName r archive c.args.block.now) error))
    c.from_residual.result c.in_err-check_block.field-0.0 c.from_residual.ensures.1 (λ known. (
      c.in_err-check_block.ensures,
      λ other at. name-one r archive c.args.block.now c.in_err-check_block.field-0.0 other c.in_err-check_block.ensures at,
    ))
