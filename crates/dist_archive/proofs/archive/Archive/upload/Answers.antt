use Rattle.std.proofs.Common.{◌≡◌, ◌≢◌, ◌+◌, ◌<◌, ◌++◌, ℕ, List, Result, Some, length, set, slice_get, subst, sym}
use Rattle.std.specs.Prelude.{All, IfErr}
use Rattle.dist_cluster.specs.Top.{ClusterList}
use Rattle.dist_repo.specs.declared.package.Package.{Package}
use Rattle.dist_archive.specs.Archive.{ArchiveView}
use Rattle.dist_archive.specs.AnswersPrivate.{IsOnlyRefusal}
use Rattle.dist_archive.specs.Refusals.{RefusesUpload}
use Rattle.dist_archive.specs.SlotsPrivate.{puts, standing}
use Rattle.dist_archive.specs.Steps.{IsOfCluster, Uploads}
use Rattle.dist_archive.specs.UploadsPrivate.{IsChecked}
use Rattle.dist_archive.specs.declared.members.Members.{Members}
use Rattle.dist_archive.specs.declared.members.Members.TheVariants.{Brought}
use Rattle.dist_archive.specs.declared.slots.Slot.{Slot}
use Rattle.dist_archive.specs.declared.step.StepError.{StepError}
use Rattle.dist_archive.specs.declared.step.StepError.TheVariants.{NoMemory}
use Rattle.dist_archive.proofs.ClusterLemmas.{cluster-some}
use Rattle.dist_archive.proofs.MembersLemmas.{IsUploadMade, are-enough, change-within, upload-changed}
use Rattle.dist_archive.proofs.RefusalLemmas.{checked-none, upload-one}
use Rattle.dist_archive.proofs.UploadLemmas.{by-exit}
use Rattle.dist_archive.proofs.archive.Archive.upload.Goals as goal

pub returns-in_err-check_upload-clause-refused : goal.returns-in_err-check_upload-clause-refused
returns-in_err-check_upload-clause-refused c =
    let s = c.self.inside.space in
    let short = subst (λ (v : ArchiveView). c.args.cluster < length v.space.clusters.members) (sym c.self.view_is) c.requires.in_range in
    let some = cluster-some s c.self.invariant.kept.space.frame c.args.cluster short in
    let of = subst (λ (v : ArchiveView). IsOfCluster v.space c.args.cluster some.0) c.self.view_is some.1 in
    let r = c.args.self.now.space.repository in
    let archive = c.args.self.now.packages in
    by-exit (λ (x : Result (Unit {0}) StepError). IfErr x (λ error. error ≢ NoMemory → IsOnlyRefusal (λ other. (p : Package)
    × IsOfCluster c.args.self.now.space c.args.cluster p × RefusesUpload r archive p c.args.version.now c.args.block.now other) error))
    c.from_residual.result c.in_err-check_upload.field-0.0 c.from_residual.ensures.1 (λ known. (
      (some.0, of, c.in_err-check_upload.ensures some.0 of),
      λ other at. upload-one r at.0 c.args.version.now archive c.args.block.now c.in_err-check_upload.field-0.0 other
          (c.in_err-check_upload.ensures at.0 at.1) at.2,
    ))

pub returns-clause-accepted : goal.returns-clause-accepted
returns-clause-accepted c = λ error at.
    checked-none c.args.self.now.space.repository at.0 c.args.version.now c.args.self.now.packages c.args.block.now
    (c.in_ok-check_upload.ensures at.0 at.1) error at.2

pub change_of-requires : goal.change_of-requires
change_of-requires c =
    let s = c.self.inside.space in
    let are = subst (λ (l : ClusterList). slice_get l.members c.args.cluster ≡ Some c.members.result.now) c.clusters.ensures c.members.ensures in
    ((are-enough s c.self.inside.slots c.self.inside.names c.self.inside.held c.self.invariant c.args.cluster c.args.version.now)
    c.members.result.now c.of-former.result.now are c.of-former.ensures).0

pub put_all-requires-clause-within : goal.put_all-requires-clause-within
put_all-requires-clause-within c =
    let s = c.self.inside.space in
    let short = subst (λ (v : ArchiveView). c.args.cluster < length v.space.clusters.members) (sym c.self.view_is) c.requires.in_range in
    let are = subst (λ (l : ClusterList). slice_get l.members c.args.cluster ≡ Some c.members.result.now) c.clusters.ensures c.members.ensures in
    let some = cluster-some s c.self.invariant.kept.space.frame c.args.cluster short in
    let checked = subst (λ (v : ArchiveView). IsOfCluster v.space c.args.cluster some.0
    → IsChecked v.space.repository v.packages some.0 c.args.version.now c.args.block.now) (sym c.self.view_is) (c.in_ok-check_upload.ensures some.0) in
    let within = change-within s c.self.inside.slots c.self.inside.names c.self.inside.held c.self.invariant c.args.cluster c.members.result.now
    c.of-former.result.now are c.of-former.ensures some.0 some.1 c.args.version.now c.args.block.now (checked some.1) c.in_ok-brought.field-0
    c.in_ok-brought.ensures in
    let touched : c.in_ok-brought.field-0.touched.items ≡ c.deref.result.now = cc in
    subst (λ (l : List ℕ). All (λ k. k < length c.self.inside.slots) l) touched within

-- the upload, as it is made
made : (c : goal.After-drop-touched) → (p : Package) × IsOfCluster c.self.inside.space c.args.cluster p
    × IsUploadMade c.self.inside.space c.self.inside.names p c.args.version.now c.args.block.now.packages
    (standing c.self.inside.space.repository.packages c.self.inside.slots ++ c.self.inside.names) c.put_all.new.self c.put.new.self
made c =
    let s = c.self.inside.space in
    let short = subst (λ (v : ArchiveView). c.args.cluster < length v.space.clusters.members) (sym c.self.view_is) c.requires.in_range in
    let are = subst (λ (l : ClusterList). slice_get l.members c.args.cluster ≡ Some c.members.result.now) c.clusters.ensures c.members.ensures in
    let some = cluster-some s c.self.invariant.kept.space.frame c.args.cluster short in
    let checked = subst (λ (v : ArchiveView). IsOfCluster v.space c.args.cluster some.0
    → IsChecked v.space.repository v.packages some.0 c.args.version.now c.args.block.now) (sym c.self.view_is) (c.in_ok-check_upload.ensures some.0) in
    let few = subst (λ (v : ArchiveView). length v.packages + length c.args.block.now.packages < 4294967295) (sym c.self.view_is) c.requires.few in
    let done = upload-changed s c.self.inside.slots c.self.inside.names c.self.inside.held c.self.invariant c.args.cluster c.members.result.now
    c.of-former.result.now are c.of-former.ensures some.0 some.1 c.args.version.now c.args.block.now (checked some.1) c.keeps_invariant-2.ensures.in_order few
    c.in_ok-brought.field-0 c.in_ok-brought.ensures in
    let slots : puts c.in_ok-brought.field-0.touched.items c.in_ok-brought.field-0.slots.items c.self.inside.slots ≡ c.put_all.new.self = cc in
    let held : set c.self.inside.held c.args.cluster (Brought c.in_ok-brought.field-0.brought) ≡ c.put.new.self = cc in (
      some.0,
      some.1,
      subst (λ (h : List Members). IsUploadMade s c.self.inside.names some.0 c.args.version.now c.args.block.now.packages
          (standing s.repository.packages c.self.inside.slots ++ c.self.inside.names) c.put_all.new.self h) held
          (subst (λ (l : List Slot). IsUploadMade s c.self.inside.names some.0 c.args.version.now c.args.block.now.packages
          (standing s.repository.packages c.self.inside.slots ++ c.self.inside.names) l
          (set c.self.inside.held c.args.cluster (Brought c.in_ok-brought.field-0.brought))) slots done),
    )

pub invariant_of-self : goal.invariant_of-self
invariant_of-self c = (made c).2.archive

pub returns-clause-made : goal.returns-clause-made
returns-clause-made c =
    let done = made c in
    subst (λ (v : ArchiveView). (p : Package) × IsOfCluster v.space c.args.cluster p × Uploads v.space.repository p
    c.args.version.now c.args.block.now.packages v.packages
    (standing c.self.inside.space.repository.packages c.put_all.new.self ++ c.self.inside.names)) c.self.view_is
    (done.0, done.1, done.2.made)

pub returns-clause-future : goal.returns-clause-future
returns-clause-future c = (made c).2.archive.kept.future
