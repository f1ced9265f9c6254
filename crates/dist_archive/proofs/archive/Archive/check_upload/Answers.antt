use Rattle.std.proofs.Common.{ap, subst, ◌∙◌}
use Rattle.std.specs.Prelude.{All, MatchResult}
use Rattle.dist_repo.specs.PackageList.{PackageList}
use Rattle.dist_space.specs.Space.{SpaceView}
use Rattle.dist_archive.specs.Refusals.{IsFirstFault, IsOfOtherArchitecture, RefusesUpload}
use Rattle.dist_archive.specs.Steps.{IsOfCluster, IsUploaded}
use Rattle.dist_archive.specs.UploadsPrivate.{IsChecked}
use Rattle.dist_archive.proofs.NameLemmas.{match-weaker, not-so}
use Rattle.dist_archive.proofs.UploadLemmas.{upload-refused}
use Rattle.dist_archive.proofs.archive.Archive.check_upload.Goals as goal

pub returns-then-has_other_architecture : goal.returns-then-has_other_architecture
returns-then-has_other_architecture c =
    let repo = c.repo.ensures.value ∙ ap (λ (s : SpaceView). s.repository) c.space-space.ensures in
    λ p of. subst (λ (r : PackageList). IsOfOtherArchitecture r c.args.block.now) repo
    (c.has_other_architecture.ensures.0 c.if-has_other_architecture.true)

pub returns-then-not-is_above_all : goal.returns-then-not-is_above_all
returns-then-not-is_above_all c =
    let repo = c.repo.ensures.value ∙ ap (λ (s : SpaceView). s.repository) c.space-space.ensures in
    let own = subst (λ (r : PackageList). ¬ IsOfOtherArchitecture r c.args.block.now) repo
    (not-so c.has_other_architecture.result c.has_other_architecture.ensures c.if-has_other_architecture.false) in
    λ p of. (own, not-so c.is_above_all.result (c.is_above_all.ensures p of) c.if-not-is_above_all.true)

pub returns : goal.returns
returns c =
    let v = c.args.self.now in
    let repo = c.repo.ensures.value ∙ ap (λ (s : SpaceView). s.repository) c.space-space.ensures in
    let own = subst (λ (r : PackageList). ¬ IsOfOtherArchitecture r c.args.block.now) repo
    (not-so c.has_other_architecture.result c.has_other_architecture.ensures c.if-has_other_architecture.false) in
    λ p of.
    let above = (c.is_above_all.ensures p of).0 c.if-not-is_above_all.false in
    let r = v.space.repository in
    let version = c.args.version.now in
    let block = c.args.block.now in
    let found = subst (λ (s : SpaceView). IsOfCluster s c.args.cluster p → MatchResult c.check_packages.result
    (λ x. All (IsUploaded s.repository p version) block.packages) (λ error. IsFirstFault s.repository p version block.packages error))
    c.space-space.ensures (c.check_packages.ensures p) in
    match-weaker c.check_packages.result (All (IsUploaded r p version) block.packages) (IsChecked r v.packages p version block)
    (IsFirstFault r p version block.packages) (RefusesUpload r v.packages p version block)
    (λ uploaded. record { architecture = own; above = above; uploaded = uploaded })
    (upload-refused r v.packages p version block own above) (found of)
