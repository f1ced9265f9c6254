use Rattle.std.proofs.Common.{ap, arith, subst, ◌∙◌}
use Rattle.dist_repo.specs.PackageList.{PackageList}
use Rattle.dist_space.specs.Space.{SpaceView}
use Rattle.dist_archive.specs.BringingPrivate.{IsFree, IsFreeBlock}
use Rattle.dist_archive.specs.Refusals.{IsNameFault, IsOfOtherArchitecture, RefusesName}
use Rattle.dist_archive.proofs.NameLemmas.{match-weaker, name-refused, not-so, one-element}
use Rattle.dist_archive.proofs.archive.Archive.check_block.Goals as goal

pub returns : goal.returns
returns c =
    let repo = c.repo.ensures.value ∙ ap (λ (s : SpaceView). s.repository) c.space.ensures in
    let own = subst (λ (r : PackageList). ¬ IsOfOtherArchitecture r c.args.block.now) repo
    (not-so c.has_other_architecture.result c.has_other_architecture.ensures c.if-has_other_architecture.false) in
    let one = one-element c.args.block.now.packages c.package.result.now (omega (arith, c.len.ensures.value, c.if-len-ne1.false)) c.package.ensures in
    match-weaker c.check_name.result (IsFree c.args.self.now.space.repository c.args.self.now.packages c.package.result.now)
    (IsFreeBlock c.args.self.now.space.repository c.args.self.now.packages c.args.block.now)
    (IsNameFault c.args.self.now.space.repository c.args.self.now.packages c.package.result.now)
    (RefusesName c.args.self.now.space.repository c.args.self.now.packages c.args.block.now)
    (λ free. record { architecture = own; fresh = c.package.result.now; one = one; free = free })
    (name-refused c.args.self.now.space.repository c.args.self.now.packages c.args.block.now c.package.result.now own one) c.check_name.ensures
