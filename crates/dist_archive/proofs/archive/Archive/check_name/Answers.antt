use Rattle.std.proofs.Common.{ap, arith, subst, ◌∙◌}
use Rattle.dist_repo.specs.PackageList.{PackageList}
use Rattle.dist_space.specs.Space.{SpaceView}
use Rattle.dist_future.specs.Future.{IsProvided, IsTaken}
use Rattle.dist_archive.specs.Steps.{IsHeld}
use Rattle.dist_archive.proofs.NameLemmas.{neither, no-elements, not-so}
use Rattle.dist_archive.proofs.archive.Archive.check_name.Goals as goal

pub returns-then-is_provided : goal.returns-then-is_provided
returns-then-is_provided c =
    let unused = neither c.is_in_use.result c.is_in_use.ensures c.if-is_in_use.false in
    let repo = c.repo.ensures.value ∙ ap (λ (s : SpaceView). s.repository) c.space.ensures in (
      subst (λ name. ¬ IsTaken c.args.self.now.space.repository name) c.bytes-name.ensures.value unused.0,
      subst (λ name. ¬ IsHeld c.args.self.now.packages name) c.bytes-name.ensures.value unused.1,
      subst (λ name. IsProvided c.args.self.now.space.repository name) c.bytes-name.ensures.value
          (subst (λ (r : PackageList). IsProvided r c.bytes-name.result.now) repo (c.is_provided.ensures.0 c.if-is_provided.true)),
    )

pub returns : goal.returns
returns c =
    let unused = neither c.is_in_use.result c.is_in_use.ensures c.if-is_in_use.false in
    let repo = c.repo.ensures.value ∙ ap (λ (s : SpaceView). s.repository) c.space.ensures in
    let unprovided = not-so c.is_provided.result c.is_provided.ensures c.if-is_provided.false in
    record {
      untaken = subst (λ name. ¬ IsTaken c.args.self.now.space.repository name) c.bytes-name.ensures.value unused.0;
      unheld = subst (λ name. ¬ IsHeld c.args.self.now.packages name) c.bytes-name.ensures.value unused.1;
      unprovided = subst (λ name. ¬ IsProvided c.args.self.now.space.repository name) c.bytes-name.ensures.value
          (subst (λ (r : PackageList). ¬ IsProvided r c.bytes-name.result.now) repo unprovided);
      version = c.keeps_invariant.ensures;
      provides = no-elements c.args.fresh.now.provides (omega (arith, c.len.ensures));
    }
