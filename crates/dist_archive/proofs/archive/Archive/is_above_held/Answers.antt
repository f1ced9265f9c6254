use Rattle.std.proofs.Common.{◌≡◌, None, Some, refl, subst}
use Rattle.dist_base.specs.ListLaws.{element-at}
use Rattle.dist_version.specs.Order.{IsBelow, version_cmp}
use Rattle.dist_repo.specs.declared.package.Package.{Package}
use Rattle.dist_archive.proofs.OrderLemmas.{below-test}
use Rattle.dist_archive.proofs.archive.Archive.is_above_held.Goals as goal

pub returns-in-Some : goal.returns-in-Some
returns-in-Some c =
    let held : Package = c.in-Some.held.now in
    let test = below-test c.is_lt.result c.compare.result (version_cmp held.version c.args.version.now) c.is_lt.ensures c.compare.ensures in
    let own = element-at c.args.self.now.space.repository.packages c.args.member c.requires in (
      (λ yes p n is there.
          let same : Some held ≡ Some n = (c.in-Some.ensures p n is).1 there in
          let one : held ≡ n = cc in
          subst (λ (x : Package). IsBelow x.version c.args.version.now) one (test.0 yes)),
      λ above. test.1 (above own.element held own.is ((c.in-Some.ensures own.element held own.is).0 refl)),
    )

pub returns-in-None : goal.returns-in-None
returns-in-None c = (
  (λ yes p n is there. absurd (let no-one : None ≡ Some n = (c.in-None.ensures p n is).1 there in cc)),
  λ above. refl,
)
