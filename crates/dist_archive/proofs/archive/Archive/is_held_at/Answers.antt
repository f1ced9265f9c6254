use Rattle.std.proofs.Common.{◌≡◌, None, Some, refl, subst, sym}
use Rattle.std.specs.Prelude.{Any}
use Rattle.std.proofs.lemmas.Bool.{false≢true}
use Rattle.std.specs.declared.cmp.Ordering.TheVariants.{Equal}
use Rattle.dist_base.specs.ListLaws.{any-contained, at-has, contains-at, element-at, found-at, has-at}
use Rattle.dist_version.specs.Order.{version_cmp}
use Rattle.dist_repo.specs.declared.package.Package.{Package}
use Rattle.dist_archive.proofs.OrderLemmas.{equal-test}
use Rattle.dist_archive.proofs.archive.Archive.is_held_at.Goals as goal

pub returns-in-Some : goal.returns-in-Some
returns-in-Some c =
    let v = c.args.self.now in
    let packages = v.space.repository.packages in
    let held : Package = c.in-Some.held.now in
    let test = equal-test c.is_eq.result c.compare.result (version_cmp held.version c.args.version.now) c.is_eq.ensures c.compare.ensures in
    let own = element-at packages c.args.member c.requires in
    let P : Package → Package → Type 0 = λ q m. (m.name ≡ q.name) × (version_cmp m.version c.args.version.now ≡ Equal) in (
      (λ yes.
          let there = (c.in-Some.ensures own.element held own.is).0 refl in
          at-has (λ q. Any (P q) v.packages) packages c.args.member own.element own.is
          (any-contained (P own.element) v.packages held there.0 (there.1, test.0 yes))),
      λ is.
          let at = found-at (P own.element) v.packages (has-at (λ q. Any (P q) v.packages) packages c.args.member own.element own.is is) in
          let same : Some held ≡ Some at.element =
          (c.in-Some.ensures own.element at.element own.is).1 (contains-at v.packages at.place at.element at.is, at.holds.0) in
          let one : held ≡ at.element = cc in
          test.1 (subst (λ (m : Package). version_cmp m.version c.args.version.now ≡ Equal) (sym one) at.holds.1),
    )

pub returns-in-None : goal.returns-in-None
returns-in-None c =
    let v = c.args.self.now in
    let packages = v.space.repository.packages in
    let own = element-at packages c.args.member c.requires in
    let P : Package → Package → Type 0 = λ q m. (m.name ≡ q.name) × (version_cmp m.version c.args.version.now ≡ Equal) in (
      (λ yes. absurd (false≢true yes)),
      λ is.
          let at = found-at (P own.element) v.packages (has-at (λ q. Any (P q) v.packages) packages c.args.member own.element own.is is) in
          absurd (let no-one : None ≡ Some at.element =
          (c.in-None.ensures own.element at.element own.is).1 (contains-at v.packages at.place at.element at.is, at.holds.0) in cc),
    )
