use Rattle.std.proofs.Common.{◌≡◌, None, Some, refl, slice_get, subst, sym}
use Rattle.std.specs.Prelude.{Contains}
use Rattle.std.proofs.lemmas.Bool.{false≢true}
use Rattle.dist_base.specs.ListLaws.{at-has, has-at}
use Rattle.dist_repo.specs.declared.package.Package.{Package}
use Rattle.dist_space.specs.Space.{SpaceView}
use Rattle.dist_journal.proofs.breaking.is_held.Goals as goal

pub returns-in-Some : goal.returns-in-Some
returns-in-Some c =
    let v = c.args.archive.now in
    let own : Package = c.package-own.result.now in
    let held : Package = c.in-Some.held.now in
    let at = subst (λ (x : SpaceView). slice_get x.repository.packages c.args.number ≡ Some own) c.space.ensures c.package-own.ensures.value in (
      (λ yes.
          let there = (c.in-Some.ensures held).0 refl in
          at-has (Contains v.packages) v.space.repository.packages c.args.number own at
          (subst (λ (p : Package). Contains v.packages p) (c.same.ensures.0 yes) there.0)),
      λ here.
          let there = has-at (Contains v.packages) v.space.repository.packages c.args.number own at here in
          let same : Some held ≡ Some own = (c.in-Some.ensures own).1 (there, sym c.bytes.ensures.value) in
          let one : held ≡ own = cc in
          c.same.ensures.1 one,
    )

pub returns-in-None : goal.returns-in-None
returns-in-None c =
    let v = c.args.archive.now in
    let own : Package = c.package-own.result.now in
    let at = subst (λ (x : SpaceView). slice_get x.repository.packages c.args.number ≡ Some own) c.space.ensures c.package-own.ensures.value in (
      (λ yes. absurd (false≢true yes)),
      λ here.
          let there = has-at (Contains v.packages) v.space.repository.packages c.args.number own at here in
          absurd (let no : None ≡ Some own = (c.in-None.ensures own).1 (there, sym c.bytes.ensures.value) in cc),
    )
