use Rattle.std.proofs.Common.{List, arith, refl}
use borrow.Author.Count.{below_more}
use Rattle.std.proofs.lemmas.Option.{slice_get_within}
use Rattle.dist_base.specs.ListLaws.{element-is, has-at, some-element}
use Rattle.dist_relation.specs.declared.atom.Atom.{Atom}
use Rattle.dist_repo.specs.Healthy.{IsMet}
use Rattle.dist_now.specs.Members.{members_of}
use Rattle.dist_now.specs.RowsPrivate.{IsUnmetItem}
use Rattle.dist_now.proofs.Sizes.{count-more, place-fits}
use Rattle.dist_now.proofs.faults.unmet_item.Goals as goal

pub overflow_cast-result : goal.overflow_cast-result
overflow_cast-result c =
    omega (
      arith,
      place-fits c.args.repo.now c.args.number c.args.package.now c.loop-place.place c.requires.within_size c.requires.number
          c.loop-place.invariant.some,
    )

pub loop-place-preserved : goal.loop-place-preserved
loop-place-preserved c =
    let items = c.args.package.now.depends in
    let place = c.loop-place.place in
    let Unmet : List Atom → Type 0 = λ item. ¬ IsMet c.args.repo.now.architecture (members_of c.args.repo.now.packages c.args.members.now) item in
    record {
      met = below_more (λ n. ¬ IsUnmetItem c.args.repo.now c.args.members.now items n) place c.loop-place.invariant.met
          (λ unmet. has-at Unmet items place c.get.result.now c.get.ensures unmet (c.if-not-is_met.ensures.met.0 refl));
      some = count-more items place c.get.result.now c.get.ensures c.is_met.ensures.some c.loop-place.invariant.some;
    }

pub returns : goal.returns
returns c = λ n unmet.
    let items = c.args.package.now.depends in
    let Unmet : List Atom → Type 0 = λ item. ¬ IsMet c.args.repo.now.architecture (members_of c.args.repo.now.packages c.args.members.now) item in
    let within = slice_get_within items n (some-element Unmet items n unmet) (element-is Unmet items n unmet) in
    let end = c.len-place-end.ensures in
    c.loop-place.invariant.met n (omega (arith, within, end, c.loop-place-test.false)) unmet
