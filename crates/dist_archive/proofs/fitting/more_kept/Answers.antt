use Rattle.std.proofs.lemmas.Option.{slice_get_within}
use Rattle.dist_archive.proofs.FoundLemmas.{kept-none, more-kept, same-test}
use Rattle.dist_archive.proofs.NameLemmas.{not-so}
use Rattle.dist_archive.proofs.fitting.more_kept.Goals as goal

pub package-requires : goal.package-requires
package-requires c = slice_get_within c.args.later.now.packages c.args.place c.requires.alike.fresh c.requires.alike.is_fresh

pub package-requires-2 : goal.package-requires-2
package-requires-2 c = slice_get_within c.args.space.now.repository.packages c.args.number c.requires.alike.own c.requires.alike.is_own

pub returns-then-not-same : goal.returns-then-not-same
returns-then-not-same c =
    let s = c.args.space.now in
    let frame = c.keeps_invariant.ensures.space.frame in
    let test = same-test s frame c.args.later.now.packages c.args.place c.args.number c.requires.alike c.same.result c.package.result.now
    c.package-2.result.now c.package.ensures c.package-2.ensures.value c.same.ensures in
    kept-none s frame c.args.later.now.packages c.args.place c.args.number c.requires.alike c.requires.holds
    (not-so c.same.result test c.if-not-same.true)

pub returns : goal.returns
returns c =
    let s = c.args.space.now in
    let frame = c.keeps_invariant.ensures.space.frame in
    let test = same-test s frame c.args.later.now.packages c.args.place c.args.number c.requires.alike c.same.result c.package.result.now
    c.package-2.result.now c.package.ensures c.package-2.ensures.value c.same.ensures in
    more-kept s frame c.args.later.now.packages c.args.place c.args.number c.requires.alike c.requires.fits c.requires.holds
    (test.0 c.if-not-same.false)
