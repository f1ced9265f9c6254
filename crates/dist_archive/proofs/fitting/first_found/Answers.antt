use Rattle.std.proofs.lemmas.Option.{slice_get_within}
use Rattle.dist_archive.proofs.FoundLemmas.{first-kept, first-later, first-none, later-test, named-at, same-test}
use Rattle.dist_archive.proofs.NameLemmas.{not-so}
use Rattle.dist_archive.proofs.fitting.first_found.Goals as goal

pub package-fresh-requires : goal.package-fresh-requires
package-fresh-requires c = slice_get_within c.args.later.now.packages c.args.place c.requires.alike.fresh c.requires.alike.is_fresh

pub package-requires : goal.package-requires
package-requires c = slice_get_within c.args.space.now.repository.packages c.args.number c.requires.alike.own c.requires.alike.is_own

pub is_later-requires : goal.is_later-requires
is_later-requires c =
    named-at c.args.space.now c.keeps_invariant.ensures.space.frame c.args.later.now.packages c.args.place c.args.number c.requires.alike
    c.package-fresh.result.now c.package-fresh.ensures

pub returns-then-same : goal.returns-then-same
returns-then-same c =
    let s = c.args.space.now in
    let frame = c.keeps_invariant.ensures.space.frame in
    let test = same-test s frame c.args.later.now.packages c.args.place c.args.number c.requires.alike c.same.result c.package-fresh.result.now
    c.package.result.now c.package-fresh.ensures c.package.ensures.value c.same.ensures in
    first-kept s frame c.args.later.now.packages c.args.place c.args.number c.requires.alike c.requires.holds (test.0 c.if-same.true)

pub returns-then-is_later : goal.returns-then-is_later
returns-then-is_later c =
    let s = c.args.space.now in
    let frame = c.keeps_invariant.ensures.space.frame in
    let test = later-test s frame c.args.later.now.packages c.args.place c.args.number c.requires.alike c.is_later.result c.package-fresh.result.now
    c.package-fresh.ensures c.is_later.ensures in
    first-later s frame c.args.later.now.packages c.args.place c.args.number c.requires.alike c.requires.holds (test.0 c.if-is_later.true)

pub returns : goal.returns
returns c =
    let s = c.args.space.now in
    let frame = c.keeps_invariant.ensures.space.frame in
    let same = same-test s frame c.args.later.now.packages c.args.place c.args.number c.requires.alike c.same.result c.package-fresh.result.now
    c.package.result.now c.package-fresh.ensures c.package.ensures.value c.same.ensures in
    let new = later-test s frame c.args.later.now.packages c.args.place c.args.number c.requires.alike c.is_later.result c.package-fresh.result.now
    c.package-fresh.ensures c.is_later.ensures in
    first-none s frame c.args.later.now.packages c.args.place c.args.number c.requires.alike (not-so c.same.result same c.if-same.false)
    (not-so c.is_later.result new c.if-is_later.false)
