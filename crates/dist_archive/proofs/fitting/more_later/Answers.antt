use Rattle.std.proofs.lemmas.Option.{slice_get_within}
use Rattle.dist_base.specs.ListLaws.{within-from}
use Rattle.dist_repo.specs.declared.package.Package.{Package}
use Rattle.dist_archive.specs.Reach.{IsLater}
use Rattle.dist_archive.specs.Steps.{IsClusterName}
use Rattle.dist_archive.proofs.FoundLemmas.{later-none, later-test, more-later, named-at}
use Rattle.dist_archive.proofs.NameLemmas.{not-so}
use Rattle.dist_archive.proofs.fitting.more_later.Goals as goal

pub package-requires : goal.package-requires
package-requires c = slice_get_within c.args.later.now.packages c.args.place c.requires.alike.fresh c.requires.alike.is_fresh

pub is_later-requires : goal.is_later-requires
is_later-requires c =
    named-at c.args.space.now c.keeps_invariant.ensures.space.frame c.args.later.now.packages c.args.place c.args.number c.requires.alike
    c.package.result.now c.package.ensures

pub are_level-requires-clause-within : goal.are_level-requires-clause-within
are_level-requires-clause-within c =
    slice_get_within c.args.later.now.packages c.args.place c.requires.alike.fresh c.requires.alike.is_fresh

pub are_level-requires-clause-first_within : goal.are_level-requires-clause-first_within
are_level-requires-clause-first_within c =
    within-from (λ (n : Package). IsClusterName c.args.space.now.repository c.requires.alike.own n.name × IsLater c.args.space.now.repository n)
    c.args.later.now.packages c.args.first c.requires.holds.1

pub returns-then-not-is_later : goal.returns-then-not-is_later
returns-then-not-is_later c =
    let s = c.args.space.now in
    let frame = c.keeps_invariant.ensures.space.frame in
    let test = later-test s frame c.args.later.now.packages c.args.place c.args.number c.requires.alike c.is_later.result c.package.result.now
    c.package.ensures c.is_later.ensures in
    later-none s frame c.args.later.now.packages c.args.place c.args.number c.requires.alike c.args.first c.requires.holds
    (λ new m at level. not-so c.is_later.result test c.if-not-is_later.true new)

pub returns-then-not-are_level : goal.returns-then-not-are_level
returns-then-not-are_level c =
    let s = c.args.space.now in
    let frame = c.keeps_invariant.ensures.space.frame in
    later-none s frame c.args.later.now.packages c.args.place c.args.number c.requires.alike c.args.first c.requires.holds
    (λ new m at level. not-so c.are_level.result (c.are_level.ensures c.requires.alike.fresh m c.requires.alike.is_fresh at) c.if-not-are_level.true level)

pub returns : goal.returns
returns c =
    let s = c.args.space.now in
    let frame = c.keeps_invariant.ensures.space.frame in
    let test = later-test s frame c.args.later.now.packages c.args.place c.args.number c.requires.alike c.is_later.result c.package.result.now
    c.package.ensures c.is_later.ensures in
    more-later s frame c.args.later.now.packages c.args.place c.args.number c.requires.alike c.requires.fits c.args.first c.requires.holds
    (test.0 c.if-not-is_later.false)
    (λ m at. (c.are_level.ensures c.requires.alike.fresh m c.requires.alike.is_fresh at).0 c.if-not-are_level.false)
