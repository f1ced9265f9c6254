use Rattle.std.proofs.Common.{◌≡◌, ◌+◌, ℕ, Some, arith, length, refl, set, slice_get, subst, sym}
use Rattle.std.specs.Prelude.{slice_index}
use Rattle.std.proofs.lemmas.Option.{slice_get_read}
use Rattle.dist_archive.specs.FoundPrivate.{AreChecked}
use Rattle.dist_archive.proofs.FoundLemmas.{checked-own, first-misfit, next-own, number-within}
use Rattle.dist_archive.proofs.fitting.take_own.Goals as goal

pub index-requires : goal.index-requires
index-requires c =
    let within = number-within c.args.space.now c.keeps_invariant.ensures.space.frame c.args.number c.requires.named.own c.requires.named.is_own in
    omega (arith, within, c.requires.checked.beside, c.cluster_of-cluster.ensures)

pub next_found-requires : goal.next_found-requires
next_found-requires c =
    let s = c.args.space.now in
    let frame = c.keeps_invariant.ensures.space.frame in
    let within = number-within s frame c.args.number c.requires.named.own c.requires.named.is_own in
    let place : c.cluster_of-cluster.result ≡ slice_index s.cluster_of c.args.number = c.cluster_of-cluster.ensures in
    let at : slice_get c.args.founds.now.items c.cluster_of-cluster.result ≡ Some c.index.result.now =
    slice_get_read c.args.founds.now.items (length c.args.founds.now.items) c.cluster_of-cluster.result c.index.result.now refl
    (omega (arith, within, c.requires.checked.beside, place)) c.index.ensures in
    next-own s frame c.args.later.now.packages c.args.place c.args.number c.args.founds.now.items c.index.result.now c.requires.named c.requires.checked
    (subst (λ (k : ℕ). slice_get c.args.founds.now.items k ≡ Some c.index.result.now) place at)

pub returns-in-Some-clause-fits : goal.returns-in-Some-clause-fits
returns-in-Some-clause-fits c =
    let s = c.args.space.now in
    let founds = c.args.founds.now.items in
    let place : c.cluster_of-cluster.result ≡ slice_index s.cluster_of c.args.number = c.cluster_of-cluster.ensures in
    subst (λ (k : ℕ). AreChecked s c.args.later.now.packages (c.args.place + 1) (set founds k c.in-Some.next)) (sym place)
    (checked-own s c.keeps_invariant.ensures.space.frame c.args.later.now.packages c.args.place founds c.requires.checked c.args.number
    c.in-Some.next c.requires.named c.in-Some.ensures)

pub returns-in-None-clause-misfit : goal.returns-in-None-clause-misfit
returns-in-None-clause-misfit c =
    first-misfit c.args.space.now c.keeps_invariant.ensures.space.frame c.args.later.now.packages c.args.place c.args.founds.now.items
    c.requires.checked c.in-None.ensures

pub index_mut-requires : goal.index_mut-requires
index_mut-requires c =
    let within = number-within c.args.space.now c.keeps_invariant.ensures.space.frame c.args.number c.requires.named.own c.requires.named.is_own in
    omega (arith, within, c.requires.checked.beside, c.cluster_of-cluster.ensures)
