use Rattle.std.proofs.Common.{◌+◌, arith}
use Rattle.std.proofs.lemmas.Option.{slice_get_within}
use Rattle.std.proofs.lemmas.Result.{err_from_is_err_and}
use Rattle.dist_clause.specs.DemandLaws.{cause-chain, set-chain, set-own}
use Rattle.dist_space_clauses.specs.GatheringPrivate.{IsBelow}
use Rattle.dist_space_clauses.specs.SpaceClauses.{IsDemand, space_demands}
use Rattle.dist_space.specs.Space.{variable_of}
use Rattle.dist_space.specs.declared.meaning.Meaning.TheVariants.{Present}
use Rattle.dist_space_clauses.proofs.GroupFronts.{items-end}
use Rattle.dist_space_clauses.proofs.items.push_items.Goals as goal

pub push_item-requires-clause-item : goal.push_item-requires-clause-item
push_item-requires-clause-item c = record { holder = c.args.package.now; is_holder = c.requires.package; is_item = c.get.ensures }

pub push_item-requires-clause-front : goal.push_item-requires-clause-front
push_item-requires-clause-front c =
    let s = c.args.space.now in
    set-own (space_demands s) (IsBelow s 4 (variable_of s (Present c.args.number)) c.loop-place.place) c.args.set.now.clause_limit
    c.args.set.now.literal_limit c.loop-place.set c.loop-place.invariant

pub returns-in_err-push_item-clause-err : goal.returns-in_err-push_item-clause-err
returns-in_err-push_item-clause-err c =
    let s = c.args.space.now in
    let p = err_from_is_err_and c.from_residual.result c.from_residual.ensures.1 in
    rw (p.1, p.2) (cause-chain (space_demands s) (IsBelow s 4 (variable_of s (Present c.args.number)) c.loop-place.place) (IsDemand s)
    c.args.set.now.clause_limit c.args.set.now.literal_limit c.loop-place.set _ c.loop-place.invariant c.in_err-push_item.ensures.err)

pub loop-place-preserved : goal.loop-place-preserved
loop-place-preserved c =
    let s = c.args.space.now in
    let v = variable_of s (Present c.args.number) in
    set-chain (space_demands s) (IsBelow s 4 v c.loop-place.place) (IsBelow s 4 v (c.loop-place.place + 1)) c.args.set.now.clause_limit
    c.args.set.now.literal_limit c.loop-place.set c.push_item.new.set
    c.loop-place.invariant c.in_ok-push_item.ensures.ok

pub returns-clause-ok : goal.returns-clause-ok
returns-clause-ok c =
    let s = c.args.space.now in
    let is_meaning = slice_get_within s.repository.packages c.args.number c.args.package.now c.requires.package in
    items-end s c.keeps_invariant.ensures.space c.args.set.now c.args.number is_meaning c.loop-place.place c.args.package.now c.loop-place.set
    c.requires.package
    (let e = c.len-place-end.ensures in omega (arith, e, c.loop-place-test.false)) c.loop-place.invariant
