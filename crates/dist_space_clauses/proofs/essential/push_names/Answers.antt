use Rattle.std.proofs.Common.{◌+◌, arith}
use Rattle.std.proofs.lemmas.Result.{err_from_is_err_and}
use Rattle.dist_clause.specs.DemandLaws.{cause-chain, set-chain, set-own}
use Rattle.dist_space_clauses.specs.SpaceClauses.{IsDemand, space_demands}
use Rattle.dist_space_clauses.proofs.NameFronts.{NamedBefore, named-end, named-start}
use Rattle.dist_space_clauses.proofs.essential.push_names.Goals as goal

pub loop-number-init : goal.loop-number-init
loop-number-init c = named-start c.args.space.now c.keeps_invariant.ensures.space c.args.set.now c.args.set.now c.requires.front

pub push_name-requires-clause-front : goal.push_name-requires-clause-front
push_name-requires-clause-front c =
    let s = c.args.space.now in
    set-own (space_demands s) (NamedBefore s c.loop-number.number) c.args.set.now.clause_limit c.args.set.now.literal_limit c.loop-number.set
    c.loop-number.invariant

pub returns-in_err-push_name-clause-err : goal.returns-in_err-push_name-clause-err
returns-in_err-push_name-clause-err c =
    let s = c.args.space.now in
    let p = err_from_is_err_and c.from_residual.result c.from_residual.ensures.1 in
    rw (p.1, p.2) (cause-chain (space_demands s) (NamedBefore s c.loop-number.number) (IsDemand s) c.args.set.now.clause_limit c.args.set.now.literal_limit
    c.loop-number.set _ c.loop-number.invariant c.in_err-push_name.ensures.err)

pub loop-number-preserved : goal.loop-number-preserved
loop-number-preserved c =
    let s = c.args.space.now in
    let n = c.loop-number.number in
    set-chain (space_demands s) (NamedBefore s n) (NamedBefore s (n + 1)) c.args.set.now.clause_limit c.args.set.now.literal_limit c.loop-number.set
    c.push_name.new.set c.loop-number.invariant
    c.in_ok-push_name.ensures.ok

pub returns-clause-ok : goal.returns-clause-ok
returns-clause-ok c =
    named-end c.args.space.now c.keeps_invariant.ensures.space c.args.set.now c.loop-number.number c.loop-number.set c.requires.essential
    (let e = c.package_count-number-end.ensures in omega (arith, e, c.loop-number-test.false)) c.loop-number.invariant
