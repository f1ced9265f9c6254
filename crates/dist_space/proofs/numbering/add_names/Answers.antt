use Rattle.std.proofs.Common.{length, arith}
use Rattle.std.proofs.lemmas.Result.{err_from_is_err_and}
use Rattle.dist_space.specs.NumberingPrivate.{below, fresh_part}
use Rattle.dist_space.proofs.ExtendLemmas.{below-at, extend-all, extend-more, full-at, length-below}
use Rattle.dist_space.proofs.numbering.add_names.Goals as goal

pub returns-in_err-add_name-clause-err : goal.returns-in_err-add_name-clause-err
returns-in_err-add_name-clause-err c =
    let p = err_from_is_err_and c.from_residual.result c.from_residual.ensures.1 in
    rw (p.1, p.2) (full-at (fresh_part c.args.frame.now) c.args.limit c.args.meanings.now.items c.loop-name.meanings.items
    (below (length c.args.frame.now.names)) c.loop-name.name c.loop-name.name _ (below-at (length c.args.frame.now.names) c.loop-name.name (omega arith))
    c.loop-name.invariant c.in_err-add_name.ensures.err)

pub loop-name-preserved : goal.loop-name-preserved
loop-name-preserved c = extend-more (fresh_part c.args.frame.now) c.args.limit c.args.meanings.now.items c.loop-name.meanings.items
    c.add_name.new.meanings.items (below (length c.args.frame.now.names)) c.loop-name.name c.loop-name.name
    (below-at (length c.args.frame.now.names) c.loop-name.name (omega arith)) c.loop-name.invariant c.in_ok-add_name.ensures.ok

pub returns-clause-ok : goal.returns-clause-ok
returns-clause-ok c = extend-all (fresh_part c.args.frame.now) c.args.limit c.args.meanings.now.items c.loop-name.meanings.items
    (below (length c.args.frame.now.names)) c.loop-name.name (omega (arith, length-below (length c.args.frame.now.names))) c.loop-name.invariant
