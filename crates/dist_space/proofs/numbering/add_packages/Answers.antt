use Rattle.std.proofs.Common.{◌+◌, [], ◌∷◌, List, length, map, arith, subst}
use Rattle.std.specs.List.{flat_map}
use Rattle.std.proofs.lemmas.Result.{err_from_is_err_and}
use Rattle.dist_space.specs.Kept.{IsFull}
use Rattle.dist_space.specs.NumberingPrivate.{below}
use Rattle.dist_space.specs.declared.meaning.Meaning.{Meaning}
use Rattle.dist_space.specs.declared.meaning.Meaning.TheVariants.{Present}
use Rattle.std.proofs.lemmas.List.Concat.{flat_map_single}
use Rattle.dist_space.proofs.ExtendLemmas.{below-at, extend-all, extend-more, extend-same, full-at, length-below}
use Rattle.dist_space.proofs.numbering.add_packages.Goals as goal

pub returns-in_err-add-clause-err : goal.returns-in_err-add-clause-err
returns-in_err-add-clause-err c =
    let p = err_from_is_err_and c.from_residual.result c.from_residual.ensures.1 in
    rw (p.1, p.2) (subst (λ (part : List Meaning). IsFull c.args.limit (length c.args.meanings.now.items + length part) c.in_err-add.field-0.0)
    (flat_map_single (λ r. Present r) (below (length c.args.frame.now.repository.packages)))
    (full-at (λ r. Present r ∷ []) c.args.limit c.args.meanings.now.items c.loop-number.meanings.items (below (length c.args.frame.now.repository.packages))
    c.loop-number.number c.loop-number.number _ (below-at (length c.args.frame.now.repository.packages) c.loop-number.number (omega arith))
    c.loop-number.invariant c.in_err-add.ensures.err))

pub loop-number-preserved : goal.loop-number-preserved
loop-number-preserved c = extend-more (λ r. Present r ∷ []) c.args.limit c.args.meanings.now.items c.loop-number.meanings.items c.add.new.meanings.items
    (below (length c.args.frame.now.repository.packages)) c.loop-number.number c.loop-number.number
    (below-at (length c.args.frame.now.repository.packages) c.loop-number.number (omega arith)) c.loop-number.invariant c.in_ok-add.ensures.ok

pub returns-clause-ok : goal.returns-clause-ok
returns-clause-ok c = extend-same c.args.limit c.args.meanings.now.items (flat_map (λ r. Present r ∷ []) (below (length c.args.frame.now.repository.packages)))
    (map (λ r. Present r) (below (length c.args.frame.now.repository.packages))) c.loop-number.meanings.items
    (flat_map_single (λ r. Present r) (below (length c.args.frame.now.repository.packages)))
    (extend-all (λ r. Present r ∷ []) c.args.limit c.args.meanings.now.items c.loop-number.meanings.items (below (length c.args.frame.now.repository.packages))
    c.loop-number.number (omega (arith, length-below (length c.args.frame.now.repository.packages))) c.loop-number.invariant)
