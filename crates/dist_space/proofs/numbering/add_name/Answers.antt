use Rattle.std.proofs.Common.{◌+◌, [], ◌∷◌, List, length, map, arith, subst}
use Rattle.std.specs.List.{flat_map}
use Rattle.std.proofs.lemmas.Result.{err_from_is_err_and}
use Rattle.dist_space.specs.Kept.{IsFull}
use Rattle.dist_space.specs.NumberingPrivate.{below}
use Rattle.dist_space.specs.Space.{fresh_classes}
use Rattle.dist_space.specs.declared.meaning.Meaning.{Meaning}
use Rattle.dist_space.specs.declared.meaning.Meaning.TheVariants.{Fresh}
use Rattle.std.proofs.lemmas.List.Concat.{flat_map_single}
use Rattle.dist_space.proofs.ExtendLemmas.{below-at, extend-all, extend-more, extend-same, full-at, length-below}
use Rattle.dist_space.proofs.numbering.add_name.Goals as goal

pub returns-in_err-add-clause-err : goal.returns-in_err-add-clause-err
returns-in_err-add-clause-err c =
    let p = err_from_is_err_and c.from_residual.result c.from_residual.ensures.1 in
    rw (p.1, p.2) (subst (λ (part : List Meaning). IsFull c.args.limit (length c.args.meanings.now.items + length part) c.in_err-add.field-0.0)
    (flat_map_single (λ k. Fresh c.args.name k) (below (length (fresh_classes c.args.frame.now c.args.name))))
    (full-at (λ k. Fresh c.args.name k ∷ []) c.args.limit c.args.meanings.now.items c.loop-class.meanings.items
    (below (length (fresh_classes c.args.frame.now c.args.name))) c.loop-class.class c.loop-class.class _
    (below-at (length (fresh_classes c.args.frame.now c.args.name)) c.loop-class.class (omega arith)) c.loop-class.invariant c.in_err-add.ensures.err))

pub loop-class-preserved : goal.loop-class-preserved
loop-class-preserved c = extend-more (λ k. Fresh c.args.name k ∷ []) c.args.limit c.args.meanings.now.items c.loop-class.meanings.items c.add.new.meanings.items
    (below (length (fresh_classes c.args.frame.now c.args.name))) c.loop-class.class c.loop-class.class
    (below-at (length (fresh_classes c.args.frame.now c.args.name)) c.loop-class.class (omega arith)) c.loop-class.invariant c.in_ok-add.ensures.ok

pub returns-clause-ok : goal.returns-clause-ok
returns-clause-ok c = extend-same c.args.limit c.args.meanings.now.items
    (flat_map (λ k. Fresh c.args.name k ∷ []) (below (length (fresh_classes c.args.frame.now c.args.name))))
    (map (λ k. Fresh c.args.name k) (below (length (fresh_classes c.args.frame.now c.args.name)))) c.loop-class.meanings.items
    (flat_map_single (λ k. Fresh c.args.name k) (below (length (fresh_classes c.args.frame.now c.args.name))))
    (extend-all (λ k. Fresh c.args.name k ∷ []) c.args.limit c.args.meanings.now.items c.loop-class.meanings.items
    (below (length (fresh_classes c.args.frame.now c.args.name))) c.loop-class.class
    (omega (arith, length-below (length (fresh_classes c.args.frame.now c.args.name)))) c.loop-class.invariant)
