use Rattle.std.proofs.Common.{◌∙◌, ◌++◌, [], ◌∷◌, ap, arith, sym, List, ℕ}
use Rattle.dist_clause.specs.Formula.{value_of}
use Rattle.dist_line_write.specs.RangeLaws.{filter-found, filter-none}
use Rattle.dist_line_write.proofs.words.true_variables.Goals as goal

pub members-preserved-in-Some : goal.members-preserved-in-Some
members-preserved-in-Some c =
    let values = c.args.values.now in
    let last = c.members.last in
    let some = c.in-Some.ensures.some in
    record {
      within = omega (arith, some.2, c.requires);
      are = c.in_ok-push-in-Some.ensures.items ∙ ap (λ (ms : List ℕ). ms ++ c.in-Some.variable ∷ []) c.members.invariant.are
          ∙ sym (filter-found (λ v. value_of values v) last c.in-Some.variable (omega (arith, some.1)) some.3
          (λ w above within. some.4 w (omega (arith, above)) (omega (arith, above)) within));
    }

pub members-preserved : goal.members-preserved
members-preserved c =
    record {
      within = omega arith;
      are = c.members.invariant.are ∙ sym (filter-none (λ v. value_of c.args.values.now v) c.members.last c.args.variables c.members.invariant.within
          (λ w above within. c.in-None.ensures.none w (omega (arith, above)) (omega (arith, above)) (omega (arith, within, c.requires))));
    }
