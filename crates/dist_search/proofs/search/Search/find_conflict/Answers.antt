use Rattle.std.proofs.Common.{◌≡◌, ◌≢◌, length, sym, subst, ap, arith, IfSome, IfNone}
use Rattle.dist_clause.specs.ClauseList.{clause_at}
use Rattle.dist_derive.specs.Propagation.{AllFalse}
use Rattle.dist_derive.specs.Follows.{IsNumberOf}
use Rattle.dist_search.specs.Guard.{AreGuarded}
use Rattle.dist_search.specs.Search.{SearchState, IsSearching}
use Rattle.dist_search.proofs.StepLemmas.{stuck_conflict, is_going, conflict_after, rest_after}
use Rattle.dist_search.proofs.search.Search.find_conflict.Goals as goal

pub returns-then-self-ne0-clause-conflict : goal.returns-then-self-ne0-clause-conflict
returns-then-self-ne0-clause-conflict c =
    let same = ap (λ (s : SearchState). s.conflict) c.self.view_is in
    stuck_conflict c.args.log.now.clauses c.args.assumptions.now c.args.cone.now.members c.requires.searching same
    (subst (λ n. n ≢ 0) same c.if-self-ne0.true)

pub propagate-requires-clause-guarded : goal.propagate-requires-clause-guarded
propagate-requires-clause-guarded c =
    let h = subst (λ s. IsSearching c.args.log.now.clauses c.args.assumptions.now c.args.cone.now.members s) (sym c.self.view_is) c.requires.searching in
    (is_going c.args.log.now.clauses c.args.assumptions.now c.args.cone.now.members h c.if-self-ne0.false).guarded

pub invariant_of-self : goal.invariant_of-self
invariant_of-self c = record {
  stated = omega (arith, c.self.invariant.stated, c.propagate.ensures.same_variables);
  singles = omega (arith, c.self.invariant.singles, c.propagate.ensures.same_variables);
  learned = omega (arith, c.self.invariant.learned, c.propagate.ensures.same_variables);
}

pub returns-in_default-clause-rest : goal.returns-in_default-clause-rest
returns-in_default-clause-rest c =
    let clauses = c.args.log.now.clauses in
    let members = c.args.cone.now.members in
    let h = subst (λ s. IsSearching clauses c.args.assumptions.now members s) (sym c.self.view_is) c.requires.searching in
    let going = is_going clauses c.args.assumptions.now members h c.if-self-ne0.false in
    let after = c.in_ok-number.ensures in
    rest_after clauses c.args.assumptions.now members h going c.keeps_invariant.ensures.ordered after.advances
    (subst (λ found. IfNone found (AreGuarded c.propagate.new.watches clauses members c.propagate.new.trail.literals c.propagate.new.trail.literals))
    c.in_default.is after.settled)
    (subst (λ found. IfNone found (c.propagate.new.trail.head ≡ length c.propagate.new.trail.literals)) c.in_default.is after.taken)

pub returns-clause-conflict : goal.returns-clause-conflict
returns-clause-conflict c =
    let clauses = c.args.log.now.clauses in
    let members = c.args.cone.now.members in
    let h = subst (λ s. IsSearching clauses c.args.assumptions.now members s) (sym c.self.view_is) c.requires.searching in
    let going = is_going clauses c.args.assumptions.now members h c.if-self-ne0.false in
    let after = c.in_ok-number.ensures in
    let found = subst (λ found. IfSome found (λ number. IsNumberOf clauses number × AllFalse c.propagate.new.trail.literals (clause_at clauses number)))
    c.in-Some.is after.conflict in
    conflict_after clauses c.args.assumptions.now members h going c.keeps_invariant.ensures.ordered after.advances c.in-Some.number found.0 found.1
