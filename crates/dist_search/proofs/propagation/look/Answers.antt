use Rattle.dist_derive.specs.Watches.{WatchLists, pair_of, HasOther, AreWatchesOf}
use Rattle.dist_search.specs.GuardPrivate.{Looks}
use Rattle.std.proofs.Common.{true, ◌≤◌, ◌-◌, [], ap, sym, subst, ◌∙◌, arith}
use Rattle.std.specs.List.{Contains}
use Rattle.std.proofs.lemmas.List.Elements.{All-contains}
use Rattle.dist_clause.specs.Formula.{Literal, IsClauseOver}
use Rattle.dist_clause.specs.ClauseList.{clause_at}
use Rattle.dist_derive.specs.Propagation.{OthersFalse, IsFalse, IsUnset}
use Rattle.dist_derive.specs.TrueLiterals.{LiteralList, HasTruth}
use Rattle.dist_search.proofs.GuardLiterals.{all_false_with, unset_by}
use Rattle.dist_search.proofs.GuardLemmas.{looks_true, looks_false, looks_moved, looks_unit, kept_free}
use Rattle.dist_search.proofs.propagation.look.Goals as goal

pub status-truth-requires : goal.status-truth-requires
status-truth-requires c =
    let n = c.args.log.now.variables in
    let clause = clause_at c.args.log.now.clauses c.args.number in
    let over : IsClauseOver n clause = c.keeps_invariant.ensures.within.over_variables (c.args.number - 1) []
    (omega (arith, c.requires.from_one, c.requires.to_last)) in
    let range = All-contains (λ (l : Literal). (1 ≤ l.variable) × (l.variable ≤ n)) clause c.args.first over.in_range c.requires.member in
    subst (λ k. c.args.first.variable ≤ k) (sym (ap (λ (t : LiteralList). t.variables) c.trues.ensures ∙ c.requires.same_variables)) range.1

pub returns-in-True-clause-looks : goal.returns-in-True-clause-looks
returns-in-True-clause-looks c = λ l _. looks_true c.args.log.now.clauses c.args.cone.now.members c.args.number l
    c.args.watches.now c.args.trail.now c.requires.watches c.keeps_invariant-2.ensures.ordered.reasons (
      c.args.first,
      c.requires.member,
      subst (λ (t : LiteralList). Contains t.literals c.args.first) c.trues.ensures
          (subst (λ truth. HasTruth c.trues.result.now.literals c.args.first truth) c.in-True.is c.status-truth.ensures).0,
    )

pub returns-in-Some-clause-looks : goal.returns-in-Some-clause-looks
returns-in-Some-clause-looks c = λ l was.
    let clauses = c.args.log.now.clauses in
    let cone = c.args.cone.now.members in
    let number = c.args.number in
    let u : WatchLists = c.note_place.new.self in
    let v = c.move_to.new.self in
    let s = c.args.trail.now in
    let first = c.args.first in
    let other = c.in-Some.found.1 in
    subst (λ (w : WatchLists). Looks clauses cone number l w v s s true) c.note_place.ensures
    (looks_moved clauses cone number (c.requires.from_one, c.requires.to_last) l u v s
    (record {
      kept = first;
      taken = other;
      was = subst (λ (w : WatchLists). HasOther (pair_of w number) l first) (sym c.note_place.ensures) was;
      is = c.in_ok-move_to.ensures.pair;
      apart = c.in-Some.ensures.some.1;
      free = subst (λ (t : LiteralList). ¬ IsFalse t.literals other) c.trues-2.ensures c.in-Some.ensures.some.2;
    })
    (λ n from apart seen f. kept_free u v n (c.in_ok-move_to.ensures.other_pairs n from apart) seen f)
    (λ m _ not_taken. c.in_ok-move_to.ensures.other_lists m not_taken)
    (c.in_ok-move_to.ensures.watches clauses c.requires.member
    (subst (λ clause. Contains clause other) c.clause-clause.ensures.value c.in-Some.ensures.some.0)
    (subst (λ (w : WatchLists). AreWatchesOf w clauses) (sym c.note_place.ensures) c.requires.watches))
    c.keeps_invariant-2.ensures.ordered.reasons)

pub returns-in-False-clause-looks : goal.returns-in-False-clause-looks
returns-in-False-clause-looks c = λ l _. looks_false c.args.log.now.clauses c.args.cone.now.members c.args.number (c.requires.from_one, c.requires.to_last) l
    c.args.watches.now c.args.trail.now c.requires.watches c.keeps_invariant-2.ensures.ordered.reasons
    (all_false_with c.args.trail.now.literals (clause_at c.args.log.now.clauses c.args.number) c.args.first
    (subst (λ (t : LiteralList). IsFalse t.literals c.args.first) c.trues.ensures
    (subst (λ truth. HasTruth c.trues.result.now.literals c.args.first truth) c.in-False.is c.status-truth.ensures).1)
    (subst (λ clause. OthersFalse c.args.trail.now.literals clause c.args.first) c.clause-clause.ensures.value
    (subst (λ (t : LiteralList). OthersFalse t.literals c.clause-clause.result.now c.args.first) c.trues-2.ensures c.in_default-free_from.ensures.none)))

pub returns-clause-looks : goal.returns-clause-looks
returns-clause-looks c = λ l _.
    let first = c.args.first in
    looks_unit c.args.log.now.clauses c.args.cone.now.members c.args.number (c.requires.from_one, c.requires.to_last) l c.args.watches.now
    c.args.trail.now c.push.new.self first c.requires.watches c.keeps_invariant-2.ensures.ordered.reasons
    (record {
      member = c.requires.member;
      unset = subst (λ (t : LiteralList). IsUnset t.literals first) c.trues.ensures
          (unset_by c.trues.result.now.literals first c.status-truth.result c.status-truth.ensures c.in_default.not-True c.in_default-truth.not-False);
      others = subst (λ clause. OthersFalse c.args.trail.now.literals clause first) c.clause-clause.ensures.value
          (subst (λ (t : LiteralList). OthersFalse t.literals c.clause-clause.result.now first) c.trues-2.ensures c.in_default-free_from.ensures.none);
    })
    c.requires.within_cone c.push.ensures
