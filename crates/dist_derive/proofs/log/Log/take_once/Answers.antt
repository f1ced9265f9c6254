use Rattle.std.proofs.Common.{refl, subst, sym}
use Rattle.std.proofs.lemmas.List.Elements.{All-contains}
use Rattle.dist_clause.specs.ClauseList.{clause_at}
use Rattle.dist_derive.specs.Propagation.{AllFalse}
use Rattle.dist_derive.specs.Follows.{IsNumberOf}
use Rattle.dist_derive.specs.TrueLiterals.{LiteralList}
use Rattle.dist_derive.specs.HintsPrivate.{AreConflicts}
use Rattle.dist_derive.proofs.FollowsLemmas.{conflicts_more, conflicts_kept}
use Rattle.dist_derive.proofs.log.Log.take_once.Goals as goal

pub returns-then-has-clause-taken : goal.returns-then-has-clause-taken
returns-then-has-clause-taken c =
    let clauses = c.args.self.now.clauses in
    let known = All-contains (λ k. IsNumberOf clauses k × AllFalse c.args.literals.now.literals (clause_at clauses k)) c.args.conflicts.now c.args.hint
    c.requires.known (c.has.ensures c.if-has.true) in
    (refl, known.0, known.1)

pub returns-in-Conflict-clause-known : goal.returns-in-Conflict-clause-known
returns-in-Conflict-clause-known c =
    let h = c.in-Conflict.ensures in
    subst (λ (t : LiteralList). AreConflicts c.args.self.now.clauses t.literals c.remember.new.self) (sym h.0)
    (conflicts_more c.args.self.now.clauses c.args.literals.now.literals c.args.conflicts.now c.remember.new.self c.args.hint
    c.requires.known h.1 h.2 c.remember.ensures)

pub returns-in_default : goal.returns-in_default
returns-in_default c = record {
  taken = c.take_clause-outcome.ensures;
  known = conflicts_kept c.args.self.now.clauses c.args.literals.now c.take_clause-outcome.new.literals c.args.conflicts.now c.args.hint
      c.take_clause-outcome.result c.take_clause-outcome.ensures c.requires.known;
}
