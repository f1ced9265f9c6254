use Rattle.std.proofs.Common.{take, arith}
use Rattle.dist_derive.proofs.WaitLemmas.{Propagates-none, Propagates-hint, refuted_hint, open_hint}
use Rattle.dist_derive.proofs.log.Log.look_at.Goals as goal

pub returns-then-number-last-clause-grows : goal.returns-then-number-last-clause-grows
returns-then-number-last-clause-grows c = Propagates-none (take c.args.last c.args.self.now.clauses) c.args.literals.now

pub returns-in-Conflict-clause-grows : goal.returns-in-Conflict-clause-grows
returns-in-Conflict-clause-grows c = Propagates-hint c.args.self.now.clauses c.args.last c.requires.last c.args.literals.now c.take_clause.new.literals
    c.args.number c.take_clause.result c.take_clause.ensures (omega arith)

pub returns-in-Conflict-clause-refuted : goal.returns-in-Conflict-clause-refuted
returns-in-Conflict-clause-refuted c = λ _. refuted_hint c.args.self.now.clauses c.args.last c.requires.last c.args.literals.now
    c.take_clause.new.literals c.args.number c.in-Conflict.ensures (omega arith)

pub returns-clause-grows : goal.returns-clause-grows
returns-clause-grows c = Propagates-hint c.args.self.now.clauses c.args.last c.requires.last c.args.literals.now c.take_clause.new.literals
    c.args.number c.take_clause.result c.take_clause.ensures (omega arith)

pub returns-clause-is_open : goal.returns-clause-is_open
returns-clause-is_open c = λ _ _. open_hint c.args.self.now.clauses c.args.last c.requires.last c.args.literals.now c.take_clause.new.literals
    c.args.number c.take_clause.result c.take_clause.ensures (omega arith, omega arith) c.in_default.not-Conflict
