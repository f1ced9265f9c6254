use Rattle.std.proofs.Common.{◌+◌, Bool, take, sym, subst, arith}
use Rattle.dist_derive.proofs.WaitLemmas.{Propagates-then, Propagates-hint}
use Rattle.dist_derive.proofs.SweepLemmas.{SweepsSoFar, sweeps_none, sweeps_open, sweeps_unit, sweeps_conflict, sweeps_all}
use Rattle.dist_derive.proofs.log.Log.sweep.Goals as goal
use Rattle.dist_derive.proofs.log.Log.sweep.Goals.{in-Unit, in-Open}

pub loop-place-init : goal.loop-place-init
loop-place-init c = sweeps_none c.args.self.now.clauses c.args.last c.args.first c.args.literals.now

pub returns-in-Conflict : goal.returns-in-Conflict
returns-in-Conflict c = record {
  grows = Propagates-then (take c.args.last c.args.self.now.clauses) c.args.literals.now c.loop-place.literals c.take_clause.new.literals
      c.loop-place.invariant.grows
      (Propagates-hint c.args.self.now.clauses c.args.last c.requires.last c.loop-place.literals c.take_clause.new.literals (c.loop-place.place + 1)
      c.take_clause.result c.take_clause.ensures (omega arith));
  found = sweeps_conflict c.args.self.now.clauses c.args.last c.args.first c.requires.last c.loop-place.place c.loop-place-test.true c.args.literals.now
      c.loop-place.literals c.take_clause.new.literals c.loop-place.grown c.loop-place.invariant c.in-Conflict.ensures;
}

pub loop-place-preserved : goal.loop-place-preserved
loop-place-preserved c =
    let clauses = c.args.self.now.clauses in
    let place = c.loop-place.place in
    let start = c.args.literals.now in
    let now = c.loop-place.literals in
    let next = c.take_clause.new.literals in
    elim c.match-take_clause.branch [
      | in-Unit w ↦ subst (λ (g : Bool). SweepsSoFar clauses c.args.last c.args.first (place + 1) start next g) (sym w.grown-is)
          (sweeps_unit clauses c.args.last c.args.first c.requires.last place c.loop-place-test.true start now next c.loop-place.grown
          c.loop-place.invariant w.in-Unit.field-0 w.in-Unit.ensures)
      | in-Open w ↦ subst (λ (g : Bool). SweepsSoFar clauses c.args.last c.args.first (place + 1) start next g) (sym w.grown-is)
          (sweeps_open clauses c.args.last c.args.first c.requires.last place c.loop-place-test.true start now next c.loop-place.grown
          c.loop-place.invariant w.in-Open.ensures)
    ]

pub returns-clause-found : goal.returns-clause-found
returns-clause-found c = sweeps_all c.args.self.now.clauses c.args.last c.args.first c.requires.last c.loop-place.place c.args.literals.now
    c.loop-place.literals (omega arith)
    (subst (λ (g : Bool). SweepsSoFar c.args.self.now.clauses c.args.last c.args.first c.loop-place.place c.args.literals.now c.loop-place.literals g)
    c.if-grown.false c.loop-place.invariant)
