use Rattle.std.proofs.Common.{◌↔◌, Bool, IsTrue, take}
use Rattle.std.proofs.lemmas.Bool.{false≢true}
use Rattle.dist_derive.specs.New.{LeavesFirstUnset}
use Rattle.dist_derive.specs.WatchesPrivate.{IsStanding, IsStandingIfMade}
use Rattle.dist_derive.proofs.ResultLemmas.{if_ok_map}
use Rattle.dist_derive.proofs.StandingLemmas.{told_under}
use Rattle.dist_derive.proofs.log.Log.tell.Goals as goal

pub returns-then-not-branch : goal.returns-then-not-branch
returns-then-not-branch c = record {
  answer = (λ e. absurd (false≢true e), λ h. absurd (c.in_ok-stand.ensures.refused c.if-not-branch.true c.args.clause.now h));
  standing = λ _. c.in_ok-stand.ensures.standing;
}

pub returns-clause-answer : goal.returns-clause-answer
returns-clause-answer c =
    let clauses = c.args.self.now.clauses in
    let stands = c.in_ok-stand.ensures in
    let under = stands.under c.if-not-branch.false in
    if_ok_map c.tell_clause.result
    (λ (answer : Bool). IsTrue answer ↔ LeavesFirstUnset (take c.args.last clauses) c.stand.new.watching.literals.literals c.args.clause.now)
    (λ (answer : Bool). IsTrue answer ↔ LeavesFirstUnset (take c.args.last clauses) c.args.assumptions.now c.args.clause.now)
    (λ answer h. told_under clauses c.args.self.now.variables c.args.last c.args.assumptions.now c.args.clause.now c.stand.new.watching answer
    stands.standing under.0 under.1 h) c.tell_clause.ensures.answer

pub returns-clause-standing : goal.returns-clause-standing
returns-clause-standing c = if_ok_map c.tell_clause.result
    (λ (answer : Bool). IsStanding c.args.self.now.clauses c.args.self.now.variables c.tell_clause.new.watching)
    (λ (answer : Bool). IsStandingIfMade c.args.self.now.clauses c.args.self.now.variables c.tell_clause.new.watching)
    (λ answer h _. h) c.tell_clause.ensures.standing
