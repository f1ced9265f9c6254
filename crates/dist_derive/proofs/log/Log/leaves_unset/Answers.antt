use Rattle.std.proofs.Common.{take, subst}
use Rattle.std.proofs.lemmas.Bool.{false≢true}
use Rattle.dist_derive.specs.AssumePrivate.{AssumesAll}
use Rattle.dist_derive.proofs.BeginLemmas.{nothing_begins, nothing_refuses, begins_unset, unset_begins}
use Rattle.dist_derive.proofs.log.Log.leaves_unset.Goals as goal

pub returns-then-not-assume_all-clause-answer : goal.returns-then-not-assume_all-clause-answer
returns-then-not-assume_all-clause-answer c = (
  λ e. absurd (false≢true e),
  λ h. absurd (nothing_refuses (take c.args.last c.args.self.now.clauses) c.args.assumptions.now c.args.literals.now c.assume_all.new.self
      c.requires.none (subst (λ b. AssumesAll c.args.literals.now c.assume_all.new.self c.args.assumptions.now b) c.if-not-assume_all.true
      c.assume_all.ensures) c.args.clause.now h),
)

pub returns-clause-answer : goal.returns-clause-answer
returns-clause-answer c =
    let clauses = take c.args.last c.args.self.now.clauses in
    let now = c.assume_all.new.self.literals in
    let begins = nothing_begins clauses c.args.assumptions.now c.args.literals.now c.assume_all.new.self c.requires.none
    (subst (λ b. AssumesAll c.args.literals.now c.assume_all.new.self c.args.assumptions.now b) c.if-not-assume_all.false c.assume_all.ensures) in (
      λ e. unset_begins clauses c.args.assumptions.now now c.args.clause.now begins (c.is_left_unset.ensures.answer.0 e),
      λ h. c.is_left_unset.ensures.answer.1 (begins_unset clauses c.args.assumptions.now now c.args.clause.now begins h),
    )
