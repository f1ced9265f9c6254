use Rattle.std.proofs.Common.{◌∙◌, ℕ, List, arith, map, sym, subst}
use Rattle.dist_clause.specs.Formula.{IsClauseOver, Literal, negation}
use Rattle.dist_derive.specs.Follows.{Follows}
use Rattle.dist_line_write.proofs.Refuted.{hints-from-one, negated-over, refuted-by}
use Rattle.dist_line_write.proofs.asker.are_refuted.Goals as goal

pub follows-requires-clause-clause : goal.follows-requires-clause-clause
follows-requires-clause-clause c =
    subst (λ (clause : List Literal). IsClauseOver c.args.log.now.variables clause) (sym (c.deref.ensures.value ∙ c.in_ok-clause.ensures))
    (negated-over c.args.log.now.variables c.args.assumptions.now c.requires.assumptions)

pub returns-clause-refuted : goal.returns-clause-refuted
returns-clause-refuted c told =
    let log = c.args.log.now in
    let assumed : List Literal = c.args.assumptions.now in
    let hints : List ℕ = c.args.hints.now in
    let follows : Follows log.clauses (map negation assumed) hints = subst (λ (clause : List Literal). Follows log.clauses clause hints)
    (c.deref.ensures.value ∙ c.in_ok-clause.ensures) (c.follows.ensures.answer.0 told) in
    refuted-by log assumed hints (follows, omega (arith, c.if-hints-variables.false, c.variables.ensures.value))
    (λ value model. c.lines_keep_models.ensures.what_follows log.inputs log.clauses (map negation assumed) hints value c.requires.lines_follow follows model)

pub returns-clause-numbers : goal.returns-clause-numbers
returns-clause-numbers c told = hints-from-one c.args.log.now c.deref.result.now c.args.hints.now (c.follows.ensures.answer.0 told)
