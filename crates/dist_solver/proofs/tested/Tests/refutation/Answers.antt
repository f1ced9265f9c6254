use Rattle.std.proofs.Common.{map, refl, sym, subst, ◌∙◌}
use Rattle.dist_clause.specs.Formula.{negation, IsClauseOver}
use Rattle.dist_derive.specs.Follows.{Follows}
use Rattle.dist_solver.specs.Ask.{IsRefutation}
use Rattle.dist_solver.proofs.RefutationLemmas.{negated_over, refuted_by}
use Rattle.dist_solver.proofs.tested.Tests.refutation.Goals as goal

pub follows-requires-clause-clause : goal.follows-requires-clause-clause
follows-requires-clause-clause c = subst (λ clause. IsClauseOver c.args.log.now.variables clause) (sym (c.deref.ensures.value ∙ c.in_ok-clause.ensures))
    (negated_over c.args.log.now.variables c.args.assumptions.now c.requires.assumptions)

pub returns-clause-refutation : goal.returns-clause-refutation
returns-clause-refutation c =
    let log = c.args.log.now in
    let assumed = c.args.assumptions.now in
    let hints = c.args.hints.now in
    let follows : Follows log.clauses (map negation assumed) hints =
    subst (λ clause. Follows log.clauses clause hints) (c.deref.ensures.value ∙ c.in_ok-clause.ensures) (c.if-not-follows.ensures.answer.0 refl) in
    subst (λ hs. IsRefutation log assumed hs) (sym (c.of.ensures ∙ c.in_ok-from_slice.ensures.items))
    (refuted_by log assumed (λ clause used value follow model.
    c.lines_keep_models.ensures.what_follows log.inputs log.clauses clause used value c.requires.lines_follow follow model) hints follows
    (c.if-not-is_short.ensures refl))
