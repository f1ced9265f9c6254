use Rattle.std.proofs.Common.{sym, ◌∙◌}
use Rattle.std.proofs.lemmas.Bool.{true≢false}
use Rattle.dist_explain.proofs.FileLemmas.{right-inputs, wrong-inputs}
use Rattle.dist_explain.proofs.explaining.ExplainingAnswering.inputs.Goals as goal

pub returns-then-are_numbers_for-clause-ok : goal.returns-then-are_numbers_for-clause-ok
returns-then-are_numbers_for-clause-ok c =
    right-inputs c.args.self.now.repo.now c.args.limits.now c.args.numbers.now c.in_ok-set.set c.len.result c.variables.result
    c.in_ok-set.ensures.ok c.len.ensures.value c.variables.ensures.value (c.are_numbers_for.ensures.0 c.if-are_numbers_for.true)

pub returns-else-are_numbers_for-clause-ok : goal.returns-else-are_numbers_for-clause-ok
returns-else-are_numbers_for-clause-ok c =
    wrong-inputs c.args.self.now.repo.now c.args.limits.now c.args.numbers.now c.in_ok-set.set c.len.result c.variables.result
    c.in_ok-set.ensures.ok c.len.ensures.value c.variables.ensures.value
    (λ fits. true≢false (sym (c.are_numbers_for.ensures.1 fits) ∙ c.if-are_numbers_for.false))
