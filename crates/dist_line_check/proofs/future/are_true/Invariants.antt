use Rattle.std.proofs.Common.{Bool, ℕ}
use Rattle.dist_derive.specs.VariableSet.{GivesTrue}
use Rattle.dist_line_check.proofs.FutureLemmas.{AreTrueIn}
use Rattle.dist_line_check.proofs.future.are_true.Given as goal

abbrev pub invariant-loop-before : goal.invariant-loop-before
invariant-loop-before l = (value : ℕ → Bool) → GivesTrue value l.trues.members → AreTrueIn value l.log.clauses l.behind l.before
