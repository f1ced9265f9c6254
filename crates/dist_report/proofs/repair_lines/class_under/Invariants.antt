use Rattle.std.proofs.Common.{◌≡◌, ℕ, ◌<◌, false}
use Rattle.dist_clause.specs.Formula.{value_of}
use Rattle.dist_space.specs.Space.{variable_of}
use Rattle.dist_space.specs.declared.meaning.Meaning.TheVariants.{At}
use Rattle.dist_report.proofs.repair_lines.class_under.Given as goal

abbrev pub invariant-loop-class : goal.invariant-loop-class
invariant-loop-class l = (k : ℕ) → k < l.class → value_of l.values (variable_of l.space (At l.cluster k)) ≡ false
