use Rattle.std.proofs.Common.{◌≡◌, map}
use Rattle.std.specs.List.{range_with_len}
use Rattle.dist_space.specs.Space.{variable_of}
use Rattle.dist_space.specs.declared.meaning.Meaning.TheVariants.{At}
use Rattle.dist_check.proofs.layout.class_variables.Given as goal

abbrev pub invariant-loop-class : goal.invariant-loop-class
invariant-loop-class l = l.variables.items ≡ map (λ class. variable_of l.space (At l.cluster class)) (range_with_len 0 l.class)
