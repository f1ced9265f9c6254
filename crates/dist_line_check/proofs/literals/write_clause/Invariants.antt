use Rattle.std.proofs.Common.{◌≡◌, take}
use Rattle.dist_cert.specs.Groups.{clause_of}
use Rattle.dist_line_check.proofs.literals.write_clause.Given as goal

abbrev pub invariant-loop-literal : goal.invariant-loop-literal
invariant-loop-literal l = l.clause.items ≡ clause_of (take l.literal-index l.literals)
