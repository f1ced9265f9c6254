use Rattle.std.proofs.Common.{◌≡◌, take}
use Rattle.dist_line_check.proofs.MemberLemmas.{AreSame}
use Rattle.dist_line_check.proofs.members.fill.Given as goal

abbrev pub invariant-loop-variable : goal.invariant-loop-variable
invariant-loop-variable l = record {
  variables : l.set.variables ≡ l.initial.set.variables;
  same : AreSame l.set.members (take l.variable-index l.listed);
}
