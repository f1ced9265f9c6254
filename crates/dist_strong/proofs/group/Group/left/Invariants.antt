use Rattle.std.proofs.Common.{◌-◌, ◌≤◌}
use Rattle.dist_strong.specs.Group.{AreLeftUpto}
use Rattle.dist_strong.proofs.group.Group.left.Given as goal

abbrev pub invariant-others : goal.invariant-others
invariant-others l = record {
  within : l.last ≤ l.self.variables;
  are : AreLeftUpto l.window l.self l.last l.left.items;
}

abbrev pub decreases-others : goal.decreases-others
decreases-others l = l.self.variables - l.last
