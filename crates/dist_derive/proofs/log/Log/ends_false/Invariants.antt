use Rattle.std.proofs.Common.{◌≡◌}
use Rattle.dist_derive.specs.HintsPrivate.{AreConflicts}
use Rattle.dist_derive.proofs.FollowsLemmas.{HintsSoFar}
use Rattle.dist_derive.proofs.log.Log.ends_false.Given as goal

abbrev pub invariant-loop-hint : goal.invariant-loop-hint
invariant-loop-hint l = HintsSoFar l.self.clauses l.initial.literals.literals l.hints l.hint-index l.literals.literals l.ended
    × (l.literals.variables ≡ l.self.variables)
    × AreConflicts l.self.clauses l.literals.literals l.conflicts
