use Rattle.std.proofs.Common.{◌≡◌, ℕ, ◌<◌, [], length, get_or}
use Rattle.dist_classes.specs.Answers.{AreClassesOfName}
use Rattle.dist_space.specs.Kept.{AreExampled}
use Rattle.dist_space.proofs.frame.push_name_classes.Given as goal

abbrev pub invariant-loop-name : goal.invariant-loop-name
invariant-loop-name l = record {
  counted : length l.classes.items ≡ l.name;
  are : (k : ℕ) → k < l.name → AreClassesOfName l.finder (get_or l.names k []) (get_or l.classes.items k []);
  examples : (k : ℕ) → k < l.name → AreExampled (get_or l.classes.items k []);
}
