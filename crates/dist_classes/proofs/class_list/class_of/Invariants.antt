use Rattle.dist_classes.proofs.ClassOfLemmas.{HasNoneBelow}
use Rattle.dist_classes.proofs.class_list.class_of.Given as goal

-- no class so far has the version
abbrev pub invariant-loop-number : goal.invariant-loop-number
invariant-loop-number l = HasNoneBelow l.classes-inside.classes.items l.version l.number
