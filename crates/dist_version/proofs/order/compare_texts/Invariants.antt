use Rattle.std.proofs.Common.{◌≡◌, length}
use Rattle.dist_version.proofs.InStep.{texts_cmp}
use Rattle.dist_version.proofs.order.compare_texts.Given as goal

-- what is left of the parts begins as the parts do
abbrev pub invariant-loop-a : goal.invariant-loop-a
invariant-loop-a l = texts_cmp l.a l.b ≡ texts_cmp l.fn.a l.fn.b

abbrev pub decreases-loop-a : goal.decreases-loop-a
decreases-loop-a l = length l.a
