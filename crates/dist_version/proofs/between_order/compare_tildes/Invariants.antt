use Rattle.std.proofs.Common.{◌≡◌, map}
use Rattle.std.specs.Prelude.{replicate}
use Rattle.dist_base.specs.Ascii.{tilde}
use Rattle.dist_version.specs.Order.{text_start, weight_of, weights_cmp}
use Rattle.dist_version.proofs.between_order.compare_tildes.Given as goal

-- what is left of both compares as both do
abbrev pub invariant-loop-left : goal.invariant-loop-left
invariant-loop-left l = weights_cmp (map weight_of (replicate l.left tilde)) (map weight_of (text_start l.rest))
    ≡ weights_cmp (map weight_of (replicate l.fn.tildes tilde)) (map weight_of (text_start l.fn.part))

abbrev pub decreases-loop-left : goal.decreases-loop-left
decreases-loop-left l = l.left
