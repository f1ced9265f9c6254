use Rattle.std.proofs.Common.{◌≡◌, ◌&&◌, ℕ}
use Rattle.dist_cert.specs.Rising.{is_among}
use Rattle.dist_check_group.specs.Challenge.{use_each}
use Rattle.dist_check_group.proofs.found.narrow_by_each.Given as goal

abbrev pub invariant-loop-number : goal.invariant-loop-number
invariant-loop-number l = (c : ℕ) → (is_among l.kept c && use_each l.window.layout l.window l.named c)
    ≡ (is_among l.initial.kept c && use_each l.window.layout l.window l.named c)
