use Rattle.std.proofs.Common.{◌≡◌, ◌==◌, ◌&&◌, ◌||◌, not, ℕ, take}
use Rattle.std.specs.List.{list_any}
use Rattle.dist_check_group.specs.Layout.{is_package}
use Rattle.dist_check_group.specs.MarksPrivate.{is_marked}
use Rattle.dist_check_group.proofs.held.mark_all.Given as goal

abbrev pub invariant-loop-member : goal.invariant-loop-member
invariant-loop-member l = (v : ℕ) → is_marked l.held v
    ≡ (is_marked l.initial.held v || list_any (λ n. (v == n) && not (is_package l.layout n)) (take l.member-index l.members))
