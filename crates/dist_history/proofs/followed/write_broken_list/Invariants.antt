use Rattle.std.proofs.Common.{◌≡◌, ◌++◌, take}
use Rattle.dist_history.specs.FollowText.{broken_texts}
use Rattle.dist_history.proofs.followed.write_broken_list.Given as goal

abbrev pub invariant-loop-place : goal.invariant-loop-place
invariant-loop-place l =
    l.out.items ≡ l.fn.out.items ++ broken_texts l.archive.space l.archive.packages (take l.place l.list)
