use Rattle.std.proofs.Common.{◌≡◌, ◌==◌, filter, length, not, take}
use Rattle.std.specs.List.{list_all}
use Rattle.dist_check_group.specs.KeptPrivate.{true_places}
use Rattle.dist_check_group.proofs.kept.clear_all.Given as goal

abbrev pub invariant-loop-number : goal.invariant-loop-number
invariant-loop-number l = record {
  places : length l.row ≡ length l.initial.row;
  left : true_places l.row ≡ filter (λ q. list_all (λ number. not (q == number)) (take l.number-index l.numbers)) (true_places l.initial.row);
}
