use Rattle.std.proofs.Common.{◌≡◌, ◌||◌, ℕ, take}
use Rattle.std.specs.List.{list_any}
use Rattle.dist_cert.specs.Rising.{is_among}
use Rattle.dist_check_group.specs.Layout.{classes_of}
use Rattle.dist_check_group.proofs.held.add_classes.Given as goal

abbrev pub invariant-loop-cluster : goal.invariant-loop-cluster
invariant-loop-cluster l = (v : ℕ) → is_among l.variables.items v
    ≡ (is_among l.initial.variables.items v || list_any (λ n. is_among (classes_of l.layout n) v) (take l.cluster-index l.clusters))
