-- Sets of clusters with packages. No public clause cites it.
use Rattle.std.specs.Prelude.{◌⊎◌, ◌↔◌, ℕ, List, AllPairs, Contains}
use Rattle.std.specs.declared.cmp.Ordering.{Ordering}
use Rattle.std.specs.Ordering.{nat_cmp, ordering_then}
use Rattle.dist_journal.specs.BrokenOrder.{StandsBefore}
use Rattle.dist_journal.specs.declared.broken_list.Broken.{Broken}

abbrev pub pair_of : Broken → ℕ × ℕ
pair_of b = (b.cluster, b.package_)

abbrev pub pair_cmp : ℕ × ℕ → ℕ × ℕ → Ordering
pair_cmp a b = ordering_then (nat_cmp a.0 b.0) (nat_cmp a.1 b.1)

-- the pairs with a property are added to what was found
abbrev pub Adds : (old new : List (ℕ × ℕ)) → (ℕ × ℕ → Type 0) → Type 0
Adds old new P = (pair : ℕ × ℕ) → Contains new pair ↔ (Contains old pair ⊎ P pair)

-- the list of a set, in order
abbrev pub IsListOf : (keys : List (ℕ × ℕ)) → List Broken → Type 0
IsListOf keys list = AllPairs StandsBefore list × ((b : Broken) → Contains list b ↔ Contains keys (pair_of b))
