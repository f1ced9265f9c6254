-- Drawn packages whose numbers are small, with few items of few alternatives.
use Rattle.std.proofs.Common.{ℕ, ◌<◌, ◌≤◌, ◌^◌, List, length, Option, Some, None, arith}
use Rattle.std.specs.List.{AllByRecursion}
use Rattle.dist_generate.specs.Generator.{Alternative, Drawn}

abbrev pub AreTargets : List Alternative → Type 0
AreTargets item = AllByRecursion (λ c. c.target < 10000) item

abbrev pub IsItem : List Alternative → Type 0
IsItem item = (0 < length item) × (length item ≤ 2) × AreTargets item

abbrev pub AreItems : List (List Alternative) → Type 0
AreItems items = AllByRecursion IsItem items

abbrev pub IsTarget : Option ℕ → Type 0
IsTarget None = Unit {0}
IsTarget (Some other) = other < 10000

pub record IsSmall (d : Drawn) : Type 0 where
  pub number : d.number < 10000
  pub digit : d.digit < 3
  pub few : length d.items ≤ 2
  pub items : AreItems d.items
  pub conflict : IsTarget d.conflict

pub small : (n : ℕ) → n < 10000 → n < 2 ^ 64
small n h = omega arith
