use Rattle.std.proofs.Common.{◌⊎◌, ◌↔◌, ℕ, take}
use Rattle.std.specs.Prelude.{Contains}
use Rattle.dist_explain.specs.RelationListPrivate.{IsNamesake}
use Rattle.dist_explain.proofs.relations.add_namesakes.Given as goal

abbrev pub invariant-loop-other : goal.invariant-loop-other
invariant-loop-other l = (k : ℕ) → Contains l.numbers.items k
    ↔ (Contains l.initial.numbers.items k ⊎ (Contains (take l.other-index l.other-items) k × IsNamesake l.repo l.number k))
