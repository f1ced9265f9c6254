use Rattle.std.proofs.Common.{◌≤◌, [], ◌∷◌, ℕ, length}
use Rattle.std.specs.List.{All}
use Rattle.dist_covering.specs.OpenPairs.{AreOpen, IsPlan}
use Rattle.dist_covering.proofs.covering.Covering.strike.Given as goal

abbrev pub invariant-known : goal.invariant-known
invariant-known l = record {
  inside : All (λ at. (1 ≤ at) × (at ≤ length l.self.space.meanings)) l.ats.items;
  plan : (own start : ℕ) → AreOpen l.self l.window own (start ∷ l.today ∷ []) l.fn.ats.items
      → IsPlan l.self l.window l.present own l.today start l.bound l.named.items l.ats.items;
}
