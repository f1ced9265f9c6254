use Rattle.std.proofs.Common.{◌↔◌, ℕ, take}
use Rattle.std.specs.Prelude.{Any, Contains}
use Rattle.dist_repair.specs.NotesPrivate.{IsClassOf}
use Rattle.dist_repair.proofs.moved.clusters_in.Given as goal

abbrev pub invariant-loop-member : goal.invariant-loop-member
invariant-loop-member l = (c : ℕ) → Contains l.clusters.items c ↔ Any (λ v. IsClassOf l.space v c) (take l.member-index l.members)
