use Rattle.std.proofs.Common.{◌-◌, take}
use Rattle.std.specs.List.{All, Contains}
use Rattle.dist_derive.specs.FarPrivate.{IsFar}
use Rattle.dist_derive.proofs.log.Log.finds_behind.Given as goal

abbrev pub invariant-loop-far : goal.invariant-loop-far
invariant-loop-far l = IsFar (take l.inputs l.self.clauses) l.self.variables
    (record { is_made = l.far-inside.is_made; starts = l.far-inside.starts.items; set = l.far-inside.set })
    × All (Contains l.cone.members) l.far-inside.starts.items

abbrev pub decreases-loop-far : goal.decreases-loop-far
decreases-loop-far l = l.self.variables - l.far-inside.taken
