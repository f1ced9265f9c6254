use Rattle.std.proofs.Common.{◌≢◌, ℕ, ◌+◌, ◌<◌, inl, inr, refl, arith, subst, sym, Option}
use Rattle.dist_future.specs.MatchingPrivate.{IsRejectedFrom}
use Rattle.dist_future.proofs.ConflictPairs.{IsLeastSeenIfAny, below-from, conflicting-first, conflicting-second, least-conflict, never-itself, seen-none}
use Rattle.dist_future.proofs.ConflictPairs.{seen-some}
use Rattle.dist_future.proofs.health.conflict.Goals.{in-Some+then-variable-other, in-Some+else-variable-other, in_default}
use Rattle.dist_future.proofs.health.conflict.Goals as goal

pub loop-variable-preserved : goal.loop-variable-preserved
loop-variable-preserved c =
    let s = c.args.space.now in
    let values = c.args.members.now in
    let variable = c.loop-variable.variable in
    let space = c.variables-variable-end.ensures.space in
    let Of : Option (ℕ × ℕ) → Type 0 = IsLeastSeenIfAny s values (variable + 1) in
    elim c.match-rejected_row.branch [
      | in-Some+then-variable-other w ↦ subst Of (sym w.least-is)
          (seen-some s values variable w.in-Some.other variable w.in-Some.other c.loop-variable.least w.lesser_pair.result c.loop-variable.invariant
          w.in-Some.ensures (inl (w.if-variable-other.true, refl, refl))
          (conflicting-first s values space variable w.in-Some.other w.if-variable-other.true w.in-Some.ensures.holds) w.lesser_pair.ensures)
      | in-Some+else-variable-other w ↦
          let other = w.in-Some.other in
          let Rejected : ℕ → Type 0 = IsRejectedFrom s values variable in
          let apart : other ≢ variable = λ same. never-itself s values space variable (subst Rejected same w.in-Some.ensures.holds) in
          let below : other < variable = below-from variable other w.if-variable-other.false apart in
          subst Of (sym w.least-is)
          (seen-some s values variable other other variable c.loop-variable.least w.lesser_pair-else-variable-other.result c.loop-variable.invariant
          w.in-Some.ensures (inr (below, refl, refl))
          (conflicting-second s values space other variable below w.in-Some.ensures.holds) w.lesser_pair-else-variable-other.ensures)
      | in_default w ↦ subst Of (sym w.least-is) (seen-none s values variable c.loop-variable.least c.loop-variable.invariant w.in_default.ensures)
    ]

pub returns : goal.returns
returns c =
    least-conflict c.args.space.now c.args.members.now c.variables-variable-end.ensures.space c.loop-variable.variable c.loop-variable.least
    (let e = c.variables-variable-end.ensures.value in omega (arith, e, c.loop-variable-test.false)) c.loop-variable.invariant
