use Rattle.std.proofs.Common.{◌≢◌, ℕ, ◌+◌, ◌<◌, inl, inr, refl, arith, subst, sym, Option}
use Rattle.dist_now.proofs.ConflictLemmas.{IsLeastSeenIfAny, seen-none, seen-some, least-conflict, conflicting-first, conflicting-second, below-from}
use Rattle.dist_now.proofs.conflicts.conflict.Goals.{in-Some+then-number-other, in-Some+else-number-other, in_default}
use Rattle.dist_now.proofs.conflicts.conflict.Goals as goal

pub loop-number-preserved : goal.loop-number-preserved
loop-number-preserved c =
    let repo = c.args.repo.now in
    let members = c.args.members.now in
    let number = c.loop-number.number in
    let Of : Option (ℕ × ℕ) → Type 0 = IsLeastSeenIfAny repo members (number + 1) in
    elim c.match-rejected_row.branch [
      | in-Some+then-number-other w ↦ subst Of (sym w.least-is)
          (seen-some repo members number w.in-Some.other number w.in-Some.other c.loop-number.least w.lesser_pair.result c.loop-number.invariant
          w.in-Some.ensures (inl (w.if-number-other.true, refl, refl))
          (conflicting-first repo members number w.in-Some.other c.len-end.ensures.in_order w.if-number-other.true w.in-Some.ensures.holds)
          w.lesser_pair.ensures)
      | in-Some+else-number-other w ↦
          let other = w.in-Some.other in
          let apart : other ≢ number = w.in-Some.ensures.holds.rejected.0 in
          let below : other < number = below-from number other w.if-number-other.false apart in
          subst Of (sym w.least-is)
          (seen-some repo members number other other number c.loop-number.least w.lesser_pair-else-number-other.result c.loop-number.invariant w.in-Some.ensures
          (inr (below, refl, refl))
          (conflicting-second repo members other number c.len-end.ensures.in_order below w.in-Some.ensures.holds) w.lesser_pair-else-number-other.ensures)
      | in_default w ↦ subst Of (sym w.least-is) (seen-none repo members number c.loop-number.least c.loop-number.invariant w.in_default.ensures)
    ]

pub returns : goal.returns
returns c =
    least-conflict c.args.repo.now c.args.members.now c.loop-number.number c.loop-number.least
    (let e = c.len-end.ensures.value in omega (arith, e, c.loop-number-test.false)) c.loop-number.invariant
