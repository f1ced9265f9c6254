use Rattle.std.proofs.Common.{◌≡◌, ◌+◌, inl, inr, arith, subst}
use Rattle.std.specs.Prelude.{Contains}
use Rattle.std.proofs.lemmas.Bool.{cases_lt}
use Rattle.dist_explain.proofs.listed.has_all_behind.Goals as goal

pub loop-place-preserved : goal.loop-place-preserved
loop-place-preserved c = λ number from upto. elim (cases_lt number (c.loop-place.place + 1)) [
  | inl less ↦ c.loop-place.invariant number from (omega (arith, less))
  | inr past ↦
      let same : c.loop-place.place + 1 ≡ number = omega (arith, upto, past) in
      subst (λ n. Contains c.args.list.now (c.args.offset + n)) same (c.has_behind.ensures.0 c.if-not-has_behind.false)
]
