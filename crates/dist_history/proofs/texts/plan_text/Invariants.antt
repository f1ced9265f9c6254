use Rattle.std.proofs.Common.{◌≡◌, take}
use Rattle.dist_history.specs.PlanText.{plan_text}
use Rattle.dist_history.proofs.texts.plan_text.Given as goal

abbrev pub invariant-loop-place : goal.invariant-loop-place
invariant-loop-place l = l.out.items ≡ plan_text l.space (take l.place l.plan)
