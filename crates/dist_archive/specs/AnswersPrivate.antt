-- How refusals are told within the crate. No public clause cites it.
use Rattle.std.specs.Prelude.{◌≡◌}
use Rattle.dist_archive.specs.declared.step.StepError.{StepError}

-- the reason of this refusal holds, and no other one's does
abbrev pub IsOnlyRefusal : (StepError → Type 0) → StepError → Type 0
IsOnlyRefusal Refuses error = Refuses error × ((other : StepError) → Refuses other → other ≡ error)

-- no reason holds
abbrev pub IsNeverRefused : (StepError → Type 0) → Type 0
IsNeverRefused Refuses = (error : StepError) → ¬ Refuses error
