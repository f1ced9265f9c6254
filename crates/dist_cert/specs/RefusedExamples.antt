-- Worked example: two edits of the certificate of ten lines are refused.
use Rattle.std.specs.Prelude.{ℕ, ◌≤◌, List, [], ◌∷◌, codes}
use Rattle.dist_outside.specs.declared.limits.Limits.{Limits}
use Rattle.dist_cert.specs.declared.faults.CertCause.TheVariants as causes
use Rattle.dist_cert.specs.Refusal.{Refusal}
use Rattle.dist_cert.specs.TextExamples.{ended_lines}
use Rattle.dist_cert.specs.TenLinesExamples.{two}

-- line 5 has no hint
abbrev pub without_hint : List ℕ
without_hint = ended_lines (
    codes "distfuture-certificate 1 strong plain 10000 2 2 1"
    ∷ codes "q 1"
    ∷ codes "m 1 2"
    ∷ codes "q 1 -2"
    ∷ codes "f"
    ∷ codes "s 1 1 0 2 0"
    ∷ codes "q 2"
    ∷ codes "m 2"
    ∷ codes "s 2 2 0 0"
    ∷ codes "e"
    ∷ []
    )

-- the claim on b is missing
abbrev pub without_claim : List ℕ
without_claim = ended_lines (
    codes "distfuture-certificate 1 strong plain 10000 2 2 1"
    ∷ codes "q 1"
    ∷ codes "m 1 2"
    ∷ codes "q 1 -2"
    ∷ codes "f 1"
    ∷ codes "s 1 1 0 2 0"
    ∷ codes "q 2"
    ∷ codes "m 2"
    ∷ codes "e"
    ∷ []
    )

-- Without its hint line 5 does not follow; without the claim line 9 ends too early. Each of these is the refusal, where
-- a line may have as many bytes as the longest one. The law `edits_are_refused` says that it is so.
abbrev pub HintIsMissed : Type 0
HintIsMissed = (limits : Limits) → 50 ≤ limits.record_line
    → Refusal two limits without_hint (record { line = 5; cause = causes.BadLine })

abbrev pub ClaimIsMissed : Type 0
ClaimIsMissed = (limits : Limits) → 50 ≤ limits.record_line
    → Refusal two limits without_claim (record { line = 9; cause = causes.Incomplete })
