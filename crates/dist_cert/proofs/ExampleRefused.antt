-- Two edits of the certificate of ten lines are refused.
use Rattle.std.proofs.Common.{◌≡◌, ℕ, List, [], ◌∷◌, ◌++◌, refl, subst, arith, lit<}
use Rattle.std.specs.Fmt.{digits}
use Rattle.std.proofs.lemmas.List.Elements.{All-nil}
use Rattle.dist_base.specs.Ascii.{line_feed}
use Rattle.dist_cert.specs.declared.faults.CertCause.TheVariants as causes
use Rattle.dist_cert.specs.declared.records.CertRecord.TheVariants.{Question, Refuted, Installation, End}
use Rattle.dist_cert.specs.Form.{IsSmall, record_text}
use Rattle.dist_cert.specs.ClaimRules.{yes, no}
use Rattle.dist_cert.specs.FileLines.{lines_text}
use Rattle.dist_cert.specs.Refusal.{certificate_text, Refusal}
use Rattle.dist_cert.specs.ByRecordsLaws.{refused_by_record}
use Rattle.dist_cert.specs.TenLinesExamples.{two, header}
use Rattle.dist_cert.specs.LineExamples.{asking, asked, claim_on_a, on_b, claim_on_b}
use Rattle.dist_cert.specs.RefusedExamples.{without_hint, without_claim, HintIsMissed, ClaimIsMissed}
use Rattle.dist_cert.proofs.ExampleLines.{from-one, no-hints, ends-early}
use Rattle.dist_cert.proofs.ExampleTenLines.{header-sound, asking-sound, on-b-sound}
use Rattle.dist_cert.proofs.OneLine.{clear}

-- what stands behind line 5
behind : List ℕ
behind = lines_text (claim_on_a ∷ Question (yes 2 ∷ []) ∷ Installation (2 ∷ []) ∷ claim_on_b ∷ End ∷ [])

text-without-hint : certificate_text header asking ++ (record_text (Refuted []) ++ line_feed ∷ behind) ≡ without_hint
unfolding digits behind
text-without-hint = refl

pub hint-missed : HintIsMissed
hint-missed limits room = subst (λ (text : List ℕ). Refusal two limits text (record { line = 5; cause = causes.BadLine })) text-without-hint
    (refused_by_record clear two limits header asking (Refuted []) behind causes.BadLine (header-sound limits room) (asking-sound limits room)
    (record { text = refl; rules = from-one [] refl; numbers = All-nil (λ word. IsSmall word.0) }) (omega (arith, room)) refl
    (no-hints two header asking (Question (yes 1 ∷ []) ∷ Installation (1 ∷ 2 ∷ []) ∷ []) (yes 1 ∷ no 2 ∷ []) [] asked))

text-without-claim : certificate_text header on_b ++ (record_text End ++ line_feed ∷ []) ≡ without_claim
unfolding digits
text-without-claim = refl

pub claim-missed : ClaimIsMissed
claim-missed limits room = subst (λ (text : List ℕ). Refusal two limits text (record { line = 9; cause = causes.Incomplete })) text-without-claim
    (refused_by_record clear two limits header on_b End [] causes.Incomplete (header-sound limits room) (on-b-sound limits room)
    (record { text = refl; rules = tt; numbers = All-nil (λ word. IsSmall word.0) }) (omega (arith, room)) refl
    (ends-early two header on_b (lit< tt)))
