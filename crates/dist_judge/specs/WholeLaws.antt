-- The records of a text without a fault have none, and the end is one of them.
use Rattle.std.proofs.Common.{inl, inr, ℕ, ◌<◌, List, [], ◌++◌, sym, subst, ◌∙◌, arith}
use Rattle.std.specs.List.{Contains, list_any}
use Rattle.std.proofs.lemmas.Bool.{cases_Bool, true≢false}
use Rattle.dist_outside.specs.declared.limits.Limits.{Limits}
use Rattle.dist_cert.specs.declared.faults.CertCause.TheVariants as causes
use Rattle.dist_cert.specs.declared.records.CertRecord.{CertRecord}
use Rattle.dist_cert.specs.declared.records.CertRecord.TheVariants.{End}
use Rattle.dist_cert.specs.ByRecordsLaws.{record_to_line}
use Rattle.dist_cert.specs.FileLines.{HasFaultBehind, IsWhole, lines_text}
use Rattle.dist_cert.specs.Form.{HasForm, is_end, record_text}
use Rattle.dist_cert.specs.GroupLaws.{all-at}
use Rattle.dist_cert.specs.OneVerdictLaws.{first_line_of}
use Rattle.dist_judge.specs.ClearKindLaws.{IsClear}
use Rattle.dist_judge.specs.FileKind.{FileKind, rules_of}
use Rattle.dist_judge.specs.LineLaws.{AreFaultless, ended_from, from_ended}

pub whole_faultless : (kind : FileKind) → IsClear kind → (basis : kind.Basis) (limits : Limits) (text : List ℕ)
    (h : kind.Heading) (steps : List CertRecord) → IsWhole (rules_of kind basis) limits text h steps
    → AreFaultless kind basis h steps
whole_faultless kind clear basis limits text h steps whole before step after is cause fault =
    let form = all-at (λ s. HasForm (record_text s) s) steps before step after is whole.faultless.reads.records in
    whole.faultless.later before step after is cause
    (subst (λ bytes. HasFaultBehind (kind.HasFault basis h) limits before bytes cause)
    (sym (first_line_of step after []))
    (record_to_line clear.records (kind.HasFault basis h) limits before step (lines_text after ++ []) form
    (clear.of_records basis h before step) cause fault))

pub whole_ended : (kind : FileKind) (basis : kind.Basis) (limits : Limits) (text : List ℕ) (h : kind.Heading)
    (steps : List CertRecord) → IsWhole (rules_of kind basis) limits text h steps → Contains steps End
whole_ended kind basis limits text h steps whole = elim (cases_Bool (list_any is_end steps)) [
  | inl ended ↦ ended_from steps ended
  | inr none ↦ absurd (whole.ends causes.Truncated (
    (λ k d within. absurd (beyond k within)),
    inr (λ there. true≢false (sym (from_ended steps there) ∙ none)),
  ))
]
  where
    beyond : (k : ℕ) → k < 0 → ⊥
    beyond k within = omega (arith, within)
