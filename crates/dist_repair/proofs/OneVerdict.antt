-- A text has one verdict.
use Rattle.std.proofs.Common.{◌≡◌, inl, inr, ℕ, List, Ok, refl, sym, ap, ap₂, subst, arith}
use Rattle.std.proofs.lemmas.Bool.{cases_lt}
use Rattle.dist_outside.specs.declared.limits.Limits.{Limits}
use Rattle.dist_clause.specs.Formula.{Literal}
use Rattle.dist_cert.specs.ClearFormsLaws.{FormsAreClear}
use Rattle.dist_cert.specs.declared.faults.CertFault.{CertFault}
use Rattle.dist_cert.specs.declared.records.CertRecord.{CertRecord}
use Rattle.dist_judge.specs.ClearKindLaws.{BasesAreOne, IsClear}
use Rattle.dist_judge.specs.FileKind.{FileKind}
use Rattle.dist_judge.specs.VerdictLaws.{accepted_once, never_refused, refused_once, some_judgement, stops_refused}
use Rattle.dist_space.specs.Space.{IsSpace, SpaceView}
use Rattle.dist_space_clauses.specs.SpaceClauses.{AreSpaceClauses}
use Rattle.dist_base.specs.declared.TheConstants.{MAX_MOST}
use Rattle.dist_findings.specs.AnswerFiles.{Inputs, files_of, limit_of}
use Rattle.dist_findings.specs.Findings.{findings}
use Rattle.dist_repair.specs.Answered.{Answers}
use Rattle.dist_repair.specs.Counters.{counted_clauses, counted_variables, counter_of}
use Rattle.dist_repair.specs.RepairFiles.{IsBasisOf, asked_by, most_of, no_inputs, repair_files}
use Rattle.dist_repair.specs.Verdicts.{IsHeaderOf, IsRepairVerdict, RepairAnswers}
use Rattle.dist_repair.specs.declared.repair.Repair.{Repair}
use Rattle.dist_repair.specs.declared.verdict.RepairHeader.{RepairHeader}
use Rattle.dist_repair.specs.declared.verdict.RepairVerdict.{RepairVerdict}
use Rattle.dist_repair.specs.declared.verdict.RepairVerdict.TheVariants.{Accepted, Refused}
use Rattle.dist_repair.proofs.AcceptedLemmas as accepted
use Rattle.dist_repair.proofs.AnswerLemmas.{one-answer}
use Rattle.dist_repair.proofs.OneAnswerLemmas.{ClausesAreOne, one-basis, same-header}

-- a space has clauses
abbrev pub ClausesAreThere : Type 0
ClausesAreThere = (s : SpaceView) → IsSpace s → (clauses : List (List Literal)) × AreSpaceClauses s clauses

module _ (forms : FormsAreClear) (alike : ClausesAreOne) (s : SpaceView) (limits : Limits) (text : List ℕ) where
  abbrev kind : FileKind
  kind = files_of (repair_files s)

  clear : IsClear kind
  clear = accepted.clear s forms

  bases : BasesAreOne kind
  bases = one-basis alike s

  -- an answer is the verdict
  pub right : (verdict : RepairVerdict) → RepairAnswers s limits text (Ok verdict) → IsRepairVerdict s limits text verdict
  right (Accepted h repair) (numbers, header, x) = (numbers, header, x.steps, (x.basis, x.is_basis, x.accepted), x.claims)
  right (Refused fault) stops = stops_refused kind clear limits text fault stops

  -- two verdicts are the same
  pub one : (verdict other : RepairVerdict) → IsRepairVerdict s limits text verdict → IsRepairVerdict s limits text other → verdict ≡ other
  one (Accepted h repair) (Accepted k told) (numbers, header, steps, whole, found) (others, also, more, second, answer) =
      let both = accepted_once kind clear bases limits text numbers others steps more whole second in
      let Told : List ℕ → List CertRecord → Type 0 = λ ns ss. Answers s (asked_by ns) (findings ss) told in
      let here : Answers s (asked_by numbers) (findings steps) told =
      subst (λ (ns : List ℕ). Told ns steps) (sym both.0) (subst (λ (ss : List CertRecord). Told others ss) (sym both.1) answer) in
      ap₂ (λ (a : RepairHeader) (b : Repair). Accepted a b)
      (same-header alike s numbers k h (subst (λ (ns : List ℕ). IsHeaderOf ns k) (sym both.0) also) header)
      (one-answer s (asked_by numbers) (findings steps) repair told found here)
  one (Accepted h repair) (Refused fault) (numbers, header, steps, whole, found) refused =
      absurd (never_refused kind clear bases limits text numbers steps fault whole refused)
  one (Refused fault) (Accepted h repair) refused (numbers, header, steps, whole, found) =
      absurd (never_refused kind clear bases limits text numbers steps fault whole refused)
  one (Refused fault) (Refused other) first second = ap (λ f. Refused f) (refused_once kind clear bases limits text fault other first second)

  -- what a file is judged by
  basis-there : ClausesAreThere → IsSpace s → (numbers : List ℕ) → (basis : Inputs) × IsBasisOf s numbers basis
  basis-there there space numbers = elim (cases_lt MAX_MOST (most_of numbers)) [
    | inl above ↦ (no_inputs, inr (above, refl))
    | inr upto ↦
        let clauses = there s space in (
          record { variables = counted_variables (counter_of s (most_of numbers)); clauses = counted_clauses s clauses.0 (most_of numbers) },
          inl (
            omega (arith, upto),
            record { clauses = clauses.0; are_clauses = clauses.1; counted = refl; variables = refl },
          ),
        )
  ]

  -- there is one
  pub some : ClausesAreThere → IsSpace s → ((h : RepairHeader) (repair : Repair) → ¬ IsRepairVerdict s limits text (Accepted h repair))
      → ¬ ((fault : CertFault) → ¬ IsRepairVerdict s limits text (Refused fault))
  some there space none never =
      some_judgement kind clear no_inputs limits text (λ x. basis-there there space x.h)
      (λ numbers steps whole. accepted.decided-not-not s forms whole.0 limits text numbers steps whole.2
      (λ decided. none (record { limit = limit_of numbers; «package» = (asked_by numbers).number; most = (asked_by numbers).most }) decided.0
      (numbers, record { limit = refl; number = refl; most = refl }, steps, whole, decided.1))) never
