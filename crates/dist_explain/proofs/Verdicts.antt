-- A text has one verdict.
use Rattle.std.proofs.Common.{◌≡◌, ◌+◌, ℕ, Bool, false, List, [], Ok, refl, sym, ap, ap₂, subst, ◌∙◌, length, arith}
use Rattle.dist_outside.specs.declared.limits.Limits.{Limits}
use Rattle.dist_clause.specs.Formula.{Literal}
use Rattle.dist_cert.specs.declared.faults.CertFault.{CertFault}
use Rattle.dist_cert.specs.declared.records.CertRecord.{CertRecord}
use Rattle.dist_judge.specs.ClearKindLaws.{BasesAreOne, IsClear}
use Rattle.dist_judge.specs.FileKind.{FileKind}
use Rattle.dist_judge.specs.VerdictLaws.{accepted_once, never_refused, refused_once, some_judgement, stops_refused}
use Rattle.dist_repo.specs.Order.{IsInOrder}
use Rattle.dist_repo.specs.PackageList.{PackageList}
use Rattle.dist_now.specs.PresentClauses.{ArePresentClauses}
use Rattle.dist_explain.specs.Answered.{Answers}
use Rattle.dist_explain.specs.ExplanationFiles.{IsSelectedOf, asked_by, explanation_files}
use Rattle.dist_explain.specs.Selectors.{selected_clauses}
use Rattle.dist_explain.specs.Verdicts.{ExplanationAnswers, IsExplainVerdict, header_by}
use Rattle.dist_explain.specs.declared.explained.Explained.{Explained}
use Rattle.dist_explain.specs.declared.verdict.ExplainHeader.{ExplainHeader}
use Rattle.dist_explain.specs.declared.verdict.ExplainVerdict.{ExplainVerdict}
use Rattle.dist_explain.specs.declared.verdict.ExplainVerdict.TheVariants.{Accepted, Refused}
use Rattle.dist_explain.proofs.FileLemmas.{clear-explanations, fitting}
use Rattle.dist_explain.proofs.OneExplanation.{Numbers, one-basis, one-found}
use Rattle.dist_explain.proofs.WholeLemmas.{whole-decided, whole-fits}
use Rattle.dist_findings.specs.AnswerFiles.{Inputs, files_of}
use Rattle.dist_findings.specs.Findings.{findings}

abbrev pub PresentIsThere : Type 0
PresentIsThere = (r : PackageList) (essential : Bool) → IsInOrder r.packages → (clauses : List (List Literal)) × ArePresentClauses r essential clauses

module _ (laws : Numbers) (r : PackageList) (ordered : IsInOrder r.packages) (limits : Limits) (text : List ℕ) where
  abbrev kind : FileKind
  kind = files_of (explanation_files r)

  clear : IsClear kind
  clear = clear-explanations laws.clear r

  bases : BasesAreOne kind
  bases = λ numbers basis other first second. one-basis laws r ordered limits basis other first second

  -- an answer is the verdict
  pub right : (verdict : ExplainVerdict) → ExplanationAnswers r limits text (Ok verdict) → IsExplainVerdict r limits text verdict
  right (Accepted h explained) (numbers, same, x) = (numbers, same, x.steps, (x.basis, x.is_basis, x.accepted), x.claims)
  right (Refused fault) stops = stops_refused kind clear limits text fault stops

  -- two verdicts are the same
  pub one : (verdict other : ExplainVerdict) → IsExplainVerdict r limits text verdict → IsExplainVerdict r limits text other → verdict ≡ other
  one (Accepted h explained) (Accepted k told) (numbers, is, steps, accepted, found) (others, also, more, second, answer) =
      let both = accepted_once kind clear bases limits text numbers others steps more accepted second in
      let fits = fitting (length r.packages) accepted.0.variables numbers
      (whole-fits (explanation_files r) clear limits text numbers accepted.0 steps accepted.2) in
      let upto = fits.upto in
      let packages = fits.packages_are in
      let Told : List ℕ → List CertRecord → Type 0 = λ ns ss. Answers (asked_by ns) (findings ss) told in
      let here : Answers (asked_by numbers) (findings steps) told =
      subst (λ (ns : List ℕ). Told ns steps) (sym both.0) (subst (λ (ss : List CertRecord). Told others ss) (sym both.1) answer) in
      ap₂ (λ (a : ExplainHeader) (b : Explained). Accepted a b) (is ∙ ap header_by both.0 ∙ sym also)
      (sym (one-found (asked_by numbers) (findings steps) explained told (omega (arith, upto, packages)) found here))
  one (Accepted h explained) (Refused fault) (numbers, is, steps, accepted, found) refused =
      absurd (never_refused kind clear bases limits text numbers steps fault accepted refused)
  one (Refused fault) (Accepted h explained) refused (numbers, is, steps, accepted, found) =
      absurd (never_refused kind clear bases limits text numbers steps fault accepted refused)
  one (Refused fault) (Refused also) first second = ap (λ f. Refused f) (refused_once kind clear bases limits text fault also first second)

  -- what a file is judged by
  basis-there : PresentIsThere → (basis : Inputs) × IsSelectedOf r basis
  basis-there present =
      let there = present r false ordered in (
        record { variables = length r.packages + length there.0; clauses = selected_clauses r there.0 },
        record {
          clauses = there.0;
          are_clauses = there.1;
          selected_ones = refl;
          variables = refl;
        },
      )

  -- there is one
  pub some : PresentIsThere → ((h : ExplainHeader) (explained : Explained) → ¬ IsExplainVerdict r limits text (Accepted h explained))
      → ¬ ((fault : CertFault) → ¬ IsExplainVerdict r limits text (Refused fault))
  some present none never =
      some_judgement kind clear (record { variables = 0; clauses = [] }) limits text (λ x. basis-there present)
      (λ numbers steps accepted. whole-decided (explanation_files r) clear limits text numbers accepted.0 steps accepted.2
      (λ decided. none (header_by numbers) decided.0 (numbers, refl, steps, accepted, decided.1))) never
