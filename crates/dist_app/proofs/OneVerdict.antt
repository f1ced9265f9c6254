-- The laws of the checkers, as of the answers that the stages take.
use Rattle.std.proofs.Common.{◌≡◌, ℕ, List, Result, Ok, Err, refl, ap, sym, ◌∙◌}
use Rattle.dist_outside.specs.declared.limits.Limits.{Limits}
use Rattle.dist_outside.specs.declared.trouble.WorkError.{WorkError}
use Rattle.dist_outside.specs.declared.trouble.WorkError.TheVariants as work
use Rattle.dist_repo.specs.Order.{IsInOrder}
use Rattle.dist_repo.specs.PackageList.{PackageList}
use Rattle.dist_cert.specs.declared.faults.CertFault.{CertFault}
use Rattle.dist_cert.specs.declared.faults.ReadCertError.{ReadCertError}
use Rattle.dist_cert.specs.declared.faults.ReadCertError.TheVariants.{Bad, Work}
use Rattle.dist_cert.specs.declared.records.Claim.{Claim}
use Rattle.dist_cert.specs.declared.records.Header.{Header}
use Rattle.dist_judge.specs.AnswerLaws.{IsOfText}
use Rattle.dist_judge.specs.Causes.{IsOfText as IsOfAnswer}
use Rattle.dist_check.specs.Answers.{Answers, as_read}
use Rattle.dist_check.specs.declared.verdict.Verdict.{Verdict}
use Rattle.dist_check.specs.declared.verdict.Verdict.TheVariants.{Accepted, Refused}
use Rattle.dist_explain.specs.Verdicts.{ExplanationAnswers}
use Rattle.dist_explain.specs.declared.explained.Explained.{Explained}
use Rattle.dist_explain.specs.declared.verdict.ExplainHeader.{ExplainHeader}
use Rattle.dist_explain.specs.declared.verdict.ExplainVerdict.{ExplainVerdict}
use Rattle.dist_explain.specs.declared.verdict.ExplainVerdict.TheVariants as explain
use Rattle.dist_repair.specs.Verdicts.{RepairAnswers}
use Rattle.dist_repair.specs.declared.repair.Repair.{Repair}
use Rattle.dist_repair.specs.declared.verdict.RepairHeader.{RepairHeader}
use Rattle.dist_repair.specs.declared.verdict.RepairVerdict.{RepairVerdict}
use Rattle.dist_repair.specs.declared.verdict.RepairVerdict.TheVariants as repair
use Rattle.dist_space.specs.Space.{SpaceView}
use Rattle.dist_commands.specs.Check.{CertificateAnswers}
use Rattle.dist_commands.specs.CheckExplain.{ExplanationReads}
use Rattle.dist_commands.specs.CheckRepair.{RepairReads}
use Rattle.dist_app.specs.LawsPrivate.{HaveOneAnswer, HaveOneExplanation, HaveOneRepair}
use Rattle.dist_app.proofs.Judgements.{AnswersOnce}

-- what a checker answers, of what a stage takes from it
abbrev by : {X V : Type 0} → (X → V) → (CertFault → V) → Result X ReadCertError → Result V WorkError
by accepted refused (Ok x) = Ok (accepted x)
by accepted refused (Err (Bad fault)) = Ok (refused fault)
by accepted refused (Err (Work error)) = Err error

-- an answer that the bytes decide is one that the text decides
of_text : {X V : Type 0} (accepted : X → V) (refused : CertFault → V) (x : Result X ReadCertError) → IsOfText x → IsOfAnswer (by accepted refused x)
of_text accepted refused (Ok x) of = tt
of_text accepted refused (Err (Bad fault)) of = tt
of_text accepted refused (Err (Work work.ReadFault)) of = of
of_text accepted refused (Err (Work work.WriteFault)) of = tt
of_text accepted refused (Err (Work (work.TooLarge what))) of = tt
of_text accepted refused (Err (Work work.NoMemory)) of = of

-- answers of which a checker has one, as of what the stage takes
module _ {X V : Type 0} (accepted : X → V) (refused : CertFault → V) (read : Result V WorkError → Result X ReadCertError)
    (back : (x : Result X ReadCertError) → read (by accepted refused x) ≡ x) (Answers : List ℕ → Result V WorkError → Type 0)
    (Reads : List ℕ → Result X ReadCertError → Type 0)
    (are : (text : List ℕ) (x : Result X ReadCertError) → Reads text x → Answers text (by accepted refused x)) where
  reads_once : ((text : List ℕ) (result other : Result V WorkError) → Answers text result → Answers text other → IsOfAnswer result → IsOfAnswer other
      → other ≡ result) → AnswersOnce Reads
  reads_once one text result other first second of_first of_second =
      sym (back other)
      ∙ ap read (one text (by accepted refused result) (by accepted refused other) (are text result first) (are text other second)
      (of_text accepted refused result of_first) (of_text accepted refused other of_second))
      ∙ back result

-- ---- certificates

abbrev Certified : Type 0
Certified = Result (Header × List Claim) ReadCertError

abbrev certificate_of : Header × List Claim → Verdict
certificate_of accepted = Accepted accepted.0 accepted.1

read_back : (x : Certified) → as_read (by certificate_of Refused x) ≡ x
read_back (Ok accepted) = refl
read_back (Err (Bad fault)) = refl
read_back (Err (Work error)) = refl

answers_by : (r : PackageList) (limits : Limits) (text : List ℕ) (x : Certified) → CertificateAnswers r limits text x
    → Answers r limits text (by certificate_of Refused x)
answers_by r limits text (Ok accepted) h = h
answers_by r limits text (Err (Bad fault)) h = h
answers_by r limits text (Err (Work error)) h = h

pub certificates_once : HaveOneAnswer → (r : PackageList) (limits : Limits) → IsInOrder r.packages → AnswersOnce (CertificateAnswers r limits)
certificates_once one r limits order =
    reads_once certificate_of Refused as_read read_back (Answers r limits) (CertificateAnswers r limits) (answers_by r limits)
    (λ text result other. one r limits text result other order)

-- ---- explanations

abbrev Explaining : Type 0
Explaining = Result (ExplainHeader × Explained) ReadCertError

abbrev explanation_of : ExplainHeader × Explained → ExplainVerdict
explanation_of accepted = explain.Accepted accepted.0 accepted.1

abbrev explanation_read : Result ExplainVerdict WorkError → Explaining
explanation_read (Ok (explain.Accepted h explained)) = Ok (h, explained)
explanation_read (Ok (explain.Refused fault)) = Err (Bad fault)
explanation_read (Err error) = Err (Work error)

explained_back : (x : Explaining) → explanation_read (by explanation_of explain.Refused x) ≡ x
explained_back (Ok accepted) = refl
explained_back (Err (Bad fault)) = refl
explained_back (Err (Work error)) = refl

explains_by : (r : PackageList) (limits : Limits) (text : List ℕ) (x : Explaining) → ExplanationReads r limits text x
    → ExplanationAnswers r limits text (by explanation_of explain.Refused x)
explains_by r limits text (Ok accepted) h = h
explains_by r limits text (Err (Bad fault)) h = h
explains_by r limits text (Err (Work error)) h = h

pub explanations_once : HaveOneExplanation → (r : PackageList) (limits : Limits) → IsInOrder r.packages → AnswersOnce (ExplanationReads r limits)
explanations_once one r limits order =
    reads_once explanation_of explain.Refused explanation_read explained_back (ExplanationAnswers r limits) (ExplanationReads r limits)
    (explains_by r limits) (λ text result other. one r limits text result other order)

-- ---- repairs

abbrev Repairing : Type 0
Repairing = Result (RepairHeader × Repair) ReadCertError

abbrev repair_of : RepairHeader × Repair → RepairVerdict
repair_of accepted = repair.Accepted accepted.0 accepted.1

abbrev repair_read : Result RepairVerdict WorkError → Repairing
repair_read (Ok (repair.Accepted h made)) = Ok (h, made)
repair_read (Ok (repair.Refused fault)) = Err (Bad fault)
repair_read (Err error) = Err (Work error)

repaired_back : (x : Repairing) → repair_read (by repair_of repair.Refused x) ≡ x
repaired_back (Ok accepted) = refl
repaired_back (Err (Bad fault)) = refl
repaired_back (Err (Work error)) = refl

repairs_by : (s : SpaceView) (limits : Limits) (text : List ℕ) (x : Repairing) → RepairReads s limits text x
    → RepairAnswers s limits text (by repair_of repair.Refused x)
repairs_by s limits text (Ok accepted) h = h
repairs_by s limits text (Err (Bad fault)) h = h
repairs_by s limits text (Err (Work error)) h = h

pub repairs_once : HaveOneRepair → (s : SpaceView) (limits : Limits) → AnswersOnce (RepairReads s limits)
repairs_once one s limits =
    reads_once repair_of repair.Refused repair_read repaired_back (RepairAnswers s limits) (RepairReads s limits)
    (repairs_by s limits) (one s limits)
