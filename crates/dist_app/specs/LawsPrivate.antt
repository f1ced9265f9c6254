-- The laws of the layers below that the promises of a run rest on. No public clause cites it.
use Rattle.std.specs.Prelude.{◌≡◌, ◌<◌, ℕ, Bool, false, List, Result, length}
use Rattle.dist_outside.specs.declared.limits.Limits.{Limits}
use Rattle.dist_outside.specs.declared.trouble.What.{What}
use Rattle.dist_outside.specs.declared.trouble.WorkError.{WorkError}
use Rattle.dist_clause.specs.Formula.{Literal}
use Rattle.dist_cluster.specs.Partition.{IsPartition}
use Rattle.dist_cluster.specs.Relation.{Member}
use Rattle.dist_cluster.specs.Top.{IsTop}
use Rattle.dist_repo.specs.Order.{IsInOrder}
use Rattle.dist_repo.specs.PackageList.{PackageList}
use Rattle.dist_repo.specs.declared.package.Package.{Package}
use Rattle.dist_package.specs.OneAnswer.{HasOneAnswer}
use Rattle.dist_classes.specs.Cuts.{AreCuts, IsClusterCut}
use Rattle.dist_list.specs.NamedPackage.{IsNamed}
use Rattle.dist_list.specs.OneAnswer.{HasOneAnswer as ListHasOneAnswer}
use Rattle.dist_now.specs.Health.{IsHealth}
use Rattle.dist_now.specs.PresentClauses.{ArePresentClauses}
use Rattle.dist_now.specs.declared.kinds.Health.{Health as Judgement}
use Rattle.dist_space.specs.Space.{IsSpace, SpaceView}
use Rattle.dist_space_clauses.specs.SpaceClauses.{AreSpaceClauses}
use Rattle.dist_cert.specs.Part.{IsStoppedBy}
use Rattle.dist_cert.specs.declared.records.CertKind.{CertKind}
use Rattle.dist_cert.specs.declared.records.Claim.{Claim}
use Rattle.dist_cert.specs.declared.records.Header.{Header}
use Rattle.dist_subject.specs.Basis.{Basis, IsAccepted, IsBasisOf, matter_of}
use Rattle.dist_subject.specs.Limited.{PassesFirst}
use Rattle.dist_sweep.specs.Sweep.{header_of}
use Rattle.dist_findings.specs.Answers.{IsAnswered as IsAnsweredFile}
use Rattle.dist_inquiry.specs.Written.{IsFull as IsFullText}
use Rattle.dist_explain.specs.ExplanationFiles.{PassesFirst as ExplainPasses}
use Rattle.dist_explain.specs.Verdicts.{AcceptedMeans as ExplanationMeans, ExplanationAnswers, IsExplanation}
use Rattle.dist_explain.specs.declared.explained.Explained.{Explained}
use Rattle.dist_explain.specs.declared.verdict.ExplainHeader.{ExplainHeader}
use Rattle.dist_explain.specs.declared.verdict.ExplainVerdict.{ExplainVerdict}
use Rattle.dist_explain_search.specs.ExplainAnswers.{OfExplain}
use Rattle.dist_repair.specs.Answered.{Answers as AnswersRepair}
use Rattle.dist_repair.specs.RepairFiles.{asked_by, repair_files}
use Rattle.dist_repair.specs.Verdicts.{AcceptedSays, IsHeaderOf, RepairAnswers}
use Rattle.dist_repair.specs.declared.repair.Repair.{Repair}
use Rattle.dist_repair.specs.declared.verdict.RepairHeader.{RepairHeader}
use Rattle.dist_repair.specs.declared.verdict.RepairVerdict.{RepairVerdict}
use Rattle.dist_repair_search.specs.SearchAnswers.{OfRepair}
use Rattle.dist_budget.specs.Budget.{IsBelowBudget, IsBelowFileBudget}
use Rattle.dist_budget.specs.SearchBudget.{explanation_size, repair_size}
use Rattle.dist_check.specs.Answers.{Answers}
use Rattle.dist_judge.specs.Causes.{IsOfText}
use Rattle.dist_check.specs.Means.{Means}
use Rattle.dist_check.specs.declared.verdict.Verdict.{Verdict}
use Rattle.dist_journal.specs.OneEnd.{HasOneEnd}
use Rattle.dist_commands.specs.OneSpaceLaws.{HaveOneNewest, HaveOneSpace, HaveSpaceOnce}
use Rattle.dist_app.specs.Headline.{AreMarksRight}

-- ---- each input has one answer

-- each text of a certificate has one answer
abbrev pub HaveOneAnswer : Type 0
HaveOneAnswer = (r : PackageList) (limits : Limits) (text : List ℕ) (result other : Result Verdict WorkError)
    → IsInOrder r.packages → Answers r limits text result → Answers r limits text other → IsOfText result
    → IsOfText other → other ≡ result

-- the packages of a list have one partition into clusters, each cluster has one top, and one list of cuts
abbrev pub HaveOnePartition : Type 0
HaveOnePartition = (members : List Member) (a b : List (List ℕ)) → IsPartition members a → IsPartition members b
    → a ≡ b

abbrev pub HaveOneTop : Type 0
HaveOneTop = (members : List Member) (cluster a b : List ℕ) → IsTop members cluster a → IsTop members cluster b → a ≡ b

abbrev pub HaveOneCuts : Type 0
HaveOneCuts = (r : PackageList) (members top : List ℕ) (a b : List (List ℕ)) → AreCuts (IsClusterCut r members top) a
    → AreCuts (IsClusterCut r members top) b → a ≡ b

-- each text of an explanation's file has one answer
abbrev pub HaveOneExplanation : Type 0
HaveOneExplanation = (r : PackageList) (limits : Limits) (text : List ℕ)
    (result other : Result ExplainVerdict WorkError) → IsInOrder r.packages
    → ExplanationAnswers r limits text result → ExplanationAnswers r limits text other → IsOfText result
    → IsOfText other → other ≡ result

-- each text of a repair's file has one answer
abbrev pub HaveOneRepair : Type 0
HaveOneRepair = (s : SpaceView) (limits : Limits) (text : List ℕ) (result other : Result RepairVerdict WorkError)
    → RepairAnswers s limits text result → RepairAnswers s limits text other → IsOfText result → IsOfText other
    → other ≡ result

-- one number is passed first
abbrev pub HaveOneNumber : Type 0
HaveOneNumber = (r : PackageList) (kind : CertKind) (essential : Bool) (limits : Limits) (what other : What)
    → IsInOrder r.packages → PassesFirst r kind essential limits what → PassesFirst r kind essential limits other
    → other ≡ what

abbrev pub HaveOneExplainNumber : Type 0
HaveOneExplainNumber = (r : PackageList) (limits : Limits) (what other : What) → IsInOrder r.packages
    → ExplainPasses r limits what → ExplainPasses r limits other → other ≡ what

-- a text names one package
abbrev pub HaveOneName : Type 0
HaveOneName = (packages : List Package) (text : List ℕ) (number other : ℕ) → IsInOrder packages
    → IsNamed packages text number → IsNamed packages text other → other ≡ number

-- a space has one list of clauses
abbrev pub HaveOneClauses : Type 0
HaveOneClauses = (s : SpaceView) (clauses other : List (List Literal)) → AreSpaceClauses s clauses
    → AreSpaceClauses s other → other ≡ clauses

-- a journal has one end
abbrev pub HaveOneEnd : Type 0
HaveOneEnd = (s : SpaceView) (limit : ℕ) (journal : List ℕ) (old : List Package) → IsSpace s
    → HasOneEnd s limit journal old

-- each Packages text has one repository or one error, each LIST one set or one first bad line, each CERT one answer, as
-- a certificate and as a file of an explanation, and of what a sweep is judged by one number is passed first; each file
-- has one space at a mode, its clusters, their tops and their cuts are one, and each journal has one end
pub record AreExact : Type 0 where
  pub packages : (text : List ℕ) (limit : ℕ) → HasOneAnswer text limit
  pub lists : (packages : List Package) (text : List ℕ) → ListHasOneAnswer packages text
  pub certificates : HaveOneAnswer
  pub explanations : HaveOneExplanation
  pub numbers : HaveOneNumber
  pub explain_numbers : HaveOneExplainNumber
  pub names : HaveOneName
  pub spaces : HaveOneSpace
  pub newest : HaveOneNewest
  pub space_of : HaveSpaceOnce
  pub partitions : HaveOnePartition
  pub tops : HaveOneTop
  pub cuts : HaveOneCuts
  pub clauses : HaveOneClauses
  pub repairs : HaveOneRepair
  pub journals : HaveOneEnd

-- ---- what is enough

-- a set has one health
abbrev pub HaveOneHealth : Type 0
HaveOneHealth = (r : PackageList) (essential : Bool) (flags : List Bool) (health other : Judgement)
    → IsHealth r essential flags health → IsHealth r essential flags other → other ≡ health

-- a sweep is stopped by a number only where that is below its budget
abbrev pub BudgetsSuffice : Type 0
BudgetsSuffice = (r : PackageList) (kind : CertKind) (essential : Bool) (limit : ℕ) (limits : Limits) (basis : Basis)
    (text : List ℕ) (what : What) → IsBasisOf r kind essential basis
    → IsStoppedBy (matter_of r basis) limits (header_of kind essential limit (matter_of r basis)) text what
    → IsBelowBudget limits kind (matter_of r basis) limit what

-- and so is the search for an explanation, and that for a repair
abbrev pub ExplanationBudgetsSuffice : Type 0
ExplanationBudgetsSuffice = (r : PackageList) (relations : List (List Literal)) (number limit : ℕ) (limits : Limits)
    (what : What) (text : List ℕ) → number < length r.packages → ArePresentClauses r false relations
    → OfExplain r number limit limits (λ g course. IsFullText g course what text)
    → IsBelowFileBudget limits (explanation_size r relations limit) what

abbrev pub RepairBudgetsSuffice : Type 0
RepairBudgetsSuffice = (s : SpaceView) (h : RepairHeader) (limits : Limits) (what : What) (text : List ℕ)
    → OfRepair s h limits (λ g course. IsFullText g course what text)
    → IsBelowFileBudget limits (repair_size s h) what

-- ---- what is accepted holds

-- the claims of an accepted certificate hold
abbrev pub ClaimsHold : Type 0
ClaimsHold = (r : PackageList) (limits : Limits) (text : List ℕ) (h : Header) (made : List Claim)
    → IsInOrder r.packages → IsAccepted r limits text h made → Means h.kind h.essential r made

-- the answer of an accepted file of an explanation holds
abbrev pub ExplanationsHold : Type 0
ExplanationsHold = (r : PackageList) (limits : Limits) (text : List ℕ) (h : ExplainHeader) (explained : Explained)
    → IsInOrder r.packages → IsExplanation r limits text h explained → ExplanationMeans r h explained

-- the answer of an accepted file of a repair holds
abbrev pub RepairsHold : Type 0
RepairsHold = (s : SpaceView) (limits : Limits) (text numbers : List ℕ) (h : RepairHeader) (repair : Repair)
    → IsSpace s → IsHeaderOf numbers h
    → IsAnsweredFile (repair_files s) limits text numbers (λ found. AnswersRepair s (asked_by numbers) found repair)
    → AcceptedSays s h repair

-- what the marks of an accepted certificate promise holds
abbrev pub MarksAreRight : Type 0
MarksAreRight = (r : PackageList) (limits : Limits) (text : List ℕ) → AreMarksRight r limits text

-- ---- all

pub record Laws : Type 0 where
  pub texts : AreExact
  pub health : HaveOneHealth
  pub budgets : BudgetsSuffice
  pub explain_budgets : ExplanationBudgetsSuffice
  pub repair_budgets : RepairBudgetsSuffice
  pub claims : ClaimsHold
  pub explanations : ExplanationsHold
  pub repairs : RepairsHold
  pub marks : MarksAreRight
