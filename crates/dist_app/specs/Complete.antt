-- What a run of each command comes to where nothing is in its way. Want of memory may come in place of any answer.
use Rattle.std.specs.Prelude.{◌≡◌, ◌⊎◌, ℕ, Bool, false, List, Option, Some, Result, Ok, Err}
use Rattle.dist_base.specs.declared.TheConstants.{DEFAULT_LIMIT}
use Rattle.dist_outside.specs.Counts.{Rose}
use Rattle.dist_outside.specs.DeskView.{DeskView}
use Rattle.dist_outside.specs.Files.{Files, with_file}
use Rattle.dist_outside.specs.SinkView.{SinkView}
use Rattle.dist_outside.specs.declared.limits.Limits.{Limits}
use Rattle.dist_outside.specs.declared.trouble.What.{What}
use Rattle.dist_repo.specs.Order.{IsLatestOf}
use Rattle.dist_repo.specs.PackageList.{PackageList}
use Rattle.dist_space.specs.Space.{SpaceView}
use Rattle.dist_now.specs.Health.{IsHealth}
use Rattle.dist_now.specs.PresentClauses.{ArePresentClauses}
use Rattle.dist_now.specs.declared.kinds.Health.TheVariants.{Healthy}
use Rattle.dist_budget.specs.Budget.{IsBelowBudget, IsBelowFileBudget}
use Rattle.dist_budget.specs.SearchBudget.{explanation_size, repair_size}
use Rattle.dist_clause.specs.Formula.{Literal}
use Rattle.dist_cert.specs.Part.{IsStoppedBy}
use Rattle.dist_cert.specs.declared.faults.ReadCertError.{ReadCertError}
use Rattle.dist_cert.specs.declared.faults.ReadCertError.TheVariants.{Bad, Work}
use Rattle.dist_cert.specs.declared.records.CertKind.{CertKind}
use Rattle.dist_cert.specs.declared.records.Claim.{Claim}
use Rattle.dist_cert.specs.declared.records.Header.{Header}
use Rattle.dist_subject.specs.Basis.{matter_of}
use Rattle.dist_sweep.specs.Sweep.{OfSweep}
use Rattle.dist_list.specs.NamedPackage.{IsNamed}
use Rattle.dist_explain.specs.ExplanationFiles.{PassesFirst}
use Rattle.dist_explain.specs.declared.explained.Explained.{Explained}
use Rattle.dist_explain.specs.declared.verdict.ExplainHeader.{ExplainHeader}
use Rattle.dist_repair.specs.RepairFiles.{PassesWith}
use Rattle.dist_repair.specs.declared.repair.Repair.{Repair}
use Rattle.dist_repair.specs.declared.verdict.RepairHeader.{RepairHeader}
use Rattle.dist_repair_search.specs.SearchAnswers.{header_with}
use Rattle.dist_journal.specs.declared.fault.FollowError.{FollowError}
use Rattle.dist_journal.specs.declared.fault.FollowError.TheVariants as follow_error
use Rattle.dist_words.specs.CommandLine.{Health, Classes, Sweep, Check, CheckExplain, Explain, CheckRepair}
use Rattle.dist_words.specs.CommandLine.{Repair as RepairLine, Try, Steps, Follow}
use Rattle.dist_words.specs.Table.{command_of}
use Rattle.dist_commands.specs.Check.{CertificateAnswers, CertificateStage}
use Rattle.dist_commands.specs.CheckExplain.{ExplanationReads, explained_status}
use Rattle.dist_commands.specs.CheckRepair.{RepairReads, repaired_status}
use Rattle.dist_commands.specs.CheckedFile.{IsOneAnswer}
use Rattle.dist_commands.specs.Claims.{claims_status}
use Rattle.dist_commands.specs.Explain.{explain_writing}
use Rattle.dist_commands.specs.Follow.{IsStoppedFor}
use Rattle.dist_app.specs.Headline.{IsCarriedOut}
use Rattle.dist_commands.specs.Health.{ListStage}
use Rattle.dist_commands.specs.PackagesStage.{PackagesStage}
use Rattle.dist_commands.specs.Repair.{PlainSpaceStage, repair_writing}
use Rattle.dist_app.specs.Run.{TellsFiles}
use Rattle.dist_commands.specs.SpaceStage.{SpaceStage}
use Rattle.dist_commands.specs.Stages.{Goes}
use Rattle.dist_commands.specs.Steps.{IsFutureArchive, IsNewestIn}
use Rattle.dist_commands.specs.Sweeps.{InputsStage}
use Rattle.dist_commands.specs.TextStage.{TextStage}
use Rattle.dist_commands.specs.Try.{ArchiveStage}
use Rattle.dist_commands.specs.WrittenFile.{NumbersStage}
use Rattle.dist_commands.specs.declared.status.Status.{Status}
use Rattle.dist_commands.specs.declared.status.Status.TheVariants.{Done, CertificateRefused, NoMemory, TooLarge}
use Rattle.dist_commands.specs.declared.status.Status.TheVariants.{NotHealthy, BadJournal, NotAFuture, NoSuchPackage}

-- The desk tells its files, and no fault of the desk or of `out` was counted.
pub record IsUndisturbed (desk desk' : DeskView) (out out' : SinkView) : Type 0 where
  pub tells : TellsFiles desk
  pub none_of_reading : ¬ Rose desk.read_faults desk'.read_faults
  pub none_of_writing : ¬ Rose desk.write_faults desk'.write_faults
  pub none_of_printing : ¬ Rose out.faults out'.faults

-- ---- `health`

-- what a set comes to: 0 exactly where it is healthy, else 9
abbrev pub IsStatusOfSet : PackageList → List Bool → Status → Type 0
IsStatusOfSet r members status = ((status ≡ Done) × IsHealth r false members Healthy)
    ⊎ ((status ≡ NotHealthy) × (¬ IsHealth r false members Healthy))

-- LIST names a set of packages of PACKAGES.
abbrev pub HealthIsComplete : List (List ℕ) → Limits → Status → Option Files → Type 0
HealthIsComplete words limits result files =
    (packages list : List ℕ) (r : PackageList) (text : List ℕ) (members : List Bool)
    → command_of words ≡ Some (Health packages list)
    → PackagesStage files limits packages (Goes r) → TextStage files list limits.bytes (Goes text)
    → ListStage files r.packages text (Goes members)
    → (result ≡ NoMemory) ⊎ IsStatusOfSet r members result

-- ---- `classes`

abbrev pub ClassesAreComplete : List (List ℕ) → Limits → Status → Option Files → Type 0
ClassesAreComplete words limits result files = (packages : List ℕ) (r : PackageList)
    → command_of words ≡ Some (Classes packages)
    → PackagesStage files limits packages (Goes r) → (result ≡ NoMemory) ⊎ (result ≡ Done)

-- ---- sweeps and `try`

-- A sweep stopped at a number that is below its budget, with a full part of a certificate.
pub record StopsBelowBudget (r : PackageList) (kind : CertKind) (essential : Bool) (limit : ℕ) (limits : Limits)
    (status : Status) (text : List ℕ) : Type 0 where
  pub what : What
  pub stopped : status ≡ TooLarge
  pub below : OfSweep r kind essential limit (λ basis h. IsStoppedBy (matter_of r basis) limits h text what
      × IsBelowBudget limits kind (matter_of r basis) limit what)

-- What the sweep of PACKAGES is judged by keeps its numbers. The part that stopped stands in CERT.
abbrev pub SweepIsComplete : List (List ℕ) → Limits → Status → (files left : Option Files) → Type 0
SweepIsComplete words limits result files left =
    (kind : CertKind) (packages cert : List ℕ) (essential : Bool) (limit : ℕ) (r : PackageList)
    → command_of words ≡ Some (Sweep kind packages cert essential limit) → PackagesStage files limits packages (Goes r)
    → InputsStage files limits kind essential r (Goes tt)
    → (result ≡ NoMemory) ⊎ (IsCarriedOut result
    ⊎ ((text : List ℕ) × StopsBelowBudget r kind essential limit limits result text
    × (left ≡ with_file files cert text)))

-- The archive of the size and the seed, and what the sweep of each kind is judged by, keep their numbers. The desk has
-- no part in it.
abbrev pub TrialIsComplete : List (List ℕ) → Limits → Status → Option Files → SinkView → SinkView → Type 0
TrialIsComplete words limits result files out out' = ¬ Rose out.faults out'.faults → (size seed : ℕ) (r : PackageList)
    → command_of words ≡ Some (Try size seed) → ArchiveStage files limits size seed (Goes r)
    → ((kind : CertKind) → InputsStage files limits kind false r (Goes tt))
    → (result ≡ NoMemory) ⊎ (IsCarriedOut result
    ⊎ ((kind : CertKind) × (text : List ℕ) × StopsBelowBudget r kind false DEFAULT_LIMIT limits result text))

-- ---- files that are checked

-- the status that goes with a fault, and with a number that is passed
abbrev pub error_status : ReadCertError → Status
error_status (Bad fault) = CertificateRefused
error_status (Work error) = TooLarge

-- the status that goes with an answer, by what an accepted file says
abbrev pub answer_status : {X : Type 0} → (X → Status) → Result X ReadCertError → Status
answer_status status (Ok x) = status x
answer_status status (Err error) = error_status error

-- the status of what an accepted certificate says, and an accepted file of an explanation or of a repair
abbrev pub told_claims : Header × List Claim → Status
told_claims accepted = claims_status accepted.1

abbrev pub told_explained : ExplainHeader × Explained → Status
told_explained accepted = explained_status accepted.1

abbrev pub told_repair : RepairHeader × Repair → Status
told_repair accepted = repaired_status accepted.1

-- The status is that of the file's one answer: it is accepted, or refused, or passes a number.
abbrev pub IsStatusOfFile : {X : Type 0} → (List ℕ → Result X ReadCertError → Type 0) → Option Files
    → (name : List ℕ) → (X → Status) → Status → Type 0
IsStatusOfFile {X} Answers files name told status = (answer : Result X ReadCertError)
    × IsOneAnswer Answers files name answer × (status ≡ answer_status told answer)

abbrev pub CheckIsComplete : List (List ℕ) → Limits → Status → Option Files → Type 0
CheckIsComplete words limits result files = (packages cert : List ℕ) (r : PackageList)
    → command_of words ≡ Some (Check packages cert) → PackagesStage files limits packages (Goes r)
    → (result ≡ NoMemory) ⊎ IsStatusOfFile (CertificateAnswers r limits) files cert told_claims result

abbrev pub CheckExplainIsComplete : List (List ℕ) → Limits → Status → Option Files → Type 0
CheckExplainIsComplete words limits result files = (packages cert : List ℕ) (r : PackageList)
    → command_of words ≡ Some (CheckExplain packages cert) → PackagesStage files limits packages (Goes r)
    → (result ≡ NoMemory) ⊎ IsStatusOfFile (ExplanationReads r limits) files cert told_explained result

-- The space of PACKAGES keeps its number of variables.
abbrev pub CheckRepairIsComplete : List (List ℕ) → Limits → Status → Option Files → Type 0
CheckRepairIsComplete words limits result files = (packages cert : List ℕ) (r : PackageList) (space : SpaceView)
    → command_of words ≡ Some (CheckRepair packages cert) → PackagesStage files limits packages (Goes r)
    → SpaceStage files limits false r (Goes space)
    → (result ≡ NoMemory) ⊎ IsStatusOfFile (RepairReads space limits) files cert told_repair result

-- ---- `explain`

-- The search for an explanation stopped at a number that is below its budget, by the clauses of the relations, with a
-- full part of a file in CERT.
pub record ExplainStopsBelow (limits : Limits) (cert : List ℕ) (limit : ℕ) (r : PackageList) (number : ℕ)
    (status : Status) (files left : Option Files) : Type 0 where
  pub what : What
  pub text : List ℕ
  pub stopped : status ≡ TooLarge
  pub full : (explain_writing limits limit r number).IsFull what text
  pub left_is : left ≡ with_file files cert text
  pub relations : List (List Literal)
  pub are_relations : ArePresentClauses r false relations
  pub below : IsBelowFileBudget limits (explanation_size r relations limit) what

-- 13 where the option names no package, and only there (`Runs`). Else, where the clauses with selectors keep their
-- numbers, the file is written and its answer told, or a number stopped it that is below its budget.
pub record ExplainComesTo (limits : Limits) (cert named : List ℕ) (limit : ℕ) (r : PackageList) (status : Status)
    (files left : Option Files) : Type 0 where
  pub none : ((number : ℕ) → ¬ IsNamed r.packages named number) → status ≡ NoSuchPackage
  pub one : (number : ℕ) → IsNamed r.packages named number → NumbersStage (PassesFirst r limits) files (Goes tt)
      → IsCarriedOut status ⊎ ExplainStopsBelow limits cert limit r number status files left

abbrev pub ExplainIsComplete : List (List ℕ) → Limits → Status → (files left : Option Files) → Type 0
ExplainIsComplete words limits result files left = (packages cert named : List ℕ) (limit : ℕ) (r : PackageList)
    → command_of words ≡ Some (Explain packages cert named limit) → PackagesStage files limits packages (Goes r)
    → (result ≡ NoMemory) ⊎ ExplainComesTo limits cert named limit r result files left

-- ---- `repair`

-- The search for a repair stopped at a number that is below its budget, with a full part of a file in CERT.
pub record RepairStopsBelow (limits : Limits) (cert : List ℕ) (most limit : ℕ) (space : SpaceView) (number : ℕ)
    (status : Status) (files left : Option Files) : Type 0 where
  pub what : What
  pub text : List ℕ
  pub stopped : status ≡ TooLarge
  pub full : (repair_writing limits most limit space number).IsFull what text
  pub left_is : left ≡ with_file files cert text
  pub below : IsBelowFileBudget limits (repair_size space (header_with limit number most)) what

-- 13 where the option names no package of the newest versions, and only there (`Runs`). Else, where the space and its
-- clauses with a counter keep their numbers, the file is written and its answer told, or a number stopped it that is
-- below its budget.
pub record RepairComesTo (limits : Limits) (cert named : List ℕ) (most limit : ℕ) (newest : PackageList)
    (status : Status) (files left : Option Files) : Type 0 where
  pub none : ((number : ℕ) → ¬ IsNamed newest.packages named number) → status ≡ NoSuchPackage
  pub one : (number : ℕ) (space : SpaceView) → IsNamed newest.packages named number
      → PlainSpaceStage files limits newest (Goes space) → NumbersStage (PassesWith space most limits) files (Goes tt)
      → IsCarriedOut status ⊎ RepairStopsBelow limits cert most limit space number status files left

abbrev pub RepairIsComplete : List (List ℕ) → Limits → Status → (files left : Option Files) → Type 0
RepairIsComplete words limits result files left =
    (packages cert named : List ℕ) (most limit : ℕ) (newest : PackageList)
    → command_of words ≡ Some (RepairLine packages cert named most limit) → IsNewestIn files limits packages newest
    → (result ≡ NoMemory) ⊎ RepairComesTo limits cert named most limit newest result files left

-- ---- `steps`

-- what a later archive comes to: 0 exactly where it is a future, else 12
abbrev pub IsStatusOfLater : (r later : PackageList) → Status → Type 0
IsStatusOfLater r later status = ((status ≡ Done) × IsFutureArchive r later)
    ⊎ ((status ≡ NotAFuture) × (¬ IsFutureArchive r later))

-- The space of PACKAGES keeps its number of variables, and LATER has a repository. The newest versions of both decide.
abbrev pub StepsAreComplete : List (List ℕ) → Limits → Status → Option Files → Type 0
StepsAreComplete words limits result files =
    (packages later : List ℕ) (r l newest_later : PackageList) (space : SpaceView)
    → command_of words ≡ Some (Steps packages later)
    → PackagesStage files limits packages (Goes r) → SpaceStage files limits false r (Goes space)
    → PackagesStage files limits later (Goes l) → IsLatestOf l newest_later
    → (result ≡ NoMemory) ⊎ IsStatusOfLater space.repository newest_later result

-- ---- `follow`

-- of an accepted file nothing, and else its status
abbrev pub IsStatusOfRefused : {X : Type 0} → Result X ReadCertError → Status → Type 0
IsStatusOfRefused (Ok x) status = Unit {0}
IsStatusOfRefused (Err error) status = status ≡ error_status error

-- CERT has one answer, as of `check`, and where it is not accepted, that decides the status.
abbrev pub FollowJudges : List (List ℕ) → Limits → Status → Option Files → Type 0
FollowJudges words limits result files = (packages cert journal : List ℕ) (r : PackageList)
    → command_of words ≡ Some (Follow packages cert journal) → PackagesStage files limits packages (Goes r)
    → (result ≡ NoMemory) ⊎ ((answer : Result (Header × List Claim) ReadCertError)
    × IsOneAnswer (CertificateAnswers r limits) files cert answer × IsStatusOfRefused answer result)

-- the status that goes with what stops a journal
abbrev pub stop_status : FollowError → Status
stop_status (follow_error.Bad line fault) = BadJournal
stop_status follow_error.TooMany = TooLarge
stop_status follow_error.NoMemory = NoMemory

-- what a journal comes to: 0 exactly where nothing stops it, else 11; 8 where it has a block of too many stanzas first
abbrev pub IsStatusOfJournal : (stanzas : ℕ) → SpaceView → (journal : List ℕ) → Status → Type 0
IsStatusOfJournal stanzas space journal status =
    ((status ≡ Done) × ((error : FollowError) → ¬ IsStoppedFor stanzas space journal error))
    ⊎ ((error : FollowError) × IsStoppedFor stanzas space journal error × (status ≡ stop_status error))

-- CERT is accepted, the space of its mode keeps its number of variables, and JOURNAL its bytes: the journal decides.
abbrev pub FollowIsComplete : List (List ℕ) → Limits → Status → Option Files → Type 0
FollowIsComplete words limits result files =
    (packages cert journal : List ℕ) (r : PackageList) (accepted : Header × List Claim) (space : SpaceView)
    (text : List ℕ)
    → command_of words ≡ Some (Follow packages cert journal) → PackagesStage files limits packages (Goes r)
    → CertificateStage files limits cert r (Goes accepted)
    → SpaceStage files limits accepted.0.essential r (Goes space) → TextStage files journal limits.bytes (Goes text)
    → (result ≡ NoMemory) ⊎ IsStatusOfJournal limits.stanzas space text result

-- ---- all

-- the commands that read files
pub record Completes (words : List (List ℕ)) (limits : Limits) (result : Status) (files left : Option Files) : Type 0
  where
    pub health : HealthIsComplete words limits result files
    pub classes : ClassesAreComplete words limits result files
    pub sweep : SweepIsComplete words limits result files left
    pub check : CheckIsComplete words limits result files
    pub check_explain : CheckExplainIsComplete words limits result files
    pub explain : ExplainIsComplete words limits result files left
    pub check_repair : CheckRepairIsComplete words limits result files
    pub repair : RepairIsComplete words limits result files left
    pub steps : StepsAreComplete words limits result files
    pub follow_judges : FollowJudges words limits result files
    pub follow : FollowIsComplete words limits result files

-- where nothing outside fails, a run comes to what the files and the limits decide
pub record IsComplete (words : List (List ℕ)) (limits : Limits) (result : Status) (desk desk' : DeskView)
    (out out' : SinkView) : Type 0 where
  pub of_files : IsUndisturbed desk desk' out out' → Completes words limits result desk.files desk'.files
  pub of_trials : TrialIsComplete words limits result desk.files out out'
