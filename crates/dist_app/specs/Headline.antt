-- What a run that sweeps, and one of `check`, `explain`, `check-explain`, `repair`, `check-repair`, `steps` and
-- `follow` prove.
use Rattle.std.specs.Prelude.{◌≡◌, ◌↔◌, ◌≤◌, ◌^◌, ℕ, Bool, false, List, Some, Contains, length, slice_get}
use Rattle.dist_outside.specs.DeskView.{DeskView}
use Rattle.dist_outside.specs.Files.{IsPresent, file_bytes, with_file}
use Rattle.dist_outside.specs.SinkView.{SinkView, Grew}
use Rattle.dist_outside.specs.declared.limits.Limits.{Limits}
use Rattle.dist_derive.specs.Cone.{InCone}
use Rattle.dist_repo.specs.PackageList.{PackageList}
use Rattle.dist_repo.specs.declared.package.Package.{Package}
use Rattle.dist_space.specs.Space.{SpaceView}
use Rattle.dist_space.specs.SpaceOf.{IsSpaceOf}
use Rattle.dist_archive.specs.Reach.{AreTaken, IsPlan}
use Rattle.dist_archive.specs.Steps.{Lead}
use Rattle.dist_archive.specs.declared.step.Step.{Step}
use Rattle.dist_cert.specs.Accepted.{IsAcceptedAs}
use Rattle.dist_cert.specs.Form.{Word}
use Rattle.dist_cert.specs.Groups.{clause_of, IsUndecidedIn}
use Rattle.dist_cert.specs.Tried.{AreMarksTried}
use Rattle.dist_cert.specs.declared.records.CertRecord.{CertRecord}
use Rattle.dist_cert.specs.declared.records.Claim.{Claim}
use Rattle.dist_cert.specs.declared.records.Header.{Header}
use Rattle.dist_cert.specs.declared.records.CertKind.{CertKind}
use Rattle.dist_subject.specs.Completed.{IsCompleted}
use Rattle.dist_subject.specs.Basis.{Basis, matter_of}
use Rattle.dist_sweep.specs.Sweep.{IsSweep}
use Rattle.dist_check.specs.Answers.{AcceptedMeans}
use Rattle.dist_explain.specs.Verdicts.{AcceptedMeans as ExplanationMeans, IsExplanation}
use Rattle.dist_explain.specs.declared.explained.Explained.{Explained}
use Rattle.dist_explain.specs.declared.verdict.ExplainHeader.{ExplainHeader}
use Rattle.dist_judge.specs.Judging.{OfText}
use Rattle.dist_check.specs.Means.{Means}
use Rattle.dist_explain_search.specs.ExplainAnswers.{OfExplain}
use Rattle.dist_repair.specs.Verdicts.{AcceptedSays, IsRepair}
use Rattle.dist_repair.specs.declared.repair.Repair.{Repair}
use Rattle.dist_repair.specs.declared.verdict.RepairHeader.{RepairHeader}
use Rattle.dist_repair_search.specs.SearchAnswers.{OfRepair, header_with}
use Rattle.dist_report.specs.RepairText.{repair_text}
use Rattle.dist_inquiry.specs.Written.{IsWholeText}
use Rattle.dist_list.specs.NamedPackage.{IsNamed}
use Rattle.dist_report.specs.ExplainedText.{IsExplainedText}
use Rattle.dist_history.specs.PlanText.{misfit_text, plan_text}
use Rattle.dist_journal.specs.declared.broken_list.Broken.{Broken}
use Rattle.dist_history.specs.FollowText.{follow_text}
use Rattle.dist_words.specs.CommandLine.{Sweep, Check, CheckExplain, Explain, CheckRepair}
use Rattle.dist_words.specs.CommandLine.{Repair as RepairLine, Steps, Follow}
use Rattle.dist_words.specs.Table.{command_of}
use Rattle.dist_commands.specs.CheckExplain.{explained_status}
use Rattle.dist_commands.specs.CheckRepair.{repaired_status}
use Rattle.dist_commands.specs.Claims.{IsReportOf, claims_status}
use Rattle.dist_commands.specs.Explain.{header_on}
use Rattle.dist_commands.specs.Follow.{AreToldBroken, IsFollowedWhole, IsTrueLine, StaysBroken}
use Rattle.dist_commands.specs.PackagesStage.{PackagesStage}
use Rattle.dist_commands.specs.SpaceStage.{IsSpaceOfFile}
use Rattle.dist_commands.specs.Stages.{Goes}
use Rattle.dist_commands.specs.Steps.{IsKeptAt, IsNewestIn}
use Rattle.dist_commands.specs.TextStage.{TextStage}
use Rattle.dist_commands.specs.declared.status.Status.{Status}
use Rattle.dist_commands.specs.declared.status.Status.TheVariants.{Done, DoneWithUndecided, NotAFuture}

-- the command was carried out
abbrev pub IsCarriedOut : Status → Type 0
IsCarriedOut Done = Unit {0}
IsCarriedOut DoneWithUndecided = Unit {0}
IsCarriedOut status = ⊥

-- What a mark promises, where the text is accepted. Its question is closed in the text behind at least as many derived
-- lines as the limit, each of which follows and was new; and the limit is at most 3 to the power of the number of
-- variables that the question reaches.
pub record AreMarksRight (r : PackageList) (limits : Limits) (text : List ℕ) : Type 0 where
  pub tried : (basis : Basis) (h : Header) (steps : List CertRecord)
      → IsAcceptedAs (matter_of r basis) limits text h steps → AreMarksTried (matter_of r basis) h.kind h.limit steps
  pub hard : (basis : Basis) (h : Header) (steps : List CertRecord) (question : List Word) (cone : List ℕ)
      → IsAcceptedAs (matter_of r basis) limits text h steps → IsUndecidedIn steps question
      → ((v : ℕ) → Contains cone v ↔ InCone (matter_of r basis).inputs (clause_of question) v)
      → h.limit ≤ 3 ^ length cone

-- PACKAGES has a repository, and CERT holds a whole certificate over it, of the command's kind, and with its mode and
-- limit. What it claims is true at that kind and mode, its marks are right, and its report was printed. All other files
-- are as before.
pub record ProvesSweep (limits : Limits) (kind : CertKind) (packages cert : List ℕ) (essential : Bool) (limit : ℕ)
    (result : Status) (desk desk' : DeskView) (out out' : SinkView) : Type 0 where
  pub repository : PackageList
  pub read : PackagesStage desk.files limits packages (Goes repository)
  pub made : List Claim
  pub text : List ℕ
  pub certificate : IsSweep repository kind essential limit limits made text
  pub files : desk'.files ≡ with_file desk.files cert text
  pub means : Means kind essential repository made
  pub marks : AreMarksRight repository limits text
  pub report : List ℕ
  pub is_report : IsReportOf repository kind limit made report
  pub printed : Grew report out out'
  pub status : result ≡ claims_status made

-- PACKAGES has a repository, and the file CERT was accepted over it, whoever wrote it, with a first line and claims.
-- The line has the numbers of what certificates of its kind and mode are judged by, what is claimed is true at its kind
-- and mode, its marks are right, and the report was printed. All files are as before.
pub record ProvesCheck (limits : Limits) (packages cert : List ℕ) (result : Status) (desk desk' : DeskView)
    (out out' : SinkView) : Type 0 where
  pub repository : PackageList
  pub read : PackagesStage desk.files limits packages (Goes repository)
  pub header : Header
  pub made : List Claim
  pub present : IsPresent desk.files cert
  pub accepted : OfText (file_bytes desk.files cert) (λ text. IsCompleted repository limits text header made)
  pub files : desk'.files ≡ desk.files
  pub means : AcceptedMeans repository header made
  pub marks : (text : List ℕ) → AreMarksRight repository limits text
  pub report : List ℕ
  pub is_report : IsReportOf repository header.kind header.limit made report
  pub printed : Grew report out out'
  pub status : result ≡ claims_status made

-- PACKAGES has a repository, and the file CERT was accepted over all its versions, whoever wrote it, with a header and
-- an answer. What is answered of the package is true: it is installable; or relations are told, which explain it
-- together, and each of them without a mark is needed. All files are as before.
pub record ProvesCheckExplain (limits : Limits) (packages cert : List ℕ) (result : Status) (desk desk' : DeskView)
    (out out' : SinkView) : Type 0 where
  pub repository : PackageList
  pub read : PackagesStage desk.files limits packages (Goes repository)
  pub header : ExplainHeader
  pub explained : Explained
  pub present : IsPresent desk.files cert
  pub accepted : OfText (file_bytes desk.files cert) (λ text. IsExplanation repository limits text header explained)
  pub files : desk'.files ≡ desk.files
  pub means : ExplanationMeans repository header explained
  pub told : List ℕ
  pub is_told : IsExplainedText repository header.«package» explained told
  pub printed : Grew told out out'
  pub status : result ≡ explained_status explained

-- PACKAGES has a repository, one of whose packages the option names, and CERT holds a whole file of an explanation of
-- it, with the limit of the command, which is accepted with this answer and asks its questions in the order of the
-- search. What is answered is true, and was printed. All other files are as before.
pub record ProvesExplain (limits : Limits) (packages cert named : List ℕ) (limit : ℕ) (result : Status)
    (desk desk' : DeskView) (out out' : SinkView) : Type 0 where
  pub repository : PackageList
  pub read : PackagesStage desk.files limits packages (Goes repository)
  pub number : ℕ
  pub is_named : IsNamed repository.packages named number
  pub explained : Explained
  pub text : List ℕ
  pub accepted : IsExplanation repository limits text (header_on number limit) explained
  pub in_order : OfExplain repository number limit limits (λ g course. IsWholeText g course text)
  pub files : desk'.files ≡ with_file desk.files cert text
  pub means : ExplanationMeans repository (header_on number limit) explained
  pub told : List ℕ
  pub is_told : IsExplainedText repository number explained told
  pub printed : Grew told out out'
  pub status : result ≡ explained_status explained

-- PACKAGES has a repository, and the file CERT was accepted over the space of its newest versions, whoever wrote it,
-- with a header and an answer. What is answered of the package is true, and was printed. All files are as before.
pub record ProvesCheckRepair (limits : Limits) (packages cert : List ℕ) (result : Status) (desk desk' : DeskView)
    (out out' : SinkView) : Type 0 where
  pub repository : PackageList
  pub read : PackagesStage desk.files limits packages (Goes repository)
  pub space : SpaceView
  pub is_space : IsSpaceOfFile false repository space
  pub header : RepairHeader
  pub repair : Repair
  pub present : IsPresent desk.files cert
  pub accepted : OfText (file_bytes desk.files cert) (λ text. IsRepair space limits text header repair)
  pub files : desk'.files ≡ desk.files
  pub says : AcceptedSays space header repair
  pub printed : Grew (repair_text space header.«package» repair) out out'
  pub status : result ≡ repaired_status repair

-- PACKAGES has a repository, one of whose newest versions the option names, and CERT holds a whole file of a repair of
-- it, with the limit of the command and its most, which is accepted with this answer and asks none
-- but the questions of the search, each at most once. What is answered is true, and was printed. All other files are
-- as before.
pub record ProvesRepair (limits : Limits) (packages cert named : List ℕ) (most limit : ℕ) (result : Status)
    (desk desk' : DeskView) (out out' : SinkView) : Type 0 where
  pub newest : PackageList
  pub read : IsNewestIn desk.files limits packages newest
  pub number : ℕ
  pub is_named : IsNamed newest.packages named number
  pub space : SpaceView
  pub is_space : IsSpaceOf newest false space
  pub repair : Repair
  pub text : List ℕ
  pub accepted : IsRepair space limits text (header_with limit number most) repair
  pub in_order : OfRepair space (header_with limit number most) limits (λ g course. IsWholeText g course text)
  pub files : desk'.files ≡ with_file desk.files cert text
  pub says : AcceptedSays space (header_with limit number most) repair
  pub printed : Grew (repair_text space number repair) out out'
  pub status : result ≡ repaired_status repair

-- The newest versions of PACKAGES and of LATER, and the space of the first ones.
pub record AreCompared (limits : Limits) (packages later : List ℕ) (desk : DeskView) : Type 0 where
  pub newest : PackageList
  pub newest_later : PackageList
  pub space : SpaceView
  pub read : IsNewestIn desk.files limits packages newest
  pub read_later : IsNewestIn desk.files limits later newest_later
  pub is_space : IsSpaceOf newest false space

-- A plan was printed. Its steps lead from the newest versions of PACKAGES to exactly those of LATER, and each is taken
-- where it comes. All files are as before.
pub record ProvesPlan (limits : Limits) (packages later : List ℕ) (desk desk' : DeskView) (out out' : SinkView) : Type 0
  where
    pub compared : AreCompared limits packages later desk
    pub steps : List Step
    pub is_plan : IsPlan compared.space compared.newest_later.packages steps
    pub leads : Lead compared.space steps compared.newest.packages compared.newest_later.packages
    pub taken : AreTaken compared.space steps compared.newest.packages compared.newest_later.packages
    pub printed : Grew (plan_text compared.space steps) out out'
    pub files : desk'.files ≡ desk.files

-- A package of the newest versions of LATER was printed: the first one, where LATER is for another architecture; else
-- the first that does not fit, and no list of steps leads there. All files are as before.
pub record ProvesMisfit (limits : Limits) (packages later : List ℕ) (desk desk' : DeskView) (out out' : SinkView)
    : Type 0 where
  pub compared : AreCompared limits packages later desk
  pub number : ℕ
  pub misfit : Package
  pub kept : IsKeptAt compared.space compared.newest_later number
  pub is_misfit : slice_get compared.newest_later.packages number ≡ Some misfit
  pub printed : Grew (misfit_text misfit) out out'
  pub files : desk'.files ≡ desk.files

-- The file CERT was accepted over PACKAGES, its marks are right, the journal was followed to its end from the newest
-- versions on, and this was told: how many steps it has, how many packages are held then, and, where CERT is of kind
-- challenged, which of them a moved cluster breaks. Each line that names one is true, and holds after every further
-- list of steps at whose end the archive has no package of the cluster's names at another version than the one in the
-- line: no healthy installation of it, at the mode of CERT, has the package. All files are as before.
pub record ProvesFollow (limits : Limits) (packages cert journal : List ℕ) (desk desk' : DeskView) (out out' : SinkView)
    : Type 0 where
  pub repository : PackageList
  pub read : PackagesStage desk.files limits packages (Goes repository)
  pub header : Header
  pub made : List Claim
  pub present : IsPresent desk.files cert
  pub accepted : OfText (file_bytes desk.files cert) (λ text. IsCompleted repository limits text header made)
  pub marks : (text : List ℕ) → AreMarksRight repository limits text
  pub space : SpaceView
  pub is_space : IsSpaceOfFile header.essential repository space
  pub text : List ℕ
  pub read_journal : TextStage desk.files journal limits.bytes (Goes text)
  pub archive : List Package
  pub count : ℕ
  pub followed : IsFollowedWhole limits.stanzas space text archive count
  pub list : List Broken
  pub are_told : AreToldBroken header.kind space archive made list
  pub true_lines : (broken : Broken) → Contains list broken → IsTrueLine space archive broken
  pub stay : (broken : Broken) → Contains list broken → StaysBroken space archive broken
  pub printed : Grew (follow_text space archive count list) out out'
  pub files : desk'.files ≡ desk.files

-- the same of a run with these words
abbrev pub SweepIsProved : List (List ℕ) → Limits → Status → DeskView → DeskView → SinkView → SinkView → Type 0
SweepIsProved words limits result desk desk' out out' =
    (kind : CertKind) (packages cert : List ℕ) (essential : Bool) (limit : ℕ)
    → command_of words ≡ Some (Sweep kind packages cert essential limit) → IsCarriedOut result
    → ProvesSweep limits kind packages cert essential limit result desk desk' out out'

-- and of one of `check`
abbrev pub CheckIsProved : List (List ℕ) → Limits → Status → DeskView → DeskView → SinkView → SinkView → Type 0
CheckIsProved words limits result desk desk' out out' = (packages cert : List ℕ)
    → command_of words ≡ Some (Check packages cert) → IsCarriedOut result
    → ProvesCheck limits packages cert result desk desk' out out'

-- and of one of `explain`
abbrev pub ExplainIsProved : List (List ℕ) → Limits → Status → DeskView → DeskView → SinkView → SinkView → Type 0
ExplainIsProved words limits result desk desk' out out' = (packages cert named : List ℕ) (limit : ℕ)
    → command_of words ≡ Some (Explain packages cert named limit) → IsCarriedOut result
    → ProvesExplain limits packages cert named limit result desk desk' out out'

-- and of one of `check-explain`
abbrev pub CheckExplainIsProved : List (List ℕ) → Limits → Status → DeskView → DeskView → SinkView → SinkView → Type 0
CheckExplainIsProved words limits result desk desk' out out' = (packages cert : List ℕ)
    → command_of words ≡ Some (CheckExplain packages cert) → IsCarriedOut result
    → ProvesCheckExplain limits packages cert result desk desk' out out'

-- and of one of `repair`
abbrev pub RepairIsProved : List (List ℕ) → Limits → Status → DeskView → DeskView → SinkView → SinkView → Type 0
RepairIsProved words limits result desk desk' out out' = (packages cert named : List ℕ) (most limit : ℕ)
    → command_of words ≡ Some (RepairLine packages cert named most limit) → IsCarriedOut result
    → ProvesRepair limits packages cert named most limit result desk desk' out out'

-- and of one of `check-repair`
abbrev pub CheckRepairIsProved : List (List ℕ) → Limits → Status → DeskView → DeskView → SinkView → SinkView → Type 0
CheckRepairIsProved words limits result desk desk' out out' = (packages cert : List ℕ)
    → command_of words ≡ Some (CheckRepair packages cert) → IsCarriedOut result
    → ProvesCheckRepair limits packages cert result desk desk' out out'

-- and of one of `steps`: with status 0 a plan, with status 12 a package that keeps LATER from being a future
abbrev pub StepsAreProved : List (List ℕ) → Limits → Status → DeskView → DeskView → SinkView → SinkView → Type 0
StepsAreProved words limits result desk desk' out out' = (packages later : List ℕ)
    → command_of words ≡ Some (Steps packages later)
    → (result ≡ Done → ProvesPlan limits packages later desk desk' out out')
    × (result ≡ NotAFuture → ProvesMisfit limits packages later desk desk' out out')

-- and of one of `follow`: with status 0
abbrev pub FollowIsProved : List (List ℕ) → Limits → Status → DeskView → DeskView → SinkView → SinkView → Type 0
FollowIsProved words limits result desk desk' out out' = (packages cert journal : List ℕ)
    → command_of words ≡ Some (Follow packages cert journal) → result ≡ Done
    → ProvesFollow limits packages cert journal desk desk' out out'
