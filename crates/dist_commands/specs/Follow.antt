-- What `follow PACKAGES CERT JOURNAL` comes to.
use Rattle.std.specs.Prelude.{◌≡◌, ℕ, List, [], Contains, Option, Some, slice_get}
use Rattle.std.specs.declared.cmp.Ordering.TheVariants.{Equal}
use Rattle.dist_outside.specs.Files.{Files}
use Rattle.dist_outside.specs.declared.limits.Limits.{Limits}
use Rattle.dist_outside.specs.declared.trouble.What.TheVariants.{Stanzas}
use Rattle.dist_version.specs.Order.{version_cmp}
use Rattle.dist_cluster.specs.Partition.{least}
use Rattle.dist_repo.specs.declared.package.Package.{Package}
use Rattle.dist_space.specs.Space.{SpaceView}
use Rattle.dist_future.specs.Outdated.{Challenges, IsInstallableIn}
use Rattle.dist_archive.specs.Steps.{IsOfCluster, Lead}
use Rattle.dist_archive.specs.declared.step.Step.{Step as ArchiveStep}
use Rattle.dist_cert.specs.declared.records.CertKind.{CertKind}
use Rattle.dist_cert.specs.declared.records.CertKind.TheVariants.{Strong, Outdated, Challenged}
use Rattle.dist_cert.specs.declared.records.Claim.{Claim}
use Rattle.dist_cert.specs.declared.records.Header.{Header}
use Rattle.dist_journal.specs.Broken.{AreBroken}
use Rattle.dist_journal.specs.Follow.{IsFollowed, IsStopped}
use Rattle.dist_journal.specs.declared.broken_list.Broken.{Broken}
use Rattle.dist_journal.specs.declared.fault.FollowError.{FollowError}
use Rattle.dist_journal.specs.declared.fault.FollowError.TheVariants.{Bad, TooMany, NoMemory}
use Rattle.dist_history.specs.FollowText.{follow_text, held_version}
use Rattle.dist_history.specs.Left.{HoldsNoOther}
use Rattle.dist_commands.specs.Check.{CheckStages}
use Rattle.dist_commands.specs.SpaceStage.{SpaceStage}
use Rattle.dist_commands.specs.Stages.{Ending, Step, Goes, Ends, Then, answered, refused}
use Rattle.dist_commands.specs.TextStage.{TextStage}
use Rattle.dist_commands.specs.declared.refusal.Refusal.TheVariants.{BadJournal, TooLarge}
use Rattle.dist_commands.specs.declared.status.Status.TheVariants.{Done}

-- ---- the journal

-- the journal is followed to its end, from the packages of the space on
abbrev pub IsFollowedWhole : (stanzas : ℕ) → SpaceView → (journal : List ℕ) → (archive : List Package) → (count : ℕ)
    → Type 0
IsFollowedWhole stanzas space journal archive count =
    IsFollowed space stanzas journal space.repository.packages archive count

-- it is followed to its first fault, or to a block of more stanzas than the limit
abbrev pub IsStoppedFor : (stanzas : ℕ) → SpaceView → (journal : List ℕ) → FollowError → Type 0
IsStoppedFor stanzas space journal error = (archive : List Package)
    × IsStopped space stanzas journal space.repository.packages archive error

-- the end that this gives
abbrev pub IsEndOfJournal : Option Files → FollowError → Ending → Type 0
IsEndOfJournal files (Bad line fault) ending = ending ≡ refused files (BadJournal line fault)
IsEndOfJournal files TooMany ending = ending ≡ refused files (TooLarge Stanzas)
IsEndOfJournal files NoMemory ending = ⊥

-- All steps of the journal are made, or its first fault ends the run.
abbrev pub JournalStage : Option Files → (stanzas : ℕ) → SpaceView → (journal : List ℕ) → Step (Unit {0}) → Type 0
JournalStage files stanzas space journal (Goes _) =
    (archive : List Package) × (count : ℕ) × IsFollowedWhole stanzas space journal archive count
JournalStage files stanzas space journal (Ends ending) = (error : FollowError)
    × IsStoppedFor stanzas space journal error × IsEndOfJournal files error ending

-- ---- what is told

-- which packages are told: those that moved clusters break by claims on challenges, and none by other claims
abbrev pub AreToldBroken : CertKind → SpaceView → (archive : List Package) → List Claim → List Broken → Type 0
AreToldBroken Strong space archive made list = list ≡ []
AreToldBroken Outdated space archive made list = list ≡ []
AreToldBroken Challenged space archive made list = AreBroken space archive made list

-- A line that names a package is true: a version that is equal to the one in the line challenges it. The cluster goes
-- by its member that stands first.
pub record IsTrueLine (space : SpaceView) (archive : List Package) (broken : Broken) : Type 0 where
  pub p : Package
  pub is_package : slice_get space.repository.packages broken.package_ ≡ Some p
  pub members : List ℕ
  pub are_members : slice_get space.clusters.members broken.cluster ≡ Some members
  pub c : Package
  pub is_first : slice_get space.repository.packages (least members) ≡ Some c
  pub version : List ℕ
  pub same : version_cmp (held_version space archive broken.cluster) version ≡ Equal
  pub challenges : Challenges space.essential space.repository c version p

-- What a line that names a package promises: after every further list of steps at whose end an archive holds no package
-- of the cluster's names at another version than the one in the line, no healthy installation of that archive has the
-- package itself. Packages of the cluster may be missing, all of them too.
abbrev pub StaysBroken : SpaceView → (archive : List Package) → Broken → Type 0
StaysBroken space archive broken = (c p : Package) (steps : List ArchiveStep) (later : List Package)
    → IsOfCluster space broken.cluster c → slice_get space.repository.packages broken.package_ ≡ Some p
    → Lead space steps archive later
    → HoldsNoOther space.repository later c (held_version space archive broken.cluster)
    → ¬ IsInstallableIn space.essential space.repository later p

-- The journal is followed to its end, and it is told what this leaves.
pub record TellsFollowed (files : Option Files) (stanzas : ℕ) (space : SpaceView) (accepted : Header × List Claim)
    (journal : List ℕ) (ending : Ending) : Type 0 where
  pub archive : List Package
  pub count : ℕ
  pub followed : IsFollowedWhole stanzas space journal archive count
  pub list : List Broken
  pub are_told : AreToldBroken accepted.0.kind space archive accepted.1 list
  pub true_lines : (broken : Broken) → Contains list broken → IsTrueLine space archive broken
  pub stay : (broken : Broken) → Contains list broken → StaysBroken space archive broken
  pub is : ending ≡ answered files Done (follow_text space archive count list)

-- ---- the stages

-- JOURNAL is read, and its steps are made.
abbrev pub JournalStages : Option Files → Limits → (journal : List ℕ) → SpaceView
    → ((text : List ℕ) → Ending → Type 0) → Ending → Type 0
JournalStages files limits journal space Last =
    Then (TextStage files journal limits.bytes) (λ text.
    Then (JournalStage files limits.stanzas space text) (λ _. Last text))

-- PACKAGES is read and taken apart, and CERT is judged; then the space is made at the mode of CERT, and the journal is
-- followed. The first stage that is refused decides.
abbrev pub FollowStages : Option Files → Limits → (packages cert journal : List ℕ)
    → (SpaceView → (Header × List Claim) → (text : List ℕ) → Ending → Type 0) → Ending → Type 0
FollowStages files limits packages cert journal Last = CheckStages files limits packages cert (λ r accepted.
    Then (SpaceStage files limits accepted.0.essential r) (λ space.
    JournalStages files limits journal space (Last space accepted)))
