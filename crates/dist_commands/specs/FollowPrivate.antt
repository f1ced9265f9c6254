-- What is known of CERT on the way to the answer of `follow`. No public clause cites it.
use Rattle.std.specs.Prelude.{◌≡◌, ℕ, List, Option}
use Rattle.dist_outside.specs.Files.{Files}
use Rattle.dist_outside.specs.declared.limits.Limits.{Limits}
use Rattle.dist_outside.specs.declared.trouble.What.TheVariants.{Stanzas}
use Rattle.dist_repo.specs.PackageList.{PackageList}
use Rattle.dist_space.specs.Space.{SpaceView}
use Rattle.dist_cert.specs.declared.records.CertKind.TheVariants.{Challenged}
use Rattle.dist_cert.specs.declared.records.Claim.{Claim}
use Rattle.dist_cert.specs.declared.records.Header.{Header}
use Rattle.dist_check.specs.Means.{MeansChallenged}
use Rattle.dist_journal.specs.declared.fault.FollowError.{FollowError}
use Rattle.dist_journal.specs.declared.fault.FollowError.TheVariants.{Bad, TooMany, NoMemory}
use Rattle.dist_commands.specs.Follow.{JournalStages, TellsFollowed}
use Rattle.dist_commands.specs.SpaceStage.{SpaceStage}
use Rattle.dist_commands.specs.Stages.{Ending, Then}
use Rattle.dist_commands.specs.declared.accepting.Accepted.{Accepted}
use Rattle.dist_commands.specs.declared.refusal.Refusal.{Refusal}
use Rattle.dist_commands.specs.declared.refusal.Refusal.TheVariants as refusal

-- the first line and the claims
abbrev pub pair_of : Accepted → Header × List Claim
pair_of accepted = (accepted.header, accepted.claims)

-- claims on challenges are true of the space
abbrev pub IsBacked : SpaceView → Accepted → Type 0
IsBacked space accepted = accepted.header.kind ≡ Challenged → MeansChallenged space accepted.claims

-- why the run is given up for what stops a journal
abbrev pub IsRefusalOf : FollowError → Refusal → Type 0
IsRefusalOf (Bad line fault) why = why ≡ refusal.BadJournal line fault
IsRefusalOf TooMany why = why ≡ refusal.TooLarge Stanzas
IsRefusalOf NoMemory why = why ≡ refusal.NoMemory

-- the rest of a run, once CERT is accepted
abbrev pub AfterCertificate : Limits → (journal : List ℕ) → PackageList → Option Files → Header × List Claim → Ending
    → Type 0
AfterCertificate limits journal r files accepted = Then (SpaceStage files limits accepted.0.essential r) (λ space.
    JournalStages files limits journal space (TellsFollowed files limits.stanzas space accepted))
