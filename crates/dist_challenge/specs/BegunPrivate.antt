-- Serves private contracts: the claim on a challenged package before its group names the installations of the claim.
use Rattle.std.specs.Prelude.{◌≡◌, ℕ, ◌+◌, ◌-◌, ◌≤◌, List, All, Contains, length, slice_index}
use Rattle.dist_outside.specs.DeskView.{DeskView}
use Rattle.dist_outside.specs.declared.trouble.WorkError.{WorkError}
use Rattle.dist_cert.specs.declared.records.CertRecord.{CertRecord}
use Rattle.dist_cert.specs.declared.records.Claim.{Claim}
use Rattle.dist_cert.specs.Groups as lines
use Rattle.dist_space.specs.Space.{SpaceView, variable_of}
use Rattle.dist_space.specs.declared.meaning.Meaning.TheVariants.{Present}
use Rattle.dist_line_write.specs.Asking.{AskerView}
use Rattle.dist_sweep.specs.Asking.{IsAt}
use Rattle.dist_sweep.specs.Script.{Setting, Stops}
use Rattle.dist_sweep.specs.Claiming.{IsClaimed}
use Rattle.dist_sweep.specs.Window.{IsWindowAt, WindowView}
use Rattle.dist_covering.specs.Covering.{CoveringView}
use Rattle.dist_challenge.specs.ChallengedPrivate.{KeepsChallenged}
use Rattle.dist_covering.specs.OpenPairs.{IsPairVariable}
use Rattle.dist_challenge.specs.GroupPrivate.{EachAnswered, NoToday, together}
use Rattle.dist_covering.specs.Group.{GroupView}

-- What is kept of the group of the next claim is what its lines hold, of which so many installations stand before.
pub record IsBegunAt (g : Setting) (before : List CertRecord) (s : SpaceView) (group : GroupView) (earlier : ℕ) : Type 0
  where
    pub claimed : group.claimed ≡ lines.claim_count before + 1
    pub upto : group.claimed ≤ length s.repository.packages
    pub present : group.present ≡ variable_of s (Present (group.claimed - 1))
    pub own : length (lines.installations (lines.group before)) + earlier ≡ length (lines.installations before)
    pub each : All (λ members. Contains members group.present) (lines.installations (lines.group before))
    pub apart : All (λ at. ¬ Contains group.undecided at) group.refuted
    pub pairs : All (IsPairVariable s (slice_index s.cluster_of (group.claimed - 1))) group.refuted
        × All (IsPairVariable s (slice_index s.cluster_of (group.claimed - 1))) group.undecided
    pub are_refuted : All (λ at. lines.IsRefutedIn (lines.group before) (together group.present at)) group.refuted
    pub are_undecided : All (λ at. lines.IsUndecidedIn (lines.group before) (together group.present at)) group.undecided
    pub answered : EachAnswered g before s group

-- All that is kept is what these lines hold.
pub record IsBegun (g : Setting) (before : List CertRecord) (a : AskerView) (w : WindowView) (c : CoveringView)
    (group : GroupView) (earlier : ℕ) : Type 0
  where
    pub keeps : KeepsChallenged g before c
    pub at : IsAt g before a
    pub window : IsWindowAt before w
    pub begun_at : IsBegunAt g before c.space group earlier
    pub no_today : NoToday before group

-- where a claim was written behind these lines
abbrev pub BegunMore : DeskView → DeskView → AskerView → AskerView → WindowView → WindowView → CoveringView
    → CoveringView → GroupView → ℕ → Claim
    → Type 0
BegunMore old new a b w v c d group earlier claim = (g : Setting) (before : List CertRecord)
    → IsBegun g before a w c group earlier
    → IsClaimed g before old new b v (λ lines. KeepsChallenged g lines d) claim

abbrev pub BegunStops : DeskView → DeskView → AskerView → WindowView → CoveringView → GroupView → ℕ → WorkError
    → Type 0
BegunStops old new a w c group earlier error = (g : Setting) (before : List CertRecord)
    → IsBegun g before a w c group earlier → Stops g before old new error
