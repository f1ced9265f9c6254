-- The stages of `follow`, one after another.
use Rattle.std.proofs.Common.{◌≡◌, ◌<◌, ◌+◌, ℕ, Bool, List, length, inl, inr, Option, Result, IfErr, sym, subst, ap, arith}
use Rattle.dist_outside.specs.Files.{Files}
use Rattle.dist_outside.specs.DeskView.{DeskView}
use Rattle.dist_outside.specs.declared.limits.Limits.{Limits}
use Rattle.dist_repo.specs.PackageList.{PackageList}
use Rattle.dist_repo.specs.Size.{IsWithinSize}
use Rattle.dist_space.specs.Space.{SpaceView}
use Rattle.dist_cert.specs.declared.records.CertKind.{CertKind}
use Rattle.dist_cert.specs.declared.records.CertKind.TheVariants.{Strong, Outdated, Challenged}
use Rattle.dist_check.specs.Answers.{AcceptedMeans}
use Rattle.dist_check.specs.JudgedSpace.{IsJudgedBySpace}
use Rattle.dist_check.specs.Means.{Means, MeansChallenged}
use Rattle.dist_subject.specs.Basis.{IsBasisOf, IsLaterOf, Later}
use Rattle.dist_commands.specs.Check.{CertificateStage}
use Rattle.dist_commands.specs.DuePrivate.{IsDue, IsPartGivenUp}
use Rattle.dist_commands.specs.Follow.{JournalStage, JournalStages, TellsFollowed}
use Rattle.dist_commands.specs.FollowPrivate.{AfterCertificate, IsBacked, pair_of}
use Rattle.dist_commands.specs.OneSpaceLaws.{HaveOneSpace}
use Rattle.dist_commands.specs.StatedLimits.{IsWithinStated}
use Rattle.dist_commands.specs.SpaceStage.{IsSpaceOfFile, SpaceStage}
use Rattle.dist_commands.specs.Stages.{Ending, Ends, Goes, Then, answered}
use Rattle.dist_commands.specs.TextStage.{TextStage}
use Rattle.dist_commands.specs.declared.accepting.Accepted.{Accepted}
use Rattle.dist_commands.specs.declared.refusal.Refusal.{Refusal}
use Rattle.dist_commands.specs.declared.status.Status.{Status}
use Rattle.dist_commands.proofs.Due.{due_more, err_more}

-- the rest of a run, once PACKAGES is read
abbrev pub AfterPackages : Limits → (cert journal : List ℕ) → Option Files → PackageList → Ending → Type 0
AfterPackages limits cert journal files r = Then (CertificateStage files limits cert r) (AfterCertificate limits journal r files)

-- the claims of an accepted certificate are of the space that was made
pub backed : HaveOneSpace → (r : PackageList) (accepted : Accepted) (space : SpaceView) → IsSpaceOfFile accepted.header.essential r space
    → AcceptedMeans r accepted.header accepted.claims → IsBacked space accepted
backed one r accepted space made means kind =
    let all : Means Challenged accepted.header.essential r accepted.claims =
    subst (λ (k : CertKind). Means k accepted.header.essential r accepted.claims) kind means.means in
    subst (λ (s : SpaceView). MeansChallenged s accepted.claims)
    (one r accepted.header.essential space all.0 made (all.1, all.2)) all.3

-- the space that certificates of some kind are judged by is the one of the file
pub at-hand : (r : PackageList) (limits : Limits) (kind : CertKind) (essential : Bool) (space : SpaceView) → IsJudgedBySpace r limits kind essential space
    → (files : Option Files) → SpaceStage files limits essential r (Goes space)
at-hand r limits kind essential space judged files =
    let is = later kind judged.is_basis in
    ((is.newest, is.is_space), judged.within.variables)
  where
    later : (k : CertKind) → IsBasisOf r k essential (Later space judged.inputs) → IsLaterOf r essential space judged.inputs
    later Strong is = absurd is
    later Outdated is = is
    later Challenged is = is

-- ---- once the space is made, or is not

module _ (old new : DeskView) (limits : Limits) (journal : List ℕ) (r : PackageList) (accepted : Accepted) where
  abbrev After : Ending → Type 0
  After = AfterCertificate limits journal r old.files (pair_of accepted)

  pub after-due : (space : SpaceView) → SpaceStage old.files limits accepted.header.essential r (Goes space) → {X : Type 0} (result : Result X Refusal)
      → IfErr result (IsDue (JournalStages old.files limits journal space (TellsFollowed old.files limits.stanzas space (pair_of accepted))) old new)
      → IfErr result (IsDue After old new)
  after-due space made result due =
      err_more result _ _ (λ refusal one. due_more
      (JournalStages old.files limits journal space (TellsFollowed old.files limits.stanzas space (pair_of accepted))) After old new refusal
      (λ ending decided. inr (space, made, decided)) one) due

  pub unmade : (refusal : Refusal)
      → IsPartGivenUp (λ ending. SpaceStage old.files limits accepted.header.essential r (Ends ending)) old.files refusal → IsDue After old new refusal
  unmade refusal part =
      due_more (λ ending. SpaceStage old.files limits accepted.header.essential r (Ends ending)) After old new refusal (λ ending ends. inl ends) (inr part)

-- ---- once the journal is read

module _ (limits : Limits) (journal : List ℕ) (space : SpaceView) (accepted : Accepted) (text read : List ℕ) (same : read ≡ text) where
  abbrev Whole : Option Files → Ending → Type 0
  Whole files = JournalStages files limits journal space (TellsFollowed files limits.stanzas space (pair_of accepted))

  abbrev Read : Option Files → Type 0
  Read files = TextStage files journal limits.bytes (Goes text)

  here : (files : Option Files) → Read files → TextStage files journal limits.bytes (Goes read)
  here files goes = subst (λ (t : List ℕ). TextStage files journal limits.bytes (Goes t)) (sym same) goes

  pub journal-answers : (files : Option Files) (status : Status) (out : List ℕ) → Read files
      → ((told : Option Files) → TellsFollowed told limits.stanzas space (pair_of accepted) read (answered told status out))
      → Whole files (answered files status out)
  journal-answers files status out goes tells =
      let told = tells files in
      inr (read, here files goes, inr (tt, (told.archive, told.count, told.followed), told))

  pub journal-due : (old new : DeskView) (refusal : Refusal) → Read old.files
      → ((told : Option Files) → IsPartGivenUp (λ ending. JournalStage told limits.stanzas space read (Ends ending)) told refusal)
      → IsDue (Whole old.files) old new refusal
  journal-due old new refusal goes given_up =
      due_more (λ ending. JournalStage old.files limits.stanzas space read (Ends ending)) (Whole old.files) old new refusal
      (λ ending ends. inr (read, here old.files goes, inl ends)) (inr (given_up old.files))

-- a journal within its limit, and the packages of a space, are few enough to be counted
pub few-enough : (r : PackageList) (limits : Limits) (text read : List ℕ) → read ≡ text → IsWithinSize r → IsWithinStated limits
    → (files : Option Files) (name : List ℕ) → TextStage files name limits.bytes (Goes text) → length r.packages + length read < 4294967295
few-enough r limits text read same size within files name goes =
    let count : length read ≡ length text = ap length same in
    omega (arith, count, goes.within, within.bytes, size.packages)
