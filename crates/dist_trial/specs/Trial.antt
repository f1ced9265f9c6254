-- What a trial comes to.
use Rattle.std.specs.Prelude.{◌≡◌, ◌⊎◌, ℕ, ◌<◌, ◌≤◌, false, List, Result, Ok, Err, length}
use Rattle.dist_base.specs.declared.TheConstants.{DEFAULT_LIMIT}
use Rattle.dist_outside.specs.declared.limits.Limits.{Limits}
use Rattle.dist_outside.specs.declared.trouble.What.{What}
use Rattle.dist_outside.specs.declared.trouble.What.TheVariants.{Bytes, Stanzas}
use Rattle.dist_outside.specs.declared.trouble.WorkError.{WorkError}
use Rattle.dist_outside.specs.declared.trouble.WorkError.TheVariants.{TooLarge, NoMemory}
use Rattle.dist_cert.specs.declared.records.CertKind.{CertKind}
use Rattle.dist_cert.specs.declared.records.CertKind.TheVariants as kinds
use Rattle.dist_cert.specs.declared.records.Claim.{Claim}
use Rattle.dist_repo.specs.PackageList.{PackageList}
use Rattle.dist_package.specs.RepositoryOf.{IsRepositoryOf}
use Rattle.dist_subject.specs.Limited.{PassesFirst}
use Rattle.dist_sweep.specs.Sweep.{IsFull, IsSweep}
use Rattle.dist_generate.specs.Generator.{generated}
use Rattle.dist_trial.specs.Summary.{has_marks, summary_text}
use Rattle.dist_trial.specs.declared.trials.Trial.{Trial}

-- The text of a size and a seed is within the limits of bytes and of stanzas, and its repository has a property.
pub record OfArchive (size seed : ℕ) (limits : Limits) (P : PackageList → Type 0) : Type 0 where
  pub bytes : length (generated size seed) ≤ limits.bytes
  pub stanzas : size ≤ limits.stanzas
  pub repository : PackageList
  pub is_repository : IsRepositoryOf (generated size seed) limits.stanzas repository
  pub holds : P repository

-- A whole certificate of a kind for the repository, plain and with the limit of a question where none is given, is
-- accepted, and these are its claims.
abbrev pub AreSwept : PackageList → CertKind → Limits → List Claim → Type 0
AreSwept r kind limits made = (text : List ℕ) × IsSweep r kind false DEFAULT_LIMIT limits made text

-- All three kinds of certificate are accepted, and what is told is the summary of their claims, and whether one of them
-- has a mark.
pub record IsTrial (size : ℕ) (limits : Limits) (done : Trial) (r : PackageList) : Type 0 where
  pub strong : List Claim
  pub outdated : List Claim
  pub challenged : List Claim
  pub are_strong : AreSwept r kinds.Strong limits strong
  pub are_outdated : AreSwept r kinds.Outdated limits outdated
  pub are_challenged : AreSwept r kinds.Challenged limits challenged
  pub summary : done.summary.items ≡ summary_text size strong outdated challenged
  pub undecided : done.undecided ≡ has_marks strong outdated challenged

-- What certificates of a kind are judged by passes this number first, or a text is what a sweep may have written so
-- far, and one line more would pass it.
abbrev pub IsStoppedAt : PackageList → CertKind → Limits → What → Type 0
IsStoppedAt r kind limits what = PassesFirst r kind false limits what
    ⊎ ((text : List ℕ) × IsFull r kind false DEFAULT_LIMIT limits what text)

-- When each answer is given. Want of memory may come in place of any.
abbrev pub TrialAnswers : (size seed : ℕ) → Limits → Result Trial WorkError → Type 0
TrialAnswers size seed limits (Ok done) = OfArchive size seed limits (IsTrial size limits done)
TrialAnswers size seed limits (Err (TooLarge Bytes)) = limits.bytes < length (generated size seed)
TrialAnswers size seed limits (Err (TooLarge Stanzas)) = (length (generated size seed) ≤ limits.bytes)
    × (limits.stanzas < size)
TrialAnswers size seed limits (Err (TooLarge what)) =
    OfArchive size seed limits (λ r. (kind : CertKind) × IsStoppedAt r kind limits what)
TrialAnswers size seed limits (Err NoMemory) = Unit {0}
TrialAnswers size seed limits (Err error) = ⊥

-- A number of which this holds is told as passed, but for want of memory.
abbrev pub Tells : {X : Type 0} → (What → Type 0) → Result X WorkError → Type 0
Tells Passes result = (what : What) → Passes what → (result ≡ Err (TooLarge what)) ⊎ (result ≡ Err NoMemory)

-- ---- the two stages

-- when the archive gives a repository
abbrev pub ArchiveAnswers : (size seed : ℕ) → Limits → Result PackageList WorkError → Type 0
ArchiveAnswers size seed limits (Ok r) = OfArchive size seed limits (λ other. other ≡ r)
ArchiveAnswers size seed limits (Err (TooLarge Bytes)) = limits.bytes < length (generated size seed)
ArchiveAnswers size seed limits (Err (TooLarge Stanzas)) = (length (generated size seed) ≤ limits.bytes)
    × (limits.stanzas < size)
ArchiveAnswers size seed limits (Err NoMemory) = Unit {0}
ArchiveAnswers size seed limits (Err error) = ⊥

-- When sweeps over a repository and the checks of what they wrote give what has a property: else a number is passed.
abbrev pub SweptAnswers : {X : Type 0} → (X → Type 0) → (What → Type 0) → Result X WorkError → Type 0
SweptAnswers Gives Stops (Ok x) = Gives x
SweptAnswers Gives Stops (Err (TooLarge what)) = Stops what
SweptAnswers Gives Stops (Err NoMemory) = Unit {0}
SweptAnswers Gives Stops (Err error) = ⊥
