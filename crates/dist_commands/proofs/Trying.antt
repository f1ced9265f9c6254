-- What a trial comes to, as an end of a run.
use Rattle.std.proofs.Common.{◌≡◌, inl, inr, ℕ, false, Option, Result, Ok, Err, refl, ap, sym, ◌∙◌}
use Rattle.dist_outside.specs.Files.{Files}
use Rattle.dist_outside.specs.declared.limits.Limits.{Limits}
use Rattle.dist_outside.specs.declared.trouble.What.{What}
use Rattle.dist_outside.specs.declared.trouble.What.TheVariants as what
use Rattle.dist_outside.specs.declared.trouble.WorkError.{WorkError}
use Rattle.dist_outside.specs.declared.trouble.WorkError.TheVariants as work
use Rattle.dist_cert.specs.declared.records.CertKind.{CertKind}
use Rattle.dist_cert.specs.declared.records.CertKind.TheVariants as kinds
use Rattle.dist_repo.specs.PackageList.{PackageList}
use Rattle.dist_subject.specs.Limited.{PassesFirst}
use Rattle.dist_trial.specs.Trial.{IsStoppedAt, IsTrial, OfArchive, Tells, TrialAnswers}
use Rattle.dist_trial.specs.declared.trials.Trial.{Trial}
use Rattle.dist_commands.specs.Claims.{marked_status}
use Rattle.dist_commands.specs.DuePrivate.{IsPartGivenUp}
use Rattle.dist_commands.specs.Refusal.{refusal_of}
use Rattle.dist_commands.specs.Stages.{Ending, Goes, Ends, answered, refused}
use Rattle.dist_commands.specs.Sweeps.{InputsStage}
use Rattle.dist_commands.specs.Try.{ArchiveStage, Tries, TryStages}
use Rattle.dist_commands.specs.declared.refusal.Refusal.TheVariants as refusal
use Rattle.dist_commands.specs.declared.status.Status.{Status}

-- the number that the first sweep is judged by and passes first is told
abbrev pub First : (size seed : ℕ) → Limits → Result Trial WorkError → Type 0
First size seed limits result = Tells (λ number. OfArchive size seed limits (λ r. PassesFirst r kinds.Strong false limits number)) result

archive_of : (files : Option Files) (size seed : ℕ) (limits : Limits) (P : PackageList → Type 0) (of : OfArchive size seed limits P)
    → ArchiveStage files limits size seed (Goes of.repository)
archive_of files size seed limits P of = (of.bytes, of.stanzas, of.is_repository)

with_cause : (size seed : ℕ) (limits : Limits) (P Q : PackageList → Type 0) (of : OfArchive size seed limits P) → Q of.repository → OfArchive size seed limits Q
with_cause size seed limits P Q of holds = record {
  bytes = of.bytes;
  stanzas = of.stanzas;
  repository = of.repository;
  is_repository = of.is_repository;
  holds = holds;
}

same_number : (a b : What) → ◌≡◌ {A = Result Trial WorkError} (Err (work.TooLarge a)) (Err (work.TooLarge b)) → a ≡ b
same_number a b e = cc

-- where it is passed, it is the answer's number
first_of : (files : Option Files) (size seed : ℕ) (limits : Limits) (number : What) (P : PackageList → Type 0) (of : OfArchive size seed limits P)
    → First size seed limits (Err (work.TooLarge number)) → (end : Ending) → InputsStage files limits kinds.Strong false of.repository (Ends end)
    → refused files (refusal.TooLarge number) ≡ end
first_of files size seed limits number P of first end (other, passes, is) =
    elim (first other (with_cause size seed limits P (λ r. PassesFirst r kinds.Strong false limits other) of passes)) [
      | inl same ↦ ap (λ (n : What). refused files (refusal.TooLarge n)) (same_number number other same) ∙ sym is
      | inr memory ↦ cc
    ]

-- a trial that is told passes none
none_of : (files : Option Files) (size seed : ℕ) (limits : Limits) (done : Trial) (P : PackageList → Type 0) (of : OfArchive size seed limits P)
    → First size seed limits (Ok done) → (end : Ending) → ¬ InputsStage files limits kinds.Strong false of.repository (Ends end)
none_of files size seed limits done P of first end (other, passes, is) =
    elim (first other (with_cause size seed limits P (λ r. PassesFirst r kinds.Strong false limits other) of passes)) [
      | inl same ↦ cc
      | inr memory ↦ cc
    ]

pub tried : (size seed : ℕ) (limits : Limits) (done : Trial) (status : Status) → First size seed limits (Ok done) → TrialAnswers size seed limits (Ok done)
    → status ≡ marked_status done.undecided
    → (files : Option Files) → TryStages files limits size seed (Tries files limits size) (answered files status done.summary.items)
tried size seed limits done status first of is files = inr (
  of.repository,
  archive_of files size seed limits (IsTrial size limits done) of,
  record {
    first = λ end ends. absurd (none_of files size seed limits done (IsTrial size limits done) of first end ends);
    comes = inl (record {
      strong = of.holds.strong;
      outdated = of.holds.outdated;
      challenged = of.holds.challenged;
      are_strong = of.holds.are_strong;
      are_outdated = of.holds.are_outdated;
      are_challenged = of.holds.are_challenged;
      is = rw (is, of.holds.undecided, of.holds.summary) refl;
    });
  },
)

stopped : (size seed : ℕ) (limits : Limits) (number : What) → First size seed limits (Err (work.TooLarge number))
    → OfArchive size seed limits (λ r. (kind : CertKind) × IsStoppedAt r kind limits number)
    → (files : Option Files) → IsPartGivenUp (TryStages files limits size seed (Tries files limits size)) files (refusal.TooLarge number)
stopped size seed limits number first of files = inr (inr (
  of.repository,
  archive_of files size seed limits (λ r. (kind : CertKind) × IsStoppedAt r kind limits number) of,
  record {
    first = first_of files size seed limits number (λ r. (kind : CertKind) × IsStoppedAt r kind limits number) of first;
    comes = inr (record { kind = of.holds.0; what = number; stopped = of.holds.1; is = refl });
  },
))

pub untried : (size seed : ℕ) (limits : Limits) (error : WorkError) → First size seed limits (Err error) → TrialAnswers size seed limits (Err error)
    → (files : Option Files) → IsPartGivenUp (TryStages files limits size seed (Tries files limits size)) files (refusal_of error)
untried size seed limits (work.TooLarge what.Bytes) first longer files = inr (inl (inl (longer, refl)))
untried size seed limits (work.TooLarge what.Stanzas) first many files = inr (inl (inr (many.0, many.1, refl)))
untried size seed limits (work.TooLarge what.Variables) first of files = stopped size seed limits what.Variables first of files
untried size seed limits (work.TooLarge what.Clauses) first of files = stopped size seed limits what.Clauses first of files
untried size seed limits (work.TooLarge what.Literals) first of files = stopped size seed limits what.Literals first of files
untried size seed limits (work.TooLarge what.Lines) first of files = stopped size seed limits what.Lines first of files
untried size seed limits (work.TooLarge what.LineLiterals) first of files = stopped size seed limits what.LineLiterals first of files
untried size seed limits (work.TooLarge what.Certificate) first of files = stopped size seed limits what.Certificate first of files
untried size seed limits (work.TooLarge what.RecordLine) first of files = stopped size seed limits what.RecordLine first of files
untried size seed limits work.NoMemory first free files = inl refl
untried size seed limits work.ReadFault first none files = absurd none
untried size seed limits work.WriteFault first none files = absurd none
