-- What a writer comes to, as the command tells it.
use Rattle.std.proofs.Common.{◌≡◌, ◌≢◌, ℕ, List, inl, inr, Option, Result, Ok, Err, refl, ap, subst}
use Rattle.dist_outside.specs.Files.{Files, Idle}
use Rattle.dist_outside.specs.DeskView.{DeskView, Holds, OnlyReads}
use Rattle.dist_outside.specs.Counts.{Rose}
use Rattle.dist_outside.specs.declared.limits.Limits.{Limits}
use Rattle.dist_outside.specs.declared.trouble.What.{What}
use Rattle.dist_outside.specs.declared.trouble.What.TheVariants as what
use Rattle.dist_outside.specs.declared.trouble.WorkError.{WorkError}
use Rattle.dist_outside.specs.declared.trouble.WorkError.TheVariants as work
use Rattle.dist_words.specs.CommandLine.{CommandLine}
use Rattle.dist_commands.specs.Command.{CommandDecides, CommandIsGivenUp}
use Rattle.dist_commands.specs.DuePrivate.{TellsNumber, WriterAnswers, WritingStops}
use Rattle.dist_commands.specs.Stops.{Stops}
use Rattle.dist_commands.specs.Refusal.{refusal_of}
use Rattle.dist_commands.specs.Stages.{Ending, Goes, Ends, Then, answered, refused}
use Rattle.dist_commands.specs.WrittenFile.{IsFilled, IsGivenUp, IsWritten, LeavesCut, NumbersStage, Writes, Writing}
use Rattle.dist_commands.specs.declared.refusal.Refusal.{Refusal}
use Rattle.dist_commands.specs.declared.refusal.Refusal.TheVariants as refusal
use Rattle.dist_commands.specs.declared.status.Status.{Status}

-- the numbers that what a file is judged by can pass
abbrev pub IsOfInputs : What → Type 0
IsOfInputs what.Variables = Unit {0}
IsOfInputs what.Clauses = Unit {0}
IsOfInputs what.Literals = Unit {0}
IsOfInputs _ = ⊥

-- ---- a writer

module _ {X : Type 0} (writing : Writing X) (of_inputs : (number : What) → writing.PassesFirst number → IsOfInputs number)
    (name : List ℕ) (old new : DeskView) where
  abbrev IsKept : Type 0
  IsKept = NumbersStage writing.PassesFirst old.files (Goes tt)

  same_number : (a b : What) → ◌≡◌ {A = Result X WorkError} (Err (work.TooLarge a)) (Err (work.TooLarge b)) → b ≡ a
  same_number a b e = cc

  -- an answer that is no number of the inputs, nor want of memory, comes where they keep theirs
  kept : (result : Result X WorkError) → TellsNumber writing result → result ≢ Err work.NoMemory
      → ((number : What) → IsOfInputs number → result ≢ Err (work.TooLarge number)) → IsKept
  kept result first memory other number passes =
      elim (first number passes) [ inl is ↦ other number (of_inputs number passes) is | inr is ↦ memory is ]

  pub made_kept : (made : X) → TellsNumber writing (Ok made) → IsKept
  made_kept made first = kept (Ok made) first (λ e. cc) (λ number of e. cc)

  pub written : (made : X) (status : Status) (out : List ℕ) → WriterAnswers writing name old new (Ok made) → status ≡ writing.status made
      → writing.IsTold made out → IsWritten writing old.files name (answered new.files status out)
  written made status out (bytes, holds, whole) status_is told = record {
    made = made;
    text = bytes;
    whole = whole;
    out = out;
    told = told;
    is = rw (holds.files, status_is) refl;
  }

  -- there was no memory for what is told
  pub untold : ((made : X) (text : List ℕ) → writing.IsWhole made text → writing.IsCut text) → (made : X)
      → WriterAnswers writing name old new (Ok made) → WritingStops writing name old new refusal.NoMemory
  untold cut made (text, holds, whole) = inr (inr (inr (refl, inr (text, cut made text whole, holds.files))))

  stopped : (number : What) → ¬ IsOfInputs number → TellsNumber writing (Err (work.TooLarge number))
      → ((text : List ℕ) × Holds name text Idle old new × writing.IsFull number text)
      → WritingStops writing name old new (refusal.TooLarge number)
  stopped number of_lines first (text, holds, full) =
      inr (inl (
        kept (Err (work.TooLarge number)) first (λ e. cc) (λ other of e. of_lines (subst IsOfInputs (same_number number other e) of)),
        record {
          what = number;
          text = text;
          full = full;
          is = ap (λ (f : Option Files). refused f (refusal.TooLarge number)) holds.files;
        },
      ))

  passed : (number : What) → (new ≡ old) × writing.PassesFirst number → WritingStops writing name old new (refusal.TooLarge number)
  passed number (same, passes) = inl (number, passes, ap (λ (d : DeskView). refused d.files (refusal.TooLarge number)) same)

  pub writer_refused : (error : WorkError) → TellsNumber writing (Err error) → WriterAnswers writing name old new (Err error)
      → WritingStops writing name old new (refusal_of error)
  writer_refused work.ReadFault first answers = absurd answers
  writer_refused work.WriteFault first (rose, leaves) =
      inr (inr (inl (refl, rose, kept (Err work.WriteFault) first (λ e. cc) (λ number of e. cc), leaves)))
  writer_refused work.NoMemory first leaves = inr (inr (inr (refl, leaves)))
  writer_refused (work.TooLarge what.Variables) first answers = passed what.Variables answers
  writer_refused (work.TooLarge what.Clauses) first answers = passed what.Clauses answers
  writer_refused (work.TooLarge what.Literals) first answers = passed what.Literals answers
  writer_refused (work.TooLarge what.Bytes) first answers = stopped what.Bytes (λ of. of) first answers
  writer_refused (work.TooLarge what.Stanzas) first answers = stopped what.Stanzas (λ of. of) first answers
  writer_refused (work.TooLarge what.Lines) first answers = stopped what.Lines (λ of. of) first answers
  writer_refused (work.TooLarge what.LineLiterals) first answers = stopped what.LineLiterals (λ of. of) first answers
  writer_refused (work.TooLarge what.Certificate) first answers = stopped what.Certificate (λ of. of) first answers
  writer_refused (work.TooLarge what.RecordLine) first answers = stopped what.RecordLine (λ of. of) first answers

-- ---- the command, whose other stages only read

module _ {Y X : Type 0} (line : CommandLine) (limits : Limits) (name : List ℕ) (old mid new : DeskView) (reads : OnlyReads old mid)
    (Reached : Y → Type 0) (writing : Y → Writing X) (at : Y) (reached : Reached at)
    (decides : (ending : Ending) → Then (NumbersStage (writing at).PassesFirst old.files) (λ _. Writes (writing at) old.files name) ending
    → CommandDecides line old.files limits ending)
    (gives_up : (why : Refusal) (ending : Ending) → IsGivenUp Reached writing old.files name why ending → CommandIsGivenUp line old.files limits why ending)
  where
    pub command_answers : (status : Status) (text : List ℕ) → NumbersStage (writing at).PassesFirst mid.files (Goes tt)
        → IsWritten (writing at) mid.files name (answered new.files status text)
        → CommandDecides line old.files limits (answered new.files status text)
    command_answers status text kept whole =
        decides (answered new.files status text) (inr (
          tt,
          kept,
          inl (subst (λ (f : Option Files). IsWritten (writing at) f name (answered new.files status text)) reads.files_stay whole),
        ))

    given_up : (why : Refusal) → (why ≡ refusal.WriteFault → NumbersStage (writing at).PassesFirst old.files (Goes tt))
        → LeavesCut (writing at) name mid.files new.files → CommandIsGivenUp line old.files limits why (refused new.files why)
    given_up why kept leaves = gives_up why (refused new.files why) (record {
      at = at;
      reached = reached;
      kept = kept;
      left = new.files;
      leaves = subst (λ (f : Option Files). LeavesCut (writing at) name f new.files) reads.files_stay leaves;
      is = refl;
    })

    pub command_stops : (why : Refusal) → WritingStops (writing at) name mid new why → Stops line limits old new why
    command_stops why (inl ends) =
        inl (decides (refused new.files why)
        (inl (subst (λ (f : Option Files). NumbersStage (writing at).PassesFirst f (Ends (refused new.files why))) reads.files_stay ends)))
    command_stops why (inr (inl (kept, stop))) =
        inl (decides (refused new.files why) (inr (
          tt,
          kept,
          inr (subst (λ (f : Option Files). IsFilled (writing at) f name (refused new.files why)) reads.files_stay stop),
        )))
    command_stops why (inr (inr (inl (is, rose, kept, leaves)))) =
        inr (inr (inl (is, subst (λ (n : ℕ). Rose n new.write_faults) reads.write_faults_stay rose, given_up refusal.WriteFault (λ _. kept) leaves)))
    command_stops why (inr (inr (inr (is, leaves)))) =
        inr (inr (inr (is, inr (given_up refusal.NoMemory (λ e. cc) leaves))))
