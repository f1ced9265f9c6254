-- What a run promises, from how carrying out its command ends.
use Rattle.std.proofs.Common.{◌≡◌, ◌⊎◌, ℕ, List, [], inl, inr, Option, Some, None, Result, Ok, Err, ap, sym, ◌∙◌, subst}
use Rattle.dist_outside.specs.Counts.{Rose}
use Rattle.dist_outside.specs.Files.{Files}
use Rattle.dist_outside.specs.DeskView.{DeskView}
use Rattle.dist_outside.specs.SinkView.{SinkView, Grew}
use Rattle.dist_outside.specs.declared.limits.Limits.{Limits}
use Rattle.dist_outside.specs.declared.trouble.WorkError.{WorkError}
use Rattle.dist_outside.specs.declared.trouble.WorkError.TheVariants as work
use Rattle.dist_words.specs.CommandLine.{CommandLine}
use Rattle.dist_words.specs.Table.{IsBadWords, command_of}
use Rattle.dist_app.specs.LawsPrivate.{AreExact}
use Rattle.dist_app.specs.CarriedPrivate.{IsAnswered, IsRefused}
use Rattle.dist_commands.specs.Refusal.{status_of, refusal_text}
use Rattle.dist_app.specs.Run.{Decides, Refuses, Comes, IsCutShort, IsRunGivenUp, IsInterrupted, IsTold, Leaves, TellsFiles, Runs}
use Rattle.dist_commands.specs.Stages.{Ending, Excludes}
use Rattle.dist_commands.specs.Writes.{Writes}
use Rattle.dist_commands.specs.declared.refusal.Refusal.{Refusal}
use Rattle.dist_commands.specs.declared.refusal.Refusal.TheVariants as refusal
use Rattle.dist_commands.specs.declared.status.Status.{Status}
use Rattle.dist_commands.specs.declared.status.Status.TheVariants.{BadWords, ReadFault, WriteFault, NoMemory}
use Rattle.dist_app.proofs.CommandLaws.{decides_excludes, fault_excludes}
use Rattle.dist_app.proofs.Refused.{IsOfFiles, command_status, given_up_status, not_read_fault, not_write_fault, refuses_told}

-- bad words alone exact their status
words_of_status : (words : List (List ℕ)) (files : Option Files) (limits : Limits) (ending : Ending) → Decides words files limits ending
    → ending.status ≡ BadWords → IsBadWords words
words_of_status words files limits ending (inl (bad, is)) status = bad
words_of_status words files limits ending (inr (line, is_line, decides)) status =
    absurd (subst IsOfFiles status (command_status line files limits ending decides))

status_of_words : (words : List (List ℕ)) (files : Option Files) (limits : Limits) (ending : Ending) → Decides words files limits ending → IsBadWords words
    → ending.status ≡ BadWords
status_of_words words files limits ending (inl (bad, is)) _ = ap (λ (e : Ending). e.status) is
status_of_words words files limits ending (inr (line, is_line, decides)) bad = absurd (apart (command_of words) is_line bad)
  where
    apart : (o : Option CommandLine) → o ≡ Some line → o ≡ None → ⊥
    apart o e f = cc

-- where the desk tells its files
told_excludes : (Refuses Decides : Option Files → Ending → Type 0) (desk : DeskView) → TellsFiles desk
    → ((files : Files) → Excludes (Refuses (Some files)) (Decides (Some files)))
    → Excludes (Refuses desk.files) (Decides desk.files)
told_excludes Refuses Decides desk (files, told) excludes = subst (λ (f : Option Files). Excludes (Refuses f) (Decides f)) (sym told) (excludes files)

alone : AreExact → (words : List (List ℕ)) (desk : DeskView) (limits : Limits) → TellsFiles desk
    → Excludes (Refuses words desk.files limits) (Decides words desk.files limits)
alone exact words desk limits tells = told_excludes (λ f. Refuses words f limits) (λ f. Decides words f limits) desk tells
    (λ files. decides_excludes exact words files limits)

alone_of_faults : AreExact → (words : List (List ℕ)) (desk : DeskView) (limits : Limits) → TellsFiles desk
    → Excludes (Refuses words desk.files limits) (IsRunGivenUp words desk.files limits refusal.WriteFault)
alone_of_faults exact words desk limits tells =
    told_excludes (λ f. Refuses words f limits) (λ f. IsRunGivenUp words f limits refusal.WriteFault) desk tells
    (λ files. fault_excludes exact words files limits)

-- an answer, after which nothing is told on `err`
pub answered_runs : AreExact → (words : List (List ℕ)) (limits : Limits) (status : Status) (desk desk' : DeskView) (out out' err : SinkView)
    → IsAnswered words limits desk desk' out out' status → Leaves words desk desk' → Grew [] err err → Runs words limits status desk desk' out out' err err
answered_runs exact words limits status desk desk' out out' err a leaves nothing = record {
  ending = a.ending;
  comes = inl a.decides;
  ends = record { status = a.status_is; printed = a.printed; files = a.files };
  told = inl (subst (λ (t : List ℕ). Grew t err err) (sym a.quiet) nothing);
  leaves = leaves;
  words_refused = λ is. words_of_status words desk.files limits a.ending a.decides (sym a.status_is ∙ is);
  words_told = λ bad. inl (a.status_is ∙ status_of_words words desk.files limits a.ending a.decides bad);
  read_fault = λ is. absurd (not_read_fault words desk.files limits a.ending a.decides (sym a.status_is ∙ is));
  write_fault = λ is. absurd (not_write_fault words desk.files limits a.ending a.decides (sym a.status_is ∙ is));
  refusal_comes = λ tells read end refuses. inl (alone exact words desk limits tells end a.ending refuses a.decides);
  answer_comes = λ read written printed. inl a.decides;
}

read_fault_of : (r : Refusal) → status_of r ≡ ReadFault → r ≡ refusal.ReadFault
read_fault_of refusal.BadWords is = cc
read_fault_of (refusal.BadPackages fault) is = cc
read_fault_of (refusal.CertificateRefused fault) is = cc
read_fault_of refusal.ReadFault is = cc
read_fault_of refusal.WriteFault is = cc
read_fault_of refusal.NoMemory is = cc
read_fault_of (refusal.TooLarge limit) is = cc
read_fault_of (refusal.BadList line) is = cc
read_fault_of (refusal.BadJournal line fault) is = cc
read_fault_of refusal.NoSuchPackage is = cc

write_fault_of : (r : Refusal) → status_of r ≡ WriteFault → r ≡ refusal.WriteFault
write_fault_of refusal.BadWords is = cc
write_fault_of (refusal.BadPackages fault) is = cc
write_fault_of (refusal.CertificateRefused fault) is = cc
write_fault_of refusal.ReadFault is = cc
write_fault_of refusal.WriteFault is = cc
write_fault_of refusal.NoMemory is = cc
write_fault_of (refusal.TooLarge limit) is = cc
write_fault_of (refusal.BadList line) is = cc
write_fault_of (refusal.BadJournal line fault) is = cc
write_fault_of refusal.NoSuchPackage is = cc

told_of : (text : List ℕ) (result : Result (Unit {0}) WorkError) (old new : SinkView) → Writes text result old new → IsTold text old new
told_of text (Ok done) old new grew = inl grew
told_of text (Err work.WriteFault) old new (front, cause) = inr (front, inl cause)
told_of text (Err work.NoMemory) old new (front, cause) = inr (front, inr cause)
told_of text (Err work.ReadFault) old new (front, cause) = absurd cause
told_of text (Err (work.TooLarge limit)) old new (front, cause) = absurd cause

-- the status of an end that may come at any time
pub interrupted_status : (words : List (List ℕ)) (files : Option Files) (limits : Limits) (ending : Ending) → IsInterrupted words files limits ending
    → (ending.status ≡ ReadFault) ⊎ ((ending.status ≡ WriteFault) ⊎ (ending.status ≡ NoMemory))
interrupted_status words files limits ending (inl (line, is_line, of_files, is)) = inl (ap (λ (e : Ending). e.status) is)
interrupted_status words files limits ending (inr (inl is)) = inr (inr (ap (λ (e : Ending). e.status) is))
interrupted_status words files limits ending (inr (inr (inl (inl (line, is, given_up))))) =
    inr (inl (given_up_status line files limits refusal.WriteFault ending given_up))
interrupted_status words files limits ending (inr (inr (inl (inr (line, is, given_up))))) =
    inr (inr (given_up_status line files limits refusal.NoMemory ending given_up))
interrupted_status words files limits ending (inr (inr (inr (inl cut)))) = inr (inl (ap (λ (e : Ending). e.status) cut.is))
interrupted_status words files limits ending (inr (inr (inr (inr cut)))) = inr (inr (ap (λ (e : Ending). e.status) cut.is))

-- A refusal, whose line is told on `err`.
module _ (exact : AreExact) (words : List (List ℕ)) (limits : Limits) (desk desk' : DeskView) (out out' : SinkView) (r : Refusal)
    (b : IsRefused words limits desk desk' out out' r) where
  -- where nothing was counted, want of memory is the only end that may come at any time
  unstored_alone : ¬ Rose desk.read_faults desk'.read_faults → ¬ Rose desk.write_faults desk'.write_faults → ¬ Rose out.faults out'.faults
      → IsInterrupted words desk.files limits b.ending → status_of r ≡ NoMemory
  unstored_alone read written printed interrupted =
      elim (interrupted_status words desk.files limits b.ending interrupted) [
        | inl is ↦ absurd (read (b.read_fault (read_fault_of r (sym b.status ∙ is))))
        | inr (inl is) ↦ absurd (elim (b.write_fault (write_fault_of r (sym b.status ∙ is))) [ inl given_up ↦ written given_up.1 | inr cut ↦ printed cut.1 ])
        | inr (inr is) ↦ sym b.status ∙ is
      ]

  -- where a refusal comes, no answer is cut short
  no_cut : TellsFiles desk → (end : Ending) → Refuses words desk.files limits end → ¬ IsCutShort words desk.files limits refusal.WriteFault b.ending
  no_cut tells end refuses cut =
      let same : cut.decided ≡ end = alone exact words desk limits tells end cut.decided refuses cut.decides in
      refuses_told words desk.files limits end refuses (sym (ap (λ (e : Ending). e.err) same) ∙ cut.answers)

  refused_words : Comes words desk.files limits b.ending → status_of r ≡ BadWords → IsBadWords words
  refused_words (inl decides) is = words_of_status words desk.files limits b.ending decides (b.status ∙ is)
  refused_words (inr interrupted) is =
      elim (interrupted_status words desk.files limits b.ending interrupted) [
        | inl read ↦ let e = b.status in let f = read in cc
        | inr (inl written) ↦ let e = b.status in let f = written in cc
        | inr (inr memory) ↦ let e = b.status in let f = memory in cc
      ]

  refusal_comes : Comes words desk.files limits b.ending → TellsFiles desk → ¬ Rose desk.read_faults desk'.read_faults → (end : Ending)
      → Refuses words desk.files limits end → (b.ending ≡ end) ⊎ (status_of r ≡ NoMemory)
  refusal_comes (inl decides) tells read end refuses = inl (alone exact words desk limits tells end b.ending refuses decides)
  refusal_comes (inr (inl (line, is_line, of_files, is))) tells read end refuses =
      absurd (read (b.read_fault (read_fault_of r (sym b.status ∙ ap (λ (e : Ending). e.status) is))))
  refusal_comes (inr (inr (inl is))) tells read end refuses = inr (sym b.status ∙ ap (λ (e : Ending). e.status) is)
  refusal_comes (inr (inr (inr (inl (inl given_up))))) tells read end refuses =
      inl (alone_of_faults exact words desk limits tells end b.ending refuses given_up)
  refusal_comes (inr (inr (inr (inl (inr (line, is, given_up)))))) tells read end refuses =
      inr (sym b.status ∙ given_up_status line desk.files limits refusal.NoMemory b.ending given_up)
  refusal_comes (inr (inr (inr (inr (inl cut))))) tells read end refuses = absurd (no_cut tells end refuses cut)
  refusal_comes (inr (inr (inr (inr (inr cut))))) tells read end refuses = inr (sym b.status ∙ ap (λ (e : Ending). e.status) cut.is)

  answer_comes : Comes words desk.files limits b.ending → ¬ Rose desk.read_faults desk'.read_faults → ¬ Rose desk.write_faults desk'.write_faults
      → ¬ Rose out.faults out'.faults
      → Decides words desk.files limits b.ending ⊎ (status_of r ≡ NoMemory)
  answer_comes (inl decides) read written printed = inl decides
  answer_comes (inr interrupted) read written printed = inr (unstored_alone read written printed interrupted)

  words_told : IsBadWords words → (status_of r ≡ BadWords) ⊎ (status_of r ≡ NoMemory)
  words_told bad = elim (b.of_words bad) [ inl is ↦ inl (ap status_of is) | inr is ↦ inr (ap status_of is) ]

  pub refused_runs : (result : Result (Unit {0}) WorkError) (err err' : SinkView) → Leaves words desk desk' → Writes (refusal_text r) result err err'
      → Runs words limits (status_of r) desk desk' out out' err err'
  refused_runs result err err' leaves writes = record {
    ending = b.ending;
    comes = b.comes;
    ends = record { status = sym b.status; printed = b.printed; files = b.files };
    told = subst (λ (t : List ℕ). IsTold t err err') (sym b.told) (told_of (refusal_text r) result err err' writes);
    leaves = leaves;
    words_refused = refused_words b.comes;
    words_told = words_told;
    read_fault = λ is. b.read_fault (read_fault_of r is);
    write_fault = λ is. b.write_fault (write_fault_of r is);
    refusal_comes = refusal_comes b.comes;
    answer_comes = answer_comes b.comes;
  }
