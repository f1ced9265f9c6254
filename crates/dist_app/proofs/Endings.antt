-- How a run ends, from how carrying out its command does.
use Rattle.std.proofs.Common.{◌≡◌, ℕ, List, [], inl, inr, Option, Some, None, Result, Ok, Err, MatchResult, refl, ap, sym, subst, arith}
use Rattle.dist_outside.specs.Counts.{Rose}
use Rattle.dist_outside.specs.Files.{Files, IsNotWriting}
use Rattle.dist_outside.specs.DeskView.{DeskView, OnlyReads}
use Rattle.dist_outside.specs.SinkView.{SinkView, Grew, GrewByFront, WriteCause}
use Rattle.dist_outside.specs.declared.limits.Limits.{Limits}
use Rattle.dist_outside.specs.declared.trouble.WorkError.{WorkError}
use Rattle.dist_outside.specs.declared.trouble.WorkError.TheVariants as work
use Rattle.dist_words.specs.CommandLine.{CommandLine}
use Rattle.dist_words.specs.Table.{IsBadWords, command_of}
use Rattle.dist_app.specs.CarriedPrivate.{IsAnswered, IsRefused, Prints}
use Rattle.dist_commands.specs.Command.{CommandDecides, CommandIsGivenUp, IsApart, OnlyReadsFiles}
use Rattle.dist_commands.specs.Stops.{LeavesDesk, Stops}
use Rattle.dist_commands.specs.Refusal.{status_of, refusal_text, refusal_of}
use Rattle.dist_app.specs.Run.{Comes, IsCutShort, Leaves}
use Rattle.dist_commands.specs.Stages.{refused, answered}
use Rattle.dist_commands.specs.declared.refusal.Refusal.{Refusal}
use Rattle.dist_commands.specs.declared.refusal.Refusal.TheVariants as refusal
use Rattle.dist_commands.specs.declared.status.Status.{Status}
use Rattle.dist_commands.specs.declared.status.Status.TheVariants.{WriteFault, NoMemory}
use Rattle.dist_app.proofs.Refused.{not_read_fault, not_write_fault}

-- ---- the desk

pub untouched : (words : List (List ℕ)) (desk : DeskView) → IsNotWriting desk.mode → Leaves words desk desk
untouched words desk idle = record {
  not_writing = idle;
  read_faults_stand = omega arith;
  write_faults_stand = omega arith;
  only_reads = λ _. record { files_stay = refl; not_writing = idle; read_faults_stand = omega arith; write_faults_stay = refl };
  untouched = λ _. refl;
}

pub command_leaves : (words : List (List ℕ)) (line : CommandLine) (desk desk' : DeskView) → command_of words ≡ Some line → LeavesDesk desk desk'
    → (OnlyReadsFiles line → OnlyReads desk desk') → (IsApart line → desk' ≡ desk) → Leaves words desk desk'
command_leaves words line desk desk' is leaves reads apart = record {
  not_writing = leaves.not_writing;
  read_faults_stand = leaves.read_faults_stand;
  write_faults_stand = leaves.write_faults_stand;
  only_reads = λ each. reads (each line is);
  untouched = λ each. apart (each line is);
}

-- ---- the ends

good : (words : List (List ℕ)) (line : CommandLine) → command_of words ≡ Some line → ¬ IsBadWords words
good words line is bad = apart (command_of words) is bad
  where
    apart : (o : Option CommandLine) → o ≡ Some line → o ≡ None → ⊥
    apart o e f = cc

-- what carrying out a command comes to, for each way that it goes
module _ (words : List (List ℕ)) (limits : Limits) (desk : DeskView) (out out' : SinkView) where
  pub refused_words : IsBadWords words → Grew [] out out' → IsRefused words limits desk desk out out' refusal.BadWords
  refused_words bad grew = record {
    ending = refused desk.files refusal.BadWords;
    comes = inl (inl (bad, refl));
    status = refl;
    told = refl;
    files = refl;
    printed = grew;
    of_words = λ _. inl refl;
    read_fault = λ is. cc;
    write_fault = λ is. cc;
  }

  -- memory was wanted, and this end may come
  wanted : (desk' : DeskView) → Comes words desk.files limits (refused desk'.files refusal.NoMemory) → Grew [] out out'
      → IsRefused words limits desk desk' out out' refusal.NoMemory
  wanted desk' comes grew = record {
    ending = refused desk'.files refusal.NoMemory;
    comes = comes;
    status = refl;
    told = refl;
    files = refl;
    printed = grew;
    of_words = λ _. inr refl;
    read_fault = λ is. cc;
    write_fault = λ is. cc;
  }

  -- there was no memory for the words
  pub unread_words : Grew [] out out' → IsRefused words limits desk desk out out' refusal.NoMemory
  unread_words grew = wanted desk (inr (inr (inl refl))) grew

  -- of a command: its words are there, and it came to this end
  module _ (desk' : DeskView) (line : CommandLine) (is_line : command_of words ≡ Some line) where
    abbrev Refused : Refusal → Type 0
    Refused = IsRefused words limits desk desk' out out'

    decided_refusal : (r : Refusal) → CommandDecides line desk.files limits (refused desk'.files r) → Grew [] out out' → Refused r
    decided_refusal r decides grew = record {
      ending = refused desk'.files r;
      comes = inl (inr (line, is_line, decides));
      status = refl;
      told = refl;
      files = refl;
      printed = grew;
      of_words = λ bad. absurd (good words line is_line bad);
      read_fault = λ is. absurd (not_read_fault words desk.files limits (refused desk'.files r) (inr (line, is_line, decides)) (ap status_of is));
      write_fault = λ is. absurd (not_write_fault words desk.files limits (refused desk'.files r) (inr (line, is_line, decides)) (ap status_of is));
    }

    unread : ¬ IsApart line → desk'.files ≡ desk.files → Rose desk.read_faults desk'.read_faults → Grew [] out out' → Refused refusal.ReadFault
    unread of_files same rose grew = record {
      ending = refused desk'.files refusal.ReadFault;
      comes = inr (inl (line, is_line, of_files, ap (λ (f : Option Files). refused f refusal.ReadFault) same));
      status = refl;
      told = refl;
      files = refl;
      printed = grew;
      of_words = λ bad. absurd (good words line is_line bad);
      read_fault = λ _. rose;
      write_fault = λ is. cc;
    }

    unwritten : Rose desk.write_faults desk'.write_faults → CommandIsGivenUp line desk.files limits refusal.WriteFault (refused desk'.files refusal.WriteFault)
        → Grew [] out out' → Refused refusal.WriteFault
    unwritten rose given_up grew = record {
      ending = refused desk'.files refusal.WriteFault;
      comes = inr (inr (inr (inl (inl (line, is_line, given_up)))));
      status = refl;
      told = refl;
      files = refl;
      printed = grew;
      of_words = λ bad. absurd (good words line is_line bad);
      read_fault = λ is. cc;
      write_fault = λ _. inl ((line, is_line, given_up), rose);
    }

    unstored : desk'.files ≡ desk.files → Grew [] out out' → Refused refusal.NoMemory
    unstored same grew = wanted desk' (inr (inr (inl (ap (λ (f : Option Files). refused f refusal.NoMemory) same)))) grew

    unfinished : CommandIsGivenUp line desk.files limits refusal.NoMemory (refused desk'.files refusal.NoMemory) → Grew [] out out' → Refused refusal.NoMemory
    unfinished given_up grew = wanted desk' (inr (inr (inr (inl (inr (line, is_line, given_up)))))) grew

    pub refused_command : (r : Refusal) → Stops line limits desk desk' r → Grew [] out out' → Refused r
    refused_command r (inl decides) grew = decided_refusal r decides grew
    refused_command r (inr (inl (is, of_files, same, rose))) grew = subst Refused (sym is) (unread of_files same rose grew)
    refused_command r (inr (inr (inl (is, rose, given_up)))) grew = subst Refused (sym is) (unwritten rose given_up grew)
    refused_command r (inr (inr (inr (is, inl same)))) grew = subst Refused (sym is) (unstored same grew)
    refused_command r (inr (inr (inr (is, inr given_up)))) grew = subst Refused (sym is) (unfinished given_up grew)

    answered_command : (status : Status) (text : List ℕ) → CommandDecides line desk.files limits (answered desk'.files status text) → Grew text out out'
        → IsAnswered words limits desk desk' out out' status
    answered_command status text decides grew = record {
      ending = answered desk'.files status text;
      decides = inr (line, is_line, decides);
      status_is = refl;
      quiet = refl;
      files = refl;
      printed = grew;
    }

    -- a front of the text of an answer was printed
    cut_short : (why : Refusal) (status : Status) (text : List ℕ) → CommandDecides line desk.files limits (answered desk'.files status text)
        → (front : GrewByFront text out out')
        → IsCutShort words desk.files limits why (record { status = status_of why; out = front.front; err = refusal_text why; files = desk'.files })
    cut_short why status text decides front = record {
      decided = answered desk'.files status text;
      decides = inr (line, is_line, decides);
      answers = refl;
      front = front.is_front;
      is = refl;
    }

    cut_command : (status : Status) (text : List ℕ) (error : WorkError) → CommandDecides line desk.files limits (answered desk'.files status text)
        → GrewByFront text out out' → WriteCause error out out'
        → Refused (refusal_of error)
    cut_command status text work.ReadFault decides front cause = absurd cause
    cut_command status text (work.TooLarge limit) decides front cause = absurd cause
    cut_command status text work.WriteFault decides front cause = record {
      ending = record { status = WriteFault; out = front.front; err = refusal_text refusal.WriteFault; files = desk'.files };
      comes = inr (inr (inr (inr (inl (cut_short refusal.WriteFault status text decides front)))));
      status = refl;
      told = refl;
      files = refl;
      printed = front.grew;
      of_words = λ bad. absurd (good words line is_line bad);
      read_fault = λ is. cc;
      write_fault = λ _. inr (cut_short refusal.WriteFault status text decides front, cause);
    }
    cut_command status text work.NoMemory decides front cause = record {
      ending = record { status = NoMemory; out = front.front; err = refusal_text refusal.NoMemory; files = desk'.files };
      comes = inr (inr (inr (inr (inr (cut_short refusal.NoMemory status text decides front)))));
      status = refl;
      told = refl;
      files = refl;
      printed = front.grew;
      of_words = λ _. inr refl;
      read_fault = λ is. cc;
      write_fault = λ is. cc;
    }

    -- the text of an answer was written, or a front of it
    pub printed_command : (status : Status) (text : List ℕ) (result : Result Status Refusal)
        → CommandDecides line desk.files limits (answered desk'.files status text) → Prints status text result out out'
        → MatchResult result (IsAnswered words limits desk desk' out out') Refused
    printed_command status text (Ok printed) decides (same, grew) =
        subst (IsAnswered words limits desk desk' out out') (sym same) (answered_command status text decides grew)
    printed_command status text (Err r) decides (error, is, front, cause) =
        subst Refused (sym is) (cut_command status text error decides front cause)
