-- What `explain` comes to, stage by stage.
use Rattle.std.proofs.Common.{◌≡◌, ◌↔◌, ℕ, ◌<◌, false, List, length, inl, inr, Option, Some, None, Result, Ok, Err, ap, sym, ◌∙◌, subst}
use Rattle.dist_base.specs.ListLaws.{within-from}
use Rattle.dist_outside.specs.DeskView.{DeskView, OnlyReads}
use Rattle.dist_outside.specs.Files.{Files}
use Rattle.dist_outside.specs.declared.limits.Limits.{Limits}
use Rattle.dist_outside.specs.declared.trouble.What.{What}
use Rattle.dist_outside.specs.declared.trouble.What.TheVariants as what
use Rattle.dist_outside.specs.declared.trouble.WorkError.{WorkError}
use Rattle.dist_outside.specs.declared.trouble.WorkError.TheVariants as work
use Rattle.dist_inquiry.specs.Written.{LeavesCut as LeavesText}
use Rattle.dist_list.specs.NamedPackage.{IsNamed}
use Rattle.dist_repo.specs.PackageList.{PackageList}
use Rattle.dist_repo.specs.declared.package.Package.{Package}
use Rattle.dist_explain.specs.ExplanationFiles.{IsSelectedOf, PassesFirst, PassesWithSelectors}
use Rattle.dist_explain.specs.declared.explained.Explained.{Explained}
use Rattle.dist_explain_search.specs.ExplainAnswers.{ExplainAnswers, OfExplain, explain_course, explain_setting}
use Rattle.dist_words.specs.CommandLine.{Explain}
use Rattle.dist_commands.specs.Command.{CommandDecides}
use Rattle.dist_commands.specs.DuePrivate.{WriterAnswers}
use Rattle.dist_commands.specs.Stops.{Stops}
use Rattle.dist_commands.specs.Explain.{IsExplainReached, explain_writing}
use Rattle.dist_commands.specs.ExplainPrivate.{ExplainStops, IsFoundAndWritten}
use Rattle.dist_commands.specs.NamedStage.{NamedStage}
use Rattle.dist_commands.specs.PackagesStage.{PackagesStage}
use Rattle.dist_commands.specs.Stages.{Ends, Goes, answered, refused}
use Rattle.dist_commands.specs.WrittenFile.{LeavesCut}
use Rattle.dist_commands.specs.declared.refusal.Refusal.{Refusal}
use Rattle.dist_commands.specs.declared.status.Status.{Status}
use Rattle.dist_commands.proofs.AnswerTexts.{leaves_cut, whole_is_cut}
use Rattle.dist_commands.proofs.Sweeping.{present_of_inputs}
use Rattle.dist_commands.proofs.Writings.{IsOfInputs, command_answers, command_stops}

-- ---- the file

with_selectors : (r : PackageList) (limits : Limits) (number : What) → PassesWithSelectors r limits number → IsOfInputs number
with_selectors r limits what.Bytes p = absurd p.passes
with_selectors r limits what.Stanzas p = absurd p.passes
with_selectors r limits what.Variables p = tt
with_selectors r limits what.Clauses p = tt
with_selectors r limits what.Literals p = tt
with_selectors r limits what.Lines p = absurd p.passes
with_selectors r limits what.LineLiterals p = absurd p.passes
with_selectors r limits what.Certificate p = absurd p.passes
with_selectors r limits what.RecordLine p = absurd p.passes

pub of_explanation : (r : PackageList) (limits : Limits) (number : What) → PassesFirst r limits number → IsOfInputs number
of_explanation r limits number (inl passes) = present_of_inputs r false limits number passes
of_explanation r limits number (inr passes) = with_selectors r limits number passes

module _ (r : PackageList) (number limit : ℕ) (limits : Limits) (name : List ℕ) (old new : DeskView) where
  leaves : OfExplain r number limit limits (λ g course. LeavesText g course name old new)
      → LeavesCut (explain_writing limits limit r number) name old.files new.files
  leaves = leaves_cut (IsSelectedOf r) (explain_setting r number limit limits) (explain_course r number limit) name old new

  pub explain_answered : (result : Result Explained WorkError) → ExplainAnswers r number limit limits name old new result
      → WriterAnswers (explain_writing limits limit r number) name old new result
  explain_answered (Ok made) (text, holds, accepted, whole) = (text, holds, (accepted, whole))
  explain_answered (Err work.ReadFault) answers = answers
  explain_answered (Err work.WriteFault) (rose, left) = (rose, leaves left)
  explain_answered (Err work.NoMemory) (inl same) = inl (ap (λ (d : DeskView). d.files) same)
  explain_answered (Err work.NoMemory) (inr left) = leaves left
  explain_answered (Err (work.TooLarge what.Variables)) answers = answers
  explain_answered (Err (work.TooLarge what.Clauses)) answers = answers
  explain_answered (Err (work.TooLarge what.Literals)) answers = answers
  explain_answered (Err (work.TooLarge what.Bytes)) answers = answers
  explain_answered (Err (work.TooLarge what.Stanzas)) answers = answers
  explain_answered (Err (work.TooLarge what.Lines)) answers = answers
  explain_answered (Err (work.TooLarge what.LineLiterals)) answers = answers
  explain_answered (Err (work.TooLarge what.Certificate)) answers = answers
  explain_answered (Err (work.TooLarge what.RecordLine)) answers = answers

  pub explanation_is_cut : (made : Explained) (text : List ℕ) → (explain_writing limits limit r number).IsWhole made text
      → (explain_writing limits limit r number).IsCut text
  explanation_is_cut made text (accepted, (basis, are, whole)) = (basis, are, whole_is_cut _ _ text whole)

-- ---- the package

pub named_within : (packages : List Package) (text : List ℕ) (number : ℕ) → IsNamed packages text number → number < length packages
named_within packages text number named = within-from _ packages number named.found

pub none_found : (packages : List Package) (text : List ℕ) (found : Option ℕ) → found ≡ None
    → ((number : ℕ) → (found ≡ Some number) ↔ IsNamed packages text number) → (number : ℕ) → ¬ IsNamed packages text number
none_found packages text found none exact number named = let some : found ≡ Some number = (exact number).1 named in cc

-- ---- the command

module _ (limits : Limits) (packages cert named : List ℕ) (limit : ℕ) (old mid new : DeskView) (r : PackageList)
    (reads : OnlyReads old mid) (read : PackagesStage old.files limits packages (Goes r)) where
  abbrev Reached : PackageList × ℕ → Type 0
  Reached = IsExplainReached old.files limits packages named

  pub explain_answers : (status : Status) (text : List ℕ) → IsFoundAndWritten mid.files limits cert named limit r (answered new.files status text)
      → CommandDecides (Explain packages cert named limit) old.files limits (answered new.files status text)
  explain_answers status text (number, is_named, kept, whole) =
      command_answers (Explain packages cert named limit) limits cert old mid new reads Reached (λ at. explain_writing limits limit at.0 at.1)
      (r, number) (read, is_named)
      (λ ending rest. inr (r, read, inr (number, is_named, rest))) (λ why ending given. given) status text kept whole

  pub explain_stops : (why : Refusal) → ExplainStops limits cert named limit r mid new why
      → Stops (Explain packages cert named limit) limits old new why
  explain_stops why (inl (same, inl memory)) =
      inr (inr (inr (memory, inl (ap (λ (d : DeskView). d.files) same ∙ reads.files_stay))))
  explain_stops why (inl (same, inr ends)) =
      inl (inr (
        r,
        read,
        inl (subst (λ (f : Option Files). NamedStage f r.packages named (Ends (refused new.files why))) reads.files_stay
            (subst (λ (f : Option Files). NamedStage mid.files r.packages named (Ends (refused f why))) (sym (ap (λ (d : DeskView). d.files) same)) ends)),
      ))
  explain_stops why (inr (number, is_named, stops)) =
      command_stops (Explain packages cert named limit) limits cert old mid new reads Reached (λ at. explain_writing limits limit at.0 at.1)
      (r, number) (read, is_named)
      (λ ending rest. inr (r, read, inr (number, is_named, rest))) (λ why ending given. given) why stops
