-- What `repair` comes to, stage by stage.
use Rattle.std.proofs.Common.{◌≡◌, ◌<◌, ℕ, false, List, inl, inr, length, Option, Some, None, Result, Ok, Err, ap, sym, ◌∙◌, subst, arith}
use Rattle.dist_outside.specs.DeskView.{DeskView, OnlyReads}
use Rattle.dist_outside.specs.Files.{Files}
use Rattle.dist_outside.specs.declared.limits.Limits.{Limits}
use Rattle.dist_outside.specs.declared.trouble.What.{What}
use Rattle.dist_outside.specs.declared.trouble.What.TheVariants as what
use Rattle.dist_outside.specs.declared.trouble.WorkError.{WorkError}
use Rattle.dist_outside.specs.declared.trouble.WorkError.TheVariants as work
use Rattle.dist_inquiry.specs.AnswerText.{setting_of}
use Rattle.dist_inquiry.specs.Inquiring.{course_of}
use Rattle.dist_inquiry.specs.Written.{LeavesCut as LeavesText}
use Rattle.dist_repo.specs.PackageList.{PackageList}
use Rattle.dist_space.specs.Space.{SpaceView}
use Rattle.dist_space.specs.SpaceOf.{IsSpaceOf}
use Rattle.dist_repair.specs.RepairFiles.{AreCountedInputs, PassesWith, repair_files}
use Rattle.dist_repair.specs.Verdicts.{AcceptedSays}
use Rattle.dist_repair.specs.declared.repair.Repair.{Repair}
use Rattle.dist_repair.specs.declared.repair.Repair.TheVariants as repair
use Rattle.dist_repair.specs.declared.verdict.RepairHeader.{RepairHeader}
use Rattle.dist_repair_search.specs.QuestionOrder.{repair_asks}
use Rattle.dist_repair_search.specs.SearchAnswers.{OfRepair, SearchAnswers, first_numbers, header_with}
use Rattle.dist_report.specs.RepairText.{HasValues}
use Rattle.dist_words.specs.CommandLine.{Repair as RepairLine}
use Rattle.dist_commands.specs.Command.{CommandDecides}
use Rattle.dist_commands.specs.DuePrivate.{IsPartGivenUp, WriterAnswers}
use Rattle.dist_commands.specs.Stops.{Stops}
use Rattle.dist_commands.specs.LaterPrivate.{HasNoSpace}
use Rattle.dist_commands.specs.NamedStage.{NamedStage}
use Rattle.dist_commands.specs.Repair.{IsRepairReached, NewestStage, PlainSpaceStage, repair_writing}
use Rattle.dist_commands.specs.RepairPrivate.{IsNamedAndWritten, NamedStops}
use Rattle.dist_commands.specs.Stages.{Ending, Ends, answered, refused}
use Rattle.dist_commands.specs.Steps.{IsNewestIn}
use Rattle.dist_commands.specs.WrittenFile.{LeavesCut}
use Rattle.dist_commands.specs.declared.refusal.Refusal.{Refusal}
use Rattle.dist_commands.specs.declared.status.Status.{Status}
use Rattle.dist_commands.proofs.AnswerTexts.{leaves_cut, whole_is_cut}
use Rattle.dist_commands.proofs.Writings.{IsOfInputs, command_answers, command_stops}

-- ---- the text

-- the assignments of an accepted answer have a value for each variable of the space
pub has_values : (s : SpaceView) (h : RepairHeader) (made : Repair) → AcceptedSays s h made → HasValues s made
has_values s h repair.Outdated says = tt
has_values s h (repair.Least number values) says = let over = says.over in omega (arith, over)
has_values s h (repair.AtLeast lower undecided None) says = tt
has_values s h (repair.AtLeast lower undecided (Some one)) says = let over = says.over in omega (arith, over)

-- ---- the file

pub of_repair : (s : SpaceView) (most : ℕ) (limits : Limits) (number : What) → PassesWith s most limits number → IsOfInputs number
of_repair s most limits what.Bytes p = absurd p.passes
of_repair s most limits what.Stanzas p = absurd p.passes
of_repair s most limits what.Variables p = tt
of_repair s most limits what.Clauses p = tt
of_repair s most limits what.Literals p = tt
of_repair s most limits what.Lines p = absurd p.passes
of_repair s most limits what.LineLiterals p = absurd p.passes
of_repair s most limits what.Certificate p = absurd p.passes
of_repair s most limits what.RecordLine p = absurd p.passes

module _ (s : SpaceView) (number most limit : ℕ) (limits : Limits) (name : List ℕ) (old new : DeskView) where
  abbrev Asked : RepairHeader
  Asked = header_with limit number most

  leaves : OfRepair s Asked limits (λ g course. LeavesText g course name old new)
      → LeavesCut (repair_writing limits most limit s number) name old.files new.files
  leaves = leaves_cut (AreCountedInputs s most) (λ basis. setting_of (repair_files s) limits basis (first_numbers s Asked basis))
      (λ basis. course_of (repair_files s) (repair_asks s) (first_numbers s Asked basis)) name old new

  pub repair_answered : (result : Result Repair WorkError) → SearchAnswers s Asked limits name old new result
      → WriterAnswers (repair_writing limits most limit s number) name old new result
  repair_answered (Ok made) (text, holds, accepted, whole) = (text, holds, (accepted, whole))
  repair_answered (Err work.ReadFault) answers = answers
  repair_answered (Err work.WriteFault) (rose, left) = (rose, leaves left)
  repair_answered (Err work.NoMemory) (inl same) = inl (ap (λ (d : DeskView). d.files) same)
  repair_answered (Err work.NoMemory) (inr left) = leaves left
  repair_answered (Err (work.TooLarge what.Variables)) answers = answers
  repair_answered (Err (work.TooLarge what.Clauses)) answers = answers
  repair_answered (Err (work.TooLarge what.Literals)) answers = answers
  repair_answered (Err (work.TooLarge what.Bytes)) answers = answers
  repair_answered (Err (work.TooLarge what.Stanzas)) answers = answers
  repair_answered (Err (work.TooLarge what.Lines)) answers = answers
  repair_answered (Err (work.TooLarge what.LineLiterals)) answers = answers
  repair_answered (Err (work.TooLarge what.Certificate)) answers = answers
  repair_answered (Err (work.TooLarge what.RecordLine)) answers = answers

  pub repair_is_cut : (made : Repair) (text : List ℕ) → (repair_writing limits most limit s number).IsWhole made text
      → (repair_writing limits most limit s number).IsCut text
  repair_is_cut made text (accepted, (basis, are, whole)) = (basis, are, whole_is_cut _ _ text whole)

-- ---- the space

pub no_plain_space : (newest : PackageList) (limits : Limits) (why : Refusal) (files : Option Files) → HasNoSpace newest false limits.variables why
    → IsPartGivenUp (λ ending. PlainSpaceStage files limits newest (Ends ending)) files why
no_plain_space newest limits why files (inl memory) = inl memory
no_plain_space newest limits why files (inr (is, more)) = inr (more, ap (λ (w : Refusal). refused files w) is)

pub within_space : (newest : PackageList) (space : SpaceView) (number : ℕ) → IsSpaceOf newest false space → number < length newest.packages
    → number < length space.repository.packages
within_space newest space number is within = subst (λ (x : PackageList). number < length x.packages) (sym is.repository) within

-- ---- the command

module _ (limits : Limits) (packages cert named : List ℕ) (most limit : ℕ) (old mid new : DeskView) (newest : PackageList)
    (reads : OnlyReads old mid) (read : IsNewestIn old.files limits packages newest) where
  abbrev Reached : PackageList × ℕ × SpaceView → Type 0
  Reached = IsRepairReached old.files limits packages named

  pub repair_answers : (status : Status) (text : List ℕ) → IsNamedAndWritten mid.files limits cert named most limit newest (answered new.files status text)
      → CommandDecides (RepairLine packages cert named most limit) old.files limits (answered new.files status text)
  repair_answers status text (number, is_named, (space, made, kept, whole)) =
      command_answers (RepairLine packages cert named most limit) limits cert old mid new reads Reached
      (λ at. repair_writing limits most limit at.2 at.1) (newest, number, space) (read, is_named, made)
      (λ ending rest. inr (newest, read, inr (number, is_named, inr (space, made, rest)))) (λ why ending given. given) status text kept whole

  -- a part that was given up with the desk as it is
  part_stops : (why : Refusal) (Part : Option Files → Ending → Type 0) → new ≡ mid → IsPartGivenUp (Part mid.files) mid.files why
      → ((ending : Ending) → Part old.files ending → CommandDecides (RepairLine packages cert named most limit) old.files limits ending)
      → Stops (RepairLine packages cert named most limit) limits old new why
  part_stops why Part same (inl memory) more = inr (inr (inr (memory, inl (ap (λ (d : DeskView). d.files) same ∙ reads.files_stay))))
  part_stops why Part same (inr ends) more =
      inl (more (refused new.files why) (subst (λ (f : Option Files). Part f (refused new.files why)) reads.files_stay
      (subst (λ (f : Option Files). Part mid.files (refused f why)) (sym (ap (λ (d : DeskView). d.files) same)) ends)))

  pub repair_stops : (why : Refusal) → NamedStops limits cert named most limit newest mid new why
      → Stops (RepairLine packages cert named most limit) limits old new why
  repair_stops why (inl (same, part)) =
      part_stops why (λ files ending. NamedStage files newest.packages named (Ends ending)) same part (λ ending ends. inr (newest, read, inl ends))
  repair_stops why (inr (number, is_named, inl (same, part))) =
      part_stops why (λ files ending. PlainSpaceStage files limits newest (Ends ending)) same part
      (λ ending ends. inr (newest, read, inr (number, is_named, inl ends)))
  repair_stops why (inr (number, is_named, inr (space, made, stops))) =
      command_stops (RepairLine packages cert named most limit) limits cert old mid new reads Reached
      (λ at. repair_writing limits most limit at.2 at.1) (newest, number, space) (read, is_named, made)
      (λ ending rest. inr (newest, read, inr (number, is_named, inr (space, made, rest)))) (λ why ending given. given) why stops

-- no newest versions
pub repair_unread : (limits : Limits) (packages cert named : List ℕ) (most limit : ℕ) (old new : DeskView) (ending : Ending)
    → NewestStage old.files limits packages (Ends ending) → CommandDecides (RepairLine packages cert named most limit) old.files limits ending
repair_unread limits packages cert named most limit old new ending ends = inl ends
