-- Why a chain of stages was given up, from why its parts were.
use Rattle.std.proofs.Common.{inl, inr, refl, ℕ, List, Option, Result, Ok, Err, IfOk, IfErr, sym, subst}
use Rattle.dist_outside.specs.Files.{Files}
use Rattle.dist_outside.specs.DeskView.{DeskView, OnlyReads}
use Rattle.dist_outside.specs.declared.limits.Limits.{Limits}
use Rattle.dist_words.specs.CommandLine.{CommandLine}
use Rattle.dist_commands.specs.Command.{CommandDecides, IsApart}
use Rattle.dist_commands.specs.DuePrivate.{IsDue, IsPartGivenUp}
use Rattle.dist_commands.specs.Stops.{Stops}
use Rattle.dist_commands.specs.Stages.{Ending, answered, refused}
use Rattle.dist_commands.specs.declared.refusal.Refusal.{Refusal}
use Rattle.dist_commands.specs.declared.status.Status.{Status}
use Rattle.dist_commands.proofs.Writing.{rose_earlier}

-- a part that was given up gives up the whole that it decides
pub due_more : (Part Whole : Ending → Type 0) (old new : DeskView) (refusal : Refusal) → ((ending : Ending) → Part ending → Whole ending)
    → IsDue Part old new refusal → IsDue Whole old new refusal
due_more Part Whole old new refusal more (inl fault) = inl fault
due_more Part Whole old new refusal more (inr (inl memory)) = inr (inl memory)
due_more Part Whole old new refusal more (inr (inr decided)) = inr (inr (more (refused old.files refusal) decided))

-- a later part, from a desk that was only read until then
pub due_later : (Decided : Ending → Type 0) (old mid new : DeskView) (refusal : Refusal) → OnlyReads old mid → OnlyReads mid new
    → IsDue Decided mid new refusal → IsDue Decided old new refusal
due_later Decided old mid new refusal before after (inl (is, rose)) =
    inl (is, rose_earlier old.read_faults mid.read_faults new.read_faults before.read_faults_stand after.read_faults_stand rose)
due_later Decided old mid new refusal before after (inr (inl memory)) = inr (inl memory)
due_later Decided old mid new refusal before after (inr (inr decided)) =
    inr (inr (subst (λ (files : Option Files). Decided (refused files refusal)) before.files_stay decided))

pub ok_more : {X E : Type 0} (result : Result X E) (P Q : X → Type 0) → ((value : X) → P value → Q value) → IfOk result P → IfOk result Q
ok_more (Ok value) P Q more has = more value has
ok_more (Err error) P Q more has = tt

-- two facts of a value are one
pub both : {X E : Type 0} (result : Result X E) (P Q : X → Type 0) → IfOk result P → IfOk result Q → IfOk result (λ value. P value × Q value)
both (Ok value) P Q first second = (first, second)
both (Err error) P Q first second = tt

pub err_more : {X E : Type 0} (result : Result X E) (P Q : E → Type 0) → ((error : E) → P error → Q error) → IfErr result P → IfErr result Q
err_more (Ok value) P Q more has = tt
err_more (Err error) P Q more has = more error has

-- what a command was given up for, where it only read
pub due_stops : (line : CommandLine) (limits : Limits) (Part : Ending → Type 0) (old new : DeskView) (why : Refusal)
    → ((ending : Ending) → Part ending → CommandDecides line old.files limits ending)
    → ¬ IsApart line → OnlyReads old new → IsDue Part old new why → Stops line limits old new why
due_stops line limits Part old new why more of_files reads (inl (is, rose)) = inr (inl (is, of_files, reads.files_stay, rose))
due_stops line limits Part old new why more of_files reads (inr (inl memory)) = inr (inr (inr (memory, inl reads.files_stay)))
due_stops line limits Part old new why more of_files reads (inr (inr decided)) =
    inl (subst (λ (files : Option Files). CommandDecides line old.files limits (refused files why)) (sym reads.files_stay)
    (more (refused old.files why) decided))

-- and where it does nothing with the desk
pub apart_stops : (line : CommandLine) (limits : Limits) (Part : Ending → Type 0) (desk : DeskView) (why : Refusal)
    → ((ending : Ending) → Part ending → CommandDecides line desk.files limits ending)
    → IsPartGivenUp Part desk.files why → Stops line limits desk desk why
apart_stops line limits Part desk why more (inl memory) = inr (inr (inr (memory, inl refl)))
apart_stops line limits Part desk why more (inr decided) = inl (more (refused desk.files why) decided)

-- and what it answers then
pub read_answers : (line : CommandLine) (limits : Limits) (old new : DeskView) (status : Status) (text : List ℕ) → OnlyReads old new
    → CommandDecides line old.files limits (answered old.files status text) → CommandDecides line old.files limits (answered new.files status text)
read_answers line limits old new status text reads decides =
    subst (λ (files : Option Files). CommandDecides line old.files limits (answered files status text)) (sym reads.files_stay) decides
