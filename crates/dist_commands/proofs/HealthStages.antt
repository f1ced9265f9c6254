-- The stages of a command, one after another.
use Rattle.std.proofs.Common.{◌≡◌, ℕ, List, Bool, inl, inr, Option, Result, Ok, Err, IfOk, IfErr, sym, subst}
use Rattle.dist_outside.specs.Files.{Files}
use Rattle.dist_outside.specs.DeskView.{DeskView, OnlyReads}
use Rattle.dist_outside.specs.declared.limits.Limits.{Limits}
use Rattle.dist_repo.specs.PackageList.{PackageList}
use Rattle.dist_commands.specs.DuePrivate.{IsDue, IsPartGivenUp}
use Rattle.dist_commands.specs.Health.{ListStage, Judges, ListStages}
use Rattle.dist_commands.specs.PackagesStage.{PackagesStage}
use Rattle.dist_commands.specs.Stages.{Ending, Step, Goes, Ends, Then, answered}
use Rattle.dist_commands.specs.TextStage.{TextStage}
use Rattle.dist_commands.specs.declared.refusal.Refusal.{Refusal}
use Rattle.dist_commands.specs.declared.status.Status.{Status}
use Rattle.dist_commands.proofs.Chains.{chain-answers, chain-due, chain-unread}
use Rattle.dist_commands.proofs.Due.{due_more}

-- a stage that takes the text of a file apart
pub after_text_goes : {X : Type 0} (Stage : Option Files → List ℕ → Step X → Type 0) (result : Result X Refusal) (files : Option Files) (name : List ℕ)
    (limit : ℕ)
    (text read : List ℕ) → read ≡ text → TextStage files name limit (Goes text) → IfOk result (λ value. (told : Option Files) → Stage told read (Goes value))
    → IfOk result (λ value. (t : List ℕ) × TextStage files name limit (Goes t) × Stage files t (Goes value))
after_text_goes Stage (Ok value) files name limit text read same goes has =
    (read, subst (λ (t : List ℕ). TextStage files name limit (Goes t)) (sym same) goes, has files)
after_text_goes Stage (Err error) files name limit text read same goes has = tt

pub after_text_due : {X : Type 0} (Stage : Option Files → List ℕ → Step X → Type 0) (result : Result X Refusal) (old new : DeskView) (name : List ℕ) (limit : ℕ)
    (text read : List ℕ) → read ≡ text → TextStage old.files name limit (Goes text)
    → IfErr result (λ refusal. (told : Option Files) → IsPartGivenUp (λ ending. Stage told read (Ends ending)) told refusal)
    → IfErr result (IsDue (Then (TextStage old.files name limit) (λ t ending. Stage old.files t (Ends ending))) old new)
after_text_due Stage (Ok value) old new name limit text read same goes has = tt
after_text_due Stage (Err refusal) old new name limit text read same goes has =
    due_more (λ ending. Stage old.files read (Ends ending)) (Then (TextStage old.files name limit) (λ t ending. Stage old.files t (Ends ending))) old new
    refusal
    (λ ending decided. inr (read, subst (λ (t : List ℕ). TextStage old.files name limit (Goes t)) (sym same) goes, decided)) (inr (has old.files))

pub list_answers : (files : Option Files) (limits : Limits) (repository : PackageList) (list : List ℕ) (members : List Bool) (ending : Ending)
    → ((text : List ℕ) × TextStage files list limits.bytes (Goes text) × ListStage files repository.packages text (Goes members))
    → Judges files repository members ending → ListStages files limits repository list (Judges files repository) ending
list_answers files limits repository list members ending (text, goes, has) judges = inr (text, goes, inr (members, has, judges))

list_ends : (files : Option Files) (limits : Limits) (repository : PackageList) (list : List ℕ) (ending : Ending)
    → Then (TextStage files list limits.bytes) (λ text end. ListStage files repository.packages text (Ends end)) ending
    → ListStages files limits repository list (Judges files repository) ending
list_ends files limits repository list ending (inl ends) = inl ends
list_ends files limits repository list ending (inr (text, goes, ends)) = inr (text, goes, inl ends)

pub list_due : (limits : Limits) (repository : PackageList) (list : List ℕ) (old new : DeskView) (refusal : Refusal)
    → IsDue (Then (TextStage old.files list limits.bytes) (λ text ending. ListStage old.files repository.packages text (Ends ending))) old new refusal
    → IsDue (ListStages old.files limits repository list (Judges old.files repository)) old new refusal
list_due limits repository list old new refusal due =
    due_more (Then (TextStage old.files list limits.bytes) (λ text ending. ListStage old.files repository.packages text (Ends ending)))
    (ListStages old.files limits repository list (Judges old.files repository)) old new refusal (list_ends old.files limits repository list) due

-- ---- behind PACKAGES

-- a chain that begins with PACKAGES, whose rest is of the files that the desk tells
abbrev pub Rest : Type 1
Rest = Option Files → PackageList → Ending → Type 0

pub packages_answers : (After : Rest) (old mid : DeskView) (limits : Limits) (packages : List ℕ) (repository : PackageList) (status : Status) (text : List ℕ)
    → OnlyReads old mid
    → PackagesStage old.files limits packages (Goes repository) → After mid.files repository (answered mid.files status text)
    → Then (PackagesStage old.files limits packages) (After old.files) (answered old.files status text)
packages_answers After old mid limits packages repository status text reads read decides =
    chain-answers (λ files. PackagesStage files limits packages) After old mid reads repository read status text decides

pub packages_due : (After : Rest) (old mid new : DeskView) (limits : Limits) (packages : List ℕ) (repository : PackageList) (refusal : Refusal)
    → OnlyReads old mid → OnlyReads mid new
    → PackagesStage old.files limits packages (Goes repository) → IsDue (After mid.files repository) mid new refusal
    → IsDue (Then (PackagesStage old.files limits packages) (After old.files)) old new refusal
packages_due After old mid new limits packages repository refusal before after read due =
    chain-due (λ files. PackagesStage files limits packages) After old mid before repository read new refusal after due

pub packages_unread : (After : Rest) (old new : DeskView) (limits : Limits) (packages : List ℕ) (refusal : Refusal)
    → IsDue (λ ending. PackagesStage old.files limits packages (Ends ending)) old new refusal
    → IsDue (Then (PackagesStage old.files limits packages) (After old.files)) old new refusal
packages_unread After old new limits packages refusal due =
    chain-unread (λ files. PackagesStage files limits packages) After old new refusal due
