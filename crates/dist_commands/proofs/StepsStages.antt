-- The stages of `steps`, one after another, and those that make the space of a file.
use Rattle.std.proofs.Common.{◌<◌, ◌≤◌, ℕ, Bool, false, List, length, inl, inr, Option, Result, Ok, Err, IfOk, IfErr, ap, sym, subst}
use Rattle.dist_outside.specs.Files.{Files}
use Rattle.dist_outside.specs.DeskView.{DeskView, OnlyReads}
use Rattle.dist_outside.specs.declared.limits.Limits.{Limits}
use Rattle.dist_repo.specs.Order.{IsLatestOf}
use Rattle.dist_repo.specs.PackageList.{PackageList}
use Rattle.dist_repo.specs.Size.{IsWithinSize}
use Rattle.dist_space.specs.Space.{SpaceView}
use Rattle.dist_space.specs.SpaceOf.{HasMoreVariables, IsSpaceOf}
use Rattle.dist_subject.specs.Limited.{OfSpace}
use Rattle.dist_commands.specs.DuePrivate.{IsDue, IsPartGivenUp}
use Rattle.dist_commands.specs.LaterPrivate.{HasNoSpace, HasSome, IsSpaceKept, IsLaterTold}
use Rattle.dist_commands.specs.PackagesStage.{PackagesStage}
use Rattle.dist_commands.specs.SpaceStage.{IsSpaceOfFile, SpaceStage}
use Rattle.dist_commands.specs.Stages.{Ending, Ends, Goes, Then, answered, refused}
use Rattle.dist_commands.specs.Steps.{IsNewestIn, SpaceStages, TellsLater}
use Rattle.dist_commands.specs.declared.refusal.Refusal.{Refusal}
use Rattle.dist_commands.specs.declared.status.Status.{Status}
use Rattle.dist_commands.proofs.Due.{due_more, due_later}
use Rattle.dist_commands.proofs.LaterLemmas.{has-some}

-- ---- the space

-- what was made of the newest versions is of the file
module _ (r newest : PackageList) (latest : IsLatestOf r newest) (essential : Bool) where
  of-file : (space : SpaceView) → IsSpaceOf newest essential space → IsSpaceOfFile essential r space
  of-file space is = (
    subst (λ (x : PackageList). IsLatestOf r x) (sym is.repository) latest,
    subst (λ (x : PackageList). IsSpaceOf x essential space) (sym is.repository) is,
  )

  more-of-file : (variables : ℕ) → HasMoreVariables newest essential variables → OfSpace r essential (λ space. variables < length space.meanings)
  more-of-file variables (space, is, more) = let own = of-file space is in (space, own.0, own.1, more)

  module _ (limits : Limits) where
    pub space-goes : (result : Result SpaceView Refusal) → IfOk result (IsSpaceOf newest essential)
        → IfOk result (λ space. length space.meanings ≤ limits.variables)
        → IfOk result (λ space. (files : Option Files) → SpaceStage files limits essential r (Goes space))
    space-goes (Ok space) is within = λ files. (of-file space is, within)
    space-goes (Err refusal) is within = tt

    no-space : (refusal : Refusal) → HasNoSpace newest essential limits.variables refusal
        → (files : Option Files) → IsPartGivenUp (λ ending. SpaceStage files limits essential r (Ends ending)) files refusal
    no-space refusal (inl memory) files = inl memory
    no-space refusal (inr (is, more)) files =
        inr (more-of-file limits.variables more, ap (λ (why : Refusal). refused files why) is)

    pub space-given-up : (result : Result SpaceView Refusal) → IfErr result (HasNoSpace newest essential limits.variables)
        → IfErr result (λ refusal. (files : Option Files) → IsPartGivenUp (λ ending. SpaceStage files limits essential r (Ends ending)) files refusal)
    space-given-up (Ok space) none = tt
    space-given-up (Err refusal) none = no-space refusal none

  pub space-size : (result : Result SpaceView Refusal) → IsWithinSize newest → IfOk result (IsSpaceOf newest essential)
      → IfOk result (λ space. IsWithinSize space.repository)
  space-size (Ok space) within is = subst (λ (x : PackageList). IsWithinSize x) (sym is.repository) within
  space-size (Err refusal) within is = tt

-- the space of PACKAGES
module _ (limits : Limits) (packages : List ℕ) (r : PackageList) where
  pub space-kept : (files : Option Files) (result : Result SpaceView Refusal) → PackagesStage files limits packages (Goes r)
      → IfOk result (λ space. (told : Option Files) → SpaceStage told limits false r (Goes space)) → IfOk result (IsSpaceKept files limits packages)
  space-kept files (Ok space) read goes = (r, read, goes files)
  space-kept files (Err refusal) read goes = tt

  given-up : (old new : DeskView) (refusal : Refusal) → PackagesStage old.files limits packages (Goes r)
      → ((told : Option Files) → IsPartGivenUp (λ ending. SpaceStage told limits false r (Ends ending)) told refusal)
      → IsDue (SpaceStages old.files limits packages (λ space ending. ⊥)) old new refusal
  given-up old new refusal read none =
      due_more (λ ending. SpaceStage old.files limits false r (Ends ending)) (SpaceStages old.files limits packages (λ space ending. ⊥)) old new refusal
      (λ ending ends. inr (r, read, inl ends)) (inr (none old.files))

  pub space-due : (old new : DeskView) (result : Result SpaceView Refusal) → PackagesStage old.files limits packages (Goes r)
      → IfErr result (λ refusal. (told : Option Files) → IsPartGivenUp (λ ending. SpaceStage told limits false r (Ends ending)) told refusal)
      → IfErr result (IsDue (SpaceStages old.files limits packages (λ space ending. ⊥)) old new)
  space-due old new (Ok space) read none = tt
  space-due old new (Err refusal) read none = given-up old new refusal read none

-- ---- LATER

-- the newest versions of a file that was read have a package where they are for an architecture
pub newest-some : (files : Option Files) (limits : Limits) (name : List ℕ) (newest : PackageList) → IsNewestIn files limits name newest → HasSome newest
newest-some files limits name newest (file, (text, whole, read), latest) = has-some text limits.stanzas file newest read latest

pub later-answers : (files : Option Files) (limits : Limits) (later : List ℕ) (space : SpaceView) (newest : PackageList) (status : Status) (text : List ℕ)
    → IsNewestIn files limits later newest → IsLaterTold space newest status text
    → Then (PackagesStage files limits later) (TellsLater files space) (answered files status text)
later-answers files limits later space newest status text (file, read, latest) told =
    inr (file, read, record { later = newest; is_newest = latest; tells = told files })

-- ---- behind the space of PACKAGES

-- a chain whose rest is of the files that the desk tells
module _ (After : Option Files → SpaceView → Ending → Type 0) (limits : Limits) (packages : List ℕ) where
  abbrev Whole : Option Files → Ending → Type 0
  Whole files = SpaceStages files limits packages (After files)

  whole : (files : Option Files) (space : SpaceView) (ending : Ending) → IsSpaceKept files limits packages space → After files space ending
      → Whole files ending
  whole files space ending (r, read, made) rest = inr (r, read, inr (space, made, rest))

  module _ (old mid : DeskView) (space : SpaceView) (reads : OnlyReads old mid) (kept : IsSpaceKept old.files limits packages space) where
    pub space-answers : (status : Status) (text : List ℕ) → After mid.files space (answered mid.files status text)
        → Whole old.files (answered old.files status text)
    space-answers status text rest =
        whole old.files space (answered old.files status text) kept
        (subst (λ (files : Option Files). After files space (answered files status text)) reads.files_stay rest)

    pub space-after : (new : DeskView) (refusal : Refusal) → OnlyReads mid new → IsDue (After mid.files space) mid new refusal
        → IsDue (Whole old.files) old new refusal
    space-after new refusal after due =
        due_more (After old.files space) (Whole old.files) old new refusal (λ ending decided. whole old.files space ending kept decided)
        (due_later (After old.files space) old mid new refusal reads after
        (subst (λ (files : Option Files). IsDue (After files space) mid new refusal) reads.files_stay due))

  nothing-after : (files : Option Files) (ending : Ending) → SpaceStages files limits packages (λ space end. ⊥) ending → Whole files ending
  nothing-after files ending (inl ends) = inl ends
  nothing-after files ending (inr (r, read, inl ends)) = inr (r, read, inl ends)
  nothing-after files ending (inr (r, read, inr (space, made, none))) = absurd none

  pub space-unread : (old new : DeskView) (refusal : Refusal) → IsDue (SpaceStages old.files limits packages (λ space ending. ⊥)) old new refusal
      → IsDue (Whole old.files) old new refusal
  space-unread old new refusal due =
      due_more (SpaceStages old.files limits packages (λ space ending. ⊥)) (Whole old.files) old new refusal (nothing-after old.files) due
