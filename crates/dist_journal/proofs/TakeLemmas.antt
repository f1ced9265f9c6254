-- What an archive says of a step.
use Rattle.std.proofs.Common.{◌≡◌, ◌≢◌, ◌⊎◌, ℕ, List, Result, Ok, Err, refl, sym, subst, ◌∙◌, inl, inr}
use Rattle.std.specs.Prelude.{OnErr, OnOk}
use Rattle.dist_base.specs.Answers.{Answers, IsExactly}
use Rattle.dist_base.specs.ListLaws.{here-at}
use Rattle.dist_repo.specs.declared.package.Package.{Package}
use Rattle.dist_space.specs.Space.{SpaceView}
use Rattle.dist_archive.specs.Refusals.{Refuses}
use Rattle.dist_archive.specs.Steps.{Makes}
use Rattle.dist_archive.specs.declared.step.Step.{Step}
use Rattle.dist_archive.specs.declared.step.Step.TheVariants as step_kind
use Rattle.dist_archive.specs.declared.step.StepError.{StepError}
use Rattle.dist_archive.specs.declared.step.StepError.TheVariants as step_error
use Rattle.dist_journal.specs.Faults.{IsEntryError}
use Rattle.dist_journal.specs.FollowPrivate.{IsRefusalAt, IsTaken, IsTold, TakesStep}
use Rattle.dist_journal.specs.Journal.{Entry}
use Rattle.dist_journal.specs.Steps.{IsStepOf}
use Rattle.dist_journal.specs.declared.fault.FollowError.{FollowError}
use Rattle.dist_journal.specs.declared.fault.FollowError.TheVariants.{Bad, NoMemory}
use Rattle.dist_journal.specs.declared.fault.JournalFault.TheVariants.{Refused}

abbrev Said : Type 0
Said = Result (Unit {0}) StepError

abbrev Told : Type 0
Told = Result (Unit {0}) FollowError

module _ (s : SpaceView) (step : Step) (old new : List Package) (number : ℕ) where
  pub take-answer : (said : Said) (told : Told) → IsTold said number told → OnOk said (Makes s step old new)
      → ((error : StepError) → IsExactly step_error.NoMemory said error (Refuses s old step error))
      → Answers (λ done. IsTaken s step old new) (IsRefusalAt s old step number) NoMemory told
  take-answer (Ok done) (Ok x) is made refused = record {
    unrefused = λ e holds.
        let no : ◌≡◌ {A = Said} (Ok done) (Err e) = (refused e (λ same. other done step_error.NoMemory same)).1 holds in other done e no;
    makes = made;
  }
    where
      other : (d : Unit {0}) (e : StepError) → ◌≡◌ {A = Said} (Ok d) (Err e) → ⊥
      other d e same = cc
  take-answer (Ok done) (Err error) is made refused = absurd is
  take-answer (Err reason) (Ok x) is made refused = absurd is
  take-answer (Err reason) (Err error) is made refused = elim is [
    | inl none ↦ inl none.1
    | inr at ↦ inr (reason, at.1, (refused reason (λ same. at.0 (inner reason step_error.NoMemory same))).0 refl)
  ]
    where
      inner : (a b : StepError) → ◌≡◌ {A = Said} (Err a) (Err b) → a ≡ b
      inner a b same = cc

pub told-err : {X : Type 0} (a b : X) (number : ℕ) (said : Said) (told : Told) → IsTold said number told → OnErr said (a ≡ b) → OnErr told (a ≡ b)
told-err a b number (Ok done) (Ok x) is err = tt
told-err a b number (Ok done) (Err error) is err = absurd is
told-err a b number (Err reason) (Ok x) is err = absurd is
told-err a b number (Err reason) (Err error) is err = err

-- ---- the step of an entry

module _ (s : SpaceView) (limit : ℕ) (entry : Entry) (step : Step) (is_step : IsStepOf s limit entry step) (old new : List Package) where
  pub entry-answer : (told : Told) → Answers (λ done. IsTaken s step old new) (IsRefusalAt s old step entry.number) NoMemory told
      → Answers (λ done. TakesStep s limit entry old new) (IsEntryError s limit old entry) NoMemory told
  entry-answer (Ok done) taken = record { step = step; is_step = is_step; taken = taken }
  entry-answer (Err error) answer = elim answer [
    | inl none ↦ inl none
    | inr refusal ↦ inr (subst (IsEntryError s limit old entry) (sym refusal.1) (refl, (step, is_step, refusal.2)))
  ]

-- ---- no refusal is want of memory

pub never-memory : (s : SpaceView) (archive : List Package) (step : Step) → ¬ Refuses s archive step step_error.NoMemory
never-memory s archive (step_kind.Upload cluster version block) is =
    let fault = is.2.2 in (here-at (λ (n : Package). ⊥) block.packages fault.number fault.here).holds
never-memory s archive (step_kind.Removal name) is = is
never-memory s archive (step_kind.NewName block) is = is.1.2

pub never-refused : (s : SpaceView) (limit : ℕ) (archive : List Package) (entry : Entry) (error : FollowError)
    → (error ≡ NoMemory) ⊎ IsEntryError s limit archive entry error → (line : ℕ) → error ≢ Bad line (Refused step_error.NoMemory)
never-refused s limit archive entry error is line same = elim is [
  | inl none ↦ let no : NoMemory ≡ Bad line (Refused step_error.NoMemory) = sym none ∙ same in cc
  | inr found ↦
      let at = subst (IsEntryError s limit archive entry) same found in
      never-memory s archive at.1.0 at.1.2
]
