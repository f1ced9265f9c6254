-- How far a journal is followed, and what stops it.
use Rattle.std.proofs.Common.{◌≡◌, ℕ, ◌+◌, true, List, [], ◌∷◌, ◌++◌, length, refl, sym, ap, subst, ◌∙◌, inl, inr, arith, append_assoc, length-append}
use Rattle.std.proofs.lemmas.List.{append-nil}
use Rattle.dist_control.specs.Lines.{lines}
use Rattle.dist_repo.specs.declared.package.Package.{Package}
use Rattle.dist_space.specs.Space.{SpaceView}
use Rattle.dist_archive.specs.Reach.{AreMade}
use Rattle.dist_archive.specs.Refusals.{Refuses}
use Rattle.dist_archive.specs.Steps.{Makes}
use Rattle.dist_archive.specs.declared.step.Step.{Step}
use Rattle.dist_archive.specs.declared.step.StepError.{StepError}
use Rattle.dist_journal.specs.CutPrivate.{IsAtStep, IsCutAfter}
use Rattle.dist_journal.specs.Faults.{IsEntryError}
use Rattle.dist_journal.specs.Follow.{Follows, IsFollowed, IsLeft, IsStopped}
use Rattle.dist_journal.specs.FollowPrivate.{IsFollowedTo, TakesStep}
use Rattle.dist_journal.specs.Journal.{AreBlank, Entry, IsFirstStray, entries, entries_from, is_step_line}
use Rattle.dist_journal.specs.Steps.{AreStepsOf, IsStepOf}
use Rattle.dist_journal.specs.declared.fault.FollowError.{FollowError}
use Rattle.dist_journal.specs.declared.fault.FollowError.TheVariants.{Bad}
use Rattle.dist_journal.specs.declared.fault.JournalFault.TheVariants.{Stray}
use Rattle.dist_journal.proofs.EntryLemmas.{entries-cut, entries-next}

pub step-here : (list rest : List (List ℕ)) (line : List ℕ) → IsAtStep list → list ≡ line ∷ rest → is_step_line line ≡ true
step-here list rest line at is = subst IsAtStep is at

steps-push : (s : SpaceView) (limit : ℕ) (read : List Entry) (steps : List Step) (entry : Entry) (step : Step) → AreStepsOf s limit read steps
    → IsStepOf s limit entry step → AreStepsOf s limit (read ++ entry ∷ []) (steps ++ step ∷ [])
steps-push s limit [] steps entry step are is =
    subst (λ (l : List Step). AreStepsOf s limit (entry ∷ []) (l ++ step ∷ [])) (sym are) (step, [], refl, is, refl)
steps-push s limit (x ∷ read) steps entry step are is =
    (are.0, are.1 ++ step ∷ [], ap (λ (l : List Step). l ++ step ∷ []) are.2, are.3, steps-push s limit read are.1 entry step are.4 is)

-- lists of steps that are made grow
abbrev pub Grows : SpaceView → Type 0
Grows s = (steps : List Step) (step : Step) (old middle new : List Package) → AreMade s steps old middle
    → ((error : StepError) → ¬ Refuses s middle step error) → Makes s step middle new → AreMade s (steps ++ step ∷ []) old new

module _ (s : SpaceView) (limit : ℕ) (journal : List ℕ) (old : List Package) where
  pub to-start : (head rest : List ℕ) (count : ℕ) → AreMade s [] old old → AreBlank (lines head) → IsCutAfter (lines journal) (lines head) (lines rest)
      → count ≡ length (lines head) → IsFollowedTo s limit journal old old rest (count + 1) 0
  to-start head rest count none blank cut counted = record {
    head = subst AreBlank (sym cut.is_front) blank;
    before = [];
    pieces = entries-cut 1 (lines journal) (lines head) (lines rest) cut ∙ ap (λ (n : ℕ). entries_from n (lines rest)) (omega (arith, counted));
    follows = record { steps = []; are_steps = refl; made = none };
    count_is = refl;
  }

  module _ (new : List Package) (rest : List ℕ) (number count : ℕ) (to : IsFollowedTo s limit journal old new rest number count) where
    pub to-left : IsLeft s limit journal old new
    to-left = (to.before, entries_from number (lines rest), to.pieces, to.follows)

    pub to-end : rest ≡ [] → IsFollowed s limit journal old new count
    to-end is =
        let all : entries journal ≡ to.before = to.pieces ∙ ap (λ (t : List ℕ). to.before ++ entries_from number (lines t)) is ∙ append-nil to.before in
        record {
          head = to.head;
          follows = subst (λ (l : List Entry). Follows s limit l old new) (sym all) to.follows;
          count_is = to.count_is ∙ ap length (sym all);
        }

    module _ (line after block next : List ℕ) (many : ℕ) (at : IsAtStep (lines rest)) (is : lines rest ≡ line ∷ lines after)
        (cut : IsCutAfter (lines after) (lines block) (lines next)) (counted : many ≡ length (lines block)) where
      abbrev pub entry : Entry
      entry = record { number = number; line = line; block = lines block }

      here : entries journal ≡ to.before ++ entry ∷ entries_from (number + (many + 1)) (lines next)
      here = to.pieces ∙ ap (λ (l : List Entry). to.before ++ l)
          (entries-next number line (lines rest) (lines after) (lines block) (lines next) is (step-here (lines rest) (lines after) line at is) cut
          ∙ ap (λ (n : ℕ). entry ∷ entries_from (number + (n + 1)) (lines next)) (sym counted))

      pub to-stop : (error : FollowError) → IsEntryError s limit new entry error → IsStopped s limit journal old new error
      to-stop error is_error = inr (
        entry,
        record {
          head = to.head;
          before = to.before;
          after = entries_from (number + (many + 1)) (lines next);
          pieces = here;
          follows = to.follows;
        },
        is_error,
      )

      pub to-more : (newer : List Package) → Grows s → TakesStep s limit entry new newer
          → IsFollowedTo s limit journal old newer next (number + (many + 1)) (count + 1)
      to-more newer grows takes = record {
        head = to.head;
        before = to.before ++ entry ∷ [];
        pieces = here ∙ sym (append_assoc to.before (entry ∷ []) (entries_from (number + (many + 1)) (lines next)));
        follows = record {
          steps = to.follows.steps ++ takes.step ∷ [];
          are_steps = steps-push s limit to.before to.follows.steps entry takes.step to.follows.are_steps takes.is_step;
          made = grows to.follows.steps takes.step old new newer to.follows.made takes.taken.unrefused takes.taken.makes;
        };
        count_is = omega (arith, to.count_is, length-append to.before (entry ∷ []));
      }

  -- a line before the first step line
  pub stray-stop : (head rest : List ℕ) (line : ℕ) → IsCutAfter (lines journal) (lines head) (lines rest) → IsFirstStray 1 (lines head) line
      → IsStopped s limit journal old old (Bad line Stray)
  stray-stop head rest line cut stray =
      inl (refl, (line, refl, subst (λ (l : List (List ℕ)). IsFirstStray 1 l line) (sym cut.is_front) stray))

  pub none-left : AreMade s [] old old → IsLeft s limit journal old old
  none-left none = ([], entries journal, refl, record { steps = []; are_steps = refl; made = none })
