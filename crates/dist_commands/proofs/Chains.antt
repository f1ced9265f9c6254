-- A chain of stages, from its first one and the rest, where the desk was only read.
use Rattle.std.proofs.Common.{List, ℕ, inl, inr, Option, subst}
use Rattle.dist_outside.specs.Files.{Files}
use Rattle.dist_outside.specs.DeskView.{DeskView, OnlyReads}
use Rattle.dist_commands.specs.DuePrivate.{IsDue}
use Rattle.dist_commands.specs.Stages.{Ending, Step, Goes, Ends, Then, answered}
use Rattle.dist_commands.specs.declared.refusal.Refusal.{Refusal}
use Rattle.dist_commands.specs.declared.status.Status.{Status}
use Rattle.dist_commands.proofs.Due.{due_more, due_later}

-- a chain whose first stage and whose rest are of the files that the desk tells
module _ {X : Type 0} (First : Option Files → Step X → Type 0) (Rest : Option Files → X → Ending → Type 0) where
  abbrev Chain : Option Files → Ending → Type 0
  Chain files = Then (First files) (Rest files)

  module _ (old mid : DeskView) (reads : OnlyReads old mid) (value : X) (goes : First old.files (Goes value)) where
    pub chain-answers : (status : Status) (text : List ℕ) → Rest mid.files value (answered mid.files status text)
        → Chain old.files (answered old.files status text)
    chain-answers status text decides =
        inr (value, goes, subst (λ (files : Option Files). Rest files value (answered files status text)) reads.files_stay decides)

    pub chain-due : (new : DeskView) (refusal : Refusal) → OnlyReads mid new → IsDue (Rest mid.files value) mid new refusal
        → IsDue (Chain old.files) old new refusal
    chain-due new refusal after due =
        due_more (Rest old.files value) (Chain old.files) old new refusal (λ ending decided. inr (value, goes, decided))
        (due_later (Rest old.files value) old mid new refusal reads after
        (subst (λ (files : Option Files). IsDue (Rest files value) mid new refusal) reads.files_stay due))

  pub chain-unread : (old new : DeskView) (refusal : Refusal) → IsDue (λ ending. First old.files (Ends ending)) old new refusal
      → IsDue (Chain old.files) old new refusal
  chain-unread old new refusal due = due_more (λ ending. First old.files (Ends ending)) (Chain old.files) old new refusal (λ ending ends. inl ends) due
