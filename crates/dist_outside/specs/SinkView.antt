-- What is known of a sink, and what its calls do with it.
use Rattle.std.specs.Prelude.{◌≡◌, ℕ, ◌≤◌, List, Option}
use Rattle.dist_base.specs.Front.{IsFrontOf}
use Rattle.dist_outside.specs.Counts.{Rose}
use Rattle.dist_outside.specs.Told.{grown}
use Rattle.dist_outside.specs.declared.trouble.Trouble.{Trouble}
use Rattle.dist_outside.specs.declared.trouble.Trouble.TheVariants.{Failed, NoMemory as WantsMemory}
use Rattle.dist_outside.specs.declared.trouble.WorkError.{WorkError}
use Rattle.dist_outside.specs.declared.trouble.WorkError.TheVariants.{WriteFault, NoMemory}

-- a sink: the bytes written so far, where it tells them, and how often it failed, and found no memory
pub record SinkView : Type 0 where
  pub written : Option (List ℕ)
  pub faults : ℕ
  pub wants : ℕ

-- The sink took these bytes and no others. Neither count falls.
pub record Grew (bytes : List ℕ) (old new : SinkView) : Type 0 where
  pub appended : new.written ≡ grown old.written bytes
  pub faults_stand : old.faults ≤ new.faults
  pub wants_stand : old.wants ≤ new.wants

-- The sink took some front of the bytes, perhaps nothing, perhaps all.
pub record GrewByFront (bytes : List ℕ) (old new : SinkView) : Type 0 where
  pub front : List ℕ
  pub is_front : IsFrontOf bytes front
  pub grew : Grew front old new

-- when one call of a sink gives each trouble
abbrev pub SinkCause : Trouble → SinkView → SinkView → Type 0
SinkCause Failed old new = Rose old.faults new.faults
SinkCause WantsMemory old new = Rose old.wants new.wants

-- when writing a whole text to a sink gives each error
abbrev pub WriteCause : WorkError → SinkView → SinkView → Type 0
WriteCause WriteFault old new = Rose old.faults new.faults
WriteCause NoMemory old new = Rose old.wants new.wants
WriteCause _ old new = ⊥
