-- What the relation fields of a Packages file hold, line by line.
use Rattle.std.specs.Prelude.{◌≡◌, ◌⊎◌, ℕ, ◌+◌, List, [], ◌∷◌, ◌++◌, codes, length}
use Rattle.dist_control.specs.Lines.{lines}
use Rattle.dist_relation.specs.Faults.{FirstDependsFault, FirstAtomsFault, FirstProvidesFault}
use Rattle.dist_relation.specs.Grammar.{ReadsDepends, ReadsAtoms, ReadsProvides}
use Rattle.dist_relation.specs.declared.atom.Atom.{Atom}
use Rattle.dist_relation.specs.declared.atom.Provide.{Provide}
use Rattle.dist_relation.specs.declared.error.RelationError.{RelationError}
use Rattle.dist_bench.specs.Counted.{counted}
use Rattle.dist_bench.specs.FirstLine.{IsFirstFault}
use Rattle.dist_bench.specs.declared.error.JobError.{JobError}
use Rattle.dist_bench.specs.declared.error.JobError.TheVariants.{NoRelation}
use Rattle.dist_bench.specs.declared.relations.Counts.{Counts}
use Rattle.dist_bench.specs.declared.relations.Kind.{Kind}
use Rattle.dist_bench.specs.declared.relations.Kind.TheVariants.{Depends, Conflicts, Provides}

-- the line begins with the name of a field of this kind, and this is the rest of it
abbrev pub IsField : List ℕ → Kind → List ℕ → Type 0
IsField line Depends value = (line ≡ codes "Depends: " ++ value) ⊎ (line ≡ codes "Pre-Depends: " ++ value)
IsField line Conflicts value = (line ≡ codes "Conflicts: " ++ value) ⊎ (line ≡ codes "Breaks: " ++ value)
IsField line Provides value = line ≡ codes "Provides: " ++ value

-- so many dependencies, atoms or entries the value has
abbrev pub Holds : Kind → (value : List ℕ) → ℕ → Type 0
Holds Depends value number = (items : List (List Atom)) × ReadsDepends value items × (number ≡ length items)
Holds Conflicts value number = (atoms : List Atom) × ReadsAtoms value atoms × (number ≡ length atoms)
Holds Provides value number = (entries : List Provide) × ReadsProvides value entries × (number ≡ length entries)

-- the value has this first fault
abbrev pub IsFault : Kind → (value : List ℕ) → RelationError → Type 0
IsFault Depends value fault = FirstDependsFault value fault
IsFault Conflicts value fault = FirstAtomsFault value fault
IsFault Provides value fault = FirstProvidesFault value fault

-- so many a line has, none where it begins no field of this kind
abbrev pub CountsLine : Kind → (line : List ℕ) → ℕ → Type 0
CountsLine kind line number =
    ((value : List ℕ) × IsField line kind value × Holds kind value number)
    ⊎ (((value : List ℕ) → ¬ IsField line kind value) × (number ≡ 0))

-- and so many all lines have
abbrev pub CountsLines : Kind → (list : List (List ℕ)) → ℕ → Type 0
CountsLines kind [] number = number ≡ 0
CountsLines kind (line ∷ list) number = (first others : ℕ) × CountsLine kind line first × CountsLines kind list others
    × (number ≡ first + others)

pub record AreCounts (list : List (List ℕ)) (counts : Counts) : Type 0 where
  pub dependencies : CountsLines Depends list counts.dependencies
  pub conflicts : CountsLines Conflicts list counts.conflicts
  pub provided : CountsLines Provides list counts.provided

abbrev pub relation_counts_text : Counts → List ℕ
relation_counts_text counts = (counted counts.dependencies (codes " dependencies, ")
    ++ counted counts.conflicts (codes " conflicts, ")) ++ counted counts.provided (codes " provided\n")

-- the answer of `read-relations`
abbrev pub IsCountsText : (text answer : List ℕ) → Type 0
IsCountsText text answer = (counts : Counts) × AreCounts (lines text) counts × (answer ≡ relation_counts_text counts)

-- each field of a line can be read
abbrev pub IsRead : (line : List ℕ) → Type 0
IsRead line = (kind : Kind) → (number : ℕ) × CountsLine kind line number

-- the value of a line's field has this first fault
pub record HasRelationFault (line : List ℕ) (fault : RelationError) : Type 0 where
  pub kind : Kind
  pub value : List ℕ
  pub field : IsField line kind value
  pub is : IsFault kind value fault

-- the same, as why a job has no answer
abbrev pub IsNoRelation : (RelationError → Type 0) → JobError → Type 0
IsNoRelation HasFault (NoRelation fault) = HasFault fault
IsNoRelation HasFault error = ⊥

-- why `read-relations` has none
abbrev pub HasNoRelations : (text : List ℕ) → JobError → Type 0
HasNoRelations text error = IsNoRelation (IsFirstFault text IsRead HasRelationFault) error
