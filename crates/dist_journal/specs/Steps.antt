-- The step of an entry.
use Rattle.std.specs.Prelude.{◌≡◌, ℕ, List, [], ◌∷◌}
use Rattle.dist_space.specs.Space.{SpaceView}
use Rattle.dist_archive.specs.Moved.{IsClusterNamed}
use Rattle.dist_archive.specs.declared.step.Step.{Step}
use Rattle.dist_archive.specs.declared.step.Step.TheVariants as step
use Rattle.dist_journal.specs.Blocks.{IsBlockOf}
use Rattle.dist_journal.specs.Journal.{AreBlank, Entry, Says, words}
use Rattle.dist_journal.specs.declared.step_line.StepLine.TheVariants.{Upload, Removal, NewName}

-- An upload is of the cluster that has the package of the repository with the name, and brings the block's packages. A
-- removal has a block of blank lines. A new name brings the block's packages.
abbrev pub IsStepOf : SpaceView → (limit : ℕ) → Entry → Step → Type 0
IsStepOf s limit entry (step.Upload cluster version block) = ((name : List ℕ)
    × Says (words entry.line) (Upload name version) × IsClusterNamed s name cluster)
    × IsBlockOf limit entry.block block
IsStepOf s limit entry (step.Removal name) = Says (words entry.line) (Removal name) × AreBlank entry.block
IsStepOf s limit entry (step.NewName block) = Says (words entry.line) NewName × IsBlockOf limit entry.block block

-- each entry has the step of its place
abbrev pub AreStepsOf : SpaceView → (limit : ℕ) → List Entry → List Step → Type 0
AreStepsOf s limit [] steps = steps ≡ []
AreStepsOf s limit (entry ∷ entries) steps = (first : Step) × (rest : List Step) × (steps ≡ first ∷ rest)
    × IsStepOf s limit entry first × AreStepsOf s limit entries rest
