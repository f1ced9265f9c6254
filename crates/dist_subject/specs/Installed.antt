-- Installations by the true variables of a model.
use Rattle.std.specs.Prelude.{◌≡◌, ◌↔◌, ℕ, ◌≤◌, Bool, true, List, Contains, length}
use Rattle.dist_clause.specs.Formula.{IsModel, value_of}
use Rattle.dist_cert.specs.Subject.{Matter}
use Rattle.dist_subject.specs.Present.{truth_of}

-- the variables are those that are true, of the variables from 1 on
abbrev pub AreTrueOf : List Bool → List ℕ → Type 0
AreTrueOf values variables = (v : ℕ) → 1 ≤ v → v ≤ length values → Contains variables v ↔ (value_of values v ≡ true)

-- Each model of the input clauses stands for a future and a healthy installation in it.
abbrev pub ModelsStand : Matter → Type 0
ModelsStand matter = (values : List Bool) (variables : List ℕ) → length values ≡ matter.variables
    → IsModel (value_of values) matter.inputs → AreTrueOf values variables
    → matter.IsFuture variables × matter.IsHealthy variables

-- The sets of variables that stand for a future and a healthy installation in it are the models of the input clauses.
pub record AreModelsHealthy (matter : Matter) : Type 0 where
  pub stand : ModelsStand matter
  pub exactly : (members : List ℕ) → (matter.IsFuture members × matter.IsHealthy members)
      ↔ IsModel (value_of (truth_of matter.variables members)) matter.inputs
