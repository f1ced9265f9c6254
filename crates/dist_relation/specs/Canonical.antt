-- The canonical text of an item, which is this project's own form of what Debian Policy 7.1 allows.
use Rattle.std.specs.Prelude.{ℕ, List, [], ◌∷◌, ◌++◌, Option, None, Some, codes}
use Rattle.std.specs.List.{flat_map}
use Rattle.dist_relation.specs.declared.atom.Atom.{Atom}
use Rattle.dist_relation.specs.declared.atom.Bound.{Bound}
use Rattle.dist_relation.specs.Grammar.{qualifier_text, operator_text}

-- the operator and the version in parentheses
abbrev pub bound_text : Option Bound → List ℕ
bound_text None = []
bound_text (Some bound) = codes " (" ++ (operator_text bound.op ++ (codes " " ++ (bound.version ++ codes ")")))

-- the name, the qualifier and the bound
abbrev pub atom_text : Atom → List ℕ
atom_text atom = atom.name ++ (qualifier_text atom.qualifier ++ bound_text atom.bound)

abbrev pub behind_bar : Atom → List ℕ
behind_bar atom = codes " | " ++ atom_text atom

-- atoms with ` | ` between each two
abbrev pub alternatives_text : List Atom → List ℕ
alternatives_text [] = []
alternatives_text (atom ∷ atoms) = atom_text atom ++ flat_map behind_bar atoms
