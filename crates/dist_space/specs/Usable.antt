-- Whether an entry with a qualifier is usable, as a test: there is no qualifier, or it is `any`, `native` or the file's
-- architecture.
use Rattle.std.specs.Prelude.{ℕ, Bool, true, false, ◌||◌, List, Option, None, Some, bytes_eq, codes}
use Rattle.dist_relation.specs.declared.atom.Qualifier.{Qualifier}
use Rattle.dist_relation.specs.declared.atom.Qualifier.TheVariants.{Plain, Named}

-- whether a name is that of the file's architecture, where it has one
abbrev pub is_architecture : Option (List ℕ) → List ℕ → Bool
is_architecture None name = false
is_architecture (Some architecture) name = bytes_eq architecture name

-- whether an entry with a qualifier is usable in a file of an architecture
abbrev pub is_usable : Option (List ℕ) → Qualifier → Bool
is_usable architecture Plain = true
is_usable architecture (Named name) = bytes_eq name (codes "any")
    || (bytes_eq name (codes "native") || is_architecture architecture name)
