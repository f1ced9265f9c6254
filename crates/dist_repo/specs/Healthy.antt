-- Healthy installations (Abate, Boender, Di Cosmo and Zacchiroli, "Strong dependencies between software components",
-- 2009), where a name is installed in one version at most, and essential packages (Debian Policy 3.8) may be required.
use Rattle.std.specs.Prelude.{◌≡◌, ◌≢◌, ℕ, Bool, true, false, List, [], Option, All, AllPairs, Any, Contains, filter}
use Rattle.std.specs.Prelude.{map}
use Rattle.dist_relation.specs.declared.atom.Atom.{Atom}
use Rattle.dist_repo.specs.Conflict.{AreInConflict}
use Rattle.dist_repo.specs.Match.{Matches}
use Rattle.dist_repo.specs.declared.package.Package.{Package}

-- an item of a package's dependencies has an alternative that a member matches
abbrev pub IsMet : Option (List ℕ) → List Package → List Atom → Type 0
IsMet architecture members item = Any (λ atom. Any (Matches architecture atom) members) item

-- The members are packages of the archive, one of a name at most, with all dependencies met and no conflict, and each
-- required name is a member's.
pub record Healthy (architecture : Option (List ℕ)) (required : List (List ℕ)) (archive members : List Package) : Type 0
  where
    pub chosen : All (Contains archive) members
    pub one_of_a_name : AllPairs (λ p q. p.name ≢ q.name) members
    pub met : All (λ p. All (IsMet architecture members) p.depends) members
    pub no_conflict : AllPairs (λ p q. ¬ AreInConflict architecture p q) members
    pub has_required : All (λ name. Any (λ p. p.name ≡ name) members) required

-- At mode essential the names of the essential packages are required, and at mode plain no name is.
abbrev pub required_names : Bool → List Package → List (List ℕ)
required_names false packages = []
required_names true packages = map (λ p. p.name) (filter (λ p. p.essential) packages)
