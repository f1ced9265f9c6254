-- Which packages an atom matches, by Debian Policy 7.1 (names and versions) and 7.5 (Provides).
use Rattle.std.specs.Prelude.{◌≡◌, ◌⊎◌, ℕ, List, Option, Some, Any, IfSome, IsSomeAnd, codes}
use Rattle.dist_relation.specs.Satisfies.{Satisfies}
use Rattle.dist_relation.specs.declared.atom.Atom.{Atom}
use Rattle.dist_relation.specs.declared.atom.Provide.{Provide}
use Rattle.dist_relation.specs.declared.atom.Qualifier.{Qualifier}
use Rattle.dist_relation.specs.declared.atom.Qualifier.TheVariants.{Plain, Named}
use Rattle.dist_repo.specs.declared.package.Package.{Package}

-- An atom or an entry of Provides without qualifier is usable, and one with the qualifier `any`, `native` or the file's
-- architecture.
abbrev pub IsUsable : Option (List ℕ) → Qualifier → Type 0
IsUsable architecture Plain = Unit {0}
IsUsable architecture (Named name) = (name ≡ codes "any") ⊎ (name ≡ codes "native") ⊎ (architecture ≡ Some name)

-- The package has the atom's name, and a version that meets the atom's bound, if there is one (Policy 7.1).
pub record MatchesByName (atom : Atom) (p : Package) : Type 0 where
  pub name : p.name ≡ atom.name
  pub bound : IfSome atom.bound (λ bound. Satisfies p.version bound)

-- A usable entry of Provides has the atom's name, and the atom has no bound, or the entry has a version that meets it
-- (Policy 7.5).
pub record MatchesByEntry (architecture : Option (List ℕ)) (atom : Atom) (entry : Provide) : Type 0 where
  pub usable : IsUsable architecture entry.qualifier
  pub name : entry.name ≡ atom.name
  pub bound : IfSome atom.bound (λ bound. IsSomeAnd entry.version (λ version. Satisfies version bound))

-- A usable atom matches a package by its name or by an entry of its Provides.
pub record Matches (architecture : Option (List ℕ)) (atom : Atom) (p : Package) : Type 0 where
  pub usable : IsUsable architecture atom.qualifier
  pub matched : MatchesByName atom p ⊎ Any (λ entry. MatchesByEntry architecture atom entry) p.provides
