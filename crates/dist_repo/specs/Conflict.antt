-- Which packages are in conflict, by Debian Policy 7.3 (Breaks) and 7.4 (Conflicts).
use Rattle.std.specs.Prelude.{◌⊎◌, ℕ, List, Option, Any}
use Rattle.dist_repo.specs.Match.{Matches}
use Rattle.dist_repo.specs.Order.{IsSamePackage}
use Rattle.dist_repo.specs.declared.package.Package.{Package}

-- A conflict atom of one of two different packages matches the other. A package is never in conflict with itself.
pub record AreInConflict (architecture : Option (List ℕ)) (p q : Package) : Type 0 where
  pub different : ¬ IsSamePackage p q
  pub matched : Any (λ atom. Matches architecture atom q) p.conflicts
      ⊎ Any (λ atom. Matches architecture atom p) q.conflicts
