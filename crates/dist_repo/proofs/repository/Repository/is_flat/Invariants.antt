use Rattle.std.proofs.Common.{ℕ, ◌≤◌, ◌<◌, ◌-◌, ◌≢◌, get_or}
use Rattle.dist_repo.specs.declared.package.Package.{Package}
use Rattle.dist_repo.proofs.repository.Repository.is_flat.Given as goal

-- neighbours so far have different names
abbrev pub invariant-loop-number : goal.invariant-loop-number
invariant-loop-number l =
    (k : ℕ) (d : Package) → 1 ≤ k → k < l.number → (get_or l.self-inside.packages.items (k - 1) d).name ≢ (get_or l.self-inside.packages.items k d).name
