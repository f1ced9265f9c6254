-- The report of outdated packages.
use Rattle.std.specs.Prelude.{ℕ, List, ◌++◌, codes}
use Rattle.dist_cert.specs.declared.records.Claim.{Claim}
use Rattle.dist_repo.specs.declared.package.Package.{Package}
use Rattle.dist_report.specs.ClaimParts.{is_outdated, is_unknown, opening_lines, told_packages}

-- the whole report: its head, the outdated packages, and those of which that is undecided
abbrev pub outdated_lines : List Package → (limit : ℕ) → List Claim → List ℕ
outdated_lines packages limit made =
    opening_lines (codes "outdated") packages limit
    ++ (told_packages (codes "outdated:") is_outdated packages made
    ++ told_packages (codes "undecided:") is_unknown packages made)
