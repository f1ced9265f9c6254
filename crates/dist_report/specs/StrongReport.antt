-- The report of strong dependencies: what is claimed of the packages, put into lists.
use Rattle.std.specs.Prelude.{ℕ, List, [], ◌++◌, codes, filter, length, slice_get}
use Rattle.std.specs.List.{range_with_len}
use Rattle.std.specs.Option.{option_map_or}
use Rattle.dist_cert.specs.Rising.{is_among}
use Rattle.dist_cert.specs.declared.records.Claim.{Claim}
use Rattle.dist_repo.specs.declared.package.Package.{Package}
use Rattle.dist_report.specs.ClaimParts.{has_some, is_uninstallable, is_unknown, opening_lines, packages_with}
use Rattle.dist_report.specs.ClaimParts.{strong_on}
use Rattle.dist_report.specs.ClaimParts.{told_packages, undecided_on}
use Rattle.dist_report.specs.Lines.{listed}
use Rattle.dist_report.specs.PackageText.{package_line}

-- ---- the packages that are told

abbrev pub strong_at : List Claim → ℕ → List ℕ
strong_at made p = option_map_or strong_on (slice_get made p) []

abbrev pub undecided_at : List Claim → ℕ → List ℕ
undecided_at made p = option_map_or undecided_on (slice_get made p) []

-- those that depend strongly on a package, its impact
abbrev pub impact_at : List Claim → ℕ → List ℕ
impact_at made q = packages_with (λ claim. is_among (strong_on claim) q) made

-- those whose impact isn't empty
abbrev pub with_impact : List Claim → List ℕ
with_impact made = filter (λ q. has_some (impact_at made q)) (range_with_len 0 (length made))

-- ---- the text

-- a package and the packages of its list
abbrev pub entry_lines : List Package → (key : List ℕ) → ℕ → List ℕ → List ℕ
entry_lines packages key number list = package_line (codes "  - package: ") packages number
    ++ listed key (package_line (codes "      - ") packages) list

-- the whole report: its head, and a list for each key in this order
abbrev pub strong_lines : List Package → (limit : ℕ) → List Claim → List ℕ
strong_lines packages limit made =
    opening_lines (codes "strong") packages limit
    ++ (told_packages (codes "uninstallable:") is_uninstallable packages made
    ++ (listed (codes "strong:") (λ p. entry_lines packages (codes "    on:") p (strong_at made p))
    (packages_with (λ c. has_some (strong_on c)) made)
    ++ (listed (codes "impact:") (λ q. entry_lines packages (codes "    of:") q (impact_at made q)) (with_impact made)
    ++ (told_packages (codes "undecided:") is_unknown packages made
    ++ listed (codes "undecided_pairs:") (λ p. entry_lines packages (codes "    on:") p (undecided_at made p))
    (packages_with (λ c. has_some (undecided_on c)) made)))))
