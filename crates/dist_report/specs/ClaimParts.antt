-- What a claim says of its package, and what the reports of claims share: the lines before the first list, and lists of
-- the packages of which the same is said. Packages are given by their numbers, and each list follows them.
use Rattle.std.specs.Prelude.{◌==◌, ℕ, Bool, true, false, not, List, [], ◌++◌, codes, decimal, filter, length}
use Rattle.std.specs.Prelude.{slice_get}
use Rattle.std.specs.List.{range_with_len}
use Rattle.std.specs.Option.{option_map_or}
use Rattle.dist_cert.specs.declared.records.Claim.{Claim}
use Rattle.dist_cert.specs.declared.records.Claim.TheVariants.{Uninstallable, Unknown, Strong, Outdated, Challenged}
use Rattle.dist_repo.specs.declared.package.Package.{Package}
use Rattle.dist_report.specs.Lines.{listed, string_line}
use Rattle.dist_report.specs.PackageText.{package_line}

-- ---- what a claim says

-- the claim says that its package is not installable
abbrev pub is_uninstallable : Claim → Bool
is_uninstallable Uninstallable = true
is_uninstallable claim = false

-- it says that its package is outdated
abbrev pub is_outdated : Claim → Bool
is_outdated Outdated = true
is_outdated claim = false

-- it says nothing
abbrev pub is_unknown : Claim → Bool
is_unknown Unknown = true
is_unknown claim = false

-- the packages on which the claim's package depends strongly
abbrev pub strong_on : Claim → List ℕ
strong_on (Strong on undecided) = on
strong_on claim = []

-- those of which that is undecided
abbrev pub undecided_on : Claim → List ℕ
undecided_on (Strong on undecided) = undecided
undecided_on claim = []

-- the pairs of a cluster and a class of it that challenge the claim's package, by their numbers
abbrev pub challenged_by : Claim → List (ℕ × ℕ)
challenged_by (Challenged by undecided) = by
challenged_by claim = []

-- those of which that is undecided
abbrev pub undecided_by : Claim → List (ℕ × ℕ)
undecided_by (Challenged by undecided) = undecided
undecided_by claim = []

abbrev pub has_some : List ℕ → Bool
has_some numbers = not (length numbers == 0)

-- ---- the packages that are told

-- those whose claims pass a test
abbrev pub packages_with : (Claim → Bool) → List Claim → List ℕ
packages_with test made = filter (λ p. option_map_or test (slice_get made p) false) (range_with_len 0 (length made))

-- ---- the text

-- what kind of report it is, behind how many derived lines a question is undecided, and how many packages there are
abbrev pub opening_lines : (kind : List ℕ) → List Package → (limit : ℕ) → List ℕ
opening_lines kind packages limit = string_line (codes "report: ") kind ++ (codes "limit: "
    ++ (decimal limit ++ (codes "\npackages: " ++ (decimal (length packages) ++ codes "\n"))))

-- a key and the packages whose claims pass a test
abbrev pub told_packages : (key : List ℕ) → (Claim → Bool) → List Package → List Claim → List ℕ
told_packages key test packages made = listed key (package_line (codes "  - ") packages) (packages_with test made)
