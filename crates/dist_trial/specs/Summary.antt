-- The summary of a trial: how many packages there are, and how much is claimed of them.
use Rattle.std.specs.Prelude.{◌≡◌, ℕ, ◌+◌, ◌||◌, Bool, List, [], ◌∷◌, ◌++◌, codes, decimal, length, sum_by, refl}
use Rattle.std.specs.Fmt.{digits}
use Rattle.std.specs.List.{count_by, list_any}
use Rattle.dist_cert.specs.declared.records.Claim.{Claim}
use Rattle.dist_cert.specs.declared.records.Claim.TheVariants.{Uninstallable, Unknown, Strong, Outdated, Alive}
use Rattle.dist_cert.specs.declared.records.Claim.TheVariants.{Challenged}
use Rattle.dist_report.specs.ClaimParts.{challenged_by, is_outdated, is_uninstallable, strong_on}
use Rattle.dist_report.specs.Marks.{has_mark}

-- ---- what is counted

-- the pairs of a package and another one on which it depends strongly
abbrev pub dependence_count : List Claim → ℕ
dependence_count made = sum_by (λ claim. length (strong_on claim)) made

abbrev pub uninstallable_count : List Claim → ℕ
uninstallable_count made = count_by is_uninstallable made

abbrev pub outdated_count : List Claim → ℕ
outdated_count made = count_by is_outdated made

-- the triples of a cluster, a class of it and a package that it challenges
abbrev pub challenge_count : List Claim → ℕ
challenge_count made = sum_by (λ claim. length (challenged_by claim)) made

-- the marks of a claim: one where all that is asked of the package is left undecided, and else one for each that is
abbrev pub marks_of : Claim → ℕ
marks_of Unknown = 1
marks_of (Strong on undecided) = length undecided
marks_of (Challenged by undecided) = length undecided
marks_of claim = 0

abbrev pub mark_count : List Claim → ℕ
mark_count made = sum_by marks_of made

-- the marks of all claims of three certificates
abbrev pub all_marks : (strong outdated challenged : List Claim) → ℕ
all_marks strong outdated challenged = mark_count strong + mark_count outdated + mark_count challenged

-- whether a claim of one of three certificates has a mark
abbrev pub has_marks : (strong outdated challenged : List Claim) → Bool
has_marks strong outdated challenged =
    list_any has_mark strong || list_any has_mark outdated || list_any has_mark challenged

-- ---- the text

abbrev pub number_line : List ℕ → ℕ → List ℕ
number_line key number = key ++ (decimal number ++ codes "\n")

-- so many packages, and these claims of three accepted certificates
abbrev pub summary_text : ℕ → (strong outdated challenged : List Claim) → List ℕ
summary_text size strong outdated challenged =
    number_line (codes "size ") size
    ++ (number_line (codes "strong ") (dependence_count strong)
    ++ (number_line (codes "uninstallable ") (uninstallable_count strong)
    ++ (number_line (codes "outdated ") (outdated_count outdated)
    ++ (number_line (codes "challenged ") (challenge_count challenged)
    ++ (number_line (codes "undecided ") (all_marks strong outdated challenged)
    ++ codes "accepted 3\n")))))

-- Worked examples: of two packages the second depends strongly on the first, and no future changes anything; and what
-- is undecided is a mark each.
two : summary_text 2 (Strong [] [] ∷ Strong (0 ∷ []) [] ∷ []) (Alive ∷ Alive ∷ [])
    (Challenged [] [] ∷ Challenged [] [] ∷ [])
    ≡ codes "size 2\nstrong 1\nuninstallable 0\noutdated 0\nchallenged 0\nundecided 0\naccepted 3\n"
unfolding digits
two = refl

three : summary_text 3 (Strong [] [] ∷ Strong [] (0 ∷ []) ∷ Uninstallable ∷ []) (Alive ∷ Unknown ∷ Outdated ∷ [])
    (Challenged ((0, 1) ∷ (1, 0) ∷ []) [] ∷ Challenged ((0, 0) ∷ []) ((1, 1) ∷ []) ∷ Uninstallable ∷ [])
    ≡ codes "size 3\nstrong 0\nuninstallable 1\noutdated 1\nchallenged 3\nundecided 3\naccepted 3\n"
unfolding digits
three = refl

three_marks : mark_count (Unknown ∷ Strong (0 ∷ []) (2 ∷ 3 ∷ []) ∷ []) ≡ 3
three_marks = refl
