-- Worked examples: reports of outdated packages.
use Rattle.std.specs.Fmt.{digits}
use Rattle.std.specs.Prelude.{◌≡◌, [], ◌∷◌, codes, refl}
use Rattle.dist_cert.specs.declared.records.Claim.TheVariants.{Alive, Outdated, Unknown}
use Rattle.dist_report.specs.OutdatedReport.{outdated_lines}
use Rattle.dist_report.specs.StrongExamples.{named}

-- one that is outdated, one that is not, and one of which that is undecided
three_example :
    outdated_lines (named (codes "a") ∷ named (codes "b") ∷ named (codes "c") ∷ []) 500
    (Outdated ∷ Alive ∷ Unknown ∷ [])
    ≡ codes "report: \"outdated\"\nlimit: 500\npackages: 3\noutdated:\n  - \"a=1\"\nundecided:\n  - \"c=1\"\n"
unfolding digits
three_example = refl

nothing_example : outdated_lines [] 10000 []
    ≡ codes "report: \"outdated\"\nlimit: 10000\npackages: 0\noutdated: []\nundecided: []\n"
unfolding digits
nothing_example = refl
