-- Worked examples: reports of challenges, of packages with their dependencies left out, since the text goes by the
-- clusters, their classes and the claims alone.
use Rattle.std.specs.Fmt.{digits}
use Rattle.std.specs.Prelude.{◌≡◌, List, [], ◌∷◌, ◌++◌, codes, refl}
use Rattle.dist_version.specs.Between.{above_text}
use Rattle.dist_version.specs.Spelling.{after_epoch, upstream_of, revision_of}
use Rattle.dist_cert.specs.declared.records.Claim.TheVariants.{Challenged, Uninstallable}
use Rattle.dist_classes.specs.declared.class_value.Class.TheVariants.{Above, Between, Point}
use Rattle.dist_repo.specs.declared.package.Package.{Package}
use Rattle.dist_report.specs.ChallengedReport.{challenged_lines}
use Rattle.dist_report.specs.ClassesReport.{ToldCluster}
use Rattle.dist_report.specs.StrongExamples.{named}

-- a library, and a program that needs it below version 2
abbrev two : List Package
two = named (codes "libx") ∷ named (codes "p") ∷ []

abbrev clusters : List ToldCluster
clusters = record {
  members = 0 ∷ [];
  top = codes "1";
  classes = Between (codes "1") (codes "2") ∷ Point (codes "2") ∷ Above (codes "2") ∷ [];
} ∷ record { members = 1 ∷ []; top = codes "1"; classes = Above (codes "1") ∷ [] } ∷ []

-- the second and the third class of the library break the program
library_example :
    challenged_lines two clusters 10000 (Challenged [] [] ∷ Challenged ((0, 1) ∷ (0, 2) ∷ []) [] ∷ [])
    ≡ codes "report: \"challenged\"\nlimit: 10000\npackages: 2\nuninstallable: []\nchallenged:\n"
    ++ codes "  - cluster: \"libx=1\"\n    class: \"= 2\"\n    example: \"2\"\n    breaks:\n      - \"p=1\"\n"
    ++ codes "  - cluster: \"libx=1\"\n    class: \">> 2\"\n    example: \"2-0A\"\n    breaks:\n      - \"p=1\"\n"
    ++ codes "undecided: []\nundecided_classes: []\n"
unfolding digits above_text after_epoch upstream_of revision_of
library_example = refl

-- One that isn't installable, and one of which a class is undecided. Pairs of no class are told nowhere: cluster 0 has
-- no class 3, and there is no cluster 2.
undecided_example :
    challenged_lines two clusters 10000 (Uninstallable ∷ Challenged ((0, 3) ∷ (2, 0) ∷ []) ((0, 1) ∷ []) ∷ [])
    ≡ codes "report: \"challenged\"\nlimit: 10000\npackages: 2\nuninstallable:\n  - \"libx=1\"\nchallenged: []\n"
    ++ codes "undecided: []\nundecided_classes:\n"
    ++ codes "  - cluster: \"libx=1\"\n    class: \"= 2\"\n    example: \"2\"\n    breaks:\n      - \"p=1\"\n"
unfolding digits above_text after_epoch upstream_of revision_of
undecided_example = refl
