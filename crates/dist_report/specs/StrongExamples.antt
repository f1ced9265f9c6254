-- Worked examples: reports of strong dependencies.
use Rattle.std.specs.Fmt.{digits}
use Rattle.std.specs.Prelude.{◌≡◌, ℕ, List, [], ◌∷◌, ◌++◌, codes, false, refl}
use Rattle.dist_cert.specs.declared.records.Claim.TheVariants.{Uninstallable, Unknown, Strong}
use Rattle.dist_repo.specs.declared.package.Package.{Package}
use Rattle.dist_report.specs.StrongReport.{strong_lines}

-- a package of version 1
abbrev pub named : List ℕ → Package
named name = record {
  name = name;
  version = codes "1";
  source = name;
  source_version = codes "1";
  depends = [];
  conflicts = [];
  provides = [];
  essential = false;
}

abbrev four : List Package
four = named (codes "a") ∷ named (codes "b") ∷ named (codes "c") ∷ named (codes "d") ∷ []

-- a needs b or c, and both of those need d
diamond_example :
    strong_lines four 10000 (Strong (3 ∷ []) [] ∷ Strong (3 ∷ []) [] ∷ Strong (3 ∷ []) [] ∷ Strong [] [] ∷ [])
    ≡ codes "report: \"strong\"\nlimit: 10000\npackages: 4\nuninstallable: []\nstrong:\n"
    ++ codes "  - package: \"a=1\"\n    on:\n      - \"d=1\"\n"
    ++ codes "  - package: \"b=1\"\n    on:\n      - \"d=1\"\n  - package: \"c=1\"\n    on:\n      - \"d=1\"\n"
    ++ codes "impact:\n  - package: \"d=1\"\n    of:\n      - \"a=1\"\n      - \"b=1\"\n      - \"c=1\"\n"
    ++ codes "undecided: []\nundecided_pairs: []\n"
unfolding digits
diamond_example = refl

-- one that isn't installable, one of which nothing is known, and one with an undecided dependency
other_example :
    strong_lines four 10000 (Uninstallable ∷ Unknown ∷ Strong [] (3 ∷ []) ∷ Strong [] [] ∷ [])
    ≡ codes "report: \"strong\"\nlimit: 10000\npackages: 4\nuninstallable:\n  - \"a=1\"\nstrong: []\n"
    ++ codes "impact: []\nundecided:\n  - \"b=1\"\n"
    ++ codes "undecided_pairs:\n  - package: \"c=1\"\n    on:\n      - \"d=1\"\n"
unfolding digits
other_example = refl
