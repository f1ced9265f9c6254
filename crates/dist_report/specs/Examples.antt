-- Worked examples: whole reports of classes, of packages with their dependencies left out, since the text goes by the
-- clusters and classes alone.
use Rattle.std.specs.Fmt.{digits}
use Rattle.std.specs.Prelude.{◌≡◌, [], ◌∷◌, ◌++◌, false, codes, refl}
use Rattle.dist_version.specs.Between.{above_text}
use Rattle.dist_version.specs.Spelling.{after_epoch, upstream_of, revision_of}
use Rattle.dist_repo.specs.declared.package.Package.{Package}
use Rattle.dist_classes.specs.declared.class_value.Class.TheVariants.{Point, Between, Above, Below, Any}
use Rattle.dist_report.specs.ClassesReport.{ToldCluster, class_lines, classes_lines, cluster_lines}
use Rattle.dist_report.specs.Lines.{listed, string_line}

string_example : string_line (codes "    top: ") (codes "1") ≡ codes "    top: \"1\"\n"
string_example = refl

-- a list that is empty stands on the line of its key
empty_example : listed (codes "names:") class_lines [] ≡ codes "names: []\n"
empty_example = refl

abbrev program : Package
program = record {
  name = codes "p";
  version = codes "1";
  source = codes "p";
  source_version = codes "1";
  depends = [];
  conflicts = [];
  provides = [];
  essential = false;
}

abbrev alone : ToldCluster
alone = record { members = 0 ∷ []; top = codes "1"; classes = Above (codes "1") ∷ [] }

-- a program, and a name that it depends on below 1
foo_example :
    classes_lines (program ∷ []) (alone ∷ [])
    (record { name = codes "foo"; classes = Below (codes "1") ∷ Point (codes "1") ∷ Above (codes "1") ∷ [] } ∷ [])
    ≡ codes "report: \"classes\"\npackages: 1\nclusters:\n  - cluster: \"p=1\"\n    source: \"p\"\n"
    ++ codes "    top: \"1\"\n    members:\n      - \"p=1\"\n    classes:\n      - class: \">> 1\"\n"
    ++ codes "        example: \"1-0A\"\n"
    ++ codes "names:\n  - name: \"foo\"\n    classes:\n      - class: \"<< 1\"\n        example: \"~~\"\n"
    ++ codes "      - class: \"= 1\"\n        example: \"1\"\n      - class: \">> 1\"\n"
    ++ codes "        example: \"1-0A\"\n"
unfolding digits above_text after_epoch upstream_of revision_of
foo_example = refl

-- a name that it depends on at any version
any_example : listed (codes "    classes:") class_lines (Any ∷ [])
    ≡ codes "    classes:\n      - class: \"any\"\n        example: \"0\"\n"
any_example = refl

abbrev library : Package
library = record {
  name = codes "libx";
  version = codes "1.0-1";
  source = codes "x";
  source_version = codes "1.0-1";
  depends = [];
  conflicts = [];
  provides = [];
  essential = false;
}

-- a library with a bound on it, and another package of its source
library_example :
    cluster_lines (library ∷ program ∷ library ∷ [])
    (record {
      members = 0 ∷ 2 ∷ [];
      top = codes "1.0-1";
      classes = Between (codes "1.0-1") (codes "2.0") ∷ Point (codes "2.0") ∷ [];
    })
    ≡ codes "  - cluster: \"libx=1.0-1\"\n    source: \"x\"\n    top: \"1.0-1\"\n    members:\n"
    ++ codes "      - \"libx=1.0-1\"\n      - \"libx=1.0-1\"\n"
    ++ codes "    classes:\n      - class: \">> 1.0-1, << 2.0\"\n        example: \"1.0-1A~~~\"\n"
    ++ codes "      - class: \"= 2.0\"\n        example: \"2.0\"\n"
unfolding above_text after_epoch upstream_of revision_of
library_example = refl

-- of no packages there is nothing to tell
nothing_example : classes_lines [] [] [] ≡ codes "report: \"classes\"\npackages: 0\nclusters: []\nnames: []\n"
unfolding digits
nothing_example = refl
