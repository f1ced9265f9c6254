-- Worked examples: the text on the first of two packages from one source, which has moved to 2, and where nothing is
-- known. The text goes by the repository, its clusters, their classes and the variables alone.
use Rattle.std.specs.Fmt.{digits}
use Rattle.std.specs.Prelude.{◌≡◌, true, false, [], ◌∷◌, None, Some, codes, refl}
use Rattle.dist_classes.specs.declared.class_value.Class.TheVariants.{Point}
use Rattle.dist_repair.specs.declared.repair.Repair.TheVariants.{Outdated, Least, AtLeast}
use Rattle.dist_space.specs.Space.{SpaceView}
use Rattle.dist_space.specs.declared.meaning.Meaning.TheVariants.{Present, At}
use Rattle.dist_report.specs.RepairText.{repair_text}
use Rattle.dist_report.specs.StrongExamples.{named}

-- a and b, with one class of their versions
abbrev together : SpaceView
together = record {
  repository = record { architecture = None; packages = named (codes "a") ∷ named (codes "b") ∷ [] };
  essential = false;
  clusters = record { members = (0 ∷ 1 ∷ []) ∷ []; tops = codes "1" ∷ [] };
  cluster_of = 0 ∷ 0 ∷ [];
  classes = (Point (codes "2") ∷ []) ∷ [];
  names = [];
  name_classes = [];
  meanings = Present 0 ∷ Present 1 ∷ At 0 0 ∷ [];
}

least_example : repair_text together 0 (Least 1 (true ∷ false ∷ true ∷ []))
    ≡ codes "package a=1\nleast 1\nmove a=1 to 2\n"
unfolding digits
least_example = refl

unknown_example : repair_text together 1 (AtLeast 9 true None) ≡ codes "package b=1\nat least 9\nundecided\n"
unfolding digits
unknown_example = refl

outdated_example : repair_text together 0 Outdated ≡ codes "package a=1\noutdated\n"
outdated_example = refl

bounds_example : repair_text together 0 (AtLeast 1 false (Some (2, false ∷ false ∷ true ∷ [])))
    ≡ codes "package a=1\nat least 1\nat most 2\nmove a=1 to 2\n"
unfolding digits
bounds_example = refl
