-- Worked examples: the lines of a plan for the archive of the examples of futures, where a and b come from one source,
-- and the line of a package that does not fit. The text goes by the repository and its clusters alone.
use Rattle.std.specs.Prelude.{◌≡◌, false, [], ◌∷◌, None, codes, refl}
use Rattle.dist_future.specs.FutureExamples.{later_a, later_b, two}
use Rattle.dist_space.specs.Space.{SpaceView}
use Rattle.dist_archive.specs.declared.step.Step.TheVariants.{Upload, Removal, NewName}
use Rattle.dist_history.specs.PlanText.{misfit_text, plan_text}

abbrev one_cluster : SpaceView
one_cluster = record {
  repository = two;
  essential = false;
  clusters = record { members = (0 ∷ 1 ∷ []) ∷ []; tops = codes "1" ∷ [] };
  cluster_of = 0 ∷ 0 ∷ [];
  classes = [];
  names = [];
  name_classes = [];
  meanings = [];
}

-- a and b are uploaded at 2, c is removed, and a package of a new name comes
plan_example : plan_text one_cluster
    (Upload 0 (codes "2") (record { architecture = None; packages = later_a ∷ later_b ∷ [] })
    ∷ Removal (codes "c")
    ∷ NewName (record { architecture = None; packages = later_a ∷ [] }) ∷ [])
    ≡ codes "upload a=1 at 2: a, b\nremoval c\nnew a=2\n"
plan_example = refl

misfit_example : misfit_text later_b ≡ codes "not a future at b=2\n"
misfit_example = refl
