-- The text that tells how many clusters must move for a package, and to which versions they may. A package is
-- `name=version`, and a cluster goes by its member that stands first, both as in reports.
use Rattle.std.specs.Prelude.{ℕ, ◌≤◌, Bool, List, [], ◌++◌, Option, Some, None, IfSome, codes, decimal, find, length}
use Rattle.std.specs.Prelude.{if◌then◌else◌}
use Rattle.std.specs.List.{flat_map, range_with_len}
use Rattle.std.specs.Option.{option_map_or}
use Rattle.dist_clause.specs.Formula.{value_of}
use Rattle.dist_space.specs.Space.{SpaceView, cluster_classes, example_at, variable_of}
use Rattle.dist_space.specs.declared.meaning.Meaning.TheVariants.{At}
use Rattle.dist_repair.specs.declared.repair.Repair.{Repair}
use Rattle.dist_repair.specs.declared.repair.Repair.TheVariants.{Outdated, Least, AtLeast}
use Rattle.dist_report.specs.ExplainedText.{label_at}
use Rattle.dist_report.specs.PackageText.{cluster_text}

-- the class that is true of a cluster, if one is; were there several, the first
abbrev pub class_under : SpaceView → (value : ℕ → Bool) → (cluster : ℕ) → Option ℕ
class_under s value cluster =
    find (λ k. value (variable_of s (At cluster k))) (range_with_len 0 (length (cluster_classes s cluster)))

-- `move C to V`: the cluster, and the example of a class
abbrev pub move_line : SpaceView → (cluster class : ℕ) → List ℕ
move_line s cluster class = codes "move " ++ (cluster_text s cluster
    ++ (codes " to " ++ (example_at (cluster_classes s cluster) class ++ codes "\n")))

-- the line of a cluster of which a class is true, or nothing
abbrev pub cluster_move : SpaceView → (value : ℕ → Bool) → (cluster : ℕ) → List ℕ
cluster_move s value cluster = option_map_or (move_line s cluster) (class_under s value cluster) []

-- the lines of all clusters of which a class is true, in order
abbrev pub move_lines : SpaceView → List Bool → List ℕ
move_lines s values = flat_map (cluster_move s (value_of values)) (range_with_len 0 (length s.clusters.members))

-- words and a number, and the clusters that move
abbrev pub plan_lines : SpaceView → (words : List ℕ) → (number : ℕ) → List Bool → List ℕ
plan_lines s words number values = words ++ (decimal number ++ (codes "\n" ++ move_lines s values))

-- the upper bound, if there is one
abbrev pub upper_lines : SpaceView → Option (ℕ × List Bool) → List ℕ
upper_lines s None = []
upper_lines s (Some upper) = plan_lines s (codes "at most ") upper.0 upper.1

-- what is answered
abbrev pub repair_lines : SpaceView → Repair → List ℕ
repair_lines s Outdated = codes "outdated\n"
repair_lines s (Least number values) = plan_lines s (codes "least ") number values
repair_lines s (AtLeast lower undecided upper) = codes "at least " ++ (decimal lower ++ (codes "\n"
    ++ ((if undecided then codes "undecided\n" else []) ++ upper_lines s upper)))

-- The text: the package of a number, and what is answered of it.
abbrev pub repair_text : SpaceView → (number : ℕ) → Repair → List ℕ
repair_text s number repair =
    codes "package " ++ (label_at s.repository.packages number ++ (codes "\n" ++ repair_lines s repair))

-- the assignments of an answer have a value for each variable of the space
abbrev pub HasValues : SpaceView → Repair → Type 0
HasValues s Outdated = Unit {0}
HasValues s (Least number values) = length s.meanings ≤ length values
HasValues s (AtLeast lower undecided upper) = IfSome upper (λ one. length s.meanings ≤ length one.1)
