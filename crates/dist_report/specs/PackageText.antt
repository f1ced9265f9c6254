-- How packages and clusters are printed.
use Rattle.std.specs.Prelude.{ℕ, List, [], ◌++◌, codes, slice_get}
use Rattle.std.specs.Option.{option_map_or}
use Rattle.dist_cluster.specs.Partition.{least}
use Rattle.dist_repo.specs.declared.package.Package.{Package}
use Rattle.dist_space.specs.Space.{SpaceView}
use Rattle.dist_report.specs.Lines.{string_line}

-- `name=version`
abbrev pub label : Package → List ℕ
label p = p.name ++ (codes "=" ++ p.version)

-- the line of a package, by its number, behind what stands before it
abbrev pub package_line : (before : List ℕ) → List Package → ℕ → List ℕ
package_line before packages number = string_line before (option_map_or label (slice_get packages number) [])

-- the cluster of a number, by its member that stands first
abbrev pub cluster_text : SpaceView → (cluster : ℕ) → List ℕ
cluster_text s cluster =
    option_map_or (λ members. option_map_or label (slice_get s.repository.packages (least members)) [])
    (slice_get s.clusters.members cluster) []
