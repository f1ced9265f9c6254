-- How a journal that was followed is told: how many steps it has, how many packages are held then, and one line for
-- each package that a moved cluster breaks. Packages and clusters are named as in the lines of a plan.
use Rattle.std.specs.Prelude.{ℕ, List, [], ◌++◌, codes, decimal, find, length, slice_get}
use Rattle.std.specs.List.{flat_map}
use Rattle.std.specs.Option.{option_map_or}
use Rattle.std.specs.Str.{bytes_eq}
use Rattle.dist_cluster.specs.Partition.{least}
use Rattle.dist_repo.specs.declared.package.Package.{Package}
use Rattle.dist_space.specs.Space.{SpaceView}
use Rattle.dist_report.specs.PackageText.{cluster_text, label}
use Rattle.dist_journal.specs.declared.broken_list.Broken.{Broken}

-- the version of the package that is held of a name, or nothing
abbrev pub version_of_name : (archive : List Package) → (name : List ℕ) → List ℕ
version_of_name archive name = option_map_or (λ n. n.version) (find (λ n. bytes_eq n.name name) archive) []

-- the version of what is held of the name of a cluster's member that stands first, or nothing
abbrev pub held_version : SpaceView → (archive : List Package) → (cluster : ℕ) → List ℕ
held_version s archive cluster =
    option_map_or (λ members. option_map_or (λ q. version_of_name archive q.name)
    (slice_get s.repository.packages (least members)) [])
    (slice_get s.clusters.members cluster) []

-- the line of a package that a cluster breaks
abbrev pub broken_text : SpaceView → (archive : List Package) → Broken → List ℕ
broken_text s archive broken = codes "broken "
    ++ (option_map_or label (slice_get s.repository.packages broken.package_) []
    ++ (codes " by " ++ (cluster_text s broken.cluster
    ++ (codes " at " ++ (held_version s archive broken.cluster ++ codes "\n")))))

-- the lines of some packages
abbrev pub broken_texts : SpaceView → (archive : List Package) → List Broken → List ℕ
broken_texts s archive list = flat_map (broken_text s archive) list

-- the numbers of the steps that were made and of the packages that are held
abbrev pub counts_text : (steps packages : ℕ) → List ℕ
counts_text steps packages = codes "steps " ++ (decimal steps ++ (codes "\npackages " ++ (decimal packages
    ++ codes "\n")))

-- the whole text
abbrev pub follow_text : SpaceView → (archive : List Package) → (steps : ℕ) → List Broken → List ℕ
follow_text s archive steps list = counts_text steps (length archive) ++ broken_texts s archive list
