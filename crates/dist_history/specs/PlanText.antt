-- How the way to a later archive is told: one line for each step of a plan; or, where there is none, one line that
-- names a package. A package is `name=version`, and a cluster goes by its member that stands first, both as in reports.
use Rattle.std.specs.Prelude.{ℕ, List, [], ◌++◌, codes, slice_get}
use Rattle.std.specs.List.{flat_map, join_by}
use Rattle.std.specs.Option.{option_map_or}
use Rattle.dist_repo.specs.declared.package.Package.{Package}
use Rattle.dist_space.specs.Space.{SpaceView}
use Rattle.dist_archive.specs.declared.step.Step.{Step}
use Rattle.dist_archive.specs.declared.step.Step.TheVariants.{Upload, Removal, NewName}
use Rattle.dist_report.specs.PackageText.{cluster_text, label}

-- the names of packages, joined by a comma and a space
abbrev pub names_text : List Package → List ℕ
names_text packages = join_by (λ p. p.name) (codes ", ") packages

-- the first package of a block
abbrev pub first_text : List Package → List ℕ
first_text packages = option_map_or label (slice_get packages 0) []

-- The line of a step: an upload tells its cluster, its version and the names that it brings; a removal the name that
-- goes; and a new name the package that comes.
abbrev pub step_text : SpaceView → Step → List ℕ
step_text s (Upload cluster version block) = codes "upload " ++ (cluster_text s cluster ++ (codes " at "
    ++ (version ++ (codes ": " ++ (names_text block.packages ++ codes "\n")))))
step_text s (Removal name) = codes "removal " ++ (name ++ codes "\n")
step_text s (NewName block) = codes "new " ++ (first_text block.packages ++ codes "\n")

-- the lines of a plan
abbrev pub plan_text : SpaceView → List Step → List ℕ
plan_text s steps = flat_map (step_text s) steps

-- the line that names a package that does not fit
abbrev pub misfit_text : Package → List ℕ
misfit_text p = codes "not a future at " ++ (label p ++ codes "\n")
