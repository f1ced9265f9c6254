-- How the newest versions are found in packages in order: each is the last of its name. No public clause cites it.
use Rattle.std.specs.Prelude.{Bool, true, not, List, [], ◌∷◌, bytes_eq, if◌then◌else◌}
use Rattle.dist_repo.specs.declared.package.Package.{Package}

-- the packages behind a package begin with another name, or there is none
abbrev pub is_last_of_name : Package → List Package → Bool
is_last_of_name p [] = true
is_last_of_name p (q ∷ packages) = not (bytes_eq p.name q.name)

abbrev pub last_of_names : List Package → List Package
last_of_names [] = []
last_of_names (p ∷ packages) = if is_last_of_name p packages then p ∷ last_of_names packages else last_of_names packages
