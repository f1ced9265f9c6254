-- What an assignment stands for: a future, and an installation in it. New versions of a class are at one version of it.
use Rattle.std.specs.Prelude.{ℕ, zero, suc, Bool, true, false, ◌&&◌, List, [], ◌∷◌, Option, None, Some, filter_map}
use Rattle.std.specs.Prelude.{length, slice_get, slice_index, if◌then◌else◌}
use Rattle.std.specs.Option.{option_map}
use Rattle.dist_relation.specs.declared.atom.Provide.{Provide}
use Rattle.dist_repo.specs.declared.package.Package.{Package}
use Rattle.dist_space.specs.Space.{SpaceView, cluster_classes, example_at, fresh_classes, moved_entry}
use Rattle.dist_space.specs.Usable.{is_usable}
use Rattle.dist_space.specs.declared.meaning.Meaning.{Meaning}
use Rattle.dist_space.specs.declared.meaning.Meaning.TheVariants.{Now, Present, At, New, Kept, Fresh}

-- the entries whose flags are true, as the new version has them
abbrev pub kept_entries : (old new : List ℕ) → List Bool → List Provide → List Provide
kept_entries old new [] entries = []
kept_entries old new (flag ∷ flags) [] = []
kept_entries old new (true ∷ flags) (entry ∷ entries) = moved_entry old new entry ∷ kept_entries old new flags entries
kept_entries old new (false ∷ flags) (entry ∷ entries) = kept_entries old new flags entries

-- a new version of a package, which depends on nothing and conflicts with nothing
abbrev pub new_package : Package → List ℕ → List Bool → Package
new_package p version flags = record p {
  version = version;
  depends = [];
  conflicts = [];
  provides = kept_entries p.version version flags p.provides;
}

-- a package of a new name
abbrev pub fresh_package : (name version : List ℕ) → Package
fresh_package name version = record {
  name = name;
  version = version;
  source = name;
  source_version = version;
  depends = [];
  conflicts = [];
  provides = [];
  essential = false;
}

-- the first of two numbers that is there
abbrev pub or_else : Option ℕ → Option ℕ → Option ℕ
or_else None other = other
or_else (Some k) other = Some k

-- the first number below a limit at which a test gives true
abbrev pub first_true : (ℕ → Bool) → ℕ → Option ℕ
first_true test zero = None
first_true test (suc n) = or_else (first_true test n) (if test n then Some n else None)

-- for each entry whether it is kept: it is usable, and a test of its place gives true
abbrev pub flags_from : Option (List ℕ) → (ℕ → Bool) → List Provide → List Bool
flags_from architecture test [] = []
flags_from architecture test (entry ∷ entries) = (is_usable architecture entry.qualifier && test 0)
    ∷ flags_from architecture (λ j. test (suc j)) entries

-- the class that a cluster is at
abbrev pub class_chosen : SpaceView → (Meaning → Bool) → ℕ → Option ℕ
class_chosen s holds c = first_true (λ k. holds (At c k)) (length (cluster_classes s c))

-- a member's new version of a class, with the entries that are kept; `version` has one for each cluster and class
abbrev pub new_version : SpaceView → (Meaning → Bool) → (version : ℕ → ℕ → List ℕ) → (r k : ℕ) → Package → Package
new_version s holds version r k p = new_package p (version (slice_index s.cluster_of r) k)
    (flags_from s.repository.architecture (λ j. holds (Kept r k j)) p.provides)

-- what becomes of a package where its cluster is at no class, and where it is at one
abbrev pub moved_package : SpaceView → (Meaning → Bool) → (version : ℕ → ℕ → List ℕ) → ℕ → Package → Option ℕ → Package
moved_package s holds version r p None = p
moved_package s holds version r p (Some k) = new_version s holds version r k p

-- The future has each package of the repository, or its new version where its cluster is at a class, and the package of
-- a new name where it holds.
abbrev pub later_package : SpaceView → (Meaning → Bool) → (version : ℕ → ℕ → List ℕ) → Meaning → Option Package
later_package s holds version Now = None
later_package s holds version (Present r) =
    option_map (λ p. moved_package s holds version r p (class_chosen s holds (slice_index s.cluster_of r)))
    (slice_get s.repository.packages r)
later_package s holds version (At c k) = None
later_package s holds version (New r k) = None
later_package s holds version (Kept r k j) = None
later_package s holds version (Fresh x k) =
    if holds (Fresh x k) then option_map (λ name. fresh_package name (example_at (fresh_classes s x) k))
    (slice_get s.names x) else None

abbrev pub future_of : SpaceView → (Meaning → Bool) → (version : ℕ → ℕ → List ℕ) → List Package
future_of s holds version = filter_map (later_package s holds version) s.meanings

-- The installation has the packages of the meanings Present, New and Fresh that hold.
abbrev pub installed_package : SpaceView → (Meaning → Bool) → (version : ℕ → ℕ → List ℕ) → Meaning → Option Package
installed_package s holds version Now = None
installed_package s holds version (Present r) = if holds (Present r) then slice_get s.repository.packages r else None
installed_package s holds version (At c k) = None
installed_package s holds version (New r k) =
    if holds (New r k) then option_map (λ p. new_version s holds version r k p) (slice_get s.repository.packages r)
    else None
installed_package s holds version (Kept r k j) = None
installed_package s holds version (Fresh x k) =
    if holds (Fresh x k) then option_map (λ name. fresh_package name (example_at (fresh_classes s x) k))
    (slice_get s.names x) else None

abbrev pub installation_of : SpaceView → (Meaning → Bool) → (version : ℕ → ℕ → List ℕ) → List Package
installation_of s holds version = filter_map (installed_package s holds version) s.meanings
