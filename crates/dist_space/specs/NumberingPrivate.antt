-- What the variables of a space mean, from the first one on, as they are made. No public clause cites it.
use Rattle.std.specs.Prelude.{ℕ, ◌+◌, List, [], ◌∷◌, ◌++◌, Option, None, Some, length, map, slice_get, slice_index_or}
use Rattle.std.specs.Prelude.{if◌then◌else◌}
use Rattle.std.specs.List.{flat_map, range_with_len}
use Rattle.dist_relation.specs.declared.atom.Provide.{Provide}
use Rattle.dist_relation.specs.declared.atom.Qualifier.{Qualifier}
use Rattle.dist_repo.specs.declared.package.Package.{Package}
use Rattle.dist_space.specs.Space.{SpaceView, cluster_classes, fresh_classes}
use Rattle.dist_space.specs.Usable.{is_usable}
use Rattle.dist_space.specs.declared.meaning.Meaning.{Meaning}
use Rattle.dist_space.specs.declared.meaning.Meaning.TheVariants.{Now, Present, At, New, Kept, Fresh}

-- the numbers below another one
abbrev pub below : ℕ → List ℕ
below n = range_with_len 0 n

-- the places, from one on, of the usable entries of Provides
abbrev pub usable_from : Option (List ℕ) → ℕ → List Provide → List ℕ
usable_from architecture place [] = []
usable_from architecture place (entry ∷ entries) =
    if is_usable architecture entry.qualifier then place
    ∷ usable_from architecture (place + 1) entries else usable_from architecture (place + 1) entries

-- what a package provides
abbrev pub provided_by : Option Package → List Provide
provided_by None = []
provided_by (Some p) = p.provides

-- what an entry adds
abbrev pub entry_part : Option (List ℕ) → Qualifier → Meaning → List Meaning
entry_part architecture qualifier kept = if is_usable architecture qualifier then kept ∷ [] else []

-- the usable entries of a member's new version of a class
abbrev pub entries_part : SpaceView → ℕ → ℕ → List Meaning
entries_part s k r = map (λ j. Kept r k j)
    (usable_from s.repository.architecture 0 (provided_by (slice_get s.repository.packages r)))

-- a member's new version of a class, and then its usable entries
abbrev pub member_part : SpaceView → ℕ → ℕ → List Meaning
member_part s k r = New r k ∷ entries_part s k r

-- a class of a cluster, and then the new versions of the members
abbrev pub class_part : SpaceView → ℕ → ℕ → List Meaning
class_part s c k = At c k ∷ flat_map (member_part s k) (slice_index_or s.clusters.members c [])

abbrev pub cluster_part : SpaceView → ℕ → List Meaning
cluster_part s c = flat_map (class_part s c) (below (length (cluster_classes s c)))

-- the classes of a new name
abbrev pub fresh_part : SpaceView → ℕ → List Meaning
fresh_part s x = map (λ k. Fresh x k) (below (length (fresh_classes s x)))

-- Now; the packages of the repository as they are; the clusters; the new names.
abbrev pub meanings_of : SpaceView → List Meaning
meanings_of s =
    Now ∷ (map (λ r. Present r) (below (length s.repository.packages))
    ++ (flat_map (cluster_part s) (below (length s.clusters.members))
    ++ flat_map (fresh_part s) (below (length s.names))))
