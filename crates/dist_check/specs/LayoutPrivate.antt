-- The layout of the variables of a space, as it is made.
use Rattle.std.specs.Prelude.{◌≡◌, ℕ, ◌+◌, ◌-◌, List, Some, length, map, slice_get, slice_index}
use Rattle.std.specs.List.{range_with_len}
use Rattle.dist_space.specs.Space.{SpaceView, cluster_classes, variable_of}
use Rattle.dist_space.specs.declared.meaning.Meaning.{Meaning}
use Rattle.dist_space.specs.declared.meaning.Meaning.TheVariants.{At, New, Present}

-- the number from 1 of the cluster of the package, as it is or new, or 0
abbrev pub owner_of : SpaceView → Meaning → ℕ
owner_of s (Present r) = slice_index s.cluster_of r + 1
owner_of s (New r k) = slice_index s.cluster_of r + 1
owner_of s m = 0

-- what a variable means has this number
abbrev pub HasOwner : SpaceView → ℕ → ℕ → Type 0
HasOwner s variable number = (m : Meaning) × (slice_get s.meanings (variable - 1) ≡ Some m) × (owner_of s m ≡ number)

-- the variables of a cluster's classes
abbrev pub class_variables : SpaceView → ℕ → List ℕ
class_variables s cluster = map (λ class. variable_of s (At cluster class))
    (range_with_len 0 (length (cluster_classes s cluster)))
