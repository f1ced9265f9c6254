-- Which packages are in one source cluster, this project's own rule: those that are built from one source package at
-- one version, and have equal versions of their own. A rebuild of one of them alone, a version with `+b1` at its end,
-- leaves it in its cluster.
use Rattle.std.specs.Prelude.{◌≡◌, ℕ, List, IsSomeAnd, slice_get}
use Rattle.std.specs.declared.cmp.Ordering.TheVariants.{Equal}
use Rattle.dist_version.specs.Order.{version_cmp}
use Rattle.dist_version.specs.Between.{without_rebuild_text}

-- what clusters know of a package: the name of its source, the version of that, and its own version
pub record Member : Type 0 where
  pub source : List ℕ
  pub source_version : List ℕ
  pub version : List ℕ

-- The names of the sources are the same bytes, the versions of the sources are equal, and so are the packages' own
-- versions without rebuild suffix. Equal versions may differ in their texts.
pub record AreClustered (a b : Member) : Type 0 where
  pub source : a.source ≡ b.source
  pub source_version : version_cmp a.source_version b.source_version ≡ Equal
  pub version : version_cmp (without_rebuild_text a.version) (without_rebuild_text b.version) ≡ Equal

-- the same of two members by their places
abbrev pub AreTogether : List Member → ℕ → ℕ → Type 0
AreTogether members m n = IsSomeAnd (slice_get members m) (λ a. IsSomeAnd (slice_get members n) (λ b. AreClustered a b))
