-- What the variables of a certificate stand for, besides the packages as they are.
use Rattle.std.specs.Prelude.{◌==◌, ℕ, ◌+◌, ◌-◌, Bool, List, [], filter, map, not, slice_index, slice_index_or}
use Rattle.dist_cert.specs.declared.records.CertKind.{CertKind}
use Rattle.dist_cert.specs.declared.records.CertKind.TheVariants as kinds

-- The kind of the certificate. At the place of each variable, from 0, so that the first place is of none, the cluster
-- of which it is a package, present or new, or 0. For each cluster the variables that put it at one of its classes, in
-- order.
pub record LayoutView : Type 0 where
  pub kind : CertKind
  pub cluster_of : List ℕ
  pub classes : List (List ℕ)

-- the variable of a package as it is: behind that of today, where there is one
abbrev pub present : CertKind → ℕ → ℕ
present kinds.Strong p = p
present kind p = p + 1

-- the cluster of which a variable is a package, present or new, or 0
abbrev pub cluster_of : LayoutView → ℕ → ℕ
cluster_of layout v = slice_index layout.cluster_of v

-- the variables that put a cluster at one of its classes
abbrev pub classes_of : LayoutView → ℕ → List ℕ
classes_of layout cluster = slice_index_or layout.classes (cluster - 1) []

-- the variable that puts a cluster at a class
abbrev pub at_class : LayoutView → ℕ × ℕ → ℕ
at_class layout pair = slice_index (classes_of layout pair.0) (pair.1 - 1)

-- the variable is a package, present or new
abbrev pub is_package : LayoutView → ℕ → Bool
is_package layout v = not (cluster_of layout v == 0)

-- the clusters of which an installation has a package, present or new
abbrev pub used : LayoutView → List ℕ → List ℕ
used layout members = map (cluster_of layout) (filter (is_package layout) members)

-- the members of an installation that are no packages
abbrev pub non_packages : LayoutView → List ℕ → List ℕ
non_packages layout members = filter (λ v. not (is_package layout v)) members
