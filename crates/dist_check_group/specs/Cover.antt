-- What is kept of a group's installations for a claim on challenges: the clusters that all use, and what one holds.
use Rattle.std.specs.Prelude.{◌≡◌, ℕ, ◌&&◌, ◌||◌, List, Option, Some, None, if◌then◌else◌}
use Rattle.dist_cert.specs.Rising.{is_among}
use Rattle.dist_check_group.specs.Layout.{LayoutView, non_packages, used}
use Rattle.dist_check_group.specs.Common.{narrowed}

-- Of the installations that have the claim's package as it is: the clusters of which all of them have a package, if
-- there are any, and the variables besides packages that one of them has.
pub record CoverView : Type 0 where
  pub used : Option (List ℕ)
  pub held : List ℕ

-- the clusters that are used with one more installation, which counts where it has the package's variable
abbrev pub used_with : LayoutView → ℕ → List ℕ → Option (List ℕ) → Option (List ℕ)
used_with layout variable members clusters =
    if is_among members variable then Some (narrowed clusters (used layout members)) else clusters

-- the same numbers, in any order and however often
abbrev pub AreSame : Option (List ℕ) → Option (List ℕ) → Type 0
AreSame None None = Unit {0}
AreSame (Some numbers) (Some others) = (q : ℕ) → is_among numbers q ≡ is_among others q
AreSame numbers others = ⊥

-- one installation more
pub record Gathers (layout : LayoutView) (variable : ℕ) (members : List ℕ) (old new : CoverView) : Type 0 where
  pub used : AreSame new.used (used_with layout variable members old.used)
  pub held : (v : ℕ) → is_among new.held v
      ≡ (is_among old.held v || (is_among members variable && is_among (non_packages layout members) v))
