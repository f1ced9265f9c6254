-- Serves private contracts: what is kept of a group's installations for a claim on challenges, by these.
use Rattle.std.specs.Prelude.{◌≡◌, ◌↔◌, ℕ, true, List, Option, Some, None, All, Any, Contains}
use Rattle.dist_cert.specs.Rising.{is_among}
use Rattle.dist_check_group.specs.Layout.{LayoutView, non_packages, used}
use Rattle.dist_check_group.specs.Cover.{CoverView}

-- the clusters that all installations with a variable use
abbrev pub IsUsedOf : LayoutView → List (List ℕ) → ℕ → Option (List ℕ) → Type 0
IsUsedOf layout all variable None = All (λ m. ¬ Contains m variable) all
IsUsedOf layout all variable (Some clusters) = Any (λ m. Contains m variable) all
    × ((c : ℕ) → Contains clusters c ↔ All (λ m. Contains m variable → Contains (used layout m) c) all)

-- what the installations with a variable use, and what one of them holds besides packages
pub record IsCoverOf (layout : LayoutView) (all : List (List ℕ)) (variable : ℕ) (cover : CoverView) : Type 0 where
  pub used : IsUsedOf layout all variable cover.used
  pub held : (v : ℕ) → (is_among cover.held v ≡ true)
      ↔ Any (λ m. Contains m variable × Contains (non_packages layout m) v) all
