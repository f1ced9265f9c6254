-- The tests of a claim on challenges, by what is kept.
use Rattle.std.specs.Prelude.{◌≡◌, ◌==◌, ◌&&◌, ◌||◌, ℕ, Bool, true, false, List, [], ◌∷◌, AllPairs, Option, Some, None}
use Rattle.std.specs.Prelude.{length, map, nat_le, not}
use Rattle.std.specs.List.{list_all, list_any}
use Rattle.dist_cert.specs.declared.faults.CertCause.{CertCause}
use Rattle.dist_cert.specs.declared.faults.CertCause.TheVariants.{WrongClaim, Incomplete}
use Rattle.dist_cert.specs.ClaimRules.{IsPairBelow}
use Rattle.dist_cert.specs.Rising.{is_among}
use Rattle.dist_check_group.specs.Layout.{LayoutView, at_class, classes_of, cluster_of, non_packages, used}
use Rattle.dist_check_group.specs.Window.{WindowView, members_at}
use Rattle.dist_check_group.specs.Cover.{CoverView}
use Rattle.dist_check_group.specs.Group.{GroupView, in_each}

-- ---- what the claim's installations use and hold

-- all installations that are named use the cluster
abbrev pub use_each : LayoutView → WindowView → List ℕ → ℕ → Bool
use_each layout w named cluster = list_all (λ number. is_among (used layout (members_at w number)) cluster) named

-- the clusters that one of the claim's installations uses, narrowed by those of the group
abbrev pub first_used : LayoutView → WindowView → Option (List ℕ) → List ℕ → List ℕ
first_used layout w (Some clusters) named = clusters
first_used layout w None [] = []
first_used layout w None (number ∷ named) = used layout (members_at w number)

-- all of the claim's installations use the cluster
abbrev pub is_used : LayoutView → WindowView → CoverView → List ℕ → ℕ → Bool
is_used layout w cover named cluster =
    is_among (first_used layout w cover.used named) cluster && use_each layout w named cluster

-- one of the claim's installations holds the variable
abbrev pub is_held : LayoutView → WindowView → CoverView → List ℕ → ℕ → Bool
is_held layout w cover named v =
    is_among cover.held v || list_any (λ number. is_among (non_packages layout (members_at w number)) v) named

-- one of the claim's installations has no package of the pair's cluster, or has the cluster at the pair's class
abbrev pub is_covered : LayoutView → WindowView → CoverView → List ℕ → ℕ × ℕ → Bool
is_covered layout w cover named pair =
    not (is_used layout w cover named pair.0) || is_held layout w cover named (at_class layout pair)

-- ---- the rules, by the variable of the claim's package

-- a cluster that is not the package's own, and a class of it
abbrev pub is_pair_for : LayoutView → ℕ → ℕ × ℕ → Bool
is_pair_for layout variable pair = nat_le 1 pair.0 && nat_le pair.0 (length layout.classes) && nat_le 1 pair.1
    && nat_le pair.1 (length (classes_of layout pair.0)) && not (pair.0 == cluster_of layout variable)

-- the variable of the pair is among those of some pairs
abbrev pub is_listed : LayoutView → List (ℕ × ℕ) → ℕ × ℕ → Bool
is_listed layout pairs pair = is_among (map (at_class layout) pairs) (at_class layout pair)

-- The rules of a claim that the pairs `by` of a cluster and a class challenge the package, and perhaps those
-- `undecided`: those of its lists alone, and all of them.
pub record ArePairsRight (layout : LayoutView) (w : WindowView) (group : GroupView) (variable : ℕ) (named : List ℕ)
    (by undecided : List (ℕ × ℕ)) : Type 0 where
  pub names : in_each w named variable ≡ true
  pub today : is_held layout w group.cover named 1 ≡ true
  pub rising : AllPairs IsPairBelow by
  pub undecided_rising : AllPairs IsPairBelow undecided
  pub apart : list_any (is_listed layout undecided) by ≡ false
  pub pairs : list_all (is_pair_for layout variable) by ≡ true
  pub undecided_pairs : list_all (is_pair_for layout variable) undecided ≡ true
  pub refuted : list_all (λ pair. is_among group.refuted.together (at_class layout pair)) by ≡ true
  pub open_still : list_all (λ pair. is_among group.undecided.together (at_class layout pair)) undecided ≡ true

pub record PassesChallenge (layout : LayoutView) (w : WindowView) (group : GroupView) (variable : ℕ) (named : List ℕ)
    (by undecided : List (ℕ × ℕ)) : Type 0 where
  pub lists : ArePairsRight layout w group variable named by undecided
  pub uncovered : list_any (is_covered layout w group.cover named) undecided ≡ false

-- a pair of another cluster than the package's is neither listed nor covered
pub record OmitsPair (layout : LayoutView) (w : WindowView) (group : GroupView) (variable : ℕ) (named : List ℕ)
    (by undecided : List (ℕ × ℕ)) : Type 0 where
  pub pair : ℕ × ℕ
  pub is_pair : is_pair_for layout variable pair ≡ true
  pub unlisted : is_listed layout by pair ≡ false
  pub decided : is_listed layout undecided pair ≡ false
  pub uncovered : is_covered layout w group.cover named pair ≡ false

-- what is told of a claim on the next package: its first fault, or none
abbrev pub TellsChallenge : LayoutView → WindowView → GroupView → ℕ → List ℕ → List (ℕ × ℕ) → List (ℕ × ℕ)
    → Option CertCause → Type 0
TellsChallenge layout w group variable named by undecided None =
    PassesChallenge layout w group variable named by undecided
    × (¬ OmitsPair layout w group variable named by undecided)
TellsChallenge layout w group variable named by undecided (Some WrongClaim) =
    ¬ PassesChallenge layout w group variable named by undecided
TellsChallenge layout w group variable named by undecided (Some Incomplete) =
    PassesChallenge layout w group variable named by undecided
    × OmitsPair layout w group variable named by undecided
TellsChallenge layout w group variable named by undecided (Some cause) = ⊥
