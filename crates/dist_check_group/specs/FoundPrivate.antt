-- Serves private contracts: what is looked up for a claim on challenges, in tables.
use Rattle.std.specs.Prelude.{◌≡◌, ◌==◌, ◌&&◌, ◌||◌, ℕ, Bool, true, List, length, map, nat_le, not}
use Rattle.std.specs.List.{list_any}
use Rattle.dist_cert.specs.Rising.{is_among}
use Rattle.dist_check_group.specs.Layout.{LayoutView, at_class, classes_of, cluster_of, is_package}
use Rattle.dist_check_group.specs.Window.{WindowView}
use Rattle.dist_check_group.specs.Cover.{CoverView}
use Rattle.dist_check_group.specs.Challenge.{is_held, is_used}
use Rattle.dist_check_group.specs.MarksPrivate.{MarksView, is_marked}

-- clusters that all of the claim's installations use, what one of them holds of the variables that a test may ask for,
-- and the variables of its pairs
pub record FoundView : Type 0 where
  pub used : List ℕ
  pub held : MarksView
  pub by : List ℕ
  pub undecided : List ℕ

-- the variable of a class is neither listed nor held
abbrev pub is_open : FoundView → ℕ → Bool
is_open found v = not (is_among found.by v) && not (is_among found.undecided v) && not (is_marked found.held v)

-- a cluster other than the variable's has a class that is neither listed nor held
abbrev pub leaves_out : LayoutView → FoundView → ℕ → ℕ → Bool
leaves_out layout found variable cluster = nat_le 1 cluster && not (cluster == cluster_of layout variable)
    && list_any (is_open found) (classes_of layout cluster)

-- a test asks for the cluster: it leaves a class out, or some pair is undecided, which may be of any cluster
abbrev pub is_asked : LayoutView → FoundView → ℕ → ℕ → Bool
is_asked layout found variable cluster = not (length found.undecided == 0) || leaves_out layout found variable cluster

-- a test may ask for the variable: that of today, that of an undecided pair, or a class of one of the clusters
abbrev pub may_ask : LayoutView → List ℕ → List ℕ → ℕ → Bool
may_ask layout undecided clusters v =
    (v == 1) || is_among undecided v || list_any (λ cluster. is_among (classes_of layout cluster) v) clusters

-- the variable is one of those that are wanted still, unless it is marked or a package
abbrev pub is_wanted : LayoutView → List ℕ → MarksView → ℕ → Bool
is_wanted layout wanted held v = is_among wanted v || (is_marked held v || is_package layout v)

-- the marks tell whether one of the claim's installations holds the variable
abbrev pub TellsHeld : LayoutView → WindowView → CoverView → List ℕ → FoundView → ℕ → Type 0
TellsHeld layout w cover named found v = is_marked found.held v ≡ is_held layout w cover named v

-- They are what the claim's installations and lists have, of the clusters those that a test asks for. What is held is
-- told of the variables that one may ask for.
pub record IsFoundFor (layout : LayoutView) (w : WindowView) (cover : CoverView) (variable : ℕ) (named : List ℕ)
    (by undecided : List (ℕ × ℕ)) (found : FoundView) : Type 0 where
  pub used_is : (c : ℕ) → is_among found.used c ≡ (is_used layout w cover named c && is_asked layout found variable c)
  pub today_is : TellsHeld layout w cover named found 1
  pub pairs_are : (v : ℕ) → is_among found.undecided v ≡ true → TellsHeld layout w cover named found v
  pub classes_are : (c v : ℕ) → is_used layout w cover named c ≡ true → is_among (classes_of layout c) v ≡ true
      → TellsHeld layout w cover named found v
  pub by_is : (v : ℕ) → is_among found.by v ≡ is_among (map (at_class layout) by) v
  pub undecided_is : (v : ℕ) → is_among found.undecided v ≡ is_among (map (at_class layout) undecided) v
