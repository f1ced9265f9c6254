-- The pairs that installations cover, by the variables of the pairs.
use Rattle.std.specs.Prelude.{◌≡◌, ◌≢◌, ◌||◌, ℕ, ◌+◌, ◌-◌, ◌<◌, ◌≤◌, Bool, false, true, not, List, [], ◌∷◌, All}
use Rattle.std.specs.Prelude.{AllPairs, Contains}
use Rattle.std.specs.Prelude.{Some, length, slice_get, slice_index, slice_index_or}
use Rattle.std.specs.List.{list_any}
use Rattle.dist_clause.specs.Formula.{value_of}
use Rattle.dist_cert.specs.declared.TheConstants.{REACH}
use Rattle.dist_cert.specs.ClaimRules.{IsPairBelow}
use Rattle.dist_cert.specs.Rising.{is_among}
use Rattle.dist_space.specs.Space.{SpaceView, cluster_classes, variable_of}
use Rattle.dist_space.specs.declared.meaning.Meaning.TheVariants.{At}
use Rattle.dist_sweep.specs.Window.{WindowView, kept_at}
use Rattle.dist_covering.specs.Covering.{CoveringView}
use Rattle.dist_covering.specs.Used.{pair_at}

-- the installation of the number is kept
pub record IsKept (w : WindowView) (number : ℕ) : Type 0 where
  pub low : w.count < number + length w.kept
  pub high : number ≤ w.count

-- a kept installation of today with a variable
pub record IsTodayWith (w : WindowView) (present number : ℕ) : Type 0 where
  pub kept : IsKept w number
  pub has : value_of (kept_at w number) present ≡ true
  pub now : value_of (kept_at w number) 1 ≡ true

-- the clusters that the installation of a number uses
abbrev pub used_by : CoveringView → WindowView → ℕ → List ℕ
used_by c w number = slice_index_or c.uses (number - (w.count - length w.kept + 1)) []

-- the installation of a number has the variable of a pair, or does not use its cluster
abbrev pub covered_by : CoveringView → WindowView → (number at : ℕ) → Bool
covered_by c w number at = value_of (kept_at w number) at || not (is_among (used_by c w number) (pair_at c.space at).0)

-- one of some installations does
abbrev pub is_covered : CoveringView → WindowView → List ℕ → ℕ → Bool
is_covered c w numbers at = list_any (λ number. covered_by c w number at) numbers

-- The variable is that of a class of a cluster, and of another cluster than this.
pub record IsPairVariable (s : SpaceView) (own at : ℕ) : Type 0 where
  pub cluster : ℕ
  pub class : ℕ
  pub from_one : 1 ≤ at
  pub is : slice_get s.meanings (at - 1) ≡ Some (At cluster class)
  pub other : cluster ≢ own

-- these are all pairs that none of some installations covers, falling
pub record AreOpen (c : CoveringView) (w : WindowView) (own : ℕ) (numbers ats : List ℕ) : Type 0 where
  pub falling : AllPairs (λ a b. b < a) ats
  pub pairs : All (IsPairVariable c.space own) ats
  pub open_still : All (λ at. is_covered c w numbers at ≡ false) ats
  pub all : (at : ℕ) → IsPairVariable c.space own at → is_covered c w numbers at ≡ false → Contains ats at

-- a claim may still name an installation once so many more came
abbrev pub Lasts : WindowView → (more number : ℕ) → Type 0
Lasts w more number = w.count + more < number + REACH

-- an installation with the variable that a claim may name
pub record IsStriker (w : WindowView) (present today more below number : ℕ) : Type 0 where
  pub kept : IsKept w number
  pub has : value_of (kept_at w number) present ≡ true
  pub other : number ≢ today
  pub lasts : Lasts w more number
  pub above : below < number

-- an installation covers a pair that today's does not, nor a later one of those that are named
pub record HasStruck (c : CoveringView) (w : WindowView) (own today : ℕ) (named : List ℕ) (number : ℕ) : Type 0 where
  pub at : ℕ
  pub variable : IsPairVariable c.space own at
  pub covers : covered_by c w number at ≡ true
  pub not_today : covered_by c w today at ≡ false
  pub none_later : All (λ later. number < later → covered_by c w later at ≡ false) named

-- Installations above a number that struck pairs, besides that of today and the one to start with, and the pairs
-- that are left.
pub record IsPlan (c : CoveringView) (w : WindowView) (present own today start below : ℕ)
    (named ats : List ℕ) : Type 0 where
  pub falling : AllPairs (λ m n. n < m) named
  pub strikers : All (IsStriker w present today (length ats) below) named
  pub struck : All (HasStruck c w own today named) named
  pub are_open : AreOpen c w own (start ∷ today ∷ named) ats

-- ---- how the pairs of one installation are gathered

-- pairs of clusters that an installation uses, which it does not cover
pub record AreGathered (c : CoveringView) (w : WindowView) (own number : ℕ) (ats : List ℕ) : Type 0 where
  pub falling : AllPairs (λ a b. b < a) ats
  pub pairs : All (IsPairVariable c.space own) ats
  pub open_still : All (λ at. covered_by c w number at ≡ false) ats

-- the pair of the variable is above a pair
abbrev pub IsAbove : SpaceView → (cluster class at : ℕ) → Type 0
IsAbove s cluster class at = IsPairBelow (cluster, class) (pair_at s at)

-- the classes of a cluster from one on are gathered where the installation does not have them
abbrev pub HasClasses : CoveringView → WindowView → (number cluster from : ℕ) → List ℕ → Type 0
HasClasses c w number cluster from ats = (class : ℕ) → from ≤ class → class < length (cluster_classes c.space cluster)
    → value_of (kept_at w number) (variable_of c.space (At cluster class)) ≡ false
    → Contains ats (variable_of c.space (At cluster class))

-- classes of one cluster were gathered behind others
pub record IsGathering (c : CoveringView) (w : WindowView) (own number cluster from : ℕ)
    (old ats : List ℕ) : Type 0 where
  pub gathered : AreGathered c w own number ats
  pub above : All (IsAbove c.space (cluster + 1) from) ats
  pub kept : (at : ℕ) → Contains old at → Contains ats at
  pub classes : HasClasses c w number cluster from ats

-- the clusters of a list from a place on, up to another, were gathered
pub record AreClustersFrom (c : CoveringView) (w : WindowView) (own number upto place : ℕ) (ats : List ℕ) : Type 0
  where
    pub gathered : AreGathered c w own number ats
    pub above : (k : ℕ) → k < place → All (λ at. slice_index (used_by c w number) k < (pair_at c.space at).0) ats
    pub clusters : (k : ℕ) → place ≤ k → k < upto → slice_index (used_by c w number) k - 1 ≢ own
        → HasClasses c w number (slice_index (used_by c w number) k - 1) 0 ats
