-- What the claim on a challenged package is to name and to ask for, by known installations.
use Rattle.std.specs.Prelude.{◌≡◌, ◌⊎◌, ℕ, ◌+◌, ◌-◌, ◌<◌, ◌≤◌, not, List, [], ◌∷◌, ◌++◌, filter, length}
use Rattle.std.specs.Prelude.{slice_index}
use Rattle.dist_sweep.specs.Window.{WindowView}
use Rattle.dist_covering.specs.Covering.{CoveringView}
use Rattle.dist_covering.specs.OpenPairs.{IsKept, covered_by, AreGathered, IsPlan, Lasts}
use Rattle.dist_covering.specs.Group.{GroupView, IsPlanned}

-- The group names a known installation of today, and asks for what this and the one to start with leave open.
pub record IsTakenUp (c : CoveringView) (w : WindowView) (group h : GroupView) (today start : ℕ) : Type 0 where
  pub strikers : List ℕ
  pub open_still : List ℕ
  pub lasts : Lasts w (length open_still) today
  pub plan : IsPlan c w group.present (slice_index c.space.cluster_of (group.claimed - 1)) today start 0 strikers
      open_still
  pub planned : IsPlanned (strikers ++ today ∷ []) open_still group h

-- The group names a known installation of today, and asks for some pairs that this leaves open.
pub record IsFirst (c : CoveringView) (w : WindowView) (group h : GroupView) (today : ℕ) : Type 0 where
  pub open_still : List ℕ
  pub lasts : Lasts w (length open_still) today
  pub gathered : AreGathered c w (slice_index c.space.cluster_of (group.claimed - 1)) today open_still
  pub planned : IsPlanned (today ∷ []) open_still group h

-- The latest installation is of today. The one to start with is the one before it, where that is of the group too.
abbrev pub IsStart : WindowView → (earlier start : ℕ) → Type 0
IsStart w earlier start = ((w.count ≤ earlier + 1) × (start ≡ w.count))
    ⊎ ((earlier + 1 < w.count) × (start + 1 ≡ w.count))

-- The group asks for what the latest installation, which is of today, and the one to start with leave open.
pub record IsFound (c : CoveringView) (w : WindowView) (group h : GroupView) (earlier : ℕ) : Type 0 where
  pub start : ℕ
  pub strikers : List ℕ
  pub open_still : List ℕ
  pub starts : IsStart w earlier start
  pub plan : IsPlan c w group.present (slice_index c.space.cluster_of (group.claimed - 1)) w.count start 0 strikers
      open_still
  pub planned : IsPlanned strikers open_still group h

-- the latest installation struck the pairs that it covers
pub record IsStruck (d : CoveringView) (v : WindowView) (group h : GroupView) : Type 0 where
  pub kept : IsKept v v.count
  pub is : h ≡ record group {
    left = filter (λ at. not (covered_by d v v.count at)) group.left;
    undecided = filter (λ at. not (covered_by d v v.count at)) group.undecided;
  }
