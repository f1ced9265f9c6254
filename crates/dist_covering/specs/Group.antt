-- The group of a claim on a challenged package: what it is to name, and its pairs.
use Rattle.std.specs.Prelude.{◌≡◌, ◌&&◌, ℕ, Bool, not, List, [], filter}
use Rattle.dist_cert.specs.Rising.{AreRising, is_among}

-- The package of the claim with its variable, the installations that it is to name, the pairs that are to be asked for,
-- and those that were refuted or stayed undecided, by their variables.
pub record GroupView : Type 0 where
  pub claimed : ℕ
  pub present : ℕ
  pub named : List ℕ
  pub left : List ℕ
  pub refuted : List ℕ
  pub undecided : List ℕ

-- the group of a claim on a package for which nothing was asked
abbrev pub group_of : ℕ → ℕ → GroupView
group_of p present = record {
  claimed = p;
  present = present;
  named = [];
  left = [];
  refuted = [];
  undecided = [];
}

-- the pair was not asked for
abbrev pub is_unasked : GroupView → ℕ → Bool
is_unasked group at = not (is_among group.undecided at) && not (is_among group.refuted at)

-- The installations to be named were set. Of the open pairs those that were asked for are refuted or undecided, and all
-- others are left.
pub record IsPlanned (named open_still : List ℕ) (group h : GroupView) : Type 0 where
  pub is : h ≡ record group {
    named = named;
    left = filter (is_unasked group) open_still;
    refuted = h.refuted;
    undecided = filter (is_among group.undecided) open_still;
  }
  pub refuted : (q : ℕ) → is_among h.refuted q ≡ is_among group.refuted q

-- the same numbers, in their order
pub record AreOrdered (old new : List ℕ) : Type 0 where
  pub rising : AreRising new
  pub same : (q : ℕ) → is_among new q ≡ is_among old q

-- the pairs that were asked for were put in their order
pub record IsOrdered (group h : GroupView) : Type 0 where
  pub is : h ≡ record group { refuted = h.refuted; undecided = h.undecided }
  pub refuted : AreOrdered group.refuted h.refuted
  pub undecided : AreOrdered group.undecided h.undecided
