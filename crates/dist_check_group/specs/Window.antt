-- What is kept of the installations before a line.
use Rattle.std.specs.Prelude.{ℕ, ◌-◌, Bool, false, List, [], Option, Some, None, length, drop, nat_le, slice_get}
use Rattle.std.specs.Prelude.{unwrap_or, if◌then◌else◌}
use Rattle.dist_cert.specs.declared.TheConstants.{REACH}
use Rattle.dist_cert.specs.Rising.{is_among}
use Rattle.dist_check_group.specs.Layout.{LayoutView}

-- the latest installations, how many there were, and what their variables stand for
pub record WindowView : Type 0 where
  pub kept : List (List ℕ)
  pub count : ℕ
  pub layout : LayoutView

-- the last ones of a list, as many as a claim may reach back
abbrev pub latest : List (List ℕ) → List (List ℕ)
latest installations = drop (length installations - REACH) installations

-- the members of the installation of a number, where it is kept
abbrev pub kept_at : WindowView → ℕ → Option (List ℕ)
kept_at w number = if nat_le number (w.count - length w.kept) then None else slice_get w.kept
    (number - (w.count - length w.kept) - 1)

-- the package is a member of an installation that is kept
abbrev pub has_member : Option (List ℕ) → ℕ → Bool
has_member None q = false
has_member (Some members) q = is_among members q

-- the members of the installation of a number, and none where it is not kept
abbrev pub members_at : WindowView → ℕ → List ℕ
members_at w number = unwrap_or (kept_at w number) []
