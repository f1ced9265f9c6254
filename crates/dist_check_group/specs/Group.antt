-- What is kept of a group, and the tests of a claim on strong dependencies.
use Rattle.std.specs.Prelude.{◌≡◌, ◌==◌, ◌&&◌, ℕ, Bool, true, false, List, [], ◌∷◌, Option, Some, None, not}
use Rattle.std.specs.Prelude.{nat_le, unwrap_or}
use Rattle.std.specs.List.{list_all, list_any}
use Rattle.dist_cert.specs.declared.faults.CertCause.{CertCause}
use Rattle.dist_cert.specs.declared.faults.CertCause.TheVariants.{WrongClaim, Incomplete}
use Rattle.dist_cert.specs.declared.records.CertKind.{CertKind}
use Rattle.dist_cert.specs.declared.records.CertKind.TheVariants as kinds
use Rattle.dist_cert.specs.Rising.{AreRising, is_among}
use Rattle.dist_check_group.specs.Window.{WindowView, kept_at, has_member}
use Rattle.dist_check_group.specs.Closed.{ClosedView, none_closed}
use Rattle.dist_check_group.specs.Layout.{LayoutView}
use Rattle.dist_check_group.specs.Common.{common_with}
use Rattle.dist_check_group.specs.Cover.{CoverView, Gathers}

-- The questions of a group that were refuted, and those that were closed as undecided. Of kind strong the packages that
-- are in all of its installations that have the claim's package, if there are any; of kind challenged what these use
-- and hold.
pub record GroupView : Type 0 where
  pub refuted : ClosedView
  pub undecided : ClosedView
  pub common : Option (List ℕ)
  pub cover : CoverView

-- nothing is kept
abbrev pub empty_group : GroupView
empty_group = record {
  refuted = none_closed;
  undecided = none_closed;
  common = None;
  cover = record { used = None; held = [] };
}

-- what is kept with one more installation, by the kind
abbrev pub Grows : CertKind → LayoutView → ℕ → List ℕ → GroupView → GroupView → Type 0
Grows kinds.Strong layout variable members old new =
    new ≡ record old { common = common_with variable members old.common }
Grows kinds.Outdated layout variable members old new = new ≡ old
Grows kinds.Challenged layout variable members old new = (new ≡ record old { cover = new.cover })
    × Gathers layout variable members old.cover new.cover

-- the package is in all installations that are named
abbrev pub in_each : WindowView → List ℕ → ℕ → Bool
in_each w named q = list_all (λ number. has_member (kept_at w number) q) named

-- the members of one of the claim's installations, narrowed by those of the group
abbrev pub candidates : WindowView → Option (List ℕ) → List ℕ → List ℕ
candidates w (Some common) named = common
candidates w None [] = []
candidates w None (number ∷ named) = unwrap_or (kept_at w number) []

-- the package is in all of the claim's installations
abbrev pub is_always : WindowView → Option (List ℕ) → List ℕ → ℕ → Bool
is_always w common named q = is_among (candidates w common named) q && in_each w named q

-- The rules of a claim that p strongly depends on some packages and perhaps on others, as tests of what is kept: those
-- of its lists alone, and all of them.
pub record AreListsRight (w : WindowView) (group : GroupView) (packages p : ℕ) (named on undecided : List ℕ) : Type 0
  where
    pub names : in_each w named p ≡ true
    pub rising : AreRising on
    pub undecided_rising : AreRising undecided
    pub apart : list_any (is_among undecided) on ≡ false
    pub others : list_all (λ q. not (q == p) && nat_le q packages) on ≡ true
    pub undecided_others : list_all (λ q. not (q == p) && nat_le q packages) undecided ≡ true
    pub refuted : list_all (is_among group.refuted.without) on ≡ true
    pub open_still : list_all (is_among group.undecided.without) undecided ≡ true

pub record PassesStrong (w : WindowView) (group : GroupView) (packages p : ℕ) (named on undecided : List ℕ) : Type 0
  where
    pub lists : AreListsRight w group packages p named on undecided
    pub always : list_all (is_always w group.common named) undecided ≡ true

-- a package other than p is in all of the claim's installations and is not listed
abbrev pub omits_package : WindowView → GroupView → ℕ → List ℕ → List ℕ → List ℕ → Bool
omits_package w group p named on undecided =
    list_any (λ q. not (q == p) && not (is_among on q) && not (is_among undecided q) && in_each w named q)
    (candidates w group.common named)

-- what is told of a claim on the next package: its first fault, or none
abbrev pub TellsRules : WindowView → GroupView → ℕ → ℕ → List ℕ → List ℕ → List ℕ → Option CertCause → Type 0
TellsRules w group packages p named on undecided None = PassesStrong w group packages p named on undecided
    × (omits_package w group p named on undecided ≡ false)
TellsRules w group packages p named on undecided (Some WrongClaim) =
    ¬ PassesStrong w group packages p named on undecided
TellsRules w group packages p named on undecided (Some Incomplete) = PassesStrong w group packages p named on undecided
    × (omits_package w group p named on undecided ≡ true)
TellsRules w group packages p named on undecided (Some cause) = ⊥
