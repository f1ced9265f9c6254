-- How what is noted of the lines before a line stands to these lines.
use Rattle.std.proofs.Common.{◌≡◌, ℕ, ◌+◌, ◌↔◌, true, List, [], ◌∷◌, Option, Some, None, length}
use Rattle.std.specs.List.{All, Any, Contains}
use Rattle.dist_cert.specs.declared.records.CertKind.{CertKind}
use Rattle.dist_cert.specs.declared.records.CertKind.TheVariants as kinds
use Rattle.dist_cert.specs.declared.records.CertRecord.{CertRecord}
use Rattle.dist_cert.specs.declared.records.Header.{Header}
use Rattle.dist_cert.specs.Form.{Word}
use Rattle.dist_cert.specs.Groups.{installations, claim_count, group, IsRefutedIn}
use Rattle.dist_cert.specs.Groups.{IsUndecidedIn}
use Rattle.dist_cert.specs.ClaimRules.{yes, no}
use Rattle.dist_cert.specs.Accepted.{claims_in}
use Rattle.dist_cert.specs.Rising.{is_among}
use Rattle.dist_cert.specs.Subject.{Matter}
use Rattle.dist_check_group.specs.Window.{latest}
use Rattle.dist_check_group.specs.Closed.{ClosedView}
use Rattle.dist_check_group.specs.Group.{GroupView}
use Rattle.dist_check_group.specs.Layout.{LayoutView, present}
use Rattle.dist_check.specs.CoverPrivate.{IsCoverOf}
use Rattle.dist_check.specs.LaysOut.{LaysOut}
use Rattle.dist_check_state.specs.State.{StateView}

-- the own question of a claim, by the kind and the variable of its package
abbrev pub own_question : CertKind → ℕ → List Word
own_question kinds.Challenged v = yes 1 ∷ yes v ∷ []
own_question kind v = yes v ∷ []

-- which questions of a group were closed in one way
pub record AreClosed (IsClosed : List Word → Type 0) (kind : CertKind) (v : ℕ) (closed : ClosedView) : Type 0 where
  pub alone : (closed.alone ≡ true) ↔ IsClosed (own_question kind v)
  pub without : (q : ℕ) → (is_among closed.without q ≡ true) ↔ IsClosed (yes v ∷ no q ∷ [])
  pub together : (q : ℕ) → (is_among closed.together q ≡ true) ↔ IsClosed (yes v ∷ yes q ∷ [])

-- what the members with a variable have in common
abbrev pub IsCommonOf : List (List ℕ) → ℕ → Option (List ℕ) → Type 0
IsCommonOf members v None = All (λ m. ¬ Contains m v) members
IsCommonOf members v (Some common) = Any (λ m. Contains m v) members
    × ((q : ℕ) → Contains common q ↔ All (λ m. Contains m v → Contains m q) members)

-- what is kept of a group's installations, by the kind
abbrev pub IsGathered : CertKind → LayoutView → List (List ℕ) → ℕ → GroupView → Type 0
IsGathered kinds.Strong layout members v kept = IsCommonOf members v kept.common
IsGathered kinds.Outdated layout members v kept = Unit {0}
IsGathered kinds.Challenged layout members v kept = IsCoverOf layout members v kept.cover

pub record IsGroupOf (layout : LayoutView) (lines : List CertRecord) (v : ℕ) (kept : GroupView) : Type 0 where
  pub refuted : AreClosed (IsRefutedIn lines) layout.kind v kept.refuted
  pub undecided : AreClosed (IsUndecidedIn lines) layout.kind v kept.undecided
  pub gathered : IsGathered layout.kind layout (installations lines) v kept

-- What is noted is what these lines hold.
pub record IsAt (matter : Matter) (h : Header) (before : List CertRecord) (s : StateView) : Type 0 where
  pub packages : s.packages ≡ matter.packages
  pub kind : s.layout.kind ≡ h.kind
  pub layout : LaysOut matter s.layout
  pub same : h.kind ≡ kinds.Strong → matter.variables ≡ matter.packages
  pub kept : s.window.kept ≡ latest (installations before)
  pub count : s.window.count ≡ length (installations before)
  pub next : s.next ≡ claim_count before + 1
  pub group_is : IsGroupOf s.layout (group before) (present s.layout.kind s.next) s.group
  pub claims : s.claims ≡ claims_in before
