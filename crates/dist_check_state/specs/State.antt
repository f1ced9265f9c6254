-- What a checker of certificates notes of the lines before a line, and what it tells of the next claim.
use Rattle.std.specs.Prelude.{◌≡◌, ◌==◌, ◌&&◌, ℕ, ◌+◌, ◌<◌, ◌≤◌, Bool, true, false, List, [], ◌∷◌, ◌++◌, Option, Some}
use Rattle.std.specs.Prelude.{None, nat_le, not}
use Rattle.dist_cert.specs.declared.faults.CertCause.{CertCause}
use Rattle.dist_cert.specs.declared.faults.CertCause.TheVariants.{OutOfOrder, WrongClaim, Incomplete}
use Rattle.dist_cert.specs.declared.records.CertKind.{CertKind}
use Rattle.dist_cert.specs.declared.records.CertKind.TheVariants as kinds
use Rattle.dist_cert.specs.declared.records.CertRecord.{CertRecord}
use Rattle.dist_cert.specs.declared.records.CertRecord.TheVariants as lines
use Rattle.dist_cert.specs.declared.records.Claim.{Claim}
use Rattle.dist_cert.specs.Form.{Word}
use Rattle.dist_cert.specs.Accepted.{claim_in}
use Rattle.dist_check_group.specs.Layout.{LayoutView, present}
use Rattle.dist_check_group.specs.Window.{WindowView, has_member, kept_at, latest}
use Rattle.dist_check_group.specs.Closed.{Closes}
use Rattle.dist_check_group.specs.Group.{GroupView, Grows, TellsRules, empty_group}
use Rattle.dist_check_group.specs.Challenge.{TellsChallenge}

-- The number of packages, what the variables stand for, which the window says too, the installations and the group, the
-- package of the next claim, and the claims.
pub record StateView : Type 0 where
  pub packages : ℕ
  pub layout : LayoutView
  pub window : WindowView
  pub next : ℕ
  pub group : GroupView
  pub claims : List Claim

-- ---- what is told of a claim or of the end: its first fault, or none

-- the package is the next one, and is not above the last
abbrev pub is_next : ℕ → ℕ → ℕ → Bool
is_next next packages p = (p == next) && nat_le p packages

-- a claim on a package, which holds or does not
abbrev pub TellsClaim : Bool → Bool → Option CertCause → Type 0
TellsClaim next holds None = (next ≡ true) × (holds ≡ true)
TellsClaim next holds (Some OutOfOrder) = next ≡ false
TellsClaim next holds (Some WrongClaim) = (next ≡ true) × (holds ≡ false)
TellsClaim next holds (Some cause) = ⊥

-- A claim with lists, which is on the next package or is not, and of the certificate's kind or not: then by its rules.
abbrev pub TellsListed : Bool → Bool → (Option CertCause → Type 0) → Option CertCause → Type 0
TellsListed true true Rules found = Rules found
TellsListed true false Rules found = found ≡ Some WrongClaim
TellsListed false kind Rules found = found ≡ Some OutOfOrder

-- ---- which claims hold, by the kind

abbrev pub is_strong : CertKind → Bool
is_strong kinds.Strong = true
is_strong kind = false

abbrev pub is_outdated : CertKind → Bool
is_outdated kinds.Outdated = true
is_outdated kind = false

abbrev pub is_challenged : CertKind → Bool
is_challenged kinds.Challenged = true
is_challenged kind = false

-- that the package is not installable: its own question was refuted, and is one of installability
abbrev pub holds_uninstallable : StateView → Bool
holds_uninstallable s = not (is_outdated s.layout.kind) && s.group.refuted.alone

-- that the package is outdated
abbrev pub holds_outdated : StateView → Bool
holds_outdated s = is_outdated s.layout.kind && s.group.refuted.alone

-- that the package is not outdated, by the installation of a number
abbrev pub holds_alive : StateView → ℕ → ℕ → Bool
holds_alive s p number =
    is_outdated s.layout.kind && has_member (kept_at s.window number) (present s.layout.kind p)

abbrev pub TellsEnd : ℕ → ℕ → Option CertCause → Type 0
TellsEnd next packages None = packages < next
TellsEnd next packages (Some Incomplete) = next ≤ packages
TellsEnd next packages (Some cause) = ⊥

-- what is told of a record: none where it is no claim, and not the end
abbrev pub Tells : StateView → CertRecord → Option CertCause → Type 0
Tells s (lines.NotInstallable p) = TellsClaim (is_next s.next s.packages p) (holds_uninstallable s)
Tells s (lines.Unknown p) = TellsClaim (is_next s.next s.packages p) s.group.undecided.alone
Tells s (lines.Outdated p) = TellsClaim (is_next s.next s.packages p) (holds_outdated s)
Tells s (lines.Alive p number) = TellsClaim (is_next s.next s.packages p) (holds_alive s p number)
Tells s (lines.Strong p named on undecided) = TellsListed (is_next s.next s.packages p) (is_strong s.layout.kind)
    (λ found. TellsRules s.window s.group s.packages p named on undecided found)
Tells s (lines.Challenged p named by undecided) =
    TellsListed (is_next s.next s.packages p) (is_challenged s.layout.kind)
    (λ found. TellsChallenge s.layout s.window s.group (present s.layout.kind p) named by undecided found)
Tells s lines.End = TellsEnd s.next s.packages
Tells s step = λ found. found ≡ None

-- ---- what a line without a fault makes of it

-- what is asked of a claim that is taken: it is on the next package
abbrev pub Allows : StateView → CertRecord → Type 0
Allows s (lines.NotInstallable p) = is_next s.next s.packages p ≡ true
Allows s (lines.Unknown p) = is_next s.next s.packages p ≡ true
Allows s (lines.Strong p named on undecided) = is_next s.next s.packages p ≡ true
Allows s (lines.Outdated p) = is_next s.next s.packages p ≡ true
Allows s (lines.Alive p number) = is_next s.next s.packages p ≡ true
Allows s (lines.Challenged p named by undecided) = is_next s.next s.packages p ≡ true
Allows s step = Unit {0}

-- a question is noted as refuted, or as undecided
abbrev pub Notes : Bool → CertKind → ℕ → List Word → GroupView → GroupView → Type 0
Notes true kind variable question old new = (new ≡ record old { refuted = new.refuted })
    × Closes kind variable question old.refuted new.refuted
Notes false kind variable question old new = (new ≡ record old { undecided = new.undecided })
    × Closes kind variable question old.undecided new.undecided

-- the answer of a question is noted in the group
pub record Answers (s : StateView) (question : List Word) (refuted : Bool) (t : StateView) : Type 0 where
  pub rest : t ≡ record s { group = t.group }
  pub noted : Notes refuted s.layout.kind (present s.layout.kind s.next) question s.group t.group

-- an installation is the latest one, and adds to the group
pub record Installs (s : StateView) (variables : List ℕ) (t : StateView) : Type 0 where
  pub rest : t ≡ record s {
    window = record s.window { kept = latest (s.window.kept ++ variables ∷ []); count = s.window.count + 1 };
    group = t.group;
  }
  pub grows : Grows s.layout.kind s.layout (present s.layout.kind s.next) variables s.group t.group

-- a claim ends the group
abbrev pub after_claim : StateView → List Claim → StateView
after_claim s made = record s { next = s.next + 1; group = empty_group; claims = s.claims ++ made }

-- what is noted behind a claim or the end
abbrev pub after_line : StateView → CertRecord → StateView
after_line s (lines.NotInstallable p) = after_claim s (claim_in (lines.NotInstallable p))
after_line s (lines.Unknown p) = after_claim s (claim_in (lines.Unknown p))
after_line s (lines.Strong p named on undecided) = after_claim s (claim_in (lines.Strong p named on undecided))
after_line s (lines.Outdated p) = after_claim s (claim_in (lines.Outdated p))
after_line s (lines.Alive p number) = after_claim s (claim_in (lines.Alive p number))
after_line s (lines.Challenged p named by undecided) =
    after_claim s (claim_in (lines.Challenged p named by undecided))
after_line s step = s
