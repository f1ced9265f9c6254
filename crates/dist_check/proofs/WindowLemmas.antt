-- The installations that are kept, by their numbers.
use Rattle.std.proofs.Common.{◌≡◌, inl, inr, ℕ, ◌+◌, ◌-◌, ◌<◌, ◌≤◌, Bool, true, false, List, Option, Some, None, length, get_or, sym, ap, ◌∙◌, arith}
use Rattle.std.proofs.Common.{[], refl, nat_le, slice_get, if◌then◌else◌}
use Rattle.std.proofs.lemmas.Bool.{true≢false, false≢true, cases_lt, le-leb, lt-leb}
use Rattle.std.proofs.lemmas.List.{get_or-drop, length-drop}
use Rattle.std.proofs.lemmas.List.Elements.{All-contains}
use Rattle.std.proofs.lemmas.Option.{slice_get-get_or, slice_get_past}
use Rattle.dist_cert.specs.declared.TheConstants.{REACH}
use Rattle.dist_cert.specs.declared.records.CertRecord.{CertRecord}
use Rattle.dist_cert.specs.declared.records.Header.{Header}
use Rattle.dist_cert.specs.ClaimRules.{IsNamed}
use Rattle.dist_cert.specs.Form.{AreFromOne}
use Rattle.dist_cert.specs.Groups.{installations, installation_at, IsRecent}
use Rattle.dist_cert.specs.ListLaws.{any-from, from-any}
use Rattle.dist_cert.specs.Subject.{Matter}
use Rattle.dist_check_group.specs.Window.{kept_at, has_member}
use Rattle.dist_check_state.specs.State.{StateView}
use Rattle.dist_check.specs.AtPrivate.{IsAt}
use Rattle.dist_check.proofs.TestLemmas.{Tests}
use Rattle.dist_line_check.specs.ToldLaws.{IsTold, most-told, less-told}

recent-told : (before : List CertRecord) (number : ℕ) → IsTold (IsRecent before number)
recent-told before number = elim (most-told 1 number) [
  | inr low ↦ inr (λ h. low h.0)
  | inl first ↦ elim (most-told number (length (installations before))) [
    | inr high ↦ inr (λ h. high h.1)
    | inl last ↦ elim (less-told (length (installations before)) (number + REACH)) [
      | inr old ↦ inr (λ h. old h.2)
      | inl late ↦ inl (first, last, late)
    ]
  ]
]

-- how many installations are kept no longer
forgotten-is : (matter : Matter) (h : Header) (before : List CertRecord) (s : StateView) → IsAt matter h before s
    → s.window.count - length s.window.kept ≡ length (installations before) - REACH
forgotten-is matter h before s at =
    let size : length s.window.kept ≡ length (installations before) - (length (installations before) - REACH)
    = ap (λ (xs : List (List ℕ)). length xs) at.kept ∙ length-drop (length (installations before) - REACH) (installations before) in
    omega (arith, size, at.count)

if-false : {X : Type 0} (b : Bool) (x y : X) → b ≡ false → (if b then x else y) ≡ y
if-false true x y e = absurd (true≢false e)
if-false false x y e = refl

if-true : {X : Type 0} (b : Bool) (x y : X) → b ≡ true → (if b then x else y) ≡ x
if-true true x y e = refl
if-true false x y e = absurd (false≢true e)

pub kept-recent : (matter : Matter) (h : Header) (before : List CertRecord) (s : StateView) → IsAt matter h before s → (number : ℕ)
    → IsRecent before number
    → kept_at s.window number ≡ Some (installation_at before number)
kept-recent matter h before s at number recent =
    let all = installations before in
    let forgotten : ℕ = s.window.count - length s.window.kept in
    let is : forgotten ≡ length all - REACH = forgotten-is matter h before s at in
    let size : length s.window.kept ≡ length all - (length all - REACH) = ap (λ (xs : List (List ℕ)). length xs) at.kept
    ∙ length-drop (length all - REACH) all in
    let place : ℕ = number - forgotten - 1 in
    let within : place < length s.window.kept = omega (arith, is, size, recent.0, recent.1, recent.2) in
    let later : nat_le number forgotten ≡ false = lt-leb number forgotten (omega (arith, is, recent.2, recent.0)) in
    if-false (nat_le number forgotten) None (slice_get s.window.kept place) later
    ∙ slice_get-get_or s.window.kept place [] within
    ∙ ap (λ (m : List ℕ). Some m) (ap (λ (xs : List (List ℕ)). get_or xs place []) at.kept ∙ get_or-drop (length all - REACH) all place []
    ∙ ap (λ (k : ℕ). get_or all k []) (let e : length all - REACH + place ≡ number - 1 = omega (arith, is, recent.0, recent.2) in e))

kept-old : (matter : Matter) (h : Header) (before : List CertRecord) (s : StateView) → IsAt matter h before s → (number : ℕ)
    → 1 ≤ number → ¬ IsRecent before number
    → kept_at s.window number ≡ None
kept-old matter h before s at number from old =
    let all = installations before in
    let forgotten : ℕ = s.window.count - length s.window.kept in
    let is : forgotten ≡ length all - REACH = forgotten-is matter h before s at in
    let size : length s.window.kept ≡ length all - (length all - REACH) = ap (λ (xs : List (List ℕ)). length xs) at.kept
    ∙ length-drop (length all - REACH) all in
    elim (cases_lt forgotten number) [
      | inr early ↦ if-true (nat_le number forgotten) None (slice_get s.window.kept (number - forgotten - 1)) (le-leb number forgotten early)
      | inl late ↦
          if-false (nat_le number forgotten) None (slice_get s.window.kept (number - forgotten - 1)) (lt-leb number forgotten late)
          ∙ slice_get_past s.window.kept (number - forgotten - 1) (elim (cases_lt (length all) number) [
            | inl high ↦ omega (arith, is, size, high, late)
            | inr low ↦ absurd (old (from, low, omega (arith, is, late)))
          ])
    ]

-- a member of a recent installation
pub member-tests : (matter : Matter) (h : Header) (before : List CertRecord) (s : StateView) → IsAt matter h before s
    → (named : List ℕ) → AreFromOne named → (q : ℕ)
    → Tests (λ number. has_member (kept_at s.window number) q) (IsNamed before q) named
member-tests matter h before s at named from_one q number there = elim (recent-told before number) [
  | inl recent ↦
      let is = ap (λ (kept : Option (List ℕ)). has_member kept q) (kept-recent matter h before s at number recent) in
      ((λ e. (recent, from-any q (installation_at before number) (sym is ∙ e))), λ h. is ∙ any-from q (installation_at before number) h.1)
  | inr old ↦
      let is = ap (λ (kept : Option (List ℕ)). has_member kept q)
      (kept-old matter h before s at number (All-contains (λ n. 1 ≤ n) named number from_one there) old) in
      ((λ e. absurd (false≢true (sym is ∙ e))), λ h. absurd (old h.0))
]
