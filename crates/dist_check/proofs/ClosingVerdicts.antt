-- The same of lines that close a question as undecided, of claims that are no strong ones, and of the end.
use Rattle.std.proofs.Common.{◌≡◌, ◌≢◌, ◌⊎◌, ◌↔◌, ◌&&◌, not, inl, inr, ℕ, ◌+◌, ◌<◌, ◌≤◌, Bool, true, false, List, [], ◌∷◌}
use Rattle.std.proofs.Common.{Option, Some, None, refl}
use Rattle.std.proofs.Common.{sym, ap}
use Rattle.std.proofs.Common.{subst, ◌∙◌, arith}
use Rattle.std.specs.List.{Any}
use Rattle.std.proofs.lemmas.Bool.{false≢true, and_parts, and_cases, eqb-true, eqb-false, leb-true, leb-false}
use Rattle.std.proofs.lemmas.List.Elements.{All-cons, All-nil}
use Rattle.dist_base.specs.ListLaws.{any-cases, any-head}
use Rattle.dist_cert.specs.declared.faults.CertCause.{CertCause}
use Rattle.dist_cert.specs.declared.faults.CertCause.TheVariants as causes
use Rattle.dist_cert.specs.declared.records.CertKind.{CertKind}
use Rattle.dist_cert.specs.declared.records.CertKind.TheVariants as kinds
use Rattle.dist_cert.specs.declared.records.CertRecord.{CertRecord}
use Rattle.dist_cert.specs.declared.records.CertRecord.TheVariants as lines
use Rattle.dist_cert.specs.declared.records.Header.{Header}
use Rattle.dist_cert.specs.Groups.{claim_count, is_claim, group, IsRefutedIn, IsUndecidedIn}
use Rattle.dist_cert.specs.Subject.{Matter}
use Rattle.dist_cert.specs.ClaimRules.{yes, claim_question, HoldsClaim, IsNamed}
use Rattle.dist_cert.specs.LineRules.{HasRecordFault}
use Rattle.dist_check_group.specs.Layout.{present}
use Rattle.dist_check_group.specs.Window.{has_member, kept_at}
use Rattle.dist_check_state.specs.State.{StateView, is_next, is_outdated, holds_alive, holds_outdated, holds_uninstallable}
use Rattle.dist_check_state.specs.State.{TellsClaim, TellsEnd, TellsListed}
use Rattle.dist_check.specs.AtPrivate.{IsAt, own_question}
use Rattle.dist_check.proofs.WindowLemmas.{member-tests}
use Rattle.dist_line_check.specs.FirstFaultLaws.{rank, may_have, faultless_from, first_from}
use Rattle.dist_line_check.specs.VerdictLaws.{IsVerdict}

-- ---- the end

pub end-verdict : (matter : Matter) (h : Header) (before : List CertRecord) (s : StateView)
    → IsAt matter h before s → (found : Option CertCause)
    → TellsEnd s.next s.packages found → IsVerdict matter h before lines.End found
end-verdict matter h before s at None told = faultless_from matter h before lines.End none
  where
    none : (cause : CertCause) → may_have lines.End cause ≡ true → ¬ HasRecordFault matter h before lines.End cause
    none causes.Incomplete may fault = omega (arith, told, fault, at.next, at.packages)
    none cause may fault = false≢true may
end-verdict matter h before s at (Some causes.Incomplete) told =
    first_from matter h before lines.End causes.Incomplete (omega (arith, told, at.next, at.packages)) none
  where
    none : (cause : CertCause) → may_have lines.End cause ≡ true → rank cause < 13 → ¬ HasRecordFault matter h before lines.End cause
    none causes.Incomplete may below fault = omega (arith, below)
    none cause may below fault = false≢true may
end-verdict matter h before s at (Some cause) told = absurd told

-- ---- claims

-- a package that is not the next one, or is above the last
abbrev pub IsWrongNumber : List CertRecord → Matter → ℕ → Type 0
IsWrongNumber before matter p = (p ≢ claim_count before + 1) ⊎ (matter.packages < p)

pub right-number : (matter : Matter) (h : Header) (before : List CertRecord) (s : StateView) → IsAt matter h before s → (p : ℕ)
    → is_next s.next s.packages p ≡ true → ¬ Any (IsWrongNumber before matter) (p ∷ [])
right-number matter h before s at p next wrong =
    let parts = and_parts _ _ next in
    let same = eqb-true p s.next parts.0 in
    let low = leb-true p s.packages parts.1 in
    elim (any-cases (IsWrongNumber before matter) p [] wrong) [
      | inl here ↦ elim here [
        | inl other ↦ other (same ∙ at.next)
        | inr high ↦ omega (arith, high, low, at.packages)
      ]
      | inr none ↦ omega (arith, none.2)
    ]

pub wrong-number : (matter : Matter) (h : Header) (before : List CertRecord) (s : StateView) → IsAt matter h before s → (p : ℕ)
    → is_next s.next s.packages p ≡ false → Any (IsWrongNumber before matter) (p ∷ [])
wrong-number matter h before s at p next = any-head (IsWrongNumber before matter) p [] (elim (and_cases _ _ next) [
  | inl other ↦ inl (λ e. eqb-false p s.next other (e ∙ sym at.next))
  | inr high ↦ inr (omega (arith, leb-false p s.packages high, at.packages))
])

-- What the claim is on, as far as its number goes.
pub record IsOn (matter : Matter) (h : Header) (before : List CertRecord) (step : CertRecord) (p : ℕ) : Type 0 where
  pub claim : is_claim step ≡ true
  pub number : HasRecordFault matter h before step causes.OutOfOrder → Any (IsWrongNumber before matter) (p ∷ [])
  pub from_number : Any (IsWrongNumber before matter) (p ∷ []) → HasRecordFault matter h before step causes.OutOfOrder
  pub may : (cause : CertCause) → may_have step cause ≡ true → (cause ≡ causes.OutOfOrder) ⊎ ((cause ≡ causes.WrongClaim) ⊎ (cause ≡ causes.Incomplete))

pub number-verdict : (matter : Matter) (h : Header) (before : List CertRecord) (s : StateView)
    → IsAt matter h before s → (step : CertRecord) (p : ℕ) → IsOn matter h before step p
    → is_next s.next s.packages p ≡ false → IsVerdict matter h before step (Some causes.OutOfOrder)
number-verdict matter h before s at step p on next =
    let Fault : CertCause → Type 0 = HasRecordFault matter h before step in
    first_from matter h before step causes.OutOfOrder (on.from_number (wrong-number matter h before s at p next))
    (λ cause may below. elim (on.may cause may) [
      | inl order ↦ let e : rank cause ≡ 5 = ap rank order in omega (arith, below, e)
      | inr (inl wrong) ↦ let e : rank cause ≡ 12 = ap rank wrong in omega (arith, below, e)
      | inr (inr incomplete) ↦ let e : rank cause ≡ 13 = ap rank incomplete in omega (arith, below, e)
    ])

pub wrong-verdict : (matter : Matter) (h : Header) (before : List CertRecord) (s : StateView)
    → IsAt matter h before s → (step : CertRecord) (p : ℕ) → IsOn matter h before step p
    → is_next s.next s.packages p ≡ true → ¬ HoldsClaim matter h.kind before step
    → IsVerdict matter h before step (Some causes.WrongClaim)
wrong-verdict matter h before s at step p on next never =
    let Fault : CertCause → Type 0 = HasRecordFault matter h before step in
    first_from matter h before step causes.WrongClaim
    (on.claim, never) (λ cause may below. elim (on.may cause may) [
      | inl order ↦ λ fault. right-number matter h before s at p next (on.number (subst Fault order fault))
      | inr (inl wrong) ↦ let e : rank cause ≡ 12 = ap rank wrong in λ fault. omega (arith, below, e)
      | inr (inr incomplete) ↦ let e : rank cause ≡ 13 = ap rank incomplete in λ fault. omega (arith, below, e)
    ])

pub right-verdict : (matter : Matter) (h : Header) (before : List CertRecord) (s : StateView)
    → IsAt matter h before s → (step : CertRecord) (p : ℕ) → IsOn matter h before step p
    → is_next s.next s.packages p ≡ true → HoldsClaim matter h.kind before step
    → ¬ HasRecordFault matter h before step causes.Incomplete → IsVerdict matter h before step None
right-verdict matter h before s at step p on next holds whole =
    let Fault : CertCause → Type 0 = HasRecordFault matter h before step in
    faultless_from matter h before step (λ cause may fault. elim (on.may cause may) [
      | inl order ↦ right-number matter h before s at p next (on.number (subst Fault order fault))
      | inr (inl wrong) ↦ (subst Fault wrong fault).1 holds
      | inr (inr incomplete) ↦ whole (subst Fault incomplete fault)
    ])

pub incomplete-verdict : (matter : Matter) (h : Header) (before : List CertRecord) (s : StateView)
    → IsAt matter h before s → (step : CertRecord) (p : ℕ) → IsOn matter h before step p
    → is_next s.next s.packages p ≡ true → HoldsClaim matter h.kind before step
    → HasRecordFault matter h before step causes.Incomplete
    → IsVerdict matter h before step (Some causes.Incomplete)
incomplete-verdict matter h before s at step p on next holds omits =
    let Fault : CertCause → Type 0 = HasRecordFault matter h before step in
    first_from matter h before step causes.Incomplete omits (λ cause may below. elim (on.may cause may) [
      | inl order ↦ λ fault. right-number matter h before s at p next (on.number (subst Fault order fault))
      | inr (inl wrong) ↦ λ fault. (subst Fault wrong fault).1 holds
      | inr (inr incomplete) ↦ let e : rank cause ≡ 13 = ap rank incomplete in λ fault. omega (arith, below, e)
    ])

-- the causes that a claim may have
claim-causes : (step : CertRecord) (cause : CertCause) → is_claim step ≡ true → may_have step cause ≡ true → (cause ≡ causes.OutOfOrder)
    ⊎ ((cause ≡ causes.WrongClaim) ⊎ (cause ≡ causes.Incomplete))
claim-causes step causes.OutOfOrder claim may = inl refl
claim-causes step causes.WrongClaim claim may = inr (inl refl)
claim-causes step causes.Incomplete claim may = inr (inr refl)
claim-causes (lines.NotInstallable p) cause claim may = absurd (false≢true may)
claim-causes (lines.Unknown p) cause claim may = absurd (false≢true may)
claim-causes (lines.Strong p named on undecided) cause claim may = absurd (false≢true may)
claim-causes (lines.Outdated p) cause claim may = absurd (false≢true may)
claim-causes (lines.Alive p i) cause claim may = absurd (false≢true may)
claim-causes (lines.Challenged p named by undecided) cause claim may = absurd (false≢true may)
claim-causes step cause claim may = absurd (false≢true claim)

on-installable : (matter : Matter) (h : Header) (before : List CertRecord) (p : ℕ)
    → IsOn matter h before (lines.NotInstallable p) p
on-installable matter h before p = record {
  claim = refl;
  number = λ f. f;
  from_number = λ f. f;
  may = λ cause. claim-causes (lines.NotInstallable p) cause refl;
}

on-unknown : (matter : Matter) (h : Header) (before : List CertRecord) (p : ℕ) → IsOn matter h before (lines.Unknown p) p
on-unknown matter h before p = record { claim = refl; number = λ f. f; from_number = λ f. f; may = λ cause. claim-causes (lines.Unknown p) cause refl }

pub on-strong : (matter : Matter) (h : Header) (before : List CertRecord) (p : ℕ) (named on undecided : List ℕ)
    → IsOn matter h before (lines.Strong p named on undecided) p
on-strong matter h before p named on undecided = record {
  claim = refl;
  number = λ f. f;
  from_number = λ f. f;
  may = λ cause. claim-causes (lines.Strong p named on undecided) cause refl;
}

on-outdated : (matter : Matter) (h : Header) (before : List CertRecord) (p : ℕ) → IsOn matter h before (lines.Outdated p) p
on-outdated matter h before p = record { claim = refl; number = λ f. f; from_number = λ f. f; may = λ cause. claim-causes (lines.Outdated p) cause refl }

on-alive : (matter : Matter) (h : Header) (before : List CertRecord) (p i : ℕ) → IsOn matter h before (lines.Alive p i) p
on-alive matter h before p i = record { claim = refl; number = λ f. f; from_number = λ f. f; may = λ cause. claim-causes (lines.Alive p i) cause refl }

pub on-challenged : (matter : Matter) (h : Header) (before : List CertRecord) (p : ℕ) (named : List ℕ) (by undecided : List (ℕ × ℕ))
    → IsOn matter h before (lines.Challenged p named by undecided) p
on-challenged matter h before p named by undecided = record {
  claim = refl;
  number = λ f. f;
  from_number = λ f. f;
  may = λ cause. claim-causes (lines.Challenged p named by undecided) cause refl;
}

-- a claim without lists, whose rules are told by a test
pub claim-verdict : (matter : Matter) (h : Header) (before : List CertRecord) (s : StateView)
    → IsAt matter h before s → (step : CertRecord) (p : ℕ) → IsOn matter h before step p
    → (holds : Bool) → (is_next s.next s.packages p ≡ true → (holds ≡ true) ↔ HoldsClaim matter h.kind before step)
    → ¬ HasRecordFault matter h before step causes.Incomplete
    → (found : Option CertCause) → TellsClaim (is_next s.next s.packages p) holds found → IsVerdict matter h before step found
claim-verdict matter h before s at step p on holds rules whole None told =
    right-verdict matter h before s at step p on told.0 ((rules told.0).0 told.1) whole
claim-verdict matter h before s at step p on holds rules whole (Some causes.OutOfOrder) told = number-verdict matter h before s at step p on told
claim-verdict matter h before s at step p on holds rules whole (Some causes.WrongClaim) told =
    wrong-verdict matter h before s at step p on told.0 (λ h. false≢true (sym told.1 ∙ (rules told.0).1 h))
claim-verdict matter h before s at step p on holds rules whole (Some cause) told = absurd told

-- a claim with lists, which is of the certificate's kind or is not
pub listed-verdict : (matter : Matter) (h : Header) (before : List CertRecord) (s : StateView)
    → IsAt matter h before s → (step : CertRecord) (p : ℕ) → IsOn matter h before step p
    → (of_kind : Bool) (Rules : Option CertCause → Type 0) → (of_kind ≡ false → ¬ HoldsClaim matter h.kind before step)
    → (is_next s.next s.packages p ≡ true → of_kind ≡ true → (found : Option CertCause) → Rules found → IsVerdict matter h before step found)
    → (found : Option CertCause) → TellsListed (is_next s.next s.packages p) of_kind Rules found → IsVerdict matter h before step found
listed-verdict matter h before s at step p on of_kind Rules never right found told = by (is_next s.next s.packages p) refl of_kind refl told
  where
    by : (b : Bool) → is_next s.next s.packages p ≡ b → (k : Bool) → of_kind ≡ k → TellsListed b k Rules found → IsVerdict matter h before step found
    by true next true kind t = right next kind found t
    by true next false kind t =
        subst (IsVerdict matter h before step) (sym t) (wrong-verdict matter h before s at step p on next (never kind))
    by false next k kind t = subst (IsVerdict matter h before step) (sym t) (number-verdict matter h before s at step p on next)

-- ---- the package and the variable of the next claim

pub next-is : (next packages p : ℕ) → is_next next packages p ≡ true → next ≡ p
next-is next packages p is = sym (eqb-true p next (and_parts _ _ is).0)

pub next-within : (next packages p : ℕ) → is_next next packages p ≡ true → p ≤ packages
next-within next packages p is = leb-true p packages (and_parts _ _ is).1

-- the next package has its variable
pub present-next : (matter : Matter) (h : Header) (before : List CertRecord) (s : StateView) → IsAt matter h before s → (p : ℕ)
    → is_next s.next s.packages p ≡ true → present s.layout.kind s.next ≡ matter.present p
present-next matter h before s at p next =
    let same = next-is s.next s.packages p next in
    let low : p ≤ s.packages = next-within s.next s.packages p next in
    ap (λ (n : ℕ). present s.layout.kind n) same
    ∙ at.layout.present_is p (omega (arith, same, at.next)) (omega (arith, low, at.packages))

own-claim : (matter : Matter) (kind : CertKind) (p : ℕ) → present kind p ≡ matter.present p → own_question kind (present kind p) ≡ claim_question matter kind p
own-claim matter kinds.Strong p is = refl
own-claim matter kinds.Outdated p is = ap (λ (v : ℕ). yes v ∷ []) is
own-claim matter kinds.Challenged p is = ap (λ (v : ℕ). yes 1 ∷ yes v ∷ []) is

-- the own question of the next claim
pub own-next : (matter : Matter) (h : Header) (before : List CertRecord) (s : StateView) → IsAt matter h before s → (p : ℕ)
    → is_next s.next s.packages p ≡ true → own_question s.layout.kind (present s.layout.kind s.next) ≡ claim_question matter h.kind p
own-next matter h before s at p next =
    let same = next-is s.next s.packages p next in
    let is : present s.layout.kind p ≡ matter.present p = ap (λ (n : ℕ). present s.layout.kind n) (sym same) ∙ present-next matter h before s at p next in
    ap (λ (n : ℕ). own_question s.layout.kind (present s.layout.kind n)) same ∙ own-claim matter s.layout.kind p is
    ∙ ap (λ (k : CertKind). claim_question matter k p) at.kind

-- ---- each claim without lists

-- where a test says that its own question was closed, the claims do
installable-holds : (matter : Matter) (kind : CertKind) (before : List CertRecord) (p : ℕ) (alone : Bool)
    → ((alone ≡ true) ↔ IsRefutedIn (group before) (claim_question matter kind p))
    → ((not (is_outdated kind) && alone) ≡ true) ↔ HoldsClaim matter kind before (lines.NotInstallable p)
installable-holds matter kinds.Strong before p alone is = is
installable-holds matter kinds.Outdated before p alone is = ((λ e. false≢true e), λ holds. absurd holds)
installable-holds matter kinds.Challenged before p alone is = is

outdated-holds : (matter : Matter) (kind : CertKind) (before : List CertRecord) (p : ℕ) (alone : Bool)
    → ((alone ≡ true) ↔ IsRefutedIn (group before) (claim_question matter kind p))
    → ((is_outdated kind && alone) ≡ true) ↔ HoldsClaim matter kind before (lines.Outdated p)
outdated-holds matter kinds.Strong before p alone is = ((λ e. false≢true e), λ holds. absurd holds)
outdated-holds matter kinds.Outdated before p alone is = is
outdated-holds matter kinds.Challenged before p alone is = ((λ e. false≢true e), λ holds. absurd holds)

unknown-holds : (matter : Matter) (kind : CertKind) (before : List CertRecord) (p : ℕ) (alone : Bool)
    → ((alone ≡ true) ↔ IsUndecidedIn (group before) (claim_question matter kind p)) → (alone ≡ true) ↔ HoldsClaim matter kind before (lines.Unknown p)
unknown-holds matter kinds.Strong before p alone is = is
unknown-holds matter kinds.Outdated before p alone is = is
unknown-holds matter kinds.Challenged before p alone is = is

alive-holds : (matter : Matter) (kind : CertKind) (before : List CertRecord) (p number : ℕ) (has : Bool)
    → ((has ≡ true) ↔ IsNamed before (matter.present p) number)
    → ((is_outdated kind && has) ≡ true) ↔ HoldsClaim matter kind before (lines.Alive p number)
alive-holds matter kinds.Strong before p number has is = ((λ e. false≢true e), λ holds. absurd holds)
alive-holds matter kinds.Outdated before p number has is = is
alive-holds matter kinds.Challenged before p number has is = ((λ e. false≢true e), λ holds. absurd holds)

refuted-next : (matter : Matter) (h : Header) (before : List CertRecord) (s : StateView) → IsAt matter h before s → (p : ℕ)
    → is_next s.next s.packages p ≡ true → (s.group.refuted.alone ≡ true) ↔ IsRefutedIn (group before) (claim_question matter h.kind p)
refuted-next matter h before s at p next =
    subst (λ q. (s.group.refuted.alone ≡ true) ↔ IsRefutedIn (group before) q) (own-next matter h before s at p next) at.group_is.refuted.alone

undecided-next : (matter : Matter) (h : Header) (before : List CertRecord) (s : StateView) → IsAt matter h before s → (p : ℕ)
    → is_next s.next s.packages p ≡ true → (s.group.undecided.alone ≡ true) ↔ IsUndecidedIn (group before) (claim_question matter h.kind p)
undecided-next matter h before s at p next =
    subst (λ q. (s.group.undecided.alone ≡ true) ↔ IsUndecidedIn (group before) q) (own-next matter h before s at p next) at.group_is.undecided.alone

pub installable-verdict : (matter : Matter) (h : Header) (before : List CertRecord) (s : StateView)
    → IsAt matter h before s → (p : ℕ) (found : Option CertCause)
    → TellsClaim (is_next s.next s.packages p) (holds_uninstallable s) found → IsVerdict matter h before (lines.NotInstallable p) found
installable-verdict matter h before s at p found told =
    claim-verdict matter h before s at (lines.NotInstallable p) p (on-installable matter h before p) (holds_uninstallable s)
    (λ next. subst (λ k. ((not (is_outdated k) && s.group.refuted.alone) ≡ true) ↔ HoldsClaim matter h.kind before (lines.NotInstallable p)) (sym at.kind)
    (installable-holds matter h.kind before p s.group.refuted.alone (refuted-next matter h before s at p next))) (λ fault. fault) found told

pub outdated-verdict : (matter : Matter) (h : Header) (before : List CertRecord) (s : StateView)
    → IsAt matter h before s → (p : ℕ) (found : Option CertCause)
    → TellsClaim (is_next s.next s.packages p) (holds_outdated s) found → IsVerdict matter h before (lines.Outdated p) found
outdated-verdict matter h before s at p found told =
    claim-verdict matter h before s at (lines.Outdated p) p (on-outdated matter h before p) (holds_outdated s)
    (λ next. subst (λ k. ((is_outdated k && s.group.refuted.alone) ≡ true) ↔ HoldsClaim matter h.kind before (lines.Outdated p)) (sym at.kind)
    (outdated-holds matter h.kind before p s.group.refuted.alone (refuted-next matter h before s at p next))) (λ fault. fault) found told

pub unknown-verdict : (matter : Matter) (h : Header) (before : List CertRecord) (s : StateView)
    → IsAt matter h before s → (p : ℕ) (found : Option CertCause)
    → TellsClaim (is_next s.next s.packages p) s.group.undecided.alone found → IsVerdict matter h before (lines.Unknown p) found
unknown-verdict matter h before s at p found told =
    claim-verdict matter h before s at (lines.Unknown p) p (on-unknown matter h before p) s.group.undecided.alone
    (λ next. unknown-holds matter h.kind before p s.group.undecided.alone (undecided-next matter h before s at p next)) (λ fault. fault) found told

pub alive-verdict : (matter : Matter) (h : Header) (before : List CertRecord) (s : StateView)
    → IsAt matter h before s → (p number : ℕ) → 1 ≤ number → (found : Option CertCause)
    → TellsClaim (is_next s.next s.packages p) (holds_alive s p number) found → IsVerdict matter h before (lines.Alive p number) found
alive-verdict matter h before s at p number from_one found told =
    claim-verdict matter h before s at (lines.Alive p number) p (on-alive matter h before p number) (holds_alive s p number)
    (λ next. subst (λ k. ((is_outdated k && has_member (kept_at s.window number) (present s.layout.kind p)) ≡ true)
    ↔ HoldsClaim matter h.kind before (lines.Alive p number)) (sym at.kind)
    (alive-holds matter h.kind before p number (has_member (kept_at s.window number) (present s.layout.kind p)) (named next))) (λ fault. fault) found told
  where
    named : is_next s.next s.packages p ≡ true
        → (has_member (kept_at s.window number) (present s.layout.kind p) ≡ true) ↔ IsNamed before (matter.present p) number
    named next =
        let same = next-is s.next s.packages p next in
        let is : present s.layout.kind p ≡ matter.present p = ap (λ (n : ℕ). present s.layout.kind n) (sym same) ∙ present-next matter h before s at p next in
        subst (λ v. (has_member (kept_at s.window number) v ≡ true) ↔ IsNamed before (matter.present p) number) (sym is)
        (member-tests matter h before s at (number ∷ []) (All-cons (λ n. 1 ≤ n) number [] from_one (All-nil (λ n. 1 ≤ n))) (matter.present p) number
        (0, omega arith, refl))
