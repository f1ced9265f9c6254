-- The same of claims on strong dependencies.
use Rattle.std.proofs.Common.{◌≡◌, ◌≢◌, inl, inr, ⊎_elim, ℕ, ◌<◌, ◌≤◌, ◌↔◌, ◌==◌, ◌&&◌, Bool, true, false, not, List, [], ◌∷◌, ◌++◌, Option, Some}
use Rattle.std.proofs.Common.{None, length, get_or, refl, sym, ap, subst, ◌∙◌, arith, nat_le, unwrap_or}
use Rattle.std.specs.List.{All, Contains, list_all}
use Rattle.std.proofs.lemmas.Bool.{true≢false, false≢true, and_parts, and_from, cases_lt, eqb-false, ne_eqb, not-true, not_from_false}
use Rattle.std.proofs.lemmas.Bool.{false_from_ne_true}
use Rattle.std.proofs.lemmas.List.Elements.{All-append, All-contains, All-head, Contains-append_left, Contains-append_right, Contains-append_cases}
use Rattle.dist_base.specs.ListLaws.{all-contained}
use Rattle.dist_cert.specs.declared.faults.CertCause.{CertCause}
use Rattle.dist_cert.specs.declared.faults.CertCause.TheVariants as causes
use Rattle.dist_cert.specs.declared.records.CertKind.{CertKind}
use Rattle.dist_cert.specs.declared.records.CertKind.TheVariants as kinds
use Rattle.dist_cert.specs.declared.records.CertRecord.{CertRecord}
use Rattle.dist_cert.specs.declared.records.CertRecord.TheVariants as lines
use Rattle.dist_cert.specs.declared.records.Header.{Header}
use Rattle.dist_cert.specs.Form.{AreFromOne, record_text, HasForm, KeepsRules}
use Rattle.dist_cert.specs.Groups.{installations, installation_at, group, IsRefutedIn, IsUndecidedIn}
use Rattle.dist_cert.specs.GroupLaws.{all-at}
use Rattle.dist_cert.specs.Subject.{Matter}
use Rattle.dist_cert.specs.ClaimRules.{yes, no, IsNamed, IsInEach, HoldsClaim, HoldsStrong, OmitsPackage}
use Rattle.dist_cert.specs.Rising.{is_among}
use Rattle.dist_check_group.specs.Window.{kept_at, has_member}
use Rattle.dist_check_group.specs.Group.{candidates, in_each, is_always, PassesStrong, TellsRules, omits_package}
use Rattle.dist_check_group.specs.Layout.{present}
use Rattle.dist_check_state.specs.State.{StateView, is_next, is_strong, TellsListed}
use Rattle.dist_check.specs.AtPrivate.{IsCommonOf, IsGathered, IsAt}
use Rattle.dist_check.proofs.ClosingVerdicts.{on-strong, listed-verdict, next-is, wrong-verdict, right-verdict, incomplete-verdict}
use Rattle.dist_check.proofs.WindowLemmas.{kept-recent, member-tests}
use Rattle.dist_check.proofs.GroupLemmas.{line-of, recent-there}
use Rattle.dist_judge.specs.LineLaws.{HaveForms}
use Rattle.dist_line_check.specs.LinesAt.{AreRight}
use Rattle.dist_cert.specs.ListLaws.{any-from, from-any}
use Rattle.dist_check.proofs.TestLemmas.{Tests, all-tested, any-tested, none-tested, among-tests, other-tests}
use Rattle.dist_line_check.specs.ToldLaws.{stable, most-told, less-told}
use Rattle.dist_line_check.specs.VerdictLaws.{IsVerdict}

-- the package is in each named installation
abbrev pub InNamed : List CertRecord → List ℕ → ℕ → Type 0
InNamed before named q = All (λ number. Contains (installation_at before number) q) named

in-named : (matter : Matter) (h : Header) (before : List CertRecord) (s : StateView) → IsAt matter h before s
    → (named : List ℕ) → AreFromOne named → (p : ℕ) → All (IsNamed before p) named → (q : ℕ)
    → (in_each s.window named q ≡ true) ↔ InNamed before named q
in-named matter h before s at named from_one p names q =
    let tested = all-tested (λ number. has_member (kept_at s.window number) q) (IsNamed before q) named
    (member-tests matter h before s at named from_one q) in
    ((λ e k d within. (tested.0 e k d within).1), λ all. tested.1 (λ k d within. ((names k d within).0, all k d within)))

-- ---- what is in all of a claim's installations

GroupHas : List CertRecord → ℕ → ℕ → Type 0
GroupHas before p q = All (λ m. Contains m p → Contains m q) (installations (group before))

-- the first list that is looked at
candidates-there : (matter : Matter) (h : Header) (before : List CertRecord) (s : StateView) → IsAt matter h before s
    → (named : List ℕ) (p : ℕ) → 0 < length named → All (IsNamed before p) named
    → (common : Option (List ℕ)) → IsCommonOf (installations (group before)) p common → (q : ℕ) → InNamed before named q
    → Contains (candidates s.window common named) q ↔ GroupHas before p q
unfolding GroupHas
candidates-there matter h before s at named p some names (Some common) is q in_all = is.1 q
candidates-there matter h before s at [] p some names None is q in_all = absurd (omega (arith, some))
candidates-there matter h before s at (number ∷ named) p some names None is q in_all =
    let kept = kept-recent matter h before s at number (All-head (IsNamed before p) number named names).0 in
    let first = All-head (λ n. Contains (installation_at before n) q) number named in_all in (
      (λ there k d within holds. absurd (is k d within holds)),
      λ all. subst (λ (found : Option (List ℕ)). Contains (unwrap_or found []) q) (sym kept) first,
    )

always-is : (matter : Matter) (h : Header) (before : List CertRecord) (s : StateView) → IsAt matter h before s
    → (named : List ℕ) → AreFromOne named → (p : ℕ) → 0 < length named
    → All (IsNamed before p) named → (common : Option (List ℕ)) → IsCommonOf (installations (group before)) p common → (q : ℕ)
    → (is_always s.window common named q ≡ true) ↔ IsInEach before named p q
unfolding GroupHas
always-is matter h before s at named from_one p some names common is q =
    let each = in-named matter h before s at named from_one p names q in (
      (λ e.
          let parts = and_parts (is_among (candidates s.window common named) q) (in_each s.window named q) e in
          let in_all = each.0 parts.1 in
          (in_all, (candidates-there matter h before s at named p some names common is q in_all).0 (from-any q (candidates s.window common named) parts.0))),
      λ holds.
          and_from (is_among (candidates s.window common named) q) (in_each s.window named q)
          (any-from q (candidates s.window common named) ((candidates-there matter h before s at named p some names common is q holds.0).1 holds.1))
          (each.1 holds.0),
    )

-- ---- the rules

-- What is known where a claim on the next package is looked at.
record IsClaimed (matter : Matter) (h : Header) (before : List CertRecord) (s : StateView) (p : ℕ) (named : List ℕ) : Type 0
  where
    at : IsAt matter h before s
    right : AreRight matter h before
    forms : HaveForms before
    next : s.next ≡ p
    strong : s.layout.kind ≡ kinds.Strong
    from_one : AreFromOne named
    some : 0 < length named
    same : matter.variables ≡ matter.packages

-- its package is its variable
variable-is : (matter : Matter) (h : Header) (before : List CertRecord) (s : StateView) (p : ℕ) (named : List ℕ)
    → IsClaimed matter h before s p named → present s.layout.kind s.next ≡ p
variable-is matter h before s p named x = ap (λ (k : CertKind). present k s.next) x.strong ∙ x.next

common-of : (matter : Matter) (h : Header) (before : List CertRecord) (s : StateView) (p : ℕ) (named : List ℕ)
    → IsClaimed matter h before s p named → IsCommonOf (installations (group before)) p s.group.common
common-of matter h before s p named x =
    subst (λ n. IsCommonOf (installations (group before)) n s.group.common) x.next
    (subst (λ k. IsGathered k s.layout (installations (group before)) (present k s.next) s.group) x.strong x.at.group_is.gathered)

refuted-tests : (matter : Matter) (h : Header) (before : List CertRecord) (s : StateView) (p : ℕ) (named : List ℕ)
    → IsClaimed matter h before s p named → (numbers : List ℕ)
    → Tests (is_among s.group.refuted.without) (λ q. IsRefutedIn (group before) (yes p ∷ no q ∷ [])) numbers
refuted-tests matter h before s p named x numbers q there =
    subst (λ n. (is_among s.group.refuted.without q ≡ true) ↔ IsRefutedIn (group before) (yes n ∷ no q ∷ []))
    (variable-is matter h before s p named x) (x.at.group_is.refuted.without q)

undecided-tests : (matter : Matter) (h : Header) (before : List CertRecord) (s : StateView) (p : ℕ) (named : List ℕ)
    → IsClaimed matter h before s p named → (numbers : List ℕ)
    → Tests (is_among s.group.undecided.without) (λ q. IsUndecidedIn (group before) (yes p ∷ no q ∷ [])) numbers
undecided-tests matter h before s p named x numbers q there =
    subst (λ n. (is_among s.group.undecided.without q ≡ true) ↔ IsUndecidedIn (group before) (yes n ∷ no q ∷ []))
    (variable-is matter h before s p named x) (x.at.group_is.undecided.without q)

names-tested : (matter : Matter) (h : Header) (before : List CertRecord) (s : StateView) (p : ℕ) (named : List ℕ)
    → IsClaimed matter h before s p named
    → (in_each s.window named p ≡ true) ↔ All (IsNamed before p) named
names-tested matter h before s p named x = all-tested (λ number. has_member (kept_at s.window number) p) (IsNamed before p) named
    (member-tests matter h before s x.at named x.from_one p)

Other : Matter → ℕ → ℕ → Type 0
Other matter p q = (q ≢ p) × (q ≤ matter.packages)

others-tested : (matter : Matter) (h : Header) (before : List CertRecord) (s : StateView) (p : ℕ) (named : List ℕ)
    → IsClaimed matter h before s p named → (numbers : List ℕ)
    → (list_all (λ q. not (q == p) && nat_le q s.packages) numbers ≡ true) ↔ All (λ q. (q ≢ p) × (q ≤ matter.packages)) numbers
others-tested matter h before s p named x numbers =
    subst (λ n. (list_all (λ q. not (q == p) && nat_le q n) numbers ≡ true) ↔ All (λ q. (q ≢ p) × (q ≤ matter.packages)) numbers) (sym x.at.packages)
    (all-tested (λ q. not (q == p) && nat_le q (matter.packages)) (λ q. (q ≢ p) × (q ≤ matter.packages)) numbers
    (other-tests p (matter.packages) numbers))

always-tests : (matter : Matter) (h : Header) (before : List CertRecord) (s : StateView) (p : ℕ) (named : List ℕ)
    → IsClaimed matter h before s p named → All (IsNamed before p) named → (numbers : List ℕ)
    → Tests (is_always s.window s.group.common named) (IsInEach before named p) numbers
always-tests matter h before s p named x names numbers q there =
    always-is matter h before s x.at named x.from_one p x.some names s.group.common (common-of matter h before s p named x) q

holds-from : (matter : Matter) (h : Header) (before : List CertRecord) (s : StateView) (p : ℕ) (named on undecided : List ℕ)
    → IsClaimed matter h before s p named
    → PassesStrong s.window s.group s.packages p named on undecided → HoldsStrong matter before p named on undecided
holds-from matter h before s p named on undecided x passes =
    let names = (names-tested matter h before s p named x).0 passes.lists.names in
    let closed = (all-tested (is_among s.group.undecided.without) (λ q. IsUndecidedIn (group before) (yes p ∷ no q ∷ [])) undecided
    (undecided-tests matter h before s p named x undecided)).0 passes.lists.open_still in
    let always = (all-tested (is_always s.window s.group.common named) (IsInEach before named p) undecided
    (always-tests matter h before s p named x names undecided)).0 passes.always in
    record {
      names = names;
      rising = (passes.lists.rising, passes.lists.undecided_rising);
      apart = (none-tested (is_among undecided) (λ q. Contains undecided q) on (among-tests undecided on)).0 passes.lists.apart;
      others = All-append (λ q. (q ≢ p) × (q ≤ matter.packages)) on undecided ((others-tested matter h before s p named x on).0 passes.lists.others)
          ((others-tested matter h before s p named x undecided).0 passes.lists.undecided_others);
      refuted = (all-tested (is_among s.group.refuted.without) (λ q. IsRefutedIn (group before) (yes p ∷ no q ∷ [])) on
          (refuted-tests matter h before s p named x on)).0 passes.lists.refuted;
      open_still = λ k d within. (closed k d within, always k d within);
    }

passes-from : (matter : Matter) (h : Header) (before : List CertRecord) (s : StateView) (p : ℕ) (named on undecided : List ℕ)
    → IsClaimed matter h before s p named
    → HoldsStrong matter before p named on undecided → PassesStrong s.window s.group s.packages p named on undecided
passes-from matter h before s p named on undecided x holds =
    let IsOther : ℕ → Type 0 = λ q. (q ≢ p) × (q ≤ matter.packages) in record {
      lists = record {
        names = (names-tested matter h before s p named x).1 holds.names;
        rising = holds.rising.0;
        undecided_rising = holds.rising.1;
        apart = (none-tested (is_among undecided) (λ q. Contains undecided q) on (among-tests undecided on)).1 holds.apart;
        others = (others-tested matter h before s p named x on).1
            (all-contained IsOther on (λ q there. All-contains IsOther (on ++ undecided) q holds.others (Contains-append_left on undecided q there)));
        undecided_others = (others-tested matter h before s p named x undecided).1
            (all-contained IsOther undecided (λ q there. All-contains IsOther (on ++ undecided) q holds.others (Contains-append_right on undecided q there)));
        refuted = (all-tested (is_among s.group.refuted.without) (λ q. IsRefutedIn (group before) (yes p ∷ no q ∷ [])) on
            (refuted-tests matter h before s p named x on)).1 holds.refuted;
        open_still = (all-tested (is_among s.group.undecided.without) (λ q. IsUndecidedIn (group before) (yes p ∷ no q ∷ [])) undecided
            (undecided-tests matter h before s p named x undecided)).1
            (λ k d within. (holds.open_still k d within).0);
      };
      always = (all-tested (is_always s.window s.group.common named) (IsInEach before named p) undecided
          (always-tests matter h before s p named x holds.names undecided)).1 (λ k d within. (holds.open_still k d within).1);
    }

-- ---- what is left out

-- a member of a numbered installation is a variable
member-range : (matter : Matter) (h : Header) (before : List CertRecord) → AreRight matter h before
    → HaveForms before → (members : List ℕ) → Contains (installations before) members
    → (q : ℕ) → Contains members q → (1 ≤ q) × (q ≤ matter.variables)
member-range matter h before right forms members there q among =
    let line = line-of before members there in
    let form = all-at (λ s. HasForm (record_text s) s) before line.before (lines.Installation members) line.after line.is forms in (
      All-contains (λ v. 1 ≤ v) members q form.rules.0 among,
      stable (most-told q (matter.variables)) (λ high. right line.before (lines.Installation members) line.after line.is causes.OutOfRange
          (among.0, q, among.1, among.2, stable (less-told (matter.variables) q) (λ low. high (omega (arith, not-less (matter.variables) q low))))),
    )
  where
    not-less : (a b : ℕ) → ¬ (a < b) → b ≤ a
    not-less a b none = stable (most-told b a) (λ high. none (omega_less a b high))
      where
        omega_less : (m n : ℕ) → ¬ (n ≤ m) → m < n
        omega_less m n never = elim (cases_lt m n) [
          | inl less ↦ less
          | inr most ↦ absurd (never most)
        ]

Omitted : List CertRecord → List ℕ → ℕ → List ℕ → List ℕ → ℕ → Type 0
Omitted before named p on undecided q = (q ≢ p) × (¬ Contains on q) × (¬ Contains undecided q) × IsInEach before named p q

not-among : (numbers : List ℕ) (q : ℕ) → not (is_among numbers q) ≡ true → ¬ Contains numbers q
not-among numbers q e there = true≢false (sym (any-from q numbers there) ∙ not-true (is_among numbers q) e)

among-not : (numbers : List ℕ) (q : ℕ) → ¬ Contains numbers q → not (is_among numbers q) ≡ true
among-not numbers q never = not_from_false (is_among numbers q) (false_from_ne_true (is_among numbers q) (λ e. never (from-any q numbers e)))

omitted-tests : (matter : Matter) (h : Header) (before : List CertRecord) (s : StateView) (p : ℕ) (named on undecided : List ℕ)
    → IsClaimed matter h before s p named → All (IsNamed before p) named
    → Tests (λ q. not (q == p) && not (is_among on q) && not (is_among undecided q) && in_each s.window named q) (Omitted before named p on undecided)
    (candidates s.window s.group.common named)
unfolding Omitted
omitted-tests matter h before s p named on undecided x names q there =
    let each = in-named matter h before s x.at named x.from_one p names q in
    let all = always-is matter h before s x.at named x.from_one p x.some names s.group.common (common-of matter h before s p named x) q in
    let a : Bool = not (q == p) in
    let b : Bool = not (is_among on q) in
    let d : Bool = not (is_among undecided q) in
    let e : Bool = in_each s.window named q in (
      (λ passes.
          let last = and_parts (a && b && d) e passes in
          let third = and_parts (a && b) d last.0 in
          let two = and_parts a b third.0 in (
            eqb-false q p (not-true (q == p) two.0),
            not-among on q two.1,
            not-among undecided q third.1,
            all.0 (and_from (is_among (candidates s.window s.group.common named) q) e (any-from q (candidates s.window s.group.common named) there) last.1),
          )),
      λ omitted.
          and_from (a && b && d) e
          (and_from (a && b) d (and_from a b (not_from_false (q == p) (ne_eqb q p omitted.0)) (among-not on q omitted.1)) (among-not undecided q omitted.2))
          (and_parts (is_among (candidates s.window s.group.common named) q) e (all.1 omitted.3)).1,
    )

first-named : (named : List ℕ) → 0 < length named → Contains named (get_or named 0 0)
first-named [] some = absurd (omega (arith, some))
first-named (n ∷ named) some = (0, omega arith, refl)

omits-from : (matter : Matter) (h : Header) (before : List CertRecord) (s : StateView) (p : ℕ) (named on undecided : List ℕ)
    → IsClaimed matter h before s p named → All (IsNamed before p) named
    → (omits_package s.window s.group p named on undecided ≡ true) ↔ OmitsPackage matter before p named (on ++ undecided)
unfolding Omitted
omits-from matter h before s p named on undecided x names =
    let tested = any-tested (λ q. not (q == p) && not (is_among on q) && not (is_among undecided q) && in_each s.window named q)
    (Omitted before named p on undecided) (candidates s.window s.group.common named)
    (omitted-tests matter h before s p named on undecided x names) in (
      (λ omits.
          let any = tested.0 omits in
          let q = any.1 in
          let omitted : Omitted before named p on undecided q = any.4 in
          let first = get_or named 0 0 in
          let there = first-named named x.some in
          let holds : Contains (installation_at before first) q = All-contains (λ n. Contains (installation_at before n) q) named first omitted.3.0 there in
          let range = member-range matter h before x.right x.forms (installation_at before first)
          (recent-there before first (All-contains (IsNamed before p) named first names there).0) q holds in
          (q, range.0, omega (arith, range.1, x.same), omitted.0, omitted.3, λ among. ⊎_elim omitted.1 omitted.2 (Contains-append_cases on undecided q among))),
      λ omits.
          let q = omits.0 in
          let all = always-is matter h before s x.at named x.from_one p x.some names s.group.common (common-of matter h before s p named x) q in
          let there = from-any q (candidates s.window s.group.common named)
          (and_parts (is_among (candidates s.window s.group.common named) q) (in_each s.window named q) (all.1 omits.4)).0 in
          tested.1 (
            there.0,
            q,
            there.1,
            there.2,
            (omits.3, (λ among. omits.5 (Contains-append_left on undecided q among)), (λ among. omits.5 (Contains-append_right on undecided q among)), omits.4),
          ),
    )

-- ---- the verdict

-- a claim of another kind does not hold
strong-fails : (matter : Matter) (kind : CertKind) (before : List CertRecord) (p : ℕ) (named on undecided : List ℕ) → is_strong kind ≡ false
    → ¬ HoldsClaim matter kind before (lines.Strong p named on undecided)
strong-fails matter kinds.Strong before p named on undecided other holds = true≢false other
strong-fails matter kinds.Outdated before p named on undecided other holds = holds
strong-fails matter kinds.Challenged before p named on undecided other holds = holds

strong-is : (kind : CertKind) → is_strong kind ≡ true → kind ≡ kinds.Strong
strong-is kinds.Strong is = refl
strong-is kinds.Outdated is = absurd (false≢true is)
strong-is kinds.Challenged is = absurd (false≢true is)

pub strong-verdict : (matter : Matter) (h : Header) (before : List CertRecord) (s : StateView)
    → IsAt matter h before s → AreRight matter h before → HaveForms before
    → (p : ℕ) (named on undecided : List ℕ) → KeepsRules (lines.Strong p named on undecided) → (found : Option CertCause)
    → TellsListed (is_next s.next s.packages p) (is_strong s.layout.kind) (λ f. TellsRules s.window s.group s.packages p named on undecided f) found
    → IsVerdict matter h before (lines.Strong p named on undecided) found
strong-verdict matter h before s at right forms p named on undecided rules found told =
    listed-verdict matter h before s at step p (on-strong matter h before p named on undecided) (is_strong s.layout.kind)
    (λ f. TellsRules s.window s.group s.packages p named on undecided f)
    (λ other. strong-fails matter h.kind before p named on undecided (ap is_strong (sym at.kind) ∙ other)) ruled found told
  where
    step : CertRecord
    step = lines.Strong p named on undecided

    of-kind : is_strong s.layout.kind ≡ true → h.kind ≡ kinds.Strong
    of-kind kind = sym at.kind ∙ strong-is s.layout.kind kind

    claimed : is_next s.next s.packages p ≡ true → is_strong s.layout.kind ≡ true → IsClaimed matter h before s p named
    claimed next kind = record {
      at = at;
      right = right;
      forms = forms;
      next = next-is s.next s.packages p next;
      strong = strong-is s.layout.kind kind;
      from_one = rules.2;
      some = rules.1;
      same = at.same (of-kind kind);
    }

    -- by the kind of the first line
    held : is_strong s.layout.kind ≡ true → HoldsStrong matter before p named on undecided → HoldsClaim matter h.kind before step
    held kind holds = subst (λ k. HoldsClaim matter k before step) (sym (of-kind kind)) holds

    ruled : is_next s.next s.packages p ≡ true → is_strong s.layout.kind ≡ true → (f : Option CertCause)
        → TellsRules s.window s.group s.packages p named on undecided f → IsVerdict matter h before step f
    ruled next kind None t =
        let x = claimed next kind in
        let holds = holds-from matter h before s p named on undecided x t.0 in
        right-verdict matter h before s at step p (on-strong matter h before p named on undecided) next (held kind holds)
        (λ omits. false≢true (sym t.1 ∙ (omits-from matter h before s p named on undecided x holds.names).1 omits))
    ruled next kind (Some causes.WrongClaim) t =
        wrong-verdict matter h before s at step p (on-strong matter h before p named on undecided) next
        (λ holds. t (passes-from matter h before s p named on undecided (claimed next kind)
        (subst (λ k. HoldsClaim matter k before step) (of-kind kind) holds)))
    ruled next kind (Some causes.Incomplete) t =
        let x = claimed next kind in
        let holds = holds-from matter h before s p named on undecided x t.0 in
        incomplete-verdict matter h before s at step p (on-strong matter h before p named on undecided) next (held kind holds)
        ((omits-from matter h before s p named on undecided x holds.names).0 t.1)
    ruled next kind (Some cause) t = absurd t
