-- What the lines of a question make of what is kept of a group.
use Rattle.std.proofs.Common.{◌≡◌, ◌≢◌, ◌⊎◌, ⊎_elim, inl, inr, ℕ, ◌+◌, ◌-◌, ◌<◌, ◌≤◌, ◌↔◌, Bool, true}
use Rattle.std.proofs.Common.{false, List, [], ◌∷◌, ◌++◌, length, slice_set, refl, ap, sym, subst, ◌∙◌, append-nil}
use Rattle.std.proofs.Common.{arith, length-append, length-set}
use Rattle.std.specs.List.{All, Contains}
use Rattle.std.proofs.lemmas.Bool.{and_from, and_parts, cases_eq, true≢false}
use Rattle.std.proofs.lemmas.List.{get_or_append_left, get_or_at}
use Rattle.std.proofs.lemmas.List.Elements.{All-append, All-nil, All-cons}
use Rattle.dist_clause.specs.Formula.{value_of}
use Rattle.dist_cert.specs.declared.records.CertKind.{CertKind}
use Rattle.dist_cert.specs.declared.records.CertRecord.{CertRecord}
use Rattle.dist_cert.specs.declared.records.CertRecord.TheVariants.{Question, Refuted, Undecided}
use Rattle.dist_cert.specs.ClaimRules.{yes, no}
use Rattle.dist_cert.specs.Form.{Word}
use Rattle.dist_cert.specs.Groups.{claim_count, group, installations, IsClosedBy, IsRefutedIn, IsUndecidedIn}
use Rattle.dist_cert.specs.Part.{IsNextQuestion, IsQuestionOn}
use Rattle.dist_line_write.specs.Asking.{AskerView}
use Rattle.dist_line_write.specs.TrueOnesLaws.{true-ones}
use Rattle.dist_line_write.specs.Words.{true_variables}
use Rattle.dist_sweep.specs.Script.{Setting, matter_in}
use Rattle.dist_strong.specs.Group.{GroupView, IsCandidate, IsNarrowed}
use Rattle.dist_strong.specs.SettlingPrivate.{AreNoted, IsGroupAt, IsSettling, without}
use Rattle.dist_sweep.specs.Window.{WindowView}
use Rattle.dist_sweep.specs.QuestionLinesLaws.{questions-of, AreAsked, group-after, count-after, in-group-after, closed-after, closed-here}
use Rattle.dist_strong.proofs.Opens.{OpenParts, never-open, open-parts, still-closed, value-other, value-same}

-- ---- the question may be asked

pub question-on : (g : Setting) (before : List CertRecord) (a : AskerView) (w : WindowView) (group : GroupView) (q : ℕ) → IsSettling g before a w group
    → IsCandidate w group q
    → IsNextQuestion (matter_in g) g.header before (without group.claimed q)
question-on g before a w group q settling candidate =
    let kept = settling.group_at in
    record {
      claim_left = omega (arith, kept.claimed, kept.upto, kept.variables);
      on_next = subst (λ (k : CertKind). IsQuestionOn (matter_in g) k (claim_count before + 1) (without group.claimed q)) (sym settling.of_strong.kind)
          (inr (q, ap (λ (p : ℕ). yes p ∷ no q ∷ []) kept.claimed));
      not_twice = λ there. true≢false (sym candidate.opens ∙ kept.asked q candidate.from_one candidate.upto there);
    }

-- ---- what the lines of a question hold

no-of : List Word → ℕ
no-of (v ∷ w ∷ words) = w.0
no-of words = 0

words-of : CertRecord → List Word
words-of (Question words) = words
words-of step = []

same-other : (p q r : ℕ) → Question (without p q) ≡ Question (without p r) → q ≡ r
unfolding no-of words-of
same-other p q r e = ap (λ (s : CertRecord). no-of (words-of s)) e

-- a question that was asked
pub question-after : (before : List CertRecord) (question other : List Word) (installed : List (List ℕ)) (after : List CertRecord)
    → AreAsked before question installed after → Contains (group after) (Question other)
    → Contains (group before) (Question other) ⊎ (Question question ≡ Question other)
question-after before question other installed after asked there =
    questions-of (group before) asked.between question other asked.answer asked.only_derived asked.answer_line
    (subst (λ (ls : List CertRecord). Contains ls (Question other)) (group-after before question installed after asked) there)

-- a package that was asked for
asked-after : (before : List CertRecord) (p q r : ℕ) (installed : List (List ℕ)) (after : List CertRecord) → AreAsked before (without p q) installed after
    → Contains (group after) (Question (without p r))
    → Contains (group before) (Question (without p r)) ⊎ (q ≡ r)
asked-after before p q r installed after asked there =
    ⊎_elim (λ old. inl old) (λ new. inr (same-other p q r new)) (question-after before (without p q) (without p r) installed after asked there)

noted-after : (old new : GroupView) (flags : List Bool) (IsClosed Closed : List Word → Type 0) → new.claimed ≡ old.claimed → new.variables ≡ old.variables
    → ((question : List Word) → IsClosed question → Closed question) → AreNoted old flags IsClosed → AreNoted new flags Closed
noted-after old new flags IsClosed Closed claimed variables more noted q from upto holds =
    let there = noted q from (omega (arith, upto, variables)) holds in
    ((λ e. there.0 (e ∙ claimed)), subst (λ (p : ℕ). Closed (without p q)) (sym claimed) (more (without old.claimed q) there.1))

-- ---- after each reply

again : (before : List CertRecord) (question : List Word) (after : List CertRecord) → AreAsked before question [] after
    → installations (group after) ≡ installations (group before)
again before question after asked = in-group-after before question [] after asked ∙ append-nil (installations (group before))

pub refuted-step : (g : Setting) (before after : List CertRecord) (w : WindowView) (kept : GroupView) (q : ℕ) (hints : List ℕ) → IsGroupAt g before kept
    → IsCandidate w kept q
    → (asked : AreAsked before (without kept.claimed q) [] after) → asked.answer ≡ Refuted hints
    → IsGroupAt g after (record kept { refuted = slice_set kept.refuted (q - 1) true })
refuted-step g before after w kept q hints at candidate asked is = record {
  claimed = at.claimed ∙ ap (λ (n : ℕ). n + 1) (sym (count-after before (without kept.claimed q) [] after asked));
  from_one = at.from_one;
  upto = at.upto;
  variables = at.variables;
  sizes = record { common = at.sizes.common; refuted = length-set kept.refuted (q - 1) true ∙ at.sizes.refuted; undecided = at.sizes.undecided };
  some = subst (λ (ms : List (List ℕ)). 0 < length ms) (sym inst) at.some;
  each = subst (λ (ms : List (List ℕ)). All (λ m. Contains m kept.claimed) ms) (sym inst) at.each;
  common = λ r from upto. subst (λ (ms : List (List ℕ)). (value_of kept.common r ≡ true) ↔ All (λ m. Contains m r) ms) (sym inst) (at.common r from upto);
  refuted = λ r from upto holds. elim (cases_eq r q) [
    | inl same ↦ (
      (λ e. parts.other (sym same ∙ e)),
      subst (λ (k : ℕ). IsRefutedIn (group after) (without kept.claimed k)) (sym same)
          (hints, subst (λ s. IsClosedBy (group after) (without kept.claimed q) s) is (closed-here before (without kept.claimed q) [] after asked)),
    )
    | inr other ↦ more-refuted (at.refuted r from upto (sym (value-other kept.refuted q r candidate.from_one from other) ∙ holds))
  ];
  undecided = noted-after kept kept kept.undecided (IsUndecidedIn (group before)) (IsUndecidedIn (group after)) refl refl
      (λ question closed. closed-after before (without kept.claimed q) [] after question Undecided asked closed) at.undecided;
  apart = λ r from holds. elim (cases_eq r q) [
    | inl same ↦ ap (value_of kept.undecided) same ∙ parts.undecided
    | inr other ↦ at.apart r from (sym (value-other kept.refuted q r candidate.from_one from other) ∙ holds)
  ];
  asked = λ r from upto there. ⊎_elim (λ old. still-closed kept (record kept { refuted = slice_set kept.refuted (q - 1) true }) r (back r from)
      (at.asked r from upto old))
      (λ new. never-open (record kept { refuted = slice_set kept.refuted (q - 1) true }) r
      (λ open_still. true≢false (sym (ap (value_of (slice_set kept.refuted (q - 1) true)) (sym new)
      ∙ value-same kept.refuted q candidate.from_one (omega (arith, candidate.upto, at.sizes.refuted))) ∙ open_still.refuted)))
      (asked-after before kept.claimed q r [] after asked there);
}
  where
    inst : installations (group after) ≡ installations (group before)
    inst = again before (without kept.claimed q) after asked

    parts : OpenParts kept q
    parts = open-parts kept q candidate.opens

    more-refuted : {r : ℕ} → (r ≢ kept.claimed) × IsRefutedIn (group before) (without kept.claimed r) → (r ≢ kept.claimed)
        × IsRefutedIn (group after) (without kept.claimed r)
    more-refuted {r} old = (old.0, (old.1.0, closed-after before (without kept.claimed q) [] after (without kept.claimed r) (Refuted old.1.0) asked old.1.1))

    back : (r : ℕ) → 1 ≤ r → OpenParts (record kept { refuted = slice_set kept.refuted (q - 1) true }) r → OpenParts kept r
    back r from open_still = elim (cases_eq r q) [
      | inl same ↦ record {
        other = open_still.other;
        common = open_still.common;
        refuted = ap (value_of kept.refuted) same ∙ parts.refuted;
        undecided = open_still.undecided;
      }
      | inr other ↦ record {
        other = open_still.other;
        common = open_still.common;
        refuted = sym (value-other kept.refuted q r candidate.from_one from other) ∙ open_still.refuted;
        undecided = open_still.undecided;
      }
    ]

pub undecided-step : (g : Setting) (before after : List CertRecord) (w : WindowView) (kept : GroupView) (q : ℕ) → IsGroupAt g before kept → IsCandidate w kept q
    → (asked : AreAsked before (without kept.claimed q) [] after) → asked.answer ≡ Undecided
    → IsGroupAt g after (record kept { undecided = slice_set kept.undecided (q - 1) true })
undecided-step g before after w kept q at candidate asked is = record {
  claimed = at.claimed ∙ ap (λ (n : ℕ). n + 1) (sym (count-after before (without kept.claimed q) [] after asked));
  from_one = at.from_one;
  upto = at.upto;
  variables = at.variables;
  sizes = record { common = at.sizes.common; refuted = at.sizes.refuted; undecided = length-set kept.undecided (q - 1) true ∙ at.sizes.undecided };
  some = subst (λ (ms : List (List ℕ)). 0 < length ms) (sym inst) at.some;
  each = subst (λ (ms : List (List ℕ)). All (λ m. Contains m kept.claimed) ms) (sym inst) at.each;
  common = λ r from upto. subst (λ (ms : List (List ℕ)). (value_of kept.common r ≡ true) ↔ All (λ m. Contains m r) ms) (sym inst) (at.common r from upto);
  refuted = noted-after kept kept kept.refuted (IsRefutedIn (group before)) (IsRefutedIn (group after)) refl refl
      (λ question closed. (closed.0, closed-after before (without kept.claimed q) [] after question (Refuted closed.0) asked closed.1)) at.refuted;
  undecided = λ r from upto holds. elim (cases_eq r q) [
    | inl same ↦ (
      (λ e. parts.other (sym same ∙ e)),
      subst (λ (k : ℕ). IsUndecidedIn (group after) (without kept.claimed k)) (sym same)
          (subst (λ s. IsClosedBy (group after) (without kept.claimed q) s) is (closed-here before (without kept.claimed q) [] after asked)),
    )
    | inr other ↦ more-undecided (at.undecided r from upto (sym (value-other kept.undecided q r candidate.from_one from other) ∙ holds))
  ];
  apart = λ r from holds. elim (cases_eq r q) [
    | inl same ↦ absurd (true≢false (sym holds ∙ ap (value_of kept.refuted) same ∙ parts.refuted))
    | inr other ↦ value-other kept.undecided q r candidate.from_one from other ∙ at.apart r from holds
  ];
  asked = λ r from upto there. ⊎_elim (λ old. still-closed kept (record kept { undecided = slice_set kept.undecided (q - 1) true }) r (back r from)
      (at.asked r from upto old))
      (λ new. never-open (record kept { undecided = slice_set kept.undecided (q - 1) true }) r
      (λ open_still. true≢false (sym (ap (value_of (slice_set kept.undecided (q - 1) true)) (sym new)
      ∙ value-same kept.undecided q candidate.from_one (omega (arith, candidate.upto, at.sizes.undecided))) ∙ open_still.undecided)))
      (asked-after before kept.claimed q r [] after asked there);
}
  where
    inst : installations (group after) ≡ installations (group before)
    inst = again before (without kept.claimed q) after asked

    parts : OpenParts kept q
    parts = open-parts kept q candidate.opens

    more-undecided : {r : ℕ} → (r ≢ kept.claimed) × IsUndecidedIn (group before) (without kept.claimed r) → (r ≢ kept.claimed)
        × IsUndecidedIn (group after) (without kept.claimed r)
    more-undecided {r} old = (old.0, closed-after before (without kept.claimed q) [] after (without kept.claimed r) Undecided asked old.1)

    back : (r : ℕ) → 1 ≤ r → OpenParts (record kept { undecided = slice_set kept.undecided (q - 1) true }) r → OpenParts kept r
    back r from open_still = elim (cases_eq r q) [
      | inl same ↦ record {
        other = open_still.other;
        common = open_still.common;
        refuted = open_still.refuted;
        undecided = ap (value_of kept.undecided) same ∙ parts.undecided;
      }
      | inr other ↦ record {
        other = open_still.other;
        common = open_still.common;
        refuted = open_still.refuted;
        undecided = sym (value-other kept.undecided q r candidate.from_one from other) ∙ open_still.undecided;
      }
    ]

-- ---- a new installation

all-left : {X : Type 0} (P : X → Type 0) (xs : List X) (y : X) → All P (xs ++ y ∷ []) → All P xs
all-left P xs y all k d within = subst P (get_or_append_left xs (y ∷ []) d k within) (all k d (omega (arith, within, length-append xs (y ∷ []))))

all-last : {X : Type 0} (P : X → Type 0) (xs : List X) (y : X) → All P (xs ++ y ∷ []) → P y
all-last P xs y all = subst P (get_or_at xs y [] y (length xs) refl) (all (length xs) y (omega (arith, length-append xs (y ∷ []))))

pub found-step : (g : Setting) (before after : List CertRecord) (w : WindowView) (kept new : GroupView) (q : ℕ) (values : List Bool) → IsGroupAt g before kept
    → IsCandidate w kept q
    → AreAsked before (without kept.claimed q) (true_variables values ∷ []) after → length values ≡ kept.variables → value_of values kept.claimed ≡ true
    → value_of values q ≡ false
    → new ≡ record kept { common = new.common } → length new.common ≡ kept.variables → IsNarrowed kept.variables kept.common values new.common
    → IsGroupAt g after (record kept { common = new.common })
found-step g before after w kept new q values at candidate asked size has lacks is new_size narrowed = record {
  claimed = at.claimed ∙ ap (λ (n : ℕ). n + 1) (sym (count-after before (without kept.claimed q) (true_variables values ∷ []) after asked));
  from_one = at.from_one;
  upto = at.upto;
  variables = at.variables;
  sizes = record { common = new_size; refuted = at.sizes.refuted; undecided = at.sizes.undecided };
  some = omega (arith, ap length inst, length-append (installations (group before)) (true_variables values ∷ []));
  each = subst (λ (ms : List (List ℕ)). All (λ m. Contains m kept.claimed) ms) (sym inst)
      (with-one kept.claimed at.each ((true-ones values kept.claimed at.from_one (omega (arith, at.upto, size))).1 has));
  common = λ r from upto. subst (λ (ms : List (List ℕ)). (value_of new.common r ≡ true) ↔ All (λ m. Contains m r) ms) (sym inst) (both r from upto);
  refuted = noted-after kept (record kept { common = new.common }) kept.refuted (IsRefutedIn (group before)) (IsRefutedIn (group after)) refl refl
      (λ question closed. (
        closed.0,
        closed-after before (without kept.claimed q) (true_variables values ∷ []) after question (Refuted closed.0) asked
            closed.1,
      )) at.refuted;
  undecided = noted-after kept (record kept { common = new.common }) kept.undecided (IsUndecidedIn (group before)) (IsUndecidedIn (group after)) refl refl
      (λ question closed. closed-after before (without kept.claimed q) (true_variables values ∷ []) after question Undecided asked closed) at.undecided;
  apart = at.apart;
  asked = λ r from upto there. ⊎_elim (λ old. still-closed kept (record kept { common = new.common }) r
      (λ parts. record {
        other = parts.other;
        common = (and_parts (value_of kept.common r) (value_of values r) (sym (narrowed r from upto) ∙ parts.common)).0;
        refuted = parts.refuted;
        undecided = parts.undecided;
      })
      (at.asked r from upto old))
      (λ now. never-open (record kept { common = new.common }) r (λ parts.
      true≢false (sym (and_parts (value_of kept.common r) (value_of values r) (sym (narrowed r from upto) ∙ parts.common)).1 ∙ ap (value_of values) (sym now)
      ∙ lacks)))
      (asked-after before kept.claimed q r (true_variables values ∷ []) after asked there);
}
  where
    inst : installations (group after) ≡ installations (group before) ++ true_variables values ∷ []
    inst = in-group-after before (without kept.claimed q) (true_variables values ∷ []) after asked

    with-one : (r : ℕ) → All (λ m. Contains m r) (installations (group before)) → Contains (true_variables values) r
        → All (λ m. Contains m r) (installations (group before) ++ true_variables values ∷ [])
    with-one r all one = All-append (λ m. Contains m r) (installations (group before)) (true_variables values ∷ []) all
        (All-cons (λ m. Contains m r) (true_variables values) [] one (All-nil (λ m. Contains m r)))

    both : (r : ℕ) → 1 ≤ r → r ≤ kept.variables → (value_of new.common r ≡ true)
        ↔ All (λ m. Contains m r) (installations (group before) ++ true_variables values ∷ [])
    both r from upto = (
      (λ holds.
          let parts = and_parts (value_of kept.common r) (value_of values r) (sym (narrowed r from upto) ∙ holds) in
          with-one r ((at.common r from upto).0 parts.0) ((true-ones values r from (omega (arith, upto, size))).1 parts.1)),
      λ all. narrowed r from upto ∙ and_from (value_of kept.common r) (value_of values r)
          ((at.common r from upto).1 (all-left (λ m. Contains m r) (installations (group before)) (true_variables values) all))
          ((true-ones values r from (omega (arith, upto, size))).0 (all-last (λ m. Contains m r) (installations (group before)) (true_variables values) all)),
    )
