-- What the lines of a question for a pair make of what is kept of a group.
use Rattle.std.proofs.Common.{◌≡◌, ◌≢◌, ◌⊎◌, ⊎_elim, inl, inr, ℕ, ◌+◌, ◌-◌, ◌<◌, ◌≤◌, Bool, true, false, not, List, [], ◌∷◌, ◌++◌, length, get_or}
use Rattle.std.proofs.Common.{filter, refl, ap, sym, subst, ◌∙◌, arith, append-nil, length-append}
use Rattle.std.specs.List.{All, AllPairs, Any, Contains}
use Rattle.std.specs.Prelude.{slice_index, slice_index_or}
use Rattle.std.proofs.lemmas.Bool.{true≢false}
use Rattle.std.proofs.lemmas.List.{get_or_append_left, get_or_at, get_or_default}
use Rattle.std.proofs.lemmas.List.Elements.{All-contains, All-filter, All-push, All-weaker, Contains-append_left, Contains-push}
use Rattle.std.proofs.lemmas.List.Elements.{Contains-push_cases, filter_passes}
use Rattle.std.proofs.lemmas.List.Kept.{AllPairs-filter}
use Rattle.dist_base.specs.ListLaws.{any-contained}
use Rattle.dist_cert.specs.declared.records.CertKind.TheVariants as kinds
use Rattle.dist_cert.specs.declared.records.CertRecord.{CertRecord}
use Rattle.dist_cert.specs.declared.records.CertRecord.TheVariants.{Question, Refuted, Undecided}
use Rattle.dist_cert.specs.ClaimRules.{Covers, IsCovered, SomeInstallation}
use Rattle.dist_cert.specs.Form.{Word}
use Rattle.dist_cert.specs.Groups.{group, installation_at, installations, IsClosedBy, IsRefutedIn, IsUndecidedIn}
use Rattle.dist_space.specs.Space.{SpaceView}
use Rattle.dist_sweep.specs.QuestionLinesLaws.{questions-of, AreAsked, group-after, count-after, in-group-after, closed-after, closed-here, installed-after}
use Rattle.dist_sweep.specs.Script.{Setting, matter_in}
use Rattle.dist_challenge.specs.GroupPrivate.{AreFew, CoversOwn, CoversRest, EachAnswered, IsGroupAt, IsNameable, together}
use Rattle.dist_covering.specs.Group.{GroupView}
use Rattle.dist_covering.specs.OpenPairs.{IsPairVariable}
use Rattle.dist_sweep.specs.Futures.{IsOfSpace}
use Rattle.dist_covering.specs.Used.{pair_at}
use Rattle.dist_covering.specs.ListLaws.{filter-few, filter-in, in-filter, not-false, not-true}
use Rattle.dist_challenge.proofs.GroupLines.{SomeOf, any-append-left, any-append-right, some-back, some-more, some-new}
use Rattle.dist_sweep.specs.FuturesLaws.{present-is}

-- the group with one pair more that is left
abbrev pub with_left : GroupView → ℕ → GroupView
with_left group_is at = record group_is { left = group_is.left ++ at ∷ [] }

-- ---- questions

second-of : List Word → ℕ
second-of (v ∷ w ∷ words) = w.0
second-of words = 0

words-of : CertRecord → List Word
words-of (Question words) = words
words-of step = []

same-second : (v at other : ℕ) → Question (together v at) ≡ Question (together v other) → at ≡ other
unfolding second-of words-of
same-second v at other e = ap (λ (s : CertRecord). second-of (words-of s)) e

first-of : List Word → ℕ
first-of (v ∷ words) = v.0
first-of words = 0

pub same-first : (v at w other : ℕ) → Question (together v at) ≡ Question (together w other) → v ≡ w
unfolding first-of words-of
same-first v at w other e = ap (λ (s : CertRecord). first-of (words-of s)) e

asked-after : (before : List CertRecord) (v at other : ℕ) (installed : List (List ℕ)) (after : List CertRecord)
    → AreAsked before (together v at) installed after
    → Contains (group after) (Question (together v other)) → Contains (group before) (Question (together v other)) ⊎ (at ≡ other)
asked-after before v at other installed after asked there =
    ⊎_elim (λ old. inl old) (λ new. inr (same-second v at other new))
    (questions-of (group before) asked.between (together v at) (together v other) asked.answer asked.only_derived asked.answer_line
    (subst (λ (ls : List CertRecord). Contains ls (Question (together v other))) (group-after before (together v at) installed after asked) there))

-- ---- the pair that was the last one left

all-left : {X : Type 0} (P : X → Type 0) (xs : List X) (y : X) → All P (xs ++ y ∷ []) → All P xs
all-left P xs y all k d within = subst P (get_or_append_left xs (y ∷ []) d k within) (all k d (omega (arith, within, length-append xs (y ∷ []))))

all-last : {X : Type 0} (P : X → Type 0) (xs : List X) (y : X) → All P (xs ++ y ∷ []) → P y
all-last P xs y all = subst P (get_or_at xs y [] y (length xs) refl) (all (length xs) y (omega (arith, length-append xs (y ∷ []))))

pairs-front : {X : Type 0} (R : X → X → Type 0) (xs : List X) (y : X) → AllPairs R (xs ++ y ∷ []) → AllPairs R xs
pairs-front {X} R xs y pairs i j d before within =
    subst (λ (a : X). R a (get_or xs j d)) (get_or_append_left xs (y ∷ []) d i (omega (arith, before, within)))
    (subst (λ (b : X). R (get_or (xs ++ y ∷ []) i d) b) (get_or_append_left xs (y ∷ []) d j within)
    (pairs i j d before (omega (arith, within, length-append xs (y ∷ [])))))

pairs-last : {X : Type 0} (R : X → X → Type 0) (xs : List X) (y : X) → AllPairs R (xs ++ y ∷ []) → All (λ x. R x y) xs
pairs-last {X} R xs y pairs k d within =
    subst (λ (a : X). R a y) (get_or_append_left xs (y ∷ []) d k within)
    (subst (λ (b : X). R (get_or (xs ++ y ∷ []) k d) b) (get_or_at xs y [] d (length xs) refl)
    (pairs k (length xs) d within (omega (arith, length-append xs (y ∷ [])))))

not-among : (xs : List ℕ) (n : ℕ) → All (λ x. n < x) xs → ¬ Contains xs n
not-among xs n above there = let less = All-contains (λ x. n < x) xs n above there in omega (arith, less)

-- the pairs that are left are none of those that were asked for, of which the last one is one now
still-apart : (left : List ℕ) (xs : List ℕ) (at : ℕ) → All (λ next. at < next) left → All (λ a. ¬ Contains xs a) left
    → All (λ a. ¬ Contains (xs ++ at ∷ []) a) left
still-apart left xs at above apart k d within there = ⊎_elim (apart k d within)
    (λ same. let less = above k d within in omega (arith, less, same)) (Contains-push_cases xs at (get_or left k d) there)

-- what is known of the last pair
pub record LastPair (s : SpaceView) (g : Setting) (before : List CertRecord) (group : GroupView) (at : ℕ) : Type 0 where
  pub variable : IsPairVariable s (slice_index s.cluster_of (group.claimed - 1)) at
  pub above : All (λ next. at < next) group.left
  pub apart : (¬ Contains group.refuted at) × (¬ Contains group.undecided at)
  pub uncovered : ¬ IsCovered (matter_in g) before group.claimed group.named (pair_at s at)

last-pair : (s : SpaceView) (g : Setting) (before : List CertRecord) (group : GroupView) (at : ℕ) → IsGroupAt g before s (with_left group at)
    → LastPair s g before group at
last-pair s g before group at kept = record {
  variable = all-last (IsPairVariable s (slice_index s.cluster_of (group.claimed - 1))) group.left at kept.pairs.0;
  above = pairs-last (λ a b. b < a) group.left at kept.falling;
  apart = all-last (λ a. (¬ Contains group.refuted a) × (¬ Contains group.undecided a)) group.left at kept.left_apart;
  uncovered = all-last (λ a. ¬ IsCovered (matter_in g) before group.claimed group.named (pair_at s a)) group.left at kept.uncovered.0;
}

-- ---- no installation came

module _ (g : Setting) (before after : List CertRecord) (question : List Word) (asked : AreAsked before question [] after) where
  again : installations (group after) ≡ installations (group before)
  again = in-group-after before question [] after asked ∙ append-nil (installations (group before))

  all-again : installations after ≡ installations before
  all-again = installed-after before question [] after asked ∙ append-nil (installations before)

  some-again : (P : List ℕ → Type 0) (named : List ℕ) (variable : ℕ) → SomeInstallation before named variable P → SomeInstallation after named variable P
  some-again P named variable some =
      subst (λ (all : List (List ℕ)). SomeOf all (installations (group after)) named variable P) (sym all-again)
      (subst (λ (own : List (List ℕ)). SomeOf (installations before) own named variable P) (sym again) some)

  some-before : (P : List ℕ → Type 0) (named : List ℕ) (variable : ℕ) → SomeInstallation after named variable P → SomeInstallation before named variable P
  some-before P named variable some =
      subst (λ (all : List (List ℕ)). SomeOf all (installations (group before)) named variable P) all-again
      (subst (λ (own : List (List ℕ)). SomeOf (installations after) own named variable P) again some)

  nameable-again : (present more less number : ℕ) → less ≤ more → IsNameable before present more number → IsNameable after present less number
  nameable-again present more less number fewer name =
      let size = ap length all-again in
      record {
        from_one = name.from_one;
        upto = omega (arith, name.upto, size);
        lasts = omega (arith, name.lasts, size, fewer);
        has = subst (λ (all : List (List ℕ)). Contains (get_or all (number - 1) []) present) (sym all-again) name.has;
      }

  few-again : (s : SpaceView) (own present : ℕ) (named : List ℕ) → AreFew g s own present (installations before) (installations (group before)) named
      → AreFew g s own present (installations after) (installations (group after)) named
  few-again s own present named few =
      subst (λ (all : List (List ℕ)). AreFew g s own present all (installations (group after)) named) (sym all-again)
      (subst (λ (of_group : List (List ℕ)). AreFew g s own present (installations before) of_group named) (sym again) few)

pub refuted-step : (g : Setting) (s : SpaceView) (before after : List CertRecord) (group_is : GroupView) (at : ℕ) (hints : List ℕ)
    → IsGroupAt g before s (with_left group_is at) → (asked : AreAsked before (together group_is.present at) [] after) → asked.answer ≡ Refuted hints
    → IsGroupAt g after s (record group_is { refuted = group_is.refuted ++ at ∷ [] })
refuted-step g s before after group_is at hints kept asked is = record {
  claimed = kept.claimed ∙ ap (λ (n : ℕ). n + 1) (sym (count-after before (together group_is.present at) [] after asked));
  upto = kept.upto;
  present = kept.present;
  each = subst (λ (ms : List (List ℕ)). All (λ m. Contains m group_is.present) ms) (sym (again g before after (together group_is.present at) asked)) kept.each;
  some = λ none. subst (λ (ms : List (List ℕ)). 0 < length ms) (sym (again g before after (together group_is.present at) asked)) (kept.some none);
  names = All-weaker (IsNameable before group_is.present (length (group_is.left ++ at ∷ []))) (IsNameable after group_is.present (length group_is.left))
      (λ n name. nameable-again g before after (together group_is.present at) asked group_is.present (length (group_is.left ++ at ∷ []))
      (length group_is.left) n
      (omega (arith, length-append group_is.left (at ∷ []))) name) group_is.named kept.names;
  distinct = kept.distinct;
  today = some-again g before after (together group_is.present at) asked (λ m. Contains m 1) group_is.named group_is.present kept.today;
  few = few-again g before after (together group_is.present at) asked s (slice_index s.cluster_of (group_is.claimed - 1)) group_is.present group_is.named
      kept.few;
  falling = pairs-front (λ a b. b < a) group_is.left at kept.falling;
  apart = All-push (λ a. ¬ Contains group_is.undecided a) group_is.refuted at kept.apart last.apart.1;
  left_apart = λ k d within. (
    still-apart group_is.left group_is.refuted at last.above (λ j e short. (left-apart j e short).0) k d within,
    (left-apart k d within).1,
  );
  pairs = (
    all-left (IsPairVariable s (slice_index s.cluster_of (group_is.claimed - 1))) group_is.left at kept.pairs.0,
    All-push (IsPairVariable s (slice_index s.cluster_of (group_is.claimed - 1))) group_is.refuted at kept.pairs.1 last.variable,
    kept.pairs.2,
  );
  are_refuted = All-push (λ a. IsRefutedIn (group after) (together group_is.present a)) group_is.refuted at
      (All-weaker (λ a. IsRefutedIn (group before) (together group_is.present a)) (λ a. IsRefutedIn (group after) (together group_is.present a))
      (λ a closed. (
        closed.0,
        closed-after before (together group_is.present at) [] after (together group_is.present a)
            (Refuted closed.0) asked closed.1,
      )) group_is.refuted
      kept.are_refuted) (
        hints,
        subst (λ (step : CertRecord). IsClosedBy (group after) (together group_is.present at) step) is (closed-here before
            (together group_is.present at) [] after asked),
      );
  are_undecided = All-weaker (λ a. IsUndecidedIn (group before) (together group_is.present a)) (λ a. IsUndecidedIn (group after) (together group_is.present a))
      (λ a closed. closed-after before (together group_is.present at) [] after (together group_is.present a) Undecided asked closed) group_is.undecided
      kept.are_undecided;
  uncovered = (
    (λ k d within covered. all-left (λ a. ¬ IsCovered (matter_in g) before group_is.claimed group_is.named (pair_at s a)) group_is.left at kept.uncovered.0
        k d within (back (get_or group_is.left k d) covered)),
    λ k d within covered. kept.uncovered.1 k d within (back (get_or group_is.undecided k d) covered),
  );
  asked = λ a there left. ⊎_elim
      (λ old. kept.asked a old (Contains-append_left group_is.left (at ∷ []) a left))
      (λ same. not-among group_is.left at last.above (subst (λ (n : ℕ). Contains group_is.left n) (sym same) left))
      (asked-after before group_is.present at a [] after asked there);
}
  where
    last : LastPair s g before group_is at
    last = last-pair s g before group_is at kept

    left-apart : All (λ a. (¬ Contains group_is.refuted a) × (¬ Contains group_is.undecided a)) group_is.left
    left-apart = all-left (λ a. (¬ Contains group_is.refuted a) × (¬ Contains group_is.undecided a)) group_is.left at kept.left_apart

    back : (a : ℕ) → IsCovered (matter_in g) after group_is.claimed group_is.named (pair_at s a)
        → IsCovered (matter_in g) before group_is.claimed group_is.named (pair_at s a)
    back a covered = some-before g before after (together group_is.present at) asked (Covers (matter_in g) (pair_at s a)) group_is.named
        ((matter_in g).present group_is.claimed) covered

pub undecided-step : (g : Setting) (s : SpaceView) (before after : List CertRecord) (group_is : GroupView) (at : ℕ)
    → IsGroupAt g before s (with_left group_is at) → (asked : AreAsked before (together group_is.present at) [] after) → asked.answer ≡ Undecided
    → IsGroupAt g after s (record group_is { undecided = group_is.undecided ++ at ∷ [] })
undecided-step g s before after group_is at kept asked is = record {
  claimed = kept.claimed ∙ ap (λ (n : ℕ). n + 1) (sym (count-after before (together group_is.present at) [] after asked));
  upto = kept.upto;
  present = kept.present;
  each = subst (λ (ms : List (List ℕ)). All (λ m. Contains m group_is.present) ms) (sym (again g before after (together group_is.present at) asked)) kept.each;
  some = λ none. subst (λ (ms : List (List ℕ)). 0 < length ms) (sym (again g before after (together group_is.present at) asked)) (kept.some none);
  names = All-weaker (IsNameable before group_is.present (length (group_is.left ++ at ∷ []))) (IsNameable after group_is.present (length group_is.left))
      (λ n name. nameable-again g before after (together group_is.present at) asked group_is.present (length (group_is.left ++ at ∷ []))
      (length group_is.left) n
      (omega (arith, length-append group_is.left (at ∷ []))) name) group_is.named kept.names;
  distinct = kept.distinct;
  today = some-again g before after (together group_is.present at) asked (λ m. Contains m 1) group_is.named group_is.present kept.today;
  few = few-again g before after (together group_is.present at) asked s (slice_index s.cluster_of (group_is.claimed - 1)) group_is.present group_is.named
      kept.few;
  falling = pairs-front (λ a b. b < a) group_is.left at kept.falling;
  apart = λ k d within there. ⊎_elim (kept.apart k d within)
      (λ same. last.apart.0 (k, within, get_or_default group_is.refuted k at d within ∙ sym same))
      (Contains-push_cases group_is.undecided at (get_or group_is.refuted k d) there);
  left_apart = λ k d within. (
    (left-apart k d within).0,
    still-apart group_is.left group_is.undecided at last.above (λ j e short. (left-apart j e short).1) k d within,
  );
  pairs = (
    all-left (IsPairVariable s (slice_index s.cluster_of (group_is.claimed - 1))) group_is.left at kept.pairs.0,
    kept.pairs.1,
    All-push (IsPairVariable s (slice_index s.cluster_of (group_is.claimed - 1))) group_is.undecided at kept.pairs.2 last.variable,
  );
  are_refuted = All-weaker (λ a. IsRefutedIn (group before) (together group_is.present a)) (λ a. IsRefutedIn (group after) (together group_is.present a))
      (λ a closed. (closed.0, closed-after before (together group_is.present at) [] after (together group_is.present a) (Refuted closed.0) asked closed.1))
      group_is.refuted kept.are_refuted;
  are_undecided = All-push (λ a. IsUndecidedIn (group after) (together group_is.present a)) group_is.undecided at
      (All-weaker (λ a. IsUndecidedIn (group before) (together group_is.present a)) (λ a. IsUndecidedIn (group after) (together group_is.present a))
      (λ a closed. closed-after before (together group_is.present at) [] after (together group_is.present a) Undecided asked closed) group_is.undecided
      kept.are_undecided)
      (subst (λ (step : CertRecord). IsClosedBy (group after) (together group_is.present at) step) is
      (closed-here before (together group_is.present at) [] after asked));
  uncovered = (
    (λ k d within covered. all-left (λ a. ¬ IsCovered (matter_in g) before group_is.claimed group_is.named (pair_at s a)) group_is.left at kept.uncovered.0
        k d within (back (get_or group_is.left k d) covered)),
    All-push (λ a. ¬ IsCovered (matter_in g) after group_is.claimed group_is.named (pair_at s a)) group_is.undecided at
        (λ k d within covered. kept.uncovered.1 k d within (back (get_or group_is.undecided k d) covered)) (λ covered. last.uncovered (back at covered)),
  );
  asked = λ a there left. ⊎_elim
      (λ old. kept.asked a old (Contains-append_left group_is.left (at ∷ []) a left))
      (λ same. not-among group_is.left at last.above (subst (λ (n : ℕ). Contains group_is.left n) (sym same) left))
      (asked-after before group_is.present at a [] after asked there);
}
  where
    last : LastPair s g before group_is at
    last = last-pair s g before group_is at kept

    left-apart : All (λ a. (¬ Contains group_is.refuted a) × (¬ Contains group_is.undecided a)) group_is.left
    left-apart = all-left (λ a. (¬ Contains group_is.refuted a) × (¬ Contains group_is.undecided a)) group_is.left at kept.left_apart

    back : (a : ℕ) → IsCovered (matter_in g) after group_is.claimed group_is.named (pair_at s a)
        → IsCovered (matter_in g) before group_is.claimed group_is.named (pair_at s a)
    back a covered = some-before g before after (together group_is.present at) asked (Covers (matter_in g) (pair_at s a)) group_is.named
        ((matter_in g).present group_is.claimed) covered

-- ---- an installation came

-- the last pair that was left was uncovered, and is covered by the new installation
few-more : (g : Setting) (s : SpaceView) (own present : ℕ) (all group : List (List ℕ)) (members named : List ℕ) (at : ℕ)
    → All (λ n. (1 ≤ n) × (n ≤ length all)) named → (few : AreFew g s own present all group named) → IsPairVariable s own at
    → Covers (matter_in g) (pair_at s at) members
    → (length named ≡ 0 → ¬ Covers (matter_in g) (pair_at s at) (slice_index_or all (few.today - 1) []))
    → AreFew g s own present (all ++ members ∷ []) (group ++ members ∷ []) named
few-more g s own present all group members named at inside few variable covers uncovered = record {
  today = few.today;
  from_one = few.from_one;
  upto = omega (arith, few.upto, long);
  has = again (λ m. Contains m present) few.today few.from_one few.upto few.has;
  now = again (λ m. Contains m 1) few.today few.from_one few.upto few.now;
  struck = λ k d within other.
      let old = few.struck k d within other in
      let number : ℕ = get_or named k d in
      record {
        at = old.at;
        variable = old.variable;
        covers = again (Covers (matter_in g) (pair_at s old.at)) number (inside k d within).0 (inside k d within).1 old.covers;
        not_today = again (λ m. ¬ Covers (matter_in g) (pair_at s old.at) m) few.today few.from_one few.upto old.not_today;
        none_later = λ j e short later. again (λ m. ¬ Covers (matter_in g) (pair_at s old.at) m) (get_or named j e) (inside j e short).0 (inside j e short).1
            (old.none_later j e short later);
      };
  of_group = λ none. again (λ m. Contains (group ++ members ∷ []) m) few.today few.from_one few.upto
      (Contains-append_left group (members ∷ []) (slice_index_or all (few.today - 1) []) (few.of_group none));
  latest = λ none other. record {
    at = at;
    variable = variable;
    covers = subst (Covers (matter_in g) (pair_at s at)) (sym newest) covers;
    not_today = again (λ m. ¬ Covers (matter_in g) (pair_at s at) m) few.today few.from_one few.upto (uncovered none);
    none_later = λ k d within. absurd (omega (arith, within));
  };
}
  where
    long : length (all ++ members ∷ []) ≡ length all + 1
    long = length-append all (members ∷ [])

    again : (P : List ℕ → Type 0) (n : ℕ) → 1 ≤ n → n ≤ length all → P (slice_index_or all (n - 1) [])
        → P (slice_index_or (all ++ members ∷ []) (n - 1) [])
    again P n from upto holds =
        let short : n - 1 < length all = omega (arith, from, upto) in
        subst P (sym (get_or_append_left all (members ∷ []) [] (n - 1) short)) holds

    newest : slice_index_or (all ++ members ∷ []) (length (all ++ members ∷ []) - 1) [] ≡ members
    newest =
        let place : length (all ++ members ∷ []) - 1 ≡ length all = omega (arith, long) in
        ap (λ (k : ℕ). get_or (all ++ members ∷ []) k []) place ∙ get_or_at all members [] [] (length all) refl

pub found-step : (g : Setting) (s : SpaceView) (before after : List CertRecord) (group_is : GroupView) (at : ℕ) (members : List ℕ) (covers : ℕ → Bool)
    → IsOfSpace kinds.Challenged s g
    → IsGroupAt g before s (with_left group_is at) → AreAsked before (together group_is.present at) (members ∷ []) after
    → Contains members group_is.present
    → ((a : ℕ) → IsPairVariable s (slice_index s.cluster_of (group_is.claimed - 1)) a → covers a ≡ true → Covers (matter_in g) (pair_at s a) members)
    → ((a : ℕ) → IsPairVariable s (slice_index s.cluster_of (group_is.claimed - 1)) a → Covers (matter_in g) (pair_at s a) members → covers a ≡ true)
    → covers at ≡ true
    → IsGroupAt g after s (record group_is {
      left = filter (λ a. not (covers a)) group_is.left;
      undecided = filter (λ a. not (covers a)) group_is.undecided;
    })
found-step g s before after group_is at members covers of kept asked has to from itself = record {
  claimed = kept.claimed ∙ ap (λ (n : ℕ). n + 1) (sym (count-after before (together group_is.present at) (members ∷ []) after asked));
  upto = kept.upto;
  present = kept.present;
  each = subst (λ (ms : List (List ℕ)). All (λ m. Contains m group_is.present) ms) (sym own_is)
      (All-push (λ m. Contains m group_is.present) (installations (group before)) members kept.each has);
  some = λ none. omega (arith, ap length own_is, length-append (installations (group before)) (members ∷ []));
  names = All-weaker (IsNameable before group_is.present (length (group_is.left ++ at ∷ [])))
      (IsNameable after group_is.present (length (filter (λ a. not (covers a)) group_is.left))) (λ n name. nameable n name) group_is.named kept.names;
  distinct = kept.distinct;
  today = more (λ m. Contains m 1) group_is.present kept.today;
  few = subst (λ (all : List (List ℕ)). AreFew g s own group_is.present all (installations (group after)) group_is.named) (sym all_is)
      (subst (λ (of_group : List (List ℕ)). AreFew g s own group_is.present (installations before ++ members ∷ []) of_group group_is.named) (sym own_is)
      (few-more g s own group_is.present (installations before) (installations (group before)) members group_is.named at inside kept.few last.variable
      (to at last.variable itself) not-today));
  falling = AllPairs-filter (λ a b. b < a) (λ a. not (covers a)) group_is.left (pairs-front (λ a b. b < a) group_is.left at kept.falling);
  apart = λ k d within there. kept.apart k d within (filter-in (λ a. not (covers a)) group_is.undecided (get_or group_is.refuted k d) there);
  left_apart = λ k d within.
      let old = All-filter (λ a. not (covers a)) (λ a. (¬ Contains group_is.refuted a) × (¬ Contains group_is.undecided a)) group_is.left
      (all-left (λ a. (¬ Contains group_is.refuted a) × (¬ Contains group_is.undecided a)) group_is.left at kept.left_apart) k d within in (
        old.0,
        λ there. old.1 (filter-in (λ a. not (covers a)) group_is.undecided (get_or (filter (λ a. not (covers a)) group_is.left) k d) there),
      );
  pairs = (
    All-filter (λ a. not (covers a)) (IsPairVariable s (slice_index s.cluster_of (group_is.claimed - 1))) group_is.left
        (all-left (IsPairVariable s (slice_index s.cluster_of (group_is.claimed - 1))) group_is.left at kept.pairs.0),
    kept.pairs.1,
    All-filter (λ a. not (covers a)) (IsPairVariable s (slice_index s.cluster_of (group_is.claimed - 1))) group_is.undecided kept.pairs.2,
  );
  are_refuted = All-weaker (λ a. IsRefutedIn (group before) (together group_is.present a)) (λ a. IsRefutedIn (group after) (together group_is.present a))
      (λ a closed. (
        closed.0,
        closed-after before (together group_is.present at) (members ∷ []) after (together group_is.present a) (Refuted closed.0) asked closed.1,
      )) group_is.refuted kept.are_refuted;
  are_undecided = All-filter (λ a. not (covers a)) (λ a. IsUndecidedIn (group after) (together group_is.present a)) group_is.undecided
      (All-weaker (λ a. IsUndecidedIn (group before) (together group_is.present a)) (λ a. IsUndecidedIn (group after) (together group_is.present a))
      (λ a closed. closed-after before (together group_is.present at) (members ∷ []) after (together group_is.present a) Undecided asked closed)
      group_is.undecided kept.are_undecided);
  uncovered = (
    (λ k d within covered.
        let a = get_or (filter (λ b. not (covers b)) group_is.left) k d in
        let variable = All-filter (λ b. not (covers b)) (IsPairVariable s (slice_index s.cluster_of (group_is.claimed - 1))) group_is.left
        (all-left (IsPairVariable s (slice_index s.cluster_of (group_is.claimed - 1))) group_is.left at kept.pairs.0) k d within in
        let none = All-filter (λ b. not (covers b)) (λ b. ¬ IsCovered (matter_in g) before group_is.claimed group_is.named (pair_at s b)) group_is.left
        (all-left (λ b. ¬ IsCovered (matter_in g) before group_is.claimed group_is.named (pair_at s b)) group_is.left at kept.uncovered.0) k d within in
        back a variable (not-true (covers a) (filter_passes (λ b. not (covers b)) group_is.left k d within)) none covered),
    λ k d within covered.
        let a = get_or (filter (λ b. not (covers b)) group_is.undecided) k d in
        let variable = All-filter (λ b. not (covers b)) (IsPairVariable s (slice_index s.cluster_of (group_is.claimed - 1))) group_is.undecided kept.pairs.2
        k d within in
        let none = All-filter (λ b. not (covers b)) (λ b. ¬ IsCovered (matter_in g) before group_is.claimed group_is.named (pair_at s b)) group_is.undecided
        kept.uncovered.1 k d within in
        back a variable (not-true (covers a) (filter_passes (λ b. not (covers b)) group_is.undecided k d within)) none covered,
  );
  asked = λ a there left. ⊎_elim
      (λ old. kept.asked a old (Contains-append_left group_is.left (at ∷ []) a (filter-in (λ b. not (covers b)) group_is.left a left)))
      (λ same. not-among group_is.left at last.above
      (subst (λ (n : ℕ). Contains group_is.left n) (sym same) (filter-in (λ b. not (covers b)) group_is.left a left)))
      (asked-after before group_is.present at a (members ∷ []) after asked there);
}
  where
    own : ℕ
    own = slice_index s.cluster_of (group_is.claimed - 1)

    own_is : installations (group after) ≡ installations (group before) ++ members ∷ []
    own_is = in-group-after before (together group_is.present at) (members ∷ []) after asked

    all_is : installations after ≡ installations before ++ members ∷ []
    all_is = installed-after before (together group_is.present at) (members ∷ []) after asked

    last : LastPair s g before group_is at
    last = last-pair s g before group_is at kept

    inside : All (λ n. (1 ≤ n) × (n ≤ length (installations before))) group_is.named
    inside k d within = let name = kept.names k d within in (name.from_one, name.upto)

    not-today : length group_is.named ≡ 0 → ¬ Covers (matter_in g) (pair_at s at) (installation_at before kept.few.today)
    not-today none covers =
        let today = installation_at before kept.few.today in
        let has = subst (λ (v : ℕ). Contains today v) (kept.present ∙ sym (present-is kinds.Challenged s g of group_is.claimed)) kept.few.has in
        let P : List ℕ → Type 0 = λ m. Contains m ((matter_in g).present group_is.claimed) × Covers (matter_in g) (pair_at s at) m in
        last.uncovered (inr (any-contained P (installations (group before)) today (kept.few.of_group none) (has, covers)))

    more : (P : List ℕ → Type 0) (variable : ℕ) → SomeInstallation before group_is.named variable P → SomeInstallation after group_is.named variable P
    more P variable some =
        subst (λ (all : List (List ℕ)). SomeOf all (installations (group after)) group_is.named variable P) (sym all_is)
        (subst (λ (own : List (List ℕ)). SomeOf (installations before ++ members ∷ []) own group_is.named variable P) (sym own_is)
        (some-more P (installations before) (installations (group before)) members group_is.named variable inside some))

    nameable : (n : ℕ) → IsNameable before group_is.present (length (group_is.left ++ at ∷ [])) n
        → IsNameable after group_is.present (length (filter (λ a. not (covers a)) group_is.left)) n
    nameable n name =
        let size = ap length all_is in
        let long = length-append (installations before) (members ∷ []) in
        let few = filter-few (λ a. not (covers a)) group_is.left in
        record {
          from_one = name.from_one;
          upto = omega (arith, name.upto, size, long);
          lasts = omega (arith, name.lasts, size, long, few, length-append group_is.left (at ∷ []));
          has = subst (λ (all : List (List ℕ)). Contains (get_or all (n - 1) []) group_is.present) (sym all_is)
              (subst (λ (m : List ℕ). Contains m group_is.present)
              (sym (get_or_append_left (installations before) (members ∷ []) [] (n - 1) (omega (arith, name.from_one, name.upto)))) name.has);
        }

    back : (a : ℕ) → IsPairVariable s (slice_index s.cluster_of (group_is.claimed - 1)) a → covers a ≡ false
        → ¬ IsCovered (matter_in g) before group_is.claimed group_is.named (pair_at s a)
        → ¬ IsCovered (matter_in g) after group_is.claimed group_is.named (pair_at s a)
    back a variable lacks none covered =
        ⊎_elim none (λ now. true≢false (sym (from a variable now) ∙ lacks))
        (some-back (Covers (matter_in g) (pair_at s a)) (installations before) (installations (group before)) members group_is.named
        ((matter_in g).present group_is.claimed) inside
        (subst (λ (own : List (List ℕ)). SomeOf (installations before ++ members ∷ []) own group_is.named ((matter_in g).present group_is.claimed)
        (Covers (matter_in g) (pair_at s a))) own_is
        (subst (λ (all : List (List ℕ)). SomeOf all (installations (group after)) group_is.named ((matter_in g).present group_is.claimed)
        (Covers (matter_in g) (pair_at s a))) all_is covered)))

-- ---- what the group says nothing of stays covered

pub refuted-rest : (g : Setting) (s : SpaceView) (before after : List CertRecord) (group_is : GroupView) (at : ℕ)
    → (asked : AreAsked before (together group_is.present at) [] after) → CoversRest g before s (with_left group_is at)
    → CoversRest g after s (record group_is { refuted = group_is.refuted ++ at ∷ [] })
refuted-rest g s before after group_is at asked covers a variable not_left not_refuted not_undecided =
    some-again g before after (together group_is.present at) asked (Covers (matter_in g) (pair_at s a)) group_is.named
    ((matter_in g).present group_is.claimed)
    (covers a variable
    (λ there. ⊎_elim not_left (λ same. not_refuted (subst (λ (n : ℕ). Contains (group_is.refuted ++ at ∷ []) n) same (Contains-push group_is.refuted at)))
    (Contains-push_cases group_is.left at a there))
    (λ there. not_refuted (Contains-append_left group_is.refuted (at ∷ []) a there)) not_undecided)

pub undecided-rest : (g : Setting) (s : SpaceView) (before after : List CertRecord) (group_is : GroupView) (at : ℕ)
    → (asked : AreAsked before (together group_is.present at) [] after) → CoversRest g before s (with_left group_is at)
    → CoversRest g after s (record group_is { undecided = group_is.undecided ++ at ∷ [] })
undecided-rest g s before after group_is at asked covers a variable not_left not_refuted not_undecided =
    some-again g before after (together group_is.present at) asked (Covers (matter_in g) (pair_at s a)) group_is.named
    ((matter_in g).present group_is.claimed)
    (covers a variable
    (λ there. ⊎_elim not_left (λ same. not_undecided (subst (λ (n : ℕ). Contains (group_is.undecided ++ at ∷ []) n) same
    (Contains-push group_is.undecided at)))
    (Contains-push_cases group_is.left at a there))
    not_refuted (λ there. not_undecided (Contains-append_left group_is.undecided (at ∷ []) a there)))

pub found-rest : (g : Setting) (s : SpaceView) (before after : List CertRecord) (group_is : GroupView) (at : ℕ) (members : List ℕ) (covers : ℕ → Bool)
    → IsOfSpace kinds.Challenged s g → IsGroupAt g before s (with_left group_is at)
    → AreAsked before (together group_is.present at) (members ∷ []) after → Contains members group_is.present
    → ((a : ℕ) → IsPairVariable s (slice_index s.cluster_of (group_is.claimed - 1)) a → covers a ≡ true → Covers (matter_in g) (pair_at s a) members)
    → covers at ≡ true → CoversRest g before s (with_left group_is at)
    → CoversRest g after s (record group_is {
      left = filter (λ a. not (covers a)) group_is.left;
      undecided = filter (λ a. not (covers a)) group_is.undecided;
    })
found-rest g s before after group_is at members covers of kept asked has to itself rests a variable not_left not_refuted not_undecided =
    rest (covers a) refl
  where
    own_is : installations (group after) ≡ installations (group before) ++ members ∷ []
    own_is = in-group-after before (together group_is.present at) (members ∷ []) after asked

    all_is : installations after ≡ installations before ++ members ∷ []
    all_is = installed-after before (together group_is.present at) (members ∷ []) after asked

    inside : All (λ n. (1 ≤ n) × (n ≤ length (installations before))) group_is.named
    inside k d within = let name = kept.names k d within in (name.from_one, name.upto)

    after-all : SomeOf (installations before ++ members ∷ []) (installations (group before) ++ members ∷ []) group_is.named
        ((matter_in g).present group_is.claimed) (Covers (matter_in g) (pair_at s a))
        → IsCovered (matter_in g) after group_is.claimed group_is.named (pair_at s a)
    after-all some =
        subst (λ (all : List (List ℕ)). SomeOf all (installations (group after)) group_is.named ((matter_in g).present group_is.claimed)
        (Covers (matter_in g) (pair_at s a))) (sym all_is)
        (subst (λ (own : List (List ℕ)). SomeOf (installations before ++ members ∷ []) own group_is.named ((matter_in g).present group_is.claimed)
        (Covers (matter_in g) (pair_at s a))) (sym own_is) some)

    rest : (b : Bool) → covers a ≡ b → IsCovered (matter_in g) after group_is.claimed group_is.named (pair_at s a)
    rest true holds = after-all
        (some-new (Covers (matter_in g) (pair_at s a)) (installations before) (installations (group before)) members group_is.named
        ((matter_in g).present group_is.claimed)
        (subst (λ (v : ℕ). Contains members v) (kept.present ∙ sym (present-is kinds.Challenged s g of group_is.claimed)) has) (to a variable holds))
    rest false lacks = after-all
        (some-more (Covers (matter_in g) (pair_at s a)) (installations before) (installations (group before)) members group_is.named
        ((matter_in g).present group_is.claimed) inside
        (rests a variable
        (λ there. ⊎_elim
        (λ left. not_left (in-filter (λ b. not (covers b)) group_is.left a left (not-false (covers a) lacks)))
        (λ same. true≢false (sym itself ∙ ap covers same ∙ lacks))
        (Contains-push_cases group_is.left at a there))
        not_refuted (λ there. not_undecided (in-filter (λ b. not (covers b)) group_is.undecided a there (not-false (covers a) lacks)))))

-- ---- each pair that was asked for stays answered

-- what a question for a pair adds to those of a group
pub today-after : (before after : List CertRecord) (v at : ℕ) (installed : List (List ℕ)) → v ≢ 1 → AreAsked before (together v at) installed after
    → ¬ Contains (group before) (Question (together 1 v)) → ¬ Contains (group after) (Question (together 1 v))
today-after before after v at installed other asked none there =
    ⊎_elim none (λ new. other (same-first v at 1 v new))
    (questions-of (group before) asked.between (together v at) (together 1 v) asked.answer asked.only_derived asked.answer_line
    (subst (λ (ls : List CertRecord). Contains ls (Question (together 1 v))) (group-after before (together v at) installed after asked) there))

pub own-after : (g : Setting) (s : SpaceView) (before after : List CertRecord) (v at other : ℕ) (installed : List (List ℕ))
    → AreAsked before (together v at) installed after → CoversOwn g before s other → CoversOwn g after s other
own-after g s before after v at other installed asked any =
    subst (λ (ms : List (List ℕ)). Any (Covers (matter_in g) (pair_at s other)) ms) (sym (in-group-after before (together v at) installed after asked))
    (any-append-left (Covers (matter_in g) (pair_at s other)) (installations (group before)) installed any)

pub refuted-answered : (g : Setting) (s : SpaceView) (before after : List CertRecord) (group_is : GroupView) (at : ℕ)
    → (asked : AreAsked before (together group_is.present at) [] after) → EachAnswered g before s (with_left group_is at)
    → EachAnswered g after s (record group_is { refuted = group_is.refuted ++ at ∷ [] })
refuted-answered g s before after group_is at asked are a there = ⊎_elim
    (λ old. ⊎_elim (λ refuted. inl (Contains-append_left group_is.refuted (at ∷ []) a refuted))
    (λ more. inr (⊎_elim (λ undecided. inl undecided)
    (λ own. inr (own-after g s before after group_is.present at a [] asked own)) more)) (are a old))
    (λ same. inl (subst (λ (n : ℕ). Contains (group_is.refuted ++ at ∷ []) n) same (Contains-push group_is.refuted at)))
    (asked-after before group_is.present at a [] after asked there)

pub undecided-answered : (g : Setting) (s : SpaceView) (before after : List CertRecord) (group_is : GroupView) (at : ℕ)
    → (asked : AreAsked before (together group_is.present at) [] after) → EachAnswered g before s (with_left group_is at)
    → EachAnswered g after s (record group_is { undecided = group_is.undecided ++ at ∷ [] })
undecided-answered g s before after group_is at asked are a there = ⊎_elim
    (λ old. ⊎_elim (λ refuted. inl refuted)
    (λ more. inr (⊎_elim (λ undecided. inl (Contains-append_left group_is.undecided (at ∷ []) a undecided))
    (λ own. inr (own-after g s before after group_is.present at a [] asked own)) more)) (are a old))
    (λ same. inr (inl (subst (λ (n : ℕ). Contains (group_is.undecided ++ at ∷ []) n) same (Contains-push group_is.undecided at))))
    (asked-after before group_is.present at a [] after asked there)

pub found-answered : (g : Setting) (s : SpaceView) (before after : List CertRecord) (group_is : GroupView) (at : ℕ) (members : List ℕ) (covers : ℕ → Bool)
    → AreAsked before (together group_is.present at) (members ∷ []) after
    → All (IsPairVariable s (slice_index s.cluster_of (group_is.claimed - 1))) group_is.undecided
    → ((a : ℕ) → IsPairVariable s (slice_index s.cluster_of (group_is.claimed - 1)) a → covers a ≡ true → Covers (matter_in g) (pair_at s a) members)
    → IsPairVariable s (slice_index s.cluster_of (group_is.claimed - 1)) at → covers at ≡ true → EachAnswered g before s (with_left group_is at)
    → EachAnswered g after s (record group_is {
      left = filter (λ a. not (covers a)) group_is.left;
      undecided = filter (λ a. not (covers a)) group_is.undecided;
    })
found-answered g s before after group_is at members covers asked variables to variable itself are a there = ⊎_elim
    (λ old. ⊎_elim (λ refuted. inl refuted)
    (λ more. inr (⊎_elim (λ undecided. still a undecided (covers a) refl)
    (λ own. inr (own-after g s before after group_is.present at a (members ∷ []) asked own)) more)) (are a old))
    (λ same. inr (inr (new a (subst (λ (n : ℕ). Covers (matter_in g) (pair_at s n) members) same (to at variable itself)))))
    (asked-after before group_is.present at a (members ∷ []) after asked there)
  where
    new : (a : ℕ) → Covers (matter_in g) (pair_at s a) members → CoversOwn g after s a
    new a holds =
        subst (λ (ms : List (List ℕ)). Any (Covers (matter_in g) (pair_at s a)) ms)
        (sym (in-group-after before (together group_is.present at) (members ∷ []) after asked))
        (any-append-right (Covers (matter_in g) (pair_at s a)) (installations (group before)) members holds)

    still : (a : ℕ) → Contains group_is.undecided a → (b : Bool) → covers a ≡ b
        → Contains (filter (λ x. not (covers x)) group_is.undecided) a ⊎ CoversOwn g after s a
    still a there true holds = inr (new a (to a (All-contains (IsPairVariable s (slice_index s.cluster_of (group_is.claimed - 1))) group_is.undecided a
        variables there) holds))
    still a there false lacks = inl (in-filter (λ x. not (covers x)) group_is.undecided a there (not-false (covers a) lacks))
