-- The pairs that installations cover, one installation after another.
use Rattle.std.proofs.Common.{◌≡◌, ◌≢◌, ◌⊎◌, ◌||◌, inl, inr, ℕ, ◌+◌, ◌-◌, ◌<◌, ◌≤◌, Bool, true, false, not, cond, List, [], ◌∷◌, ◌++◌, length, get_or}
use Rattle.std.proofs.Common.{filter, refl, ap, sym, subst, ◌∙◌, arith}
use Rattle.std.specs.List.{All, Contains, list_any}
use Rattle.std.specs.Prelude.{slice_index}
use Rattle.std.proofs.lemmas.Bool.{cases_eq, true≢false, false≢true, or_parts}
use Rattle.std.proofs.lemmas.List.{get_or_default}
use Rattle.std.proofs.lemmas.List.Elements.{All-cons, All-contains, All-filter, All-head, All-nil, All-push, All-tail, All-weaker}
use Rattle.std.proofs.lemmas.List.Elements.{Contains-append_left, Contains-push, filter_passes}
use Rattle.std.proofs.lemmas.List.Kept.{AllPairs-filter}
use Rattle.dist_clause.specs.Formula.{value_of}
use Rattle.dist_cert.specs.ClaimRules.{IsPairBelow}
use Rattle.dist_cert.specs.ListLaws.{any-from, contains-later, from-any}
use Rattle.dist_cert.specs.Rising.{AreRising, is_among}
use Rattle.dist_space.specs.Space.{IsSpace, SpaceView, cluster_classes, variable_of}
use Rattle.dist_space.specs.VariableLaws.{place-at, variable-range}
use Rattle.dist_space.specs.declared.meaning.Meaning.TheVariants.{At}
use Rattle.dist_sweep.specs.Window.{WindowView, kept_at}
use Rattle.dist_covering.specs.Covering.{CoveringView}
use Rattle.dist_covering.specs.OpenPairs.{AreClustersFrom, AreGathered, AreOpen, HasClasses, HasStruck, IsAbove, IsGathering, IsKept}
use Rattle.dist_covering.specs.OpenPairs.{IsPairVariable, IsPlan, IsStriker, Lasts, covered_by, is_covered, used_by}
use Rattle.dist_covering.specs.Used.{pair_at}
use Rattle.dist_covering.specs.PairLaws.{variable-below, variable-pair, means}
use Rattle.dist_space.specs.RisingLaws.{pairs-none}
use Rattle.dist_covering.specs.ListLaws.{pairs-push, in-filter, filter-few, not-true, not-false}

-- ---- lists

any-last : {X : Type 0} (f : X → Bool) (xs : List X) (y : X) → list_any f (xs ++ y ∷ []) ≡ (list_any f xs || f y)
any-last f [] y = by (f y)
  where
    by : (b : Bool) → (b || false) ≡ b
    by true = refl
    by false = refl
any-last f (x ∷ xs) y = ap (λ (b : Bool). f x || b) (any-last f xs y) ∙ by (f x) (list_any f xs) (f y)
  where
    by : (a b c : Bool) → (a || (b || c)) ≡ ((a || b) || c)
    by true b c = refl
    by false b c = refl

-- ---- one installation strikes

pub not-covered : (v u : Bool) → (v || not u) ≡ false → (v ≡ false) × (u ≡ true)
not-covered true u is = absurd (true≢false is)
not-covered false true is = (refl, refl)
not-covered false false is = absurd (true≢false is)

pub open-pair : (v u : Bool) → v ≡ false → u ≡ true → (v || not u) ≡ false
open-pair true u is among = absurd (true≢false is)
open-pair false true is among = refl
open-pair false false is among = absurd (false≢true among)

pub open-struck : (c : CoveringView) (w : WindowView) (own number : ℕ) (numbers ats : List ℕ) → AreOpen c w own numbers ats
    → AreOpen c w own (numbers ++ number ∷ []) (filter (λ at. not (covered_by c w number at)) ats)
open-struck c w own number numbers ats are = record {
  falling = AllPairs-filter (λ a b. b < a) (λ at. not (covered_by c w number at)) ats are.falling;
  pairs = All-filter (λ at. not (covered_by c w number at)) (IsPairVariable c.space own) ats are.pairs;
  open_still = λ k d within.
      let at = get_or (filter (λ a. not (covered_by c w number a)) ats) k d in
      let old = All-filter (λ a. not (covered_by c w number a)) (λ a. is_covered c w numbers a ≡ false) ats are.open_still k d within in
      let new = not-true (covered_by c w number at) (filter_passes (λ a. not (covered_by c w number a)) ats k d within) in
      any-last (λ n. covered_by c w n at) numbers number
      ∙ ap (λ (b : Bool). b || covered_by c w number at) old ∙ new;
  all = λ at variable none.
      let parts = or_parts (is_covered c w numbers at) (covered_by c w number at) (sym (any-last (λ n. covered_by c w n at) numbers number) ∙ none) in
      in-filter (λ a. not (covered_by c w number a)) ats at (are.all at variable parts.0) (not-false (covered_by c w number at) parts.1);
}

striker-later : (w : WindowView) (present today more less below lower number : ℕ) → less ≤ more → lower ≤ below
    → IsStriker w present today more below number → IsStriker w present today less lower number
striker-later w present today more less below lower number fewer under striker = record {
  kept = striker.kept;
  has = striker.has;
  other = striker.other;
  lasts = let lasts = striker.lasts in omega (arith, lasts, fewer);
  above = omega (arith, striker.above, under);
}

pub plan-passed : (c : CoveringView) (w : WindowView) (present own today start below lower : ℕ) (named ats : List ℕ) → lower ≤ below
    → IsPlan c w present own today start below named ats → IsPlan c w present own today start lower named ats
plan-passed c w present own today start below lower named ats under plan = record {
  falling = plan.falling;
  strikers = All-weaker (IsStriker w present today (length ats) below) (IsStriker w present today (length ats) lower)
      (λ n striker. striker-later w present today (length ats) (length ats) below lower n (omega arith) under striker) named plan.strikers;
  struck = plan.struck;
  are_open = plan.are_open;
}

pub plan-starts : (c : CoveringView) (w : WindowView) (present own today start below : ℕ) (ats : List ℕ) → AreOpen c w own (start ∷ today ∷ []) ats
    → IsPlan c w present own today start below [] ats
plan-starts c w present own today start below ats are = record {
  falling = pairs-none (λ m n. n < m);
  strikers = All-nil (IsStriker w present today (length ats) below);
  struck = All-nil (HasStruck c w own today []);
  are_open = are;
}

-- a pair that is left out of some is one that the test refuses
pub record LeftOut {X : Type 0} (test : X → Bool) (xs : List X) : Type 0 where
  pub it : X
  pub there : Contains xs it
  pub refused : test it ≡ false

left-out : {X : Type 0} (test : X → Bool) (xs : List X) → length (filter test xs) < length xs → LeftOut test xs
left-out test [] less = absurd (omega (arith, less))
left-out {X} test (y ∷ xs) less = by (λ fewer. left-out test xs fewer) (test y) refl less
  where
    by : (length (filter test xs) < length xs → LeftOut test xs) → (b : Bool) → test y ≡ b
        → length (cond b (y ∷ filter test xs) (filter test xs)) < length (y ∷ xs) → LeftOut test (y ∷ xs)
    by rest false is fewer = record { it = y; there = (0, omega arith, refl); refused = is }
    by rest true is fewer =
        let later = rest (omega (arith, fewer)) in
        record { it = later.it; there = contains-later y xs later.it later.there; refused = later.refused }

none-covers-it : (c : CoveringView) (w : WindowView) (at : ℕ) (numbers : List ℕ) → is_covered c w numbers at ≡ false
    → All (λ number. covered_by c w number at ≡ false) numbers
none-covers-it c w at [] lacks = All-nil (λ number. covered_by c w number at ≡ false)
none-covers-it c w at (n ∷ numbers) lacks =
    let parts = or_parts (covered_by c w n at) (is_covered c w numbers at) lacks in
    All-cons (λ number. covered_by c w number at ≡ false) n numbers parts.0 (none-covers-it c w at numbers parts.1)

-- an earlier installation is named too
struck-still : (c : CoveringView) (w : WindowView) (own today number n : ℕ) (named : List ℕ) → number < n → HasStruck c w own today named n
    → HasStruck c w own today (named ++ number ∷ []) n
struck-still c w own today number n named earlier struck = record {
  at = struck.at;
  variable = struck.variable;
  covers = struck.covers;
  not_today = struck.not_today;
  none_later = All-push (λ later. n < later → covered_by c w later struck.at ≡ false) named number struck.none_later
      (λ less. absurd (omega (arith, earlier, less)));
}

-- the installation struck one of the pairs that were left
struck-here : (c : CoveringView) (w : WindowView) (own today start number : ℕ) (named ats : List ℕ) → AreOpen c w own (start ∷ today ∷ named) ats
    → length (filter (λ at. not (covered_by c w number at)) ats) < length ats → HasStruck c w own today (named ++ number ∷ []) number
struck-here c w own today start number named ats are less =
    let out = left-out (λ at. not (covered_by c w number at)) ats less in
    let all = none-covers-it c w out.it (start ∷ today ∷ named)
    (All-contains (λ at. is_covered c w (start ∷ today ∷ named) at ≡ false) ats out.it are.open_still out.there) in
    let none = All-tail (λ n. covered_by c w n out.it ≡ false) start (today ∷ named) all in
    record {
      at = out.it;
      variable = All-contains (IsPairVariable c.space own) ats out.it are.pairs out.there;
      covers = not-not (covered_by c w number out.it) out.refused;
      not_today = All-head (λ n. covered_by c w n out.it ≡ false) today named none;
      none_later = All-push (λ later. number < later → covered_by c w later out.it ≡ false) named number
          (λ k d within less. All-tail (λ n. covered_by c w n out.it ≡ false) today named none k d within)
          (λ less. absurd (omega (arith, less)));
    }
  where
    not-not : (b : Bool) → not b ≡ false → b ≡ true
    not-not true is = refl
    not-not false is = absurd (true≢false is)

pub plan-struck : (c : CoveringView) (w : WindowView) (present own today start number : ℕ) (named ats left : List ℕ) → IsKept w number → 1 ≤ number
    → value_of (kept_at w number) present ≡ true → number ≢ today → Lasts w (length left) number → length left < length ats
    → left ≡ filter (λ at. not (covered_by c w number at)) ats → IsPlan c w present own today start number named ats
    → IsPlan c w present own today start (number - 1) (named ++ number ∷ []) left
plan-struck c w present own today start number named ats left kept from has other lasts fewer is plan =
    let few : length left ≤ length ats = subst (λ (xs : List ℕ). length xs ≤ length ats) (sym is) (filter-few (λ at. not (covered_by c w number at)) ats) in
    record {
      falling = pairs-push (λ m n. n < m) named number plan.falling (λ k d within. (plan.strikers k d within).above);
      strikers = All-push (IsStriker w present today (length left) (number - 1)) named number
          (All-weaker (IsStriker w present today (length ats) number) (IsStriker w present today (length left) (number - 1))
          (λ n striker. striker-later w present today (length ats) (length left) number (number - 1) n few (omega arith) striker) named plan.strikers)
          (record { kept = kept; has = has; other = other; lasts = lasts; above = omega (arith, from) });
      struck = All-push (HasStruck c w own today (named ++ number ∷ [])) named number
          (λ k d within. struck-still c w own today number (get_or named k d) named (plan.strikers k d within).above (plan.struck k d within))
          (struck-here c w own today start number named ats plan.are_open (subst (λ (xs : List ℕ). length xs < length ats) is fewer));
      are_open = subst (λ (xs : List ℕ). AreOpen c w own (start ∷ today ∷ (named ++ number ∷ [])) xs) (sym is)
          (open-struck c w own number (start ∷ today ∷ named) ats plan.are_open);
    }

-- an installation that is told twice covers no more
pub open-twice : (c : CoveringView) (w : WindowView) (own today : ℕ) (ats : List ℕ) → AreOpen c w own (today ∷ []) ats
    → AreOpen c w own (today ∷ today ∷ []) ats
open-twice c w own today ats are = record {
  falling = are.falling;
  pairs = are.pairs;
  open_still = λ k d within. twice (covered_by c w today (get_or ats k d)) ∙ are.open_still k d within;
  all = λ at variable none. are.all at variable (sym (twice (covered_by c w today at)) ∙ none);
}
  where
    twice : (b : Bool) → (b || (b || false)) ≡ (b || false)
    twice true = refl
    twice false = refl

-- ---- the pairs of today's installation

pub none-gathered : (c : CoveringView) (w : WindowView) (own today : ℕ) → AreGathered c w own today []
none-gathered c w own today = record {
  falling = pairs-none (λ a b. b < a);
  pairs = All-nil (IsPairVariable c.space own);
  open_still = All-nil (λ at. covered_by c w today at ≡ false);
}

pub gathering-starts : (c : CoveringView) (w : WindowView) (own today cluster from : ℕ) (old : List ℕ) → from ≡ length (cluster_classes c.space cluster)
    → AreGathered c w own today old → All (λ at. cluster + 1 < (pair_at c.space at).0) old → IsGathering c w own today cluster from old old
gathering-starts c w own today cluster from old is gathered above = record {
  gathered = gathered;
  above = λ k d within. inl (above k d within);
  kept = λ at there. there;
  classes = λ class low short none. absurd (omega (arith, low, short, is));
}

-- a class from one on is it, or comes behind it
class-cases : (class x from : ℕ) → x + 1 ≡ from → x ≤ class → (class ≡ x) ⊎ (from ≤ class)
class-cases class x from next low = elim (cases_eq class x) [
  | inl same ↦ inl same
  | inr other ↦ inr (omega (arith, next, low, other))
]

above-less : (s : SpaceView) (cluster x from at : ℕ) → x + 1 ≡ from → IsAbove s cluster from at → IsAbove s cluster x at
above-less s cluster x from at next (inl more) = inl more
above-less s cluster x from at next (inr same) = inr (same.0, omega (arith, same.1, next))

pub class-passed : (c : CoveringView) (w : WindowView) (own today cluster x from : ℕ) (old ats : List ℕ) → x + 1 ≡ from
    → value_of (kept_at w today) (variable_of c.space (At cluster x)) ≡ true → IsGathering c w own today cluster from old ats
    → IsGathering c w own today cluster x old ats
class-passed c w own today cluster x from old ats next holds gathering = record {
  gathered = gathering.gathered;
  above = All-weaker (IsAbove c.space (cluster + 1) from) (IsAbove c.space (cluster + 1) x) (λ at above. above-less c.space
      (cluster + 1) x from at next above) ats
      gathering.above;
  kept = gathering.kept;
  classes = λ class low short none. elim (class-cases class x from next low) [
    | inl same ↦ absurd (true≢false (sym holds ∙ ap (λ (k : ℕ). value_of (kept_at w today) (variable_of c.space (At cluster k))) (sym same) ∙ none))
    | inr behind ↦ gathering.classes class behind short none
  ];
}

-- the variable of a class is one of a pair
pub class-variable : (s : SpaceView) (own cluster x : ℕ) → IsSpace s → x < length (cluster_classes s cluster) → cluster ≢ own
    → IsPairVariable s own (variable_of s (At cluster x))
class-variable s own cluster x space short other =
    let range = variable-range s (At cluster x) space short in
    record { cluster = cluster; class = x; from_one = range.0; is = place-at s (At cluster x) space short; other = other }

pub class-pushed : (c : CoveringView) (w : WindowView) (own today cluster x from at : ℕ) (old ats : List ℕ) → IsSpace c.space → x + 1 ≡ from
    → x < length (cluster_classes c.space cluster) → cluster ≢ own → Contains (used_by c w today) (cluster + 1) → at ≡ variable_of c.space (At cluster x)
    → value_of (kept_at w today) at ≡ false → IsGathering c w own today cluster from old ats
    → IsGathering c w own today cluster x old (ats ++ at ∷ [])
unfolding class-variable
class-pushed c w own today cluster x from at old ats space next short other used is lacks gathering =
    let variable : IsPairVariable c.space own at = subst (λ (v : ℕ). IsPairVariable c.space own v) (sym is)
    (class-variable c.space own cluster x space short other) in
    let pair : pair_at c.space at ≡ (cluster + 1, from) =
    ap (λ (v : ℕ). pair_at c.space v) is
    ∙ variable-pair c.space own (variable_of c.space (At cluster x)) (class-variable c.space own cluster x space short other)
    ∙ ap (λ (k : ℕ). (cluster + 1, k)) next in
    record {
      gathered = record {
        falling = pairs-push (λ a b. b < a) ats at gathering.gathered.falling
            (λ k d within. variable-below c.space own at (get_or ats k d) space variable (gathering.gathered.pairs k d within)
            (subst (λ (p : ℕ × ℕ). IsPairBelow p (pair_at c.space (get_or ats k d))) (sym pair) (gathering.above k d within)));
        pairs = All-push (IsPairVariable c.space own) ats at gathering.gathered.pairs variable;
        open_still = All-push (λ a. covered_by c w today a ≡ false) ats at gathering.gathered.open_still
            (open-pair (value_of (kept_at w today) at) (is_among (used_by c w today) (pair_at c.space at).0) lacks
            (any-from (pair_at c.space at).0 (used_by c w today)
            (subst (λ (p : ℕ × ℕ). Contains (used_by c w today) p.0) (sym pair) used)));
      };
      above = All-push (IsAbove c.space (cluster + 1) x) ats at
          (All-weaker (IsAbove c.space (cluster + 1) from) (IsAbove c.space (cluster + 1) x) (λ a above. above-less c.space (cluster + 1) x from a next above)
          ats gathering.above)
          (subst (λ (p : ℕ × ℕ). IsPairBelow (cluster + 1, x) p) (sym pair) (inr (refl, omega (arith, next))));
      kept = λ a there. Contains-append_left ats (at ∷ []) a (gathering.kept a there);
      classes = λ class low within none. elim (class-cases class x from next low) [
        | inl same ↦ subst (λ (v : ℕ). Contains (ats ++ at ∷ []) v)
            (is ∙ ap (λ (k : ℕ). variable_of c.space (At cluster k)) (sym same)) (Contains-push ats at)
        | inr behind ↦ Contains-append_left ats (at ∷ []) (variable_of c.space (At cluster class)) (gathering.classes class behind within none)
      ];
    }

pub clusters-start : (c : CoveringView) (w : WindowView) (own today upto place : ℕ) → place ≡ upto → AreClustersFrom c w own today upto place []
clusters-start c w own today upto place is = record {
  gathered = none-gathered c w own today;
  above = λ k before. All-nil (λ at. slice_index (used_by c w today) k < (pair_at c.space at).0);
  clusters = λ k low short other. absurd (omega (arith, low, short, is));
}

-- the list goes on from a place
place-cases : (k x place : ℕ) → x + 1 ≡ place → x ≤ k → (k ≡ x) ⊎ (place ≤ k)
place-cases k x place next low = class-cases k x place next low

pub own-passed : (c : CoveringView) (w : WindowView) (own today upto x place : ℕ) (ats : List ℕ) → x + 1 ≡ place
    → slice_index (used_by c w today) x - 1 ≡ own → AreClustersFrom c w own today upto place ats → AreClustersFrom c w own today upto x ats
own-passed c w own today upto x place ats next is are = record {
  gathered = are.gathered;
  above = λ k before. are.above k (omega (arith, before, next));
  clusters = λ k low short other. elim (place-cases k x place next low) [
    | inl same ↦ absurd (other (ap (λ (n : ℕ). slice_index (used_by c w today) n - 1) same ∙ is))
    | inr behind ↦ are.clusters k behind short other
  ];
}

pub clusters-above : (c : CoveringView) (w : WindowView) (own today upto x place cluster : ℕ) (ats : List ℕ) → x + 1 ≡ place
    → slice_index (used_by c w today) x ≡ cluster + 1 → AreClustersFrom c w own today upto place ats
    → All (λ at. cluster + 1 < (pair_at c.space at).0) ats
clusters-above c w own today upto x place cluster ats next is are =
    subst (λ (n : ℕ). All (λ at. n < (pair_at c.space at).0) ats) is (are.above x (omega (arith, next)))

pub cluster-gathered : (c : CoveringView) (w : WindowView) (own today upto x place cluster : ℕ) (old ats : List ℕ) → x + 1 ≡ place
    → AreRising (used_by c w today) → x < length (used_by c w today) → slice_index (used_by c w today) x ≡ cluster + 1
    → AreClustersFrom c w own today upto place old → IsGathering c w own today cluster 0 old ats → AreClustersFrom c w own today upto x ats
cluster-gathered c w own today upto x place cluster old ats next rising within is are gathering = record {
  gathered = gathering.gathered;
  above = λ k before i d inside.
      let less = rising k x 0 before within in
      above (slice_index (used_by c w today) k) (get_or ats i d) (omega (arith, less, is)) (gathering.above i d inside);
  clusters = λ k low short other. elim (place-cases k x place next low) [
    | inl same ↦
        let here : cluster ≡ slice_index (used_by c w today) k - 1 = omega (arith, is, ap (λ (n : ℕ). slice_index (used_by c w today) n) same) in
        subst (λ (n : ℕ). HasClasses c w today n 0 ats) here gathering.classes
    | inr behind ↦ λ class from shorter none.
        gathering.kept (variable_of c.space (At (slice_index (used_by c w today) k - 1) class)) (are.clusters k behind short other class from shorter none)
  ];
}
  where
    above : (n at : ℕ) → n < cluster + 1 → IsAbove c.space (cluster + 1) 0 at → n < (pair_at c.space at).0
    above n at less (inl more) = omega (arith, less, more)
    above n at less (inr same) = omega (arith, less, same.0)

-- all are gathered
pub gathered-open : (c : CoveringView) (w : WindowView) (own today upto place : ℕ) (ats : List ℕ) → IsSpace c.space → place ≡ 0
    → upto ≡ length (used_by c w today) → AreClustersFrom c w own today upto place ats → AreOpen c w own (today ∷ []) ats
gathered-open c w own today upto place ats space none whole are = record {
  falling = are.gathered.falling;
  pairs = are.gathered.pairs;
  open_still = λ k d within. ap (λ (b : Bool). b || false) (are.gathered.open_still k d within);
  all = λ at variable uncovered.
      let open_now : covered_by c w today at ≡ false = (or_parts (covered_by c w today at) false uncovered).0 in
      let parts = not-covered (value_of (kept_at w today) at) (is_among (used_by c w today) (pair_at c.space at).0) open_now in
      let there = from-any (pair_at c.space at).0 (used_by c w today) parts.1 in
      let pair = variable-pair c.space own at variable in
      let used : slice_index (used_by c w today) there.0 ≡ variable.cluster + 1 =
      get_or_default (used_by c w today) there.0 0 (pair_at c.space at).0 there.1 ∙ there.2 ∙ ap (λ (p : ℕ × ℕ). p.0) pair in
      let less : slice_index (used_by c w today) there.0 - 1 ≡ variable.cluster = omega (arith, used) in
      let m = means c.space at (At variable.cluster variable.class) space variable.from_one variable.is in
      let here : variable_of c.space (At (slice_index (used_by c w today) there.0 - 1) variable.class) ≡ at =
      ap (λ (n : ℕ). variable_of c.space (At n variable.class)) less ∙ m.back in
      subst (λ (v : ℕ). Contains ats v) here
      (are.clusters there.0 (omega (arith, none)) (omega (arith, there.1, whole)) (λ e. variable.other (sym less ∙ e)) variable.class (omega arith)
      (subst (λ (n : ℕ). variable.class < length (cluster_classes c.space n)) (sym less) m.is_meaning)
      (ap (value_of (kept_at w today)) here ∙ parts.0));
}
