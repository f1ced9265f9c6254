-- The clusters that an installation uses.
use Rattle.std.proofs.Common.{◌≡◌, ◌≢◌, inl, inr, ℕ, zero, suc, ◌+◌, ◌-◌, ◌<◌, ◌≤◌, Bool, true, false, List, [], ◌∷◌, length, get_or, Some, None}
use Rattle.std.proofs.Common.{refl, ap, sym, subst, ◌∙◌, arith, slice_get, slice_set, length-set, get_or-set_same, get_or-set_other, replicate}
use Rattle.std.proofs.Math.ListN.{get_or-eq_default}
use Rattle.std.specs.List.{Contains}
use Rattle.std.specs.Prelude.{slice_index}
use Rattle.std.proofs.lemmas.Bool.{cases_eq, cases_lt, true≢false}
use Rattle.std.proofs.lemmas.List.{get_or-replicate, length-replicate}
use Rattle.std.proofs.lemmas.Option.{get_or_from_slice_get, same_Some, slice_get_within}
use Rattle.dist_base.specs.ListLaws.{element-at, here-at}
use Rattle.dist_clause.specs.Formula.{value_of}
use Rattle.dist_cert.specs.ListLaws.{any-from, from-any}
use Rattle.dist_cert.specs.Rising.{is_among}
use Rattle.dist_cluster.specs.Partition.{IsIn}
use Rattle.dist_future.specs.Pairs.{UsesNone}
use Rattle.dist_space.specs.ClusterLaws.{in-package, placed-in}
use Rattle.dist_space.specs.Space.{IsMeaning, IsSpace, SpaceView, cluster_classes, variable_of}
use Rattle.dist_space.specs.VariableLaws.{place-at, variable-range}
use Rattle.dist_space.specs.declared.meaning.Meaning.{Meaning}
use Rattle.dist_space.specs.declared.meaning.Meaning.TheVariants.{Now, Present, At, New, Kept, Fresh}
use Rattle.dist_line_write.specs.TrueOnesLaws.{contained, true-low, true-ones, true-rising, true-upto}
use Rattle.dist_line_write.specs.Words.{true_variables}
use Rattle.dist_covering.specs.Used.{AreUsed}
use Rattle.dist_covering.specs.Used.{AreFlags, IsFlagged, Uses, cluster_at, cluster_meant}
use Rattle.dist_covering.specs.PairLaws.{Means, means, cluster-is, in-own}

-- ---- values that are set

pub value-same : (xs : List Bool) (q : ℕ) → 1 ≤ q → q ≤ length xs → value_of (slice_set xs (q - 1) true) q ≡ true
value-same xs q from upto = let within : q - 1 < length xs = omega arith in get_or-set_same xs (q - 1) true false within

pub value-other : (xs : List Bool) (q r : ℕ) → 1 ≤ q → 1 ≤ r → r ≢ q → value_of (slice_set xs (q - 1) true) r ≡ value_of xs r
value-other xs q r from low other = get_or-set_other xs (q - 1) (r - 1) true false (λ e. other (omega (arith, e)))

pub none-true : (n q : ℕ) → value_of (replicate n false) q ≡ false
none-true n q = elim (cases_lt (q - 1) n) [
  | inl within ↦ get_or-replicate n (q - 1) false false within
  | inr past ↦ get_or-eq_default (replicate n false) false (omega (arith, length-replicate n false, past))
]

-- ---- lists by their numbers

pub none_at : (xs : List (List ℕ)) (k : ℕ) → slice_get xs k ≡ None → get_or xs k [] ≡ []
none_at [] k is = refl
none_at (x ∷ xs) zero is = cc
none_at (x ∷ xs) (suc k) is = none_at xs k is

-- ---- flags, and their numbers

-- of the numbers in range those are among the true ones that are true
pub among-flags : (flags : List Bool) (number : ℕ) → 1 ≤ number → number ≤ length flags → value_of flags number ≡ is_among (true_variables flags) number
among-flags flags number from upto = by (value_of flags number) refl
  where
    by : (b : Bool) → value_of flags number ≡ b → b ≡ is_among (true_variables flags) number
    by true holds = sym (any-from number (true_variables flags) ((true-ones flags number from upto).1 holds))
    by false lacks = by-among (is_among (true_variables flags) number) refl
      where
        by-among : (a : Bool) → is_among (true_variables flags) number ≡ a → false ≡ a
        by-among false is = refl
        by-among true is = absurd (true≢false (sym ((true-ones flags number from upto).0 (from-any number (true_variables flags) is)) ∙ lacks))

-- and no others
pub among-none : (flags : List Bool) (number : ℕ) → (1 ≤ number → number ≤ length flags → ⊥) → false ≡ is_among (true_variables flags) number
among-none flags number outside = by (is_among (true_variables flags) number) refl
  where
    by : (a : Bool) → is_among (true_variables flags) number ≡ a → false ≡ a
    by false is = refl
    by true is =
        let there = from-any number (true_variables flags) is in
        absurd (outside (contained (λ v. 1 ≤ v) (true_variables flags) number (true-low flags) there)
        (contained (λ v. v ≤ length flags) (true_variables flags) number (true-upto flags) there))

-- ---- clusters

pub member-within : (s : SpaceView) (cluster r : ℕ) → IsSpace s → IsIn s.clusters.members cluster r → r < length s.repository.packages
member-within s cluster r space is_in =
    let here = here-at (λ (members : List ℕ). Contains members r) s.clusters.members cluster is_in in
    let short = slice_get_within s.clusters.members cluster here.element here.is in
    let there = subst (λ (members : List ℕ). Contains members r) (sym (get_or_from_slice_get s.clusters.members cluster here.element [] here.is)) here.holds in
    let of = in-package s space.frame cluster r short there in
    slice_get_within s.repository.packages r of.package_is of.is

-- a class is one of a cluster
pub class-cluster : (s : SpaceView) (cluster class : ℕ) → IsSpace s → class < length (cluster_classes s cluster) → cluster < length s.clusters.members
class-cluster s cluster class space short = elim (cases_lt cluster (length s.classes)) [
  | inl within ↦ omega (arith, within, space.frame.classes_beside)
  | inr past ↦ absurd (let none = ap length (get_or-eq_default s.classes [] past) in omega (arith, none, short))
]

-- ---- the cluster of one variable is flagged

pub flagged : (s : SpaceView) (variable cluster : ℕ) (old new : List Bool) → cluster_at s variable ≡ Some cluster → cluster < length old
    → new ≡ slice_set old (cluster + 1 - 1) true → IsFlagged s variable old new
flagged s variable cluster old new at within is = record {
  size = ap length is ∙ length-set old (cluster + 1 - 1) true;
  kept = λ other holds. elim (cases_eq other cluster) [
    | inl same ↦ ap (λ (k : ℕ). value_of new (k + 1)) same ∙ now
    | inr apart ↦ ap (λ (xs : List Bool). value_of xs (other + 1)) is
        ∙ value-other old (cluster + 1) (other + 1) (omega arith) (omega arith) (λ e. apart (omega (arith, e))) ∙ holds
  ];
  set = λ other is_at. let same : cluster ≡ other = same_Some cluster other (sym at ∙ is_at) in ap (λ (k : ℕ). value_of new (k + 1)) (sym same) ∙ now;
  only = λ other holds. elim (cases_eq other cluster) [
    | inl same ↦ inr (at ∙ ap (λ (k : ℕ). Some k) (sym same))
    | inr apart ↦ inl (sym (ap (λ (xs : List Bool). value_of xs (other + 1)) is
        ∙ value-other old (cluster + 1) (other + 1) (omega arith) (omega arith) (λ e. apart (omega (arith, e)))) ∙ holds)
  ];
}
  where
    now : value_of new (cluster + 1) ≡ true
    now = ap (λ (xs : List Bool). value_of xs (cluster + 1)) is ∙ value-same old (cluster + 1) (omega arith) (omega (arith, within))

pub none-flagged : (s : SpaceView) (variable : ℕ) (old : List Bool) → cluster_at s variable ≡ None → IsFlagged s variable old old
none-flagged s variable old none = record {
  size = refl;
  kept = λ other holds. holds;
  set = λ other is_at. absurd (not-both other (sym none ∙ is_at));
  only = λ other holds. inl holds;
}
  where
    not-both : (other : ℕ) → None ≡ Some other → ⊥
    not-both other e = cc

-- ---- one variable after another

pub no-flags : (s : SpaceView) (values flags : List Bool) → flags ≡ replicate (length s.clusters.members) false → AreFlags s values 0 flags
no-flags s values flags is = record {
  size = ap length is ∙ length-replicate (length s.clusters.members) false;
  set = λ cluster holds. absurd (true≢false (sym holds ∙ ap (λ (xs : List Bool). value_of xs (cluster + 1)) is
      ∙ none-true (length s.clusters.members) (cluster + 1)));
  all = λ cluster uses. absurd (omega (arith, uses.from_one, uses.upto));
}

uses-more : (s : SpaceView) (values : List Bool) (n cluster : ℕ) → Uses s values n cluster → Uses s values (n + 1) cluster
uses-more s values n cluster uses = record {
  variable = uses.variable;
  from_one = uses.from_one;
  upto = omega (arith, uses.upto);
  holds = uses.holds;
  is = uses.is;
}

uses-back : (s : SpaceView) (values : List Bool) (n cluster : ℕ) (uses : Uses s values (n + 1) cluster) → uses.variable ≢ n + 1 → Uses s values n cluster
uses-back s values n cluster uses other = record {
  variable = uses.variable;
  from_one = uses.from_one;
  upto = omega (arith, uses.upto, other);
  holds = uses.holds;
  is = uses.is;
}

pub flags-more : (s : SpaceView) (values flags new : List Bool) (n : ℕ) → AreFlags s values n flags → value_of values (n + 1) ≡ true
    → IsFlagged s (n + 1) flags new → AreFlags s values (n + 1) new
flags-more s values flags new n are holds flag = record {
  size = flag.size ∙ are.size;
  set = λ cluster is_set. elim (flag.only cluster is_set) [
    | inl old ↦ uses-more s values n cluster (are.set cluster old)
    | inr now ↦ record { variable = n + 1; from_one = omega arith; upto = omega arith; holds = holds; is = now }
  ];
  all = λ cluster uses. elim (cases_eq uses.variable (n + 1)) [
    | inl same ↦ flag.set cluster (ap (cluster_at s) (sym same) ∙ uses.is)
    | inr other ↦ flag.kept cluster (are.all cluster (uses-back s values n cluster uses other))
  ];
}

pub flags-passed : (s : SpaceView) (values flags : List Bool) (n : ℕ) → AreFlags s values n flags → value_of values (n + 1) ≡ false
    → AreFlags s values (n + 1) flags
flags-passed s values flags n are lacks = record {
  size = are.size;
  set = λ cluster is_set. uses-more s values n cluster (are.set cluster is_set);
  all = λ cluster uses. elim (cases_eq uses.variable (n + 1)) [
    | inl same ↦ absurd (true≢false (sym uses.holds ∙ ap (value_of values) same ∙ lacks))
    | inr other ↦ are.all cluster (uses-back s values n cluster uses other)
  ];
}

flags-none : (s : SpaceView) (values flags : List Bool) (n d : ℕ) → ((v : ℕ) → n < v → v ≤ n + d → value_of values v ≡ false) → AreFlags s values n flags
    → AreFlags s values (n + d) flags
flags-none s values flags n zero none are = let same : n + 0 ≡ n = omega arith in subst (λ (m : ℕ). AreFlags s values m flags) (sym same) are
flags-none s values flags n (suc d) none are =
    let next : (n + d) + 1 ≡ n + suc d = omega arith in
    subst (λ (m : ℕ). AreFlags s values m flags) next
    (flags-passed s values flags (n + d) (flags-none s values flags n d (λ v above within. none v above (omega (arith, within))) are)
    (none ((n + d) + 1) (omega arith) (omega arith)))

-- variables that are false are passed
pub flags-past : (s : SpaceView) (values flags : List Bool) (n m : ℕ) → n ≤ m → ((v : ℕ) → n < v → v ≤ m → value_of values v ≡ false)
    → AreFlags s values n flags → AreFlags s values m flags
flags-past s values flags n m more none are =
    let same : n + (m - n) ≡ m = omega (arith, more) in
    subst (λ (k : ℕ). AreFlags s values k flags) same
    (flags-none s values flags n (m - n) (λ v above within. none v above (omega (arith, within, more))) are)

-- the next one that is true
pub flags-next : (s : SpaceView) (values flags new : List Bool) (n v : ℕ) → n < v → ((w : ℕ) → n < w → w < v → value_of values w ≡ false)
    → value_of values v ≡ true → IsFlagged s v flags new → AreFlags s values n flags → AreFlags s values v new
flags-next s values flags new n v above none holds flag are =
    let same : (v - 1) + 1 ≡ v = omega (arith, above) in
    subst (λ (k : ℕ). AreFlags s values k new) same
    (flags-more s values flags new (v - 1) (flags-past s values flags n (v - 1) (omega (arith, above))
    (λ w more within. none w more (omega (arith, within, above))) are) (ap (value_of values) same ∙ holds)
    (subst (λ (k : ℕ). IsFlagged s k flags new) (sym same) flag))

-- ---- what they say

-- a package of the cluster holds
uses-some : (s : SpaceView) (values : List Bool) (n cluster : ℕ) → IsSpace s → n ≡ length s.meanings → Uses s values n cluster → ¬ UsesNone s values cluster
uses-some s values n cluster space all uses none =
    let at = element-at s.meanings (uses.variable - 1) (omega (arith, uses.from_one, uses.upto, all)) in
    by at.element (means s uses.variable at.element space uses.from_one at.is) (sym (cluster-is s uses.variable at.element at.is) ∙ uses.is)
  where
    by : (m : Meaning) → Means s uses.variable m → cluster_meant s m ≡ Some cluster → ⊥
    by (Present r) means is =
        let is_in = in-own s r cluster space means.is_meaning (same_Some (slice_index s.cluster_of r) cluster is) in
        true≢false (sym uses.holds ∙ ap (value_of values) (sym means.back) ∙ (none r is_in).0)
    by (New r k) means is =
        let same : slice_index s.cluster_of r ≡ cluster = same_Some (slice_index s.cluster_of r) cluster is in
        let is_in = in-own s r cluster space means.is_meaning.0 same in
        true≢false (sym uses.holds ∙ ap (value_of values) (sym means.back)
        ∙ (none r is_in).1 k (subst (λ (c : ℕ). k < length (cluster_classes s c)) same means.is_meaning.1))
    by Now means is = cc
    by (At c k) means is = cc
    by (Kept r k j) means is = cc
    by (Fresh x k) means is = cc

-- a package of a cluster holds, so that it is used
used-by : (s : SpaceView) (values : List Bool) (n cluster : ℕ) (m : Meaning) → IsSpace s → n ≡ length s.meanings → IsMeaning s m
    → cluster_meant s m ≡ Some cluster → value_of values (variable_of s m) ≡ true → Uses s values n cluster
used-by s values n cluster m space all is_meaning is holds =
    let range = variable-range s m space is_meaning in
    record {
      variable = variable_of s m;
      from_one = range.0;
      upto = omega (arith, range.1, all);
      holds = holds;
      is = cluster-is s (variable_of s m) m (place-at s m space is_meaning) ∙ is;
    }

pub are-used : (s : SpaceView) (values flags : List Bool) (n : ℕ) → IsSpace s → n ≡ length s.meanings → AreFlags s values n flags
    → AreUsed s values (true_variables flags)
are-used s values flags n space all are = record {
  rising = true-rising flags;
  from_one = true-low flags;
  some = λ cluster there. uses-some s values n cluster space all
      (are.set cluster ((true-ones flags (cluster + 1) (omega arith)
      (contained (λ v. v ≤ length flags) (true_variables flags) (cluster + 1) (true-upto flags) there)).0 there));
  none = λ cluster never m is_in. (
    by (Present m) cluster (member-within s cluster m space is_in) (present-cluster cluster m is_in) never,
    λ class short. by (New m class) cluster (
      member-within s cluster m space is_in,
      subst (λ (c : ℕ). class < length (cluster_classes s c)) (sym (placed-in s space.frame cluster m is_in)) short,
    )
        (present-cluster cluster m is_in) never,
  );
}
  where
    present-cluster : (cluster m : ℕ) → IsIn s.clusters.members cluster m → Some (slice_index s.cluster_of m) ≡ Some cluster
    present-cluster cluster m is_in = ap (λ (c : ℕ). Some c) (placed-in s space.frame cluster m is_in)

    by : (m : Meaning) (cluster : ℕ) → IsMeaning s m → cluster_meant s m ≡ Some cluster → ¬ Contains (true_variables flags) (cluster + 1)
        → value_of values (variable_of s m) ≡ false
    by m cluster is_meaning is never = by-value (value_of values (variable_of s m)) refl
      where
        within : Uses s values n cluster → cluster + 1 ≤ length flags
        within uses = elim (cases_lt cluster (length flags)) [
          | inl short ↦ omega (arith, short)
          | inr past ↦ absurd (true≢false (sym (are.all cluster uses)
              ∙ get_or-eq_default flags false (let e : length flags ≤ cluster + 1 - 1 = omega (arith, past) in e)))
        ]

        by-value : (b : Bool) → value_of values (variable_of s m) ≡ b → value_of values (variable_of s m) ≡ false
        by-value false lacks = lacks
        by-value true holds =
            let uses = used-by s values n cluster m space all is_meaning is holds in
            absurd (never ((true-ones flags (cluster + 1) (omega arith) (within uses)).1 (are.all cluster uses)))
