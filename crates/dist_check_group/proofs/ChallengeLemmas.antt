-- Pairs in order, and the tests of a claim on challenges by what was looked up for it.
use Rattle.std.proofs.Common.{◌≡◌, inl, inr, ℕ, zero, suc, ◌+◌, ◌-◌, ◌<◌, ◌≤◌, ◌==◌, ◌&&◌, ◌||◌, Bool, true, false, not, List, [], ◌∷◌, length, map}
use Rattle.std.proofs.Common.{get_or, refl, sym, ap, subst, ◌∙◌, arith, nat_le}
use Rattle.std.proofs.Math.Path.{fun_ext}
use Rattle.std.specs.List.{AllPairs, AllAdjacentBelow, Contains, list_any}
use Rattle.std.proofs.lemmas.Bool.{and_parts, and_from, cases_Bool, cases_lt, eqb-true, or_from, or_left, or_parts, or_right, le-leb, leb-true}
use Rattle.std.proofs.lemmas.Bool.{not-true, not-false, not_from_true, not_from_false}
use Rattle.std.proofs.lemmas.List.{get_or-map, get_or_default, get_or_past, length-map}
use Rattle.std.proofs.lemmas.List.Folds.{Any-from_list_any, list_any-from_Any}
use Rattle.dist_cert.specs.ClaimRules.{IsPairBelow}
use Rattle.dist_cert.specs.Rising.{is_among}
use Rattle.dist_cert.specs.ListLaws.{any-from, contains-later, from-any}
use Rattle.dist_check_group.specs.Layout.{LayoutView, at_class, classes_of, cluster_of}
use Rattle.dist_check_group.specs.Window.{WindowView}
use Rattle.dist_check_group.specs.Cover.{CoverView}
use Rattle.dist_check_group.specs.Group.{GroupView}
use Rattle.dist_check_group.specs.Challenge.{OmitsPair, is_covered, is_held, is_listed, is_used}
use Rattle.dist_check_group.specs.MarksPrivate.{is_marked}
use Rattle.dist_check_group.specs.FoundPrivate.{FoundView, IsFoundFor, is_asked, is_open, leaves_out, may_ask}

-- ---- pairs in order

below-trans : (a b c : ℕ × ℕ) → IsPairBelow a b → IsPairBelow b c → IsPairBelow a c
below-trans a b c (inl less) (inl more) = inl (omega (arith, less, more))
below-trans a b c (inl less) (inr same) = inl (omega (arith, less, same.0))
below-trans a b c (inr same) (inl more) = inl (omega (arith, same.0, more))
below-trans a b c (inr same) (inr also) = inr (same.0 ∙ also.0, omega (arith, same.1, also.1))

reach : (pairs : List (ℕ × ℕ)) (i : ℕ) (d : ℕ × ℕ) → AllAdjacentBelow IsPairBelow pairs (length pairs) → (n : ℕ)
    → i + n + 1 < length pairs → IsPairBelow (get_or pairs i d) (get_or pairs (i + n + 1) d)
reach pairs i d next zero within = subst (λ (k : ℕ). IsPairBelow (get_or pairs i d) (get_or pairs k d))
    (let e : i + 1 ≡ i + 0 + 1 = omega arith in e) (next i d (omega (arith, within)))
reach pairs i d next (suc n) within =
    let last : ℕ = i + n + 1 in
    let step : last + 1 ≡ i + suc n + 1 = omega arith in
    below-trans (get_or pairs i d) (get_or pairs last d) (get_or pairs (i + suc n + 1) d) (reach pairs i d next n (omega (arith, within)))
    (subst (λ (k : ℕ). IsPairBelow (get_or pairs last d) (get_or pairs k d)) step (next last d (omega (arith, within))))

pub pairs-rising : (pairs : List (ℕ × ℕ)) → AllAdjacentBelow IsPairBelow pairs (length pairs) → AllPairs IsPairBelow pairs
pairs-rising pairs next i j d less within =
    let place : i + (j - i - 1) + 1 ≡ j = omega (arith, less) in
    subst (λ (k : ℕ). IsPairBelow (get_or pairs i d) (get_or pairs k d)) place (reach pairs i d next (j - i - 1) (omega (arith, place, within)))

-- ---- what was looked up

pub listed-is : (layout : LayoutView) (w : WindowView) (cover : CoverView) (variable : ℕ) (named : List ℕ) (by undecided : List (ℕ × ℕ))
    (found : FoundView) → IsFoundFor layout w cover variable named by undecided found → (pairs : List (ℕ × ℕ))
    → list_any (λ pair. is_among found.undecided (at_class layout pair)) pairs ≡ list_any (is_listed layout undecided) pairs
listed-is layout w cover variable named by undecided found x pairs =
    let test : ℕ × ℕ → Bool = λ pair. is_among found.undecided (at_class layout pair) in
    let same : test ≡ is_listed layout undecided = fun_ext (λ pair. x.undecided_is (at_class layout pair)) in
    ap (λ (t : ℕ × ℕ → Bool). list_any t pairs) same

and-asked : (a b : Bool) → b ≡ true → (a && b) ≡ a
and-asked true b e = e
and-asked false b e = refl

not-empty : (xs : List ℕ) (v : ℕ) → Contains xs v → not (length xs == 0) ≡ true
not-empty xs v there = elim (cases_Bool (length xs == 0)) [
  | inl none ↦ absurd (let e = eqb-true (length xs) 0 none in omega (arith, e, there.1))
  | inr some ↦ ap not some
]

at-listed : (layout : LayoutView) (pairs : List (ℕ × ℕ)) (pair : ℕ × ℕ) → Contains pairs pair
    → is_among (map (at_class layout) pairs) (at_class layout pair) ≡ true
at-listed layout pairs pair there = any-from (at_class layout pair) (map (at_class layout) pairs) (
  there.0,
  omega (arith, there.1, length-map pairs (at_class layout)),
  get_or-map (at_class layout) pairs there.0 pair (at_class layout pair) there.1 ∙ ap (at_class layout) there.2,
)

-- where a pair is undecided all clusters are asked for
undecided-asked : (layout : LayoutView) (w : WindowView) (cover : CoverView) (variable : ℕ) (named : List ℕ) (by undecided : List (ℕ × ℕ))
    (found : FoundView) → IsFoundFor layout w cover variable named by undecided found
    → (pair : ℕ × ℕ) → Contains undecided pair → (cluster : ℕ) → is_asked layout found variable cluster ≡ true
undecided-asked layout w cover variable named by undecided found x pair there cluster =
    let v : ℕ = at_class layout pair in
    ap (λ (b : Bool). b || leaves_out layout found variable cluster)
    (not-empty found.undecided v (from-any v found.undecided (x.undecided_is v ∙ at-listed layout undecided pair there)))

covers : (layout : LayoutView) (w : WindowView) (cover : CoverView) (variable : ℕ) (named : List ℕ) (by undecided : List (ℕ × ℕ))
    (found : FoundView) → IsFoundFor layout w cover variable named by undecided found
    → (pair : ℕ × ℕ) → Contains undecided pair → is_asked layout found variable pair.0 ≡ true
    → (not (is_among found.used pair.0) || is_marked found.held (at_class layout pair)) ≡ is_covered layout w cover named pair
covers layout w cover variable named by undecided found x pair there asked =
    ap (λ (b : Bool). not b || is_marked found.held (at_class layout pair))
    (x.used_is pair.0 ∙ and-asked (is_used layout w cover named pair.0) (is_asked layout found variable pair.0) asked)
    ∙ ap (λ (b : Bool). not (is_used layout w cover named pair.0) || b) (x.pairs_are (at_class layout pair)
    (x.undecided_is (at_class layout pair) ∙ at-listed layout undecided pair there))

any-same : (f g : ℕ × ℕ → Bool) (xs : List (ℕ × ℕ)) → ((pair : ℕ × ℕ) → Contains xs pair → f pair ≡ g pair) → list_any f xs ≡ list_any g xs
any-same f g [] same = refl
any-same f g (x ∷ xs) same =
    ap (λ (b : Bool). b || list_any f xs) (same x (0, omega arith, refl))
    ∙ ap (λ (b : Bool). g x || b) (any-same f g xs (λ pair there. same pair (contains-later x xs pair there)))

pub covered-is : (layout : LayoutView) (w : WindowView) (cover : CoverView) (variable : ℕ) (named : List ℕ) (by undecided : List (ℕ × ℕ))
    (found : FoundView) → IsFoundFor layout w cover variable named by undecided found
    → list_any (λ pair. not (is_among found.used pair.0) || is_marked found.held (at_class layout pair)) undecided
    ≡ list_any (is_covered layout w cover named) undecided
covered-is layout w cover variable named by undecided found x =
    any-same (λ pair. not (is_among found.used pair.0) || is_marked found.held (at_class layout pair)) (is_covered layout w cover named) undecided
    (λ pair there. covers layout w cover variable named by undecided found x pair there
    (undecided-asked layout w cover variable named by undecided found x pair there pair.0))

-- ---- a pair that is left out

-- a class of a cluster: its place, and the variable there
record IsClass (layout : LayoutView) (cluster v : ℕ) : Type 0 where
  place : ℕ
  within : place < length (classes_of layout cluster)
  is : at_class layout (cluster, place + 1) ≡ v

class-of : (layout : LayoutView) (cluster v : ℕ) → Contains (classes_of layout cluster) v → IsClass layout cluster v
class-of layout cluster v there = record {
  place = there.0;
  within = there.1;
  is = ap (λ (n : ℕ). get_or (classes_of layout cluster) n 0) (let e : there.0 + 1 - 1 ≡ there.0 = omega arith in e)
      ∙ get_or_default (classes_of layout cluster) there.0 0 v there.1 ∙ there.2;
}

-- a cluster with a class is one of the clusters
within-clusters : (layout : LayoutView) (cluster place : ℕ) → 1 ≤ cluster → place < length (classes_of layout cluster) → cluster ≤ length layout.classes
within-clusters layout cluster place from within = elim (cases_lt (cluster - 1) (length layout.classes)) [
  | inl low ↦ omega (arith, low, from)
  | inr past ↦
      let none : length (classes_of layout cluster) ≡ 0 = ap (λ (xs : List ℕ). length xs) (get_or_past layout.classes (cluster - 1) [] past) in
      absurd (omega (arith, none, within))
]

pub omits-from : (layout : LayoutView) (w : WindowView) (group : GroupView) (variable : ℕ) (named : List ℕ) (by undecided : List (ℕ × ℕ))
    (found : FoundView) → IsFoundFor layout w group.cover variable named by undecided found
    → list_any (leaves_out layout found variable) found.used ≡ true → OmitsPair layout w group variable named by undecided
omits-from layout w group variable named by undecided found x e =
    let any = Any-from_list_any (leaves_out layout found variable) found.used e in
    let cluster : ℕ = any.1 in
    let parts = and_parts (nat_le 1 cluster && not (cluster == cluster_of layout variable)) (list_any (is_open found) (classes_of layout cluster)) any.4 in
    let front = and_parts (nat_le 1 cluster) (not (cluster == cluster_of layout variable)) parts.0 in
    let here = Any-from_list_any (is_open found) (classes_of layout cluster) parts.1 in
    let v : ℕ = here.1 in
    let class = class-of layout cluster v (here.0, here.2, here.3) in
    let pair : ℕ × ℕ = (cluster, class.place + 1) in
    let open_still = and_parts (not (is_among found.by v) && not (is_among found.undecided v)) (not (is_marked found.held v)) here.4 in
    let unlisted = and_parts (not (is_among found.by v)) (not (is_among found.undecided v)) open_still.0 in
    let from : 1 ≤ cluster = leb-true 1 cluster front.0 in
    let within = class.within in
    let there : is_among found.used cluster ≡ true = any-from cluster found.used (any.0, any.2, any.3) in
    let used = and_parts (is_used layout w group.cover named cluster) (is_asked layout found variable cluster) (sym (x.used_is cluster) ∙ there) in
    let told = x.classes_are cluster v used.0 (any-from v (classes_of layout cluster) (here.0, here.2, here.3)) in
    record {
      pair = pair;
      is_pair = and_from _ (not (cluster == cluster_of layout variable))
          (and_from _ (nat_le (class.place + 1) (length (classes_of layout cluster)))
          (and_from _ (nat_le 1 (class.place + 1))
          (and_from (nat_le 1 cluster) (nat_le cluster (length layout.classes)) front.0
          (le-leb cluster (length layout.classes) (within-clusters layout cluster class.place from within)))
          (le-leb 1 (class.place + 1) (omega arith)))
          (le-leb (class.place + 1) (length (classes_of layout cluster)) (omega (arith, within))))
          front.1;
      unlisted = ap (λ (n : ℕ). is_among (map (at_class layout) by) n) class.is ∙ sym (x.by_is v) ∙ not-true (is_among found.by v) unlisted.0;
      decided = ap (λ (n : ℕ). is_among (map (at_class layout) undecided) n) class.is ∙ sym (x.undecided_is v)
          ∙ not-true (is_among found.undecided v) unlisted.1;
      uncovered = or_from (not (is_used layout w group.cover named cluster)) (is_held layout w group.cover named (at_class layout pair))
          (not_from_true (is_used layout w group.cover named cluster) used.0)
          (ap (λ (n : ℕ). is_held layout w group.cover named n) class.is ∙ sym told ∙ not-true (is_marked found.held v) open_still.1);
    }

pub omits-to : (layout : LayoutView) (w : WindowView) (group : GroupView) (variable : ℕ) (named : List ℕ) (by undecided : List (ℕ × ℕ))
    (found : FoundView) → IsFoundFor layout w group.cover variable named by undecided found
    → OmitsPair layout w group variable named by undecided → list_any (leaves_out layout found variable) found.used ≡ true
omits-to layout w group variable named by undecided found x omits =
    let pair : ℕ × ℕ = omits.pair in
    let v : ℕ = at_class layout pair in
    let own = and_parts _ (not (pair.0 == cluster_of layout variable)) omits.is_pair in
    let high = and_parts _ (nat_le pair.1 (length (classes_of layout pair.0))) own.0 in
    let low = and_parts _ (nat_le 1 pair.1) high.0 in
    let cluster = and_parts (nat_le 1 pair.0) (nat_le pair.0 (length layout.classes)) low.0 in
    let from : 1 ≤ pair.1 = leb-true 1 pair.1 low.1 in
    let upto : pair.1 ≤ length (classes_of layout pair.0) = leb-true pair.1 (length (classes_of layout pair.0)) high.1 in
    let within : pair.1 - 1 < length (classes_of layout pair.0) = omega (arith, from, upto) in
    let is_used_here : Bool = is_used layout w group.cover named pair.0 in
    let uncovered = or_parts (not is_used_here) (is_held layout w group.cover named v) omits.uncovered in
    let at = get_or_default (classes_of layout pair.0) (pair.1 - 1) v 0 within in
    let told = x.classes_are pair.0 v (not-false is_used_here uncovered.0) (any-from v (classes_of layout pair.0) (pair.1 - 1, within, at)) in
    let open_still : is_open found v ≡ true = and_from (not (is_among found.by v) && not (is_among found.undecided v)) (not (is_marked found.held v))
    (and_from (not (is_among found.by v)) (not (is_among found.undecided v)) (not_from_false (is_among found.by v) (x.by_is v ∙ omits.unlisted))
    (not_from_false (is_among found.undecided v) (x.undecided_is v ∙ omits.decided)))
    (not_from_false (is_marked found.held v) (told ∙ uncovered.1)) in
    let class = list_any-from_Any (is_open found) (classes_of layout pair.0)
    (pair.1 - 1, v, within, at, open_still) in
    let leaves : leaves_out layout found variable pair.0 ≡ true = and_from (nat_le 1 pair.0 && not (pair.0 == cluster_of layout variable))
    (list_any (is_open found) (classes_of layout pair.0))
    (and_from (nat_le 1 pair.0) (not (pair.0 == cluster_of layout variable)) cluster.0 own.1) class in
    let asked = or_right (not (length found.undecided == 0)) (leaves_out layout found variable pair.0) leaves in
    let used = from-any pair.0 found.used
    (x.used_is pair.0 ∙ and_from is_used_here (is_asked layout found variable pair.0) (not-false is_used_here uncovered.0) asked) in
    list_any-from_Any (leaves_out layout found variable) found.used (used.0, pair.0, used.1, used.2, leaves)

-- ---- what a test may ask for

pub asks-pair : (layout : LayoutView) (undecided clusters : List ℕ) (v : ℕ) → is_among undecided v ≡ true → may_ask layout undecided clusters v ≡ true
asks-pair layout undecided clusters v there =
    or_left ((v == 1) || is_among undecided v) (list_any (λ cluster. is_among (classes_of layout cluster) v) clusters)
    (or_right (v == 1) (is_among undecided v) there)

pub asks-class : (layout : LayoutView) (undecided clusters : List ℕ) (c v : ℕ) → is_among clusters c ≡ true → is_among (classes_of layout c) v ≡ true
    → may_ask layout undecided clusters v ≡ true
asks-class layout undecided clusters c v there class =
    let has : ℕ → Bool = λ cluster. is_among (classes_of layout cluster) v in
    let place = from-any c clusters there in
    or_right ((v == 1) || is_among undecided v) (list_any has clusters)
    (list_any-from_Any has clusters (place.0, c, place.1, place.2, class))
