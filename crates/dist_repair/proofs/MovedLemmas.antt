-- The truth values of an installation, and how many clusters have moved in it.
use Rattle.std.proofs.Common.{◌≡◌, ◌↔◌, ◌⊎◌, inl, inr, ℕ, ◌+◌, ◌-◌, ◌<◌, ◌≤◌, ◌==◌, ◌||◌, Bool, true, false, not, List, [], ◌∷◌, ◌++◌, length}
use Rattle.std.proofs.Common.{eqb, get_or, nat_cmp, refl, subst, sym, take, ap}
use Rattle.std.proofs.Common.{◌∙◌, arith}
use Rattle.std.specs.Prelude.{Any, Contains, replicate}
use Rattle.std.specs.List.{dedup, range_with_len}
use Rattle.std.specs.List.Sorted.{IsPermutation, IsSorted, IsStrictlyIncreasing}
use Rattle.std.proofs.Math.ListN.{length-set, set}
use Rattle.std.proofs.lemmas.Bool.{cases_eq, cases_lt, eq-eqb, ne_eqb, or_right}
use Rattle.std.proofs.lemmas.List.{ext_get_or, get_or-replicate, get_or-set_other, get_or-set_same, get_or_past, length-replicate, take_more}
use Rattle.std.proofs.lemmas.List.Elements.{Contains-append_left, Contains-push, Contains-push_cases}
use Rattle.std.proofs.lemmas.List.Filters.{length-filter_both}
use Rattle.std.proofs.lemmas.List.FromFn.{length-range_with_len}
use Rattle.std.proofs.lemmas.List.Kept.{Contains-dedup_nat, Contains-from_dedup}
use Rattle.std.proofs.lemmas.List.Sorted.{Contains-permutation, IsPermutation-sym}
use Rattle.std.proofs.lemmas.Map.Keys.{IsStrictlyIncreasing-dedup}
use Rattle.dist_base.specs.RowLaws.{same-numbers}
use Rattle.dist_clause.specs.Formula.{value_of}
use Rattle.dist_classes.specs.declared.class_value.Class.{Class}
use Rattle.dist_cert.specs.ListLaws.{any-from, from-any}
use Rattle.dist_cert.specs.Rising.{is_among}
use Rattle.dist_space.specs.Space.{IsSpace, SpaceView, cluster_classes, variable_of}
use Rattle.dist_space.specs.declared.meaning.Meaning.TheVariants.{At}
use Rattle.dist_subject.specs.MemberLaws.{value-among}
use Rattle.dist_subject.specs.Present.{truth_of}
use Rattle.dist_subject.specs.TruthLaws.{truth-length}
use Rattle.dist_repair.specs.Answered.{clusters_under, is_at_class, moved_in}
use Rattle.dist_repair.specs.NotesPrivate.{IsClassOf}
use Rattle.dist_repair.proofs.RangeLemmas.{passing-exact, passing-rise, some-below}

-- ---- truth values

or-again : (a b : Bool) → b ≡ false → (a || b) ≡ a
or-again true b off = refl
or-again false b off = off

-- with one number more
pub among-push : (xs : List ℕ) (x v : ℕ) → is_among (xs ++ x ∷ []) v ≡ (is_among xs v || (v == x))
among-push [] x v = or-again (v == x) false refl
among-push (y ∷ xs) x v = ap (λ (b : Bool). (v == y) || b) (among-push xs x v) ∙ sym (or-assoc (v == y) (is_among xs v) (v == x))
  where
    or-assoc : (a b c : Bool) → ((a || b) || c) ≡ (a || (b || c))
    or-assoc true b c = refl
    or-assoc false b c = refl

-- these are the truth values of the variables up to n, where those listed are true
pub record AreTruth (n : ℕ) (members : List ℕ) (values : List Bool) : Type 0 where
  pub size : length values ≡ n
  pub each : (v : ℕ) → 1 ≤ v → v ≤ n → value_of values v ≡ is_among members v

pub truth-none : (n : ℕ) → AreTruth n [] (replicate n false)
truth-none n = record {
  size = length-replicate n false;
  each = λ v from upto. get_or-replicate n (v - 1) false false (omega (arith, from, upto));
}

pub truth-more : (n : ℕ) (members : List ℕ) (x : ℕ) (values : List Bool) → 1 ≤ x → x ≤ n → AreTruth n members values
    → AreTruth n (members ++ x ∷ []) (set values (x - 1) true)
truth-more n members x values low high are =
    let size = are.size in
    record {
      size = length-set values (x - 1) true ∙ are.size;
      each = λ v from upto. elim (cases_eq v x) [
        | inl same ↦
            ap (λ (k : ℕ). get_or (set values (x - 1) true) (k - 1) false) same
            ∙ get_or-set_same values (x - 1) true false (omega (arith, low, high, size))
            ∙ sym (among-push members x v ∙ or_right (is_among members v) (v == x) (eq-eqb v x same))
        | inr differ ↦
            get_or-set_other values (x - 1) (v - 1) true false (λ same. differ (omega (arith, same, low, from)))
            ∙ are.each v from upto ∙ sym (among-push members x v ∙ or-again (is_among members v) (v == x) (ne_eqb v x differ))
      ];
    }

-- a number past the last variable
pub truth-past : (n : ℕ) (members : List ℕ) (x : ℕ) (values : List Bool) → n < x → AreTruth n members values → AreTruth n (members ++ x ∷ []) values
truth-past n members x values past are = record {
  size = are.size;
  each = λ v from upto. are.each v from upto
      ∙ sym (among-push members x v ∙ or-again (is_among members v) (v == x) (ne_eqb v x (λ same. omega (arith, same, upto, past))));
}

pub truth-is : (n : ℕ) (members : List ℕ) (values : List Bool) → AreTruth n members values → values ≡ truth_of n members
truth-is n members values are =
    let size = are.size in
    ext_get_or false values (truth_of n members) (are.size ∙ sym (truth-length n members)) (λ k short.
    let back : k + 1 - 1 ≡ k = omega arith in
    ap (λ (j : ℕ). get_or values j false) (sym back) ∙ are.each (k + 1) (omega arith) (omega (arith, short, size))
    ∙ sym (value-among n members (k + 1) (omega arith) (omega (arith, short, size)))
    ∙ ap (λ (j : ℕ). get_or (truth_of n members) j false) back)

-- ---- clusters

-- a cluster with a class is one of all
pub class-within : (s : SpaceView) (c k : ℕ) → IsSpace s → k < length (cluster_classes s c) → c < length s.clusters.members
class-within s c k space less = elim (cases_lt c (length s.clusters.members)) [
  | inl short ↦ short
  | inr past ↦
      let beside = space.frame.classes_beside in
      let none : cluster_classes s c ≡ [] = get_or_past s.classes c [] (omega (arith, beside, past)) in
      absurd (omega (arith, less, ap (λ (cs : List Class). length cs) none))
]

-- with one element more
pub any-taken : (P : ℕ → Type 0) (xs : List ℕ) (i : ℕ) → i < length xs → Any P (take (i + 1) xs) ↔ (Any P (take i xs) ⊎ P (get_or xs i 0))
any-taken P xs i within = (
  λ any. split (subst (λ (zs : List ℕ). Any P zs) more any),
  λ either. subst (λ (zs : List ℕ). Any P zs) (sym more) (join either),
)
  where
    more : take (i + 1) xs ≡ take i xs ++ get_or xs i 0 ∷ []
    more = take_more xs i 0 within

    split : Any P (take i xs ++ get_or xs i 0 ∷ []) → Any P (take i xs) ⊎ P (get_or xs i 0)
    split (k, x, short, is, holds) = elim (Contains-push_cases (take i xs) (get_or xs i 0) x (k, short, is)) [
      | inl earlier ↦ inl (earlier.0, x, earlier.1, earlier.2, holds)
      | inr same ↦ inr (subst P (sym same) holds)
    ]

    join : Any P (take i xs) ⊎ P (get_or xs i 0) → Any P (take i xs ++ get_or xs i 0 ∷ [])
    join (inl (k, x, short, is, holds)) =
        let there = Contains-append_left (take i xs) (get_or xs i 0 ∷ []) x (k, short, is) in
        (there.0, x, there.1, there.2, holds)
    join (inr holds) = let there = Contains-push (take i xs) (get_or xs i 0) in (there.0, get_or xs i 0, there.1, there.2, holds)

module _ (s : SpaceView) (members : List ℕ) where
  -- a cluster has moved where a class of it is among the members
  pub moved-any : (c : ℕ) → c < length s.clusters.members → is_at_class s (is_among members) c ≡ true → Any (λ v. IsClassOf s v c) members
  moved-any c within on =
      let at = (some-below (λ k. is_among members (variable_of s (At c k))) (length (cluster_classes s c))).0 on in
      let there = from-any (variable_of s (At c at.0)) members at.2 in
      (there.0, variable_of s (At c at.0), there.1, there.2, (within, at.0, at.1, refl))

  pub any-moved : (c : ℕ) → Any (λ v. IsClassOf s v c) members → (c < length s.clusters.members) × (is_at_class s (is_among members) c ≡ true)
  any-moved c (place, v, short, there, (within, k, less, same)) = (
    within,
    (some-below (λ k. is_among members (variable_of s (At c k))) (length (cluster_classes s c))).1
        (k, less, ap (is_among members) same ∙ any-from v members (place, short, there)),
  )

  -- rising numbers of the clusters with a class among the members are the clusters that have moved
  pub clusters-are : (clusters sorted once : List ℕ) → ((c : ℕ) → Contains clusters c ↔ Any (λ v. IsClassOf s v c) members)
      → IsPermutation clusters sorted → IsSorted nat_cmp sorted → once ≡ dedup eqb sorted → once ≡ clusters_under s (is_among members)
  clusters-are clusters sorted once exact permuted rising is =
      same-numbers (clusters_under s (is_among members)) once (passing-rise test all)
      (subst (λ (xs : List ℕ). IsStrictlyIncreasing xs) (sym is) (IsStrictlyIncreasing-dedup sorted rising)) to back
    where
      test : ℕ → Bool
      test = is_at_class s (is_among members)

      all : ℕ
      all = length s.clusters.members

      to : (c : ℕ) → Contains (clusters_under s (is_among members)) c → Contains once c
      to c there =
          let both = (passing-exact test all c).0 there in
          subst (λ (xs : List ℕ). Contains xs c) (sym is)
          (Contains-dedup_nat sorted c (Contains-permutation clusters sorted c permuted ((exact c).1 (moved-any c both.0 both.1))))

      back : (c : ℕ) → Contains once c → Contains (clusters_under s (is_among members)) c
      back c there =
          let in_sorted = Contains-from_dedup eqb sorted c (subst (λ (xs : List ℕ). Contains xs c) is there) in
          let any = (exact c).0 (Contains-permutation sorted clusters c (IsPermutation-sym clusters sorted permuted) in_sorted) in
          (passing-exact test all c).1 (any-moved c any)

  pub moved-few : moved_in s members ≤ length s.clusters.members
  moved-few =
      let numbers : List ℕ = range_with_len 0 (length s.clusters.members) in
      let test : ℕ → Bool = is_at_class s (is_among members) in
      let both = length-filter_both test (λ c. not (test c)) (λ c. refl) numbers in
      let count = length-range_with_len 0 (length s.clusters.members) in
      omega (arith, both, count)
