-- What a certificate says of clusters, packages and pairs is what the space says of them.
use Rattle.std.proofs.Common.{◌≡◌, ◌↔◌, inl, inr, ⊎_elim, ℕ, ◌+◌, ◌-◌, ◌<◌, ◌≤◌, Bool, true, false, List, [], length, get_or, map, sym, ap}
use Rattle.std.proofs.Common.{subst, ◌∙◌, arith}
use Rattle.std.specs.List.{Contains, range_with_len}
use Rattle.std.proofs.lemmas.Bool.{cases_Bool, cases_lt, false≢true}
use Rattle.std.proofs.lemmas.List.{get_or-map, get_or_past, length-map}
use Rattle.std.proofs.lemmas.List.Elements.{All-contains}
use Rattle.std.proofs.lemmas.List.FromFn.{get_or-map-range_with_len, length-range_with_len}
use Rattle.std.proofs.lemmas.Option.{get_or_from_slice_get}
use Rattle.dist_base.specs.ListLaws.{all-contained, at-has, element-at, here-at}
use Rattle.dist_clause.specs.Formula.{Literal}
use Rattle.dist_cert.specs.ClaimRules.{Covers, HasNone, IsPairFor}
use Rattle.dist_cert.specs.ListLaws.{any-from, from-any}
use Rattle.dist_cert.specs.Rising.{is_among}
use Rattle.dist_cert.specs.Subject.{Cluster, Matter, cluster_at}
use Rattle.dist_classes.specs.declared.class_value.Class.{Class}
use Rattle.dist_cluster.specs.Partition.{IsIn}
use Rattle.dist_future.specs.Pairs as pairs
use Rattle.dist_future.specs.SpaceLaws.{holds_under}
use Rattle.dist_space.specs.ClusterLaws.{in-package, placed-in}
use Rattle.dist_space.specs.Space.{IsMeaning, IsSpace, SpaceView, cluster_classes, variable_of}
use Rattle.dist_space.specs.VariableLaws.{variable-range}
use Rattle.dist_space.specs.declared.meaning.Meaning.{Meaning}
use Rattle.dist_space.specs.declared.meaning.Meaning.TheVariants.{At, New, Present}
use Rattle.std.proofs.lemmas.Option.{slice_get_within}
use Rattle.dist_subject.specs.Later.{cluster_of, later_matter}
use Rattle.dist_subject.specs.MemberLaws.{value-among}
use Rattle.dist_subject.specs.Present.{truth_of}

-- ---- numbers from 1

one-less : (n : ℕ) → n + 1 - 1 ≡ n
one-less n = omega arith

among-next : (numbers : List ℕ) (n : ℕ) → Contains (map (λ m. m + 1) numbers) (n + 1) ↔ Contains numbers n
among-next numbers n = (
  (λ there.
      let short : there.0 < length numbers = omega (arith, there.1, length-map numbers (λ (m : ℕ). m + 1)) in
      let here : get_or (map (λ (m : ℕ). m + 1) numbers) there.0 (n + 1) ≡ get_or numbers there.0 n + 1 =
      get_or-map (λ (m : ℕ). m + 1) numbers there.0 n (n + 1) short in
      let same : get_or (map (λ (m : ℕ). m + 1) numbers) there.0 (n + 1) ≡ n + 1 = there.2 in
      (there.0, short, omega (arith, here, same))),
  λ there.
      let here : get_or (map (λ (m : ℕ). m + 1) numbers) there.0 (n + 1) ≡ get_or numbers there.0 n + 1 =
      get_or-map (λ (m : ℕ). m + 1) numbers there.0 n (n + 1) there.1 in
      let same : get_or numbers there.0 n ≡ n = there.2 in
      (there.0, omega (arith, there.1, length-map numbers (λ (m : ℕ). m + 1)), omega (arith, here, same)),
)

-- ---- members that are not there

absent-false : (members : List ℕ) (v : ℕ) → ¬ Contains members v → is_among members v ≡ false
absent-false members v none = elim (cases_Bool (is_among members v)) [
  | inl there ↦ absurd (none (from-any v members there))
  | inr not_there ↦ not_there
]

false-absent : (members : List ℕ) (v : ℕ) → is_among members v ≡ false → ¬ Contains members v
false-absent members v none there = false≢true (sym none ∙ any-from v members there)

module _ (s : SpaceView) (inputs : List (List Literal)) (space : IsSpace s) where
  abbrev matter : Matter
  matter = later_matter s inputs

  abbrev none_there : Cluster
  none_there = record { members = []; classes = 0 }

  -- ---- clusters

  cluster-count : length matter.clusters ≡ length s.clusters.members
  cluster-count = length-map (range_with_len 0 (length s.clusters.members)) (cluster_of s)
      ∙ length-range_with_len 0 (length s.clusters.members)

  cluster-is : (c : ℕ) → c < length s.clusters.members → cluster_at matter (c + 1) ≡ cluster_of s c
  cluster-is c within = ap (λ (k : ℕ). get_or matter.clusters k none_there) (one-less c)
      ∙ get_or-map-range_with_len (cluster_of s) 0 (length s.clusters.members) c c none_there within (omega arith)

  class-within : (c k : ℕ) → k < length (cluster_classes s c) → c < length s.clusters.members
  class-within c k short = elim (cases_lt c (length s.clusters.members)) [
    | inl less ↦ less
    | inr past ↦
        let none : cluster_classes s c ≡ [] = get_or_past s.classes c [] (omega (arith, past, space.frame.classes_beside)) in
        let size : length (cluster_classes s c) ≡ 0 = ap (λ (classes : List Class). length classes) none in
        absurd (omega (arith, short, size))
  ]

  in-cluster : (c m : ℕ) → c < length s.clusters.members → Contains (get_or s.clusters.members c []) m ↔ IsIn s.clusters.members c m
  in-cluster c m within =
      let In : List ℕ → Type 0 = λ cluster. Contains cluster m in (
        (λ there.
            let at = element-at s.clusters.members c within in
            at-has In s.clusters.members c at.element at.is
            (subst In (get_or_from_slice_get s.clusters.members c at.element [] at.is) there)),
        λ is_in.
            let at = here-at In s.clusters.members c is_in in
            subst In (sym (get_or_from_slice_get s.clusters.members c at.element [] at.is)) at.holds,
      )

  member-in : (c number : ℕ) → c < length s.clusters.members → Contains (cluster_at matter (c + 1)).members (number + 1)
      ↔ IsIn s.clusters.members c number
  member-in c number within =
      let In : Cluster → Type 0 = λ cluster. Contains cluster.members (number + 1) in
      let next = among-next (get_or s.clusters.members c []) number in (
        (λ there. (in-cluster c number within).0 (next.0 (subst In (cluster-is c within) there))),
        λ is_in. subst In (sym (cluster-is c within)) (next.1 ((in-cluster c number within).1 is_in)),
      )

  class-count : (c : ℕ) → c < length s.clusters.members → (cluster_at matter (c + 1)).classes ≡ length (cluster_classes s c)
  class-count c within = ap (λ (cluster : Cluster). cluster.classes) (cluster-is c within)

  pub pair-for : (number c k : ℕ) → IsPairFor matter (number + 1) (c + 1, k + 1) ↔ (IsMeaning s (At c k) × (¬ IsIn s.clusters.members c number))
  pair-for number c k = (
    (λ pair.
        let within : c < length s.clusters.members = omega (arith, pair.1, cluster-count) in (
          omega (arith, pair.3, class-count c within),
          λ is_in. pair.4 ((member-in c number within).1 is_in),
        )),
    λ both.
        let within = class-within c k both.0 in (
          omega arith,
          omega (arith, within, cluster-count),
          omega arith,
          omega (arith, both.0, class-count c within),
          λ there. both.1 ((member-in c number within).0 there),
        ),
  )

  -- ---- variables

  present-is : (m : ℕ) → matter.present (m + 1) ≡ variable_of s (Present m)
  present-is m = ap (λ (k : ℕ). variable_of s (Present k)) (one-less m)

  new-is : (m k : ℕ) → matter.new (m + 1) (k + 1) ≡ variable_of s (New m k)
  new-is m k = ap (λ (i : ℕ). variable_of s (New i (k + 1 - 1))) (one-less m) ∙ ap (λ (j : ℕ). variable_of s (New m j)) (one-less k)

  at-is : (c k : ℕ) → matter.at (c + 1) (k + 1) ≡ variable_of s (At c k)
  at-is c k = ap (λ (i : ℕ). variable_of s (At i (k + 1 - 1))) (one-less c) ∙ ap (λ (j : ℕ). variable_of s (At c j)) (one-less k)

  module _ (members : List ℕ) where
    abbrev values : List Bool
    values = truth_of (length s.meanings) members

    holds-is : (m : Meaning) → IsMeaning s m → holds_under s values m ≡ is_among members (variable_of s m)
    holds-is m is = let range = variable-range s m space is in
        value-among (length s.meanings) members (variable_of s m) range.0 range.1

    holds-none : (m : Meaning) (v : ℕ) → IsMeaning s m → v ≡ variable_of s m → (holds_under s values m ≡ false) ↔ (¬ Contains members v)
    holds-none m v is same = (
      (λ none. false-absent members v (ap (is_among members) same ∙ sym (holds-is m is) ∙ none)),
      λ none. holds-is m is ∙ sym (ap (is_among members) same) ∙ absent-false members v none,
    )

    holds-at : (c k : ℕ) → IsMeaning s (At c k) → (holds_under s values (At c k) ≡ true) ↔ Contains members (matter.at (c + 1) (k + 1))
    holds-at c k is = (
      (λ holds. from-any (matter.at (c + 1) (k + 1)) members (ap (is_among members) (at-is c k) ∙ sym (holds-is (At c k) is) ∙ holds)),
      λ there. holds-is (At c k) is ∙ sym (ap (is_among members) (at-is c k)) ∙ any-from (matter.at (c + 1) (k + 1)) members there,
    )

    -- what the members of a cluster mean
    present-meaning : (c m : ℕ) → c < length s.clusters.members → IsIn s.clusters.members c m → IsMeaning s (Present m)
    present-meaning c m within is_in =
        let own = in-package s space.frame c m within ((in-cluster c m within).1 is_in) in
        slice_get_within s.repository.packages m own.package_is own.is

    new-meaning : (c m k : ℕ) → c < length s.clusters.members → IsIn s.clusters.members c m → k < length (cluster_classes s c)
        → IsMeaning s (New m k)
    new-meaning c m k within is_in short = (
      present-meaning c m within is_in,
      subst (λ (x : ℕ). k < length (cluster_classes s x)) (sym (placed-in s space.frame c m is_in)) short,
    )

    -- no package of the number is there, as it is today or new at a class of the cluster
    abbrev Unused : ℕ → ℕ → Type 0
    Unused c r = (¬ Contains members (matter.present r))
        × ((class : ℕ) → 1 ≤ class → class ≤ (cluster_at matter (c + 1)).classes → ¬ Contains members (matter.new r class))

    none-to : (c : ℕ) → c < length s.clusters.members → HasNone matter (cluster_at matter (c + 1)) members → pairs.UsesNone s values c
    none-to c within all m is_in =
        let here : Unused c (m + 1) = All-contains (Unused c) (cluster_at matter (c + 1)).members (m + 1) all ((member-in c m within).1 is_in) in (
          (holds-none (Present m) (matter.present (m + 1)) (present-meaning c m within is_in) (present-is m)).1 here.0,
          λ class short. (holds-none (New m class) (matter.new (m + 1) (class + 1)) (new-meaning c m class within is_in short) (new-is m class)).1
              (here.1 (class + 1) (omega arith) (omega (arith, short, class-count c within))),
        )

    unused : (c : ℕ) → c < length s.clusters.members → pairs.UsesNone s values c → (m : ℕ) → IsIn s.clusters.members c m → Unused c (m + 1)
    unused c within none m is_in =
        let own = none m is_in in (
          (holds-none (Present m) (matter.present (m + 1)) (present-meaning c m within is_in) (present-is m)).0 own.0,
          λ class from upto.
              let short : class - 1 < length (cluster_classes s c) = omega (arith, from, upto, class-count c within) in
              let same : class - 1 + 1 ≡ class = omega (arith, from) in
              subst (λ (k : ℕ). ¬ Contains members (matter.new (m + 1) k)) same
              ((holds-none (New m (class - 1)) (matter.new (m + 1) (class - 1 + 1)) (new-meaning c m (class - 1) within is_in short)
              (new-is m (class - 1))).0 (own.1 (class - 1) short)),
        )

    -- each number of the cluster is one more than that of a member
    none-from : (c : ℕ) → c < length s.clusters.members → pairs.UsesNone s values c → HasNone matter (cluster_at matter (c + 1)) members
    none-from c within none = all-contained (Unused c) (cluster_at matter (c + 1)).members (λ r there.
        let listed : Contains (cluster_of s c).members r = subst (λ (x : Cluster). Contains x.members r) (cluster-is c within) there in
        let inside : listed.0 < length (get_or s.clusters.members c []) =
        omega (arith, listed.1, length-map (get_or s.clusters.members c []) (λ (m : ℕ). m + 1)) in
        let m : ℕ = get_or (get_or s.clusters.members c []) listed.0 0 in
        let one : get_or (map (λ (x : ℕ). x + 1) (get_or s.clusters.members c [])) listed.0 r ≡ m + 1 =
        get_or-map (λ (x : ℕ). x + 1) (get_or s.clusters.members c []) listed.0 0 r inside in
        let same : m + 1 ≡ r = sym one ∙ listed.2 in
        let number : Contains (cluster_at matter (c + 1)).members (m + 1) =
        subst (λ (x : ℕ). Contains (cluster_at matter (c + 1)).members x) (sym same) there in
        subst (Unused c) same (unused c within none m ((member-in c m within).0 number)))

    none-used : (c : ℕ) → c < length s.clusters.members → HasNone matter (cluster_at matter (c + 1)) members ↔ pairs.UsesNone s values c
    none-used c within = (none-to c within, none-from c within)

    pub covered-is : (c k : ℕ) → IsMeaning s (At c k) → Covers matter (c + 1, k + 1) members ↔ pairs.Covers s values c k
    covered-is c k is =
        let within = class-within c k is in (
          (λ covers. ⊎_elim (λ none. inl ((none-used c within).0 none)) (λ there. inr ((holds-at c k is).1 there)) covers),
          λ covers. ⊎_elim (λ none. inl ((none-used c within).1 none)) (λ holds. inr ((holds-at c k is).0 holds)) covers,
        )
