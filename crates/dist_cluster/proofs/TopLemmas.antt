-- The top of a cluster, member by member.
use Rattle.std.proofs.Common.{◌≡◌, ◌≢◌, ◌↔◌, ◌⊎◌, ℕ, Bool, IsTrue, is_lt, ◌+◌, ◌<◌, List, [], ◌∷◌, ◌++◌, length, get_or, take, nat_cmp, Ordering, Less, Equal}
use Rattle.std.proofs.Common.{Greater, Some, refl, sym, ap, subst, ◌∙◌, arith, inl, inr, slice_get}
use Rattle.std.specs.Prelude.{IsSomeAnd}
use Rattle.std.specs.Cmp.{IsTotalOrder}
use Rattle.std.specs.Cmp.Lexicographic.{slice_cmp}
use Rattle.std.specs.Ordering.{ordering_then, ordering_reverse}
use Rattle.std.proofs.lemmas.Cmp.{back_total, nat_list_cmp_total, then_total, tied_itself}
use Rattle.std.proofs.lemmas.Bool.{cases_lt}
use Rattle.std.proofs.lemmas.List.{length_push, get_or_append_left, get_or_default, get_or_push}
use Rattle.std.proofs.lemmas.Option.{same_Some}
use Rattle.dist_version.specs.Order.{version_cmp}
use Rattle.dist_version.specs.OrderLaws.{version_total}
use Rattle.dist_cluster.specs.Found.{top_cmp}
use Rattle.dist_cluster.specs.Relation.{Member}
use Rattle.dist_cluster.specs.Top.{AreTops, IsTop, IsVersionIn}
use Rattle.dist_cluster.proofs.Clustered.{same_names, then-second}
use Rattle.dist_cluster.proofs.Places.{any-take, some-of, some-at, take-any_here, take-any_left}

pub top_total : IsTotalOrder top_cmp
top_total = then_total version_total (back_total nat_list_cmp_total)

-- none stands above a top
abbrev pub IsHighest : List Member → List ℕ → List ℕ → Type 0
IsHighest members cluster top = IsVersionIn members cluster top × ((v : List ℕ) → IsVersionIn members cluster v → top_cmp top v ≢ Less)

then-less_first : (a b : Ordering) → a ≡ Less → ordering_then a b ≡ Less
then-less_first Less b is = refl
then-less_first Equal b is = cc
then-less_first Greater b is = cc

then-less_second : (a b : Ordering) → a ≡ Equal → b ≡ Less → ordering_then a b ≡ Less
then-less_second Less b is less = refl
then-less_second Equal b is less = less
then-less_second Greater b is less = cc

then-less_cases : (a b : Ordering) → ordering_then a b ≡ Less → (a ≡ Less) ⊎ ((a ≡ Equal) × (b ≡ Less))
then-less_cases Less b is = inl refl
then-less_cases Equal b is = inr (refl, is)
then-less_cases Greater b is = cc

pub top-highest : (members : List Member) (cluster top : List ℕ) → IsHighest members cluster top → IsTop members cluster top
top-highest members cluster top h = record {
  there = h.0;
  greatest = λ v is below. h.1 v is (then-less_first (version_cmp top v) (slice_cmp nat_cmp v top) below);
  least_text = λ v is equal less. h.1 v is (then-less_second (version_cmp top v) (slice_cmp nat_cmp v top) equal less);
}

pub highest-top : (members : List Member) (cluster top : List ℕ) → IsTop members cluster top → IsHighest members cluster top
highest-top members cluster top h = (
  h.there,
  λ v is less. elim (then-less_cases (version_cmp top v) (slice_cmp nat_cmp v top) less) [
    | inl g ↦ h.greatest v is g
    | inr g ↦ h.least_text v is g.0 g.1
  ],
)

not-less-either : (a b : List ℕ) (o : Ordering) → top_cmp a b ≡ o → o ≢ Less → top_cmp b a ≢ Less → a ≡ b
not-less-either a b Less is first second = absurd (first refl)
not-less-either a b Equal is first second = sym (same_names b a (then-second (version_cmp a b) (slice_cmp nat_cmp b a) is))
not-less-either a b Greater is first second = absurd (second (top_total.antisymm b a ∙ ap ordering_reverse is))

pub one-top : (members : List Member) (cluster a b : List ℕ) → IsTop members cluster a → IsTop members cluster b → a ≡ b
one-top members cluster a b p q =
    let h = highest-top members cluster a p in
    let g = highest-top members cluster b q in
    not-less-either a b (top_cmp a b) refl (h.1 b g.0) (g.1 a h.0)

-- ---- member by member

version-at : (members : List Member) (n : ℕ) (member : Member) (v : List ℕ) → slice_get members n ≡ Some member
    → IsSomeAnd (slice_get members n) (λ m. m.version ≡ v) → member.version ≡ v
version-at members n member v at h =
    let one = some-of (λ (m : Member). m.version ≡ v) (slice_get members n) h in
    ap (λ (m : Member). m.version) (same_Some _ _ (sym at ∙ one.1)) ∙ one.2

-- the first member
pub highest-first : (members : List Member) (cluster : List ℕ) (n : ℕ) (member : Member) → slice_get cluster 0 ≡ Some n → slice_get members n ≡ Some member
    → IsHighest members (take 1 cluster) member.version
highest-first members cluster n member first at = (
  take-any_here (λ k. IsSomeAnd (slice_get members k) (λ m. m.version ≡ member.version)) cluster 0 n first
      (some-at (λ (m : Member). m.version ≡ member.version) (slice_get members n) member at refl),
  λ v is less. elim (any-take (λ k. IsSomeAnd (slice_get members k) (λ m. m.version ≡ v)) cluster 0 n first is) [
    | inl h ↦ absurd (omega (arith, h.2))
    | inr h ↦
        let same : member.version ≡ v = version-at members n member v at h in
        let tied : top_cmp member.version v ≡ Equal = ap (top_cmp member.version) (sym same) ∙ tied_itself top_total member.version in
        (let no : Less ≡ Equal = sym less ∙ tied in cc)
  ],
)

module _ (members : List Member) (cluster : List ℕ) (place n : ℕ) (member : Member) (top : List ℕ)
    (here : slice_get cluster place ≡ Some n) (at : slice_get members n ≡ Some member) (highest : IsHighest members (take place cluster) top) where
  abbrev Of : List ℕ → ℕ → Type 0
  Of v k = IsSomeAnd (slice_get members k) (λ m. m.version ≡ v)

  -- the next member stands above the top so far
  pub highest-next : top_cmp top member.version ≡ Less → IsHighest members (take (place + 1) cluster) member.version
  highest-next above = (
    take-any_here (Of member.version) cluster place n here (some-at (λ (m : Member). m.version ≡ member.version) (slice_get members n) member at refl),
    λ v is less. elim (any-take (Of v) cluster place n here is) [
      | inl h ↦ highest.1 v h (top_total.trans top member.version v above less)
      | inr h ↦
          let same : member.version ≡ v = version-at members n member v at h in
          let tied : top_cmp member.version v ≡ Equal = ap (top_cmp member.version) (sym same) ∙ tied_itself top_total member.version in
          (let no : Less ≡ Equal = sym less ∙ tied in cc)
    ],
  )

  -- it doesn't
  pub highest-still : top_cmp top member.version ≢ Less → IsHighest members (take (place + 1) cluster) top
  highest-still not_above = (
    take-any_left (Of top) cluster place n here highest.0,
    λ v is less. elim (any-take (Of v) cluster place n here is) [
      | inl h ↦ highest.1 v h less
      | inr h ↦
          let same : member.version ≡ v = version-at members n member v at h in
          not_above (ap (top_cmp top) same ∙ less)
    ],
  )

lt-is : (o : Ordering) → IsTrue (is_lt o) ↔ (o ≡ Less)
lt-is Less = ((λ _. refl), λ _. refl)
lt-is Equal = ((λ e. cc), λ e. cc)
lt-is Greater = ((λ e. cc), λ e. cc)

pub lt-iff : (b : Bool) (o whole : Ordering) → b ≡ is_lt o → o ≡ whole → IsTrue b ↔ (whole ≡ Less)
lt-iff b o whole is same =
    let lt = lt-is o in ((λ holds. sym same ∙ lt.0 (sym is ∙ holds)), λ less. is ∙ lt.1 (same ∙ less))

-- ---- the tops of the clusters so far

pub record AreTopsSoFar (members : List Member) (clusters tops : List (List ℕ)) (count : ℕ) : Type 0 where
  pub counted : length tops ≡ count
  pub each : (c : ℕ) → c < count → IsTop members (get_or clusters c []) (get_or tops c [])

pub tops-none : (members : List Member) (clusters : List (List ℕ)) → AreTopsSoFar members clusters [] 0
tops-none members clusters = record { counted = refl; each = λ c short. absurd (omega arith) }

pub tops-more : (members : List Member) (clusters tops : List (List ℕ)) (count : ℕ) (cluster top : List ℕ) → count < length clusters
    → cluster ≡ get_or clusters count cluster → IsTop members cluster top →
    AreTopsSoFar members clusters tops count → AreTopsSoFar members clusters (tops ++ top ∷ []) (count + 1)
tops-more members clusters tops count cluster top short is highest before = record {
  counted = length_push tops top ∙ ap (λ k. k + 1) before.counted;
  each = λ c below. elim (cases_lt c count) [
    | inl h ↦
        let P : List ℕ → Type 0 = λ t. IsTop members (get_or clusters c []) t in
        subst P (sym (get_or_append_left tops (top ∷ []) [] c (omega (arith, before.counted)))) (before.each c h)
    | inr h ↦
        let last : count ≡ c = omega arith in
        let P : List ℕ → Type 0 = λ t. IsTop members cluster t in
        let Q : List ℕ → Type 0 = λ list. IsTop members list (get_or (tops ++ top ∷ []) count []) in
        let R : ℕ → Type 0 = λ k. IsTop members (get_or clusters k []) (get_or (tops ++ top ∷ []) k []) in
        subst R last (subst Q (is ∙ get_or_default clusters count cluster [] short) (subst P (sym (get_or_push tops top [] count before.counted)) highest))
  ];
}

pub tops-all : (members : List Member) (clusters tops : List (List ℕ)) (count : ℕ) → count ≡ length clusters → AreTopsSoFar members clusters tops count
    → AreTops members (record { members = clusters; tops = tops })
tops-all members clusters tops count all so_far = record { aligned = so_far.counted ∙ all; each = λ c short. so_far.each c (omega arith) }
