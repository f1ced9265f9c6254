-- What is found of all members is their partition, and there is one.
use Rattle.std.proofs.Common.{◌≡◌, ◌↔◌, ◌⊎◌, ℕ, zero, suc, ◌+◌, ◌^◌, ◌<◌, ◌≤◌, List, [], ◌∷◌, length, get_or, Some, refl, sym, ap, subst, ◌∙◌, arith, inl, inr}
use Rattle.std.proofs.Common.{slice_get}
use Rattle.std.specs.Prelude.{All, Any, Contains, IsSomeAnd}
use Rattle.std.specs.List.Sorted.{IsStrictlyIncreasing}
use Rattle.std.proofs.lemmas.Bool.{cases_lt}
use Rattle.std.proofs.lemmas.List.{get_or_default, same_lists}
use Rattle.std.proofs.lemmas.List.Elements.{All-contains}
use Rattle.std.proofs.lemmas.Option.{slice_get_within, slice_get-get_or, get_or_from_slice_get, same_Some}
use Rattle.dist_base.specs.ListLaws.{any-at, contains-at}
use Rattle.dist_cluster.proofs.FoundLemmas.{contains-least}
use Rattle.dist_cluster.specs.Found.{AreFound, IsListed, number_at}
use Rattle.dist_cluster.specs.Partition.{least, IsClusterOf, IsIn, IsPartition}
use Rattle.dist_cluster.specs.Relation.{Member, AreClustered, AreTogether}
use Rattle.dist_cluster.proofs.Clustered.{number-same}
use Rattle.dist_cluster.proofs.Places.{some-of, some-at, standing}

-- ---- what is found of all members

together-parts : (members : List Member) (m n : ℕ) → AreTogether members m n →
    (a : Member) × (b : Member) × (slice_get members m ≡ Some a) × (slice_get members n ≡ Some b) × AreClustered a b
together-parts members m n h =
    let first = some-of (λ (a : Member). IsSomeAnd (slice_get members n) (λ b. AreClustered a b)) (slice_get members m) h in
    let second = some-of (λ (b : Member). AreClustered first.0 b) (slice_get members n) first.2 in
    (first.0, second.0, first.1, second.1, second.2)

parts-together : (members : List Member) (m n : ℕ) (a b : Member) → slice_get members m ≡ Some a → slice_get members n ≡ Some b → AreClustered a b
    → AreTogether members m n
parts-together members m n a b first second h =
    some-at (λ (x : Member). IsSomeAnd (slice_get members n) (λ y. AreClustered x y)) (slice_get members m) a first
    (some-at (λ (y : Member). AreClustered a y) (slice_get members n) b second h)

in-cluster : (clusters : List (List ℕ)) (c m : ℕ) (cluster : List ℕ) → slice_get clusters c ≡ Some cluster → IsIn clusters c m → Contains cluster m
in-cluster clusters c m cluster is here =
    let one = some-of (λ (list : List ℕ). Contains list m) (slice_get clusters c) here in
    let In : List ℕ → Type 0 = λ list. Contains list m in
    subst In (same_Some _ _ (sym one.1 ∙ is)) one.2

module _ (members : List Member) (n : ℕ) (numbers : List (Member × ℕ)) (clusters : List (List ℕ)) (cluster_of : List ℕ)
    (all : n ≡ length members) (found : AreFound members n numbers clusters cluster_of) where
  -- a member of a cluster, by its number
  member-of : (c m : ℕ) → slice_get cluster_of m ≡ Some c → (a : Member) × (slice_get members m ≡ Some a)
  member-of c m is = standing members m (let short = slice_get_within cluster_of m c is in omega (arith, found.counted))

  whole-at : (c m : ℕ) (cluster : List ℕ) → slice_get clusters c ≡ Some cluster → Contains cluster m → IsClusterOf members cluster m
  whole-at c m cluster is there k =
      let in_m : slice_get cluster_of m ≡ Some c = (found.placed c m).0 (some-at (λ (list : List ℕ). Contains list m) (slice_get clusters c) cluster is there)
      in
      let a = member-of c m in_m in
      let a_number : number_at numbers a.0 ≡ Some c = found.numbered m c a.0 a.1 in_m in (
        (λ other.
            let in_k : slice_get cluster_of k ≡ Some c = (found.placed c k).0
            (some-at (λ (list : List ℕ). Contains list k) (slice_get clusters c) cluster is other) in
            let b = member-of c k in_k in
            parts-together members m k a.0 b.0 a.1 b.1 (found.apart a.0 b.0 c a_number (found.numbered k c b.0 b.1 in_k))),
        λ together.
            let parts = together-parts members m k together in
            let same : a.0 ≡ parts.0 = same_Some _ _ (sym a.1 ∙ parts.2) in
            let number : number_at numbers parts.1 ≡ Some c = sym (number-same numbers parts.0 parts.1 parts.4) ∙ ap (number_at numbers) (sym same)
            ∙ a_number in
            let short : k < length cluster_of = omega (arith, slice_get_within members k parts.1 parts.3, found.counted) in
            let e = standing cluster_of k short in
            let own : number_at numbers parts.1 ≡ Some e.0 = found.numbered k e.0 parts.1 parts.3 e.1 in
            let one : e.0 ≡ c = same_Some _ _ (sym own ∙ number) in
            in-cluster clusters c k cluster is ((found.placed c k).1 (e.1 ∙ ap (λ j. Some j) one)),
      )

  pub found-all : IsPartition members clusters
  found-all = record {
    every = λ m short.
        let e = standing cluster_of m (omega (arith, found.counted)) in
        let one = some-of (λ (list : List ℕ). Contains list m) (slice_get clusters e.0) ((found.placed e.0 m).1 e.1) in
        any-at (λ (list : List ℕ). Contains list m) clusters e.0 one.0 one.1 one.2;
    some = found.some;
    whole = λ k d short j e inside.
        whole-at k (get_or (get_or clusters k d) j e) (get_or clusters k d) (slice_get-get_or clusters k d short)
        (contains-at (get_or clusters k d) j (get_or (get_or clusters k d) j e) (slice_get-get_or (get_or clusters k d) j e inside));
    rising = found.rising;
    in_order = found.in_order;
  }

  -- the members of each cluster are there
  pub found-within : All (λ cluster. All (λ m. m < length members) cluster) clusters
  found-within k d short j e inside =
      let m = get_or (get_or clusters k d) j e in
      let there = contains-at (get_or clusters k d) j m (slice_get-get_or (get_or clusters k d) j e inside) in
      let is : slice_get cluster_of m ≡ Some k = (found.placed k m).0
      (some-at (λ (list : List ℕ). Contains list m) (slice_get clusters k) (get_or clusters k d) (slice_get-get_or clusters k d short) there) in
      let below = slice_get_within cluster_of m k is in
      omega (arith, found.counted)

-- ---- numbers that rise are known by what they contain

rising-tail : (x : ℕ) (xs : List ℕ) → IsStrictlyIncreasing (x ∷ xs) → IsStrictlyIncreasing xs
rising-tail x xs rising k short =
    let step = rising (suc k) (omega arith) in
    let at : get_or (x ∷ xs) (suc k + 1) 0 ≡ get_or xs (k + 1) 0 = ap (λ j. get_or (x ∷ xs) j 0) (let e : suc k + 1 ≡ suc (k + 1) = omega arith in e) in
    omega arith

head-below : (x : ℕ) (xs : List ℕ) → IsStrictlyIncreasing (x ∷ xs) → (k : ℕ) → k < length xs → x < get_or xs k 0
head-below x xs rising zero short =
    let step = rising 0 (omega arith) in
    let at : get_or (x ∷ xs) (0 + 1) 0 ≡ get_or xs 0 0 = ap (λ j. get_or (x ∷ xs) j 0) (let e : 0 + 1 ≡ suc zero = omega arith in e) in
    omega arith
head-below x xs rising (suc k) short =
    let before = head-below x xs rising k (omega arith) in
    let step = rising-tail x xs rising k (omega arith) in
    let at : get_or xs (k + 1) 0 ≡ get_or xs (suc k) 0 = ap (λ j. get_or xs j 0) (let e : k + 1 ≡ suc k = omega arith in e) in
    omega arith

above-head : (x y : ℕ) (xs : List ℕ) → IsStrictlyIncreasing (x ∷ xs) → Contains xs y → x < y
above-head x y xs rising there =
    let below = head-below x xs rising there.0 there.1 in
    let is : get_or xs there.0 0 ≡ y = get_or_default xs there.0 0 y there.1 ∙ there.2 in
    omega arith

tail-contains : (x y : ℕ) (xs : List ℕ) → Contains xs y → Contains (x ∷ xs) y
tail-contains x y xs there = (suc there.0, omega (arith, there.1), there.2)

contains-cases : (x y : ℕ) (xs : List ℕ) (k : ℕ) → k < length (x ∷ xs) → get_or (x ∷ xs) k y ≡ y → (x ≡ y) ⊎ Contains xs y
contains-cases x y xs zero short is = inl is
contains-cases x y xs (suc k) short is = inr (k, omega arith, is)

least-of : (xs : List ℕ) (x : ℕ) → IsStrictlyIncreasing xs → Contains xs x → least xs ≤ x
least-of [] x rising there = absurd (omega (arith, there.1))
least-of (y ∷ xs) x rising there = elim (contains-cases y x xs there.0 there.1 there.2) [
  | inl h ↦ omega arith
  | inr h ↦ let below = above-head y x xs rising h in omega arith
]

abbrev HaveSame : List ℕ → List ℕ → Type 0
HaveSame xs ys = (k : ℕ) → Contains xs k ↔ Contains ys k

tail-same : (x y : ℕ) (xs ys : List ℕ) → x ≡ y → IsStrictlyIncreasing (x ∷ xs) → ((k : ℕ) → Contains (x ∷ xs) k → Contains (y ∷ ys) k) → (k : ℕ) → Contains xs k
    → Contains ys k
tail-same x y xs ys heads rising into k there =
    let above = above-head x k xs rising there in
    let other = into k (tail-contains x k xs there) in
    elim (contains-cases y k ys other.0 other.1 other.2) [
      | inl h ↦ absurd (omega arith)
      | inr h ↦ h
    ]

same-rising : (xs ys : List ℕ) → IsStrictlyIncreasing xs → IsStrictlyIncreasing ys → HaveSame xs ys → xs ≡ ys
same-rising [] [] first second same = refl
same-rising [] (y ∷ ys) first second same = absurd (let there = (same y).1 (0, omega arith, refl) in omega (arith, there.1))
same-rising (x ∷ xs) [] first second same = absurd (let there = (same x).0 (0, omega arith, refl) in omega (arith, there.1))
same-rising (x ∷ xs) (y ∷ ys) first second same =
    let low : y ≤ x = least-of (y ∷ ys) x second ((same x).0 (0, omega arith, refl)) in
    let high : x ≤ y = least-of (x ∷ xs) y first ((same y).1 (0, omega arith, refl)) in
    let heads : x ≡ y = omega arith in
    let rest : HaveSame xs ys = λ k. (
      tail-same x y xs ys heads first (λ j. (same j).0) k,
      tail-same y x ys xs (sym heads) second (λ j. (same j).1) k,
    ) in
    ap (λ list. x ∷ list) (same-rising xs ys (rising-tail x xs first) (rising-tail y ys second) rest) ∙ ap (λ head. head ∷ ys) heads

-- ---- one partition

cluster-of : (members : List Member) (clusters : List (List ℕ)) → IsPartition members clusters → (c m : ℕ) → c < length clusters
    → Contains (get_or clusters c []) m → IsClusterOf members (get_or clusters c []) m
cluster-of members clusters p c m short there = All-contains (IsClusterOf members (get_or clusters c [])) (get_or clusters c []) m (p.whole c [] short) there

have-same : (members : List Member) (xs ys : List ℕ) (m : ℕ) → IsClusterOf members xs m → IsClusterOf members ys m → HaveSame xs ys
have-same members xs ys m first second k = ((λ there. (second k).1 ((first k).0 there)), λ there. (first k).1 ((second k).0 there))

in-place : (clusters : List (List ℕ)) (c m : ℕ) → IsIn clusters c m → (c < length clusters) × Contains (get_or clusters c []) m
in-place clusters c m here =
    let one = some-of (λ (list : List ℕ). Contains list m) (slice_get clusters c) here in
    let In : List ℕ → Type 0 = λ list. Contains list m in
    (slice_get_within clusters c one.0 one.1, subst In (sym (get_or_from_slice_get clusters c one.0 [] one.1)) one.2)

-- two clusters with one member are one
one-place : (members : List Member) (clusters : List (List ℕ)) → IsPartition members clusters → (c d m : ℕ) → c < length clusters → d < length clusters →
    Contains (get_or clusters c []) m → Contains (get_or clusters d []) m → c ≡ d
one-place members clusters p c d m c_short d_short first second =
    let xs = get_or clusters c [] in
    let ys = get_or clusters d [] in
    let same : HaveSame xs ys = have-same members xs ys m (cluster-of members clusters p c m c_short first)
    (cluster-of members clusters p d m d_short second) in
    let low : least ys ≤ least xs = least-of ys (least xs) (p.rising d [] d_short) ((same (least xs)).0 (contains-least xs (p.some c [] c_short))) in
    let high : least xs ≤ least ys = least-of xs (least ys) (p.rising c [] c_short) ((same (least ys)).1 (contains-least ys (p.some d [] d_short))) in
    elim (cases_lt c d) [
      | inl h ↦ absurd (let less = p.in_order c d [] h d_short in omega arith)
      | inr h ↦ elim (cases_lt d c) [
        | inl g ↦ absurd (let less = p.in_order d c [] g c_short in omega arith)
        | inr g ↦ omega arith
      ]
    ]

pub one-cluster : (members : List Member) (clusters : List (List ℕ)) → IsPartition members clusters → (c d m : ℕ) → IsIn clusters c m → IsIn clusters d m
    → c ≡ d
one-cluster members clusters p c d m first second =
    let a = in-place clusters c m first in
    let b = in-place clusters d m second in
    one-place members clusters p c d m a.0 b.0 a.1 b.1

-- the two lists have the same cluster at a place, if either has one there
abbrev AgreeAt : List (List ℕ) → List (List ℕ) → ℕ → Type 0
AgreeAt a b i = (i < length a → (i < length b) × (get_or a i [] ≡ get_or b i [])) × (i < length b → (i < length a) × (get_or b i [] ≡ get_or a i []))

agree-back : (a b : List (List ℕ)) (i : ℕ) → AgreeAt a b i → AgreeAt b a i
agree-back a b i agree = (agree.1, agree.0)

-- where the clusters before agree, the next one of the other list begins no later
no-later : (members : List Member) (a b : List (List ℕ)) → IsPartition members a → IsPartition members b → (i : ℕ) → ((j : ℕ) → j < i → AgreeAt a b j)
    → i < length a →
    (i < length b) × (least (get_or b i []) ≤ least (get_or a i []))
no-later members a b p q i before short =
    let x = least (get_or a i []) in
    let there : Contains (get_or a i []) x = contains-least (get_or a i []) (p.some i [] short) in
    let self = together-parts members x x ((cluster-of members a p i x short there x).0 there) in
    let other = q.every x (slice_get_within members x self.0 self.2) in
    let j = other.0 in
    let In : List ℕ → Type 0 = λ list. Contains list x in
    let held : Contains (get_or b j []) x = subst In (sym other.3 ∙ get_or_default b j other.1 [] other.2) other.4 in
    let low = least-of (get_or b j []) x (q.rising j [] other.2) held in
    elim (cases_lt j i) [
      | inl h ↦
          let j_short : j < length a = omega (arith, h) in
          let agrees = (before j h).0 j_short in
          absurd (let same = one-place members a p j i x j_short short (subst In (sym agrees.1) held) there in omega (arith, h))
      | inr h ↦ elim (cases_lt i j) [
        | inl g ↦ let less = q.in_order i j [] g other.2 in (omega (arith, other.2), omega arith)
        | inr g ↦
            let same : j ≡ i = omega (arith, h, g) in
            let P : ℕ → Type 0 = λ k. (k < length b) × (least (get_or b k []) ≤ x) in
            subst P same (other.2, low)
      ]
    ]

agree-next : (members : List Member) (a b : List (List ℕ)) → IsPartition members a → IsPartition members b → (i : ℕ) → ((j : ℕ) → j < i → AgreeAt a b j)
    → i < length a →
    (i < length b) × (get_or a i [] ≡ get_or b i [])
agree-next members a b p q i before short =
    let first = no-later members a b p q i before short in
    let second = no-later members b a q p i (λ j h. agree-back a b j (before j h)) first.0 in
    let x = least (get_or a i []) in
    let heads : least (get_or b i []) ≡ x = omega (arith, first.1, second.1) in
    let In : ℕ → Type 0 = λ m. Contains (get_or b i []) m in
    let there : Contains (get_or a i []) x = contains-least (get_or a i []) (p.some i [] short) in
    let other : Contains (get_or b i []) x = subst In heads (contains-least (get_or b i []) (q.some i [] first.0)) in (
      first.0,
      same-rising (get_or a i []) (get_or b i []) (p.rising i [] short) (q.rising i [] first.0)
          (have-same members (get_or a i []) (get_or b i []) x (cluster-of members a p i x short there) (cluster-of members b q i x first.0 other)),
    )

agree-below : (members : List Member) (a b : List (List ℕ)) → IsPartition members a → IsPartition members b → (n i : ℕ) → i < n → AgreeAt a b i
agree-below members a b p q zero i below = absurd (omega arith)
agree-below members a b p q (suc n) i below =
    let before : (j : ℕ) → j < i → AgreeAt a b j = λ j h. agree-below members a b p q n j (omega arith) in
    (agree-next members a b p q i before, agree-next members b a q p i (λ j h. agree-back a b j (before j h)))

pub one-partition : (members : List Member) (a b : List (List ℕ)) → IsPartition members a → IsPartition members b → a ≡ b
one-partition members a b p q =
    let agree : (i : ℕ) → AgreeAt a b i = λ i. agree-below members a b p q (suc i) i (omega arith) in
    let lengths : length a ≡ length b = elim (cases_lt (length a) (length b)) [
      | inl h ↦ absurd (let one = (agree (length a)).1 h in omega (arith, one.0))
      | inr h ↦ elim (cases_lt (length b) (length a)) [
        | inl g ↦ absurd (let one = (agree (length b)).0 g in omega (arith, one.0))
        | inr g ↦ omega arith
      ]
    ] in
    same_lists a b lengths (λ k d short. get_or_default a k d [] short ∙ ((agree k).0 short).1 ∙ get_or_default b k [] d (omega (arith, short)))

-- ---- clusters as they are kept

pub listed-place : (clusters tops : List (List ℕ)) (cluster_of : List ℕ) → IsListed clusters tops cluster_of → (m : ℕ)
    → Any (λ cluster. Contains cluster m) clusters → m < length cluster_of
listed-place clusters tops cluster_of listed m any =
    let is : slice_get clusters any.0 ≡ Some any.1 = slice_get-get_or clusters any.0 any.1 any.2 ∙ ap (λ list. Some list) any.3 in
    slice_get_within cluster_of m any.0 ((listed.placed any.0 m).0 (some-at (λ (list : List ℕ). Contains list m) (slice_get clusters any.0) any.1 is any.4))

pub listed-exact : (clusters tops : List (List ℕ)) (cluster_of : List ℕ) → IsListed clusters tops cluster_of → (m r : ℕ) → m < length cluster_of
    → r ≡ get_or cluster_of m r → (c : ℕ) → IsIn clusters c m ↔ (c ≡ r)
listed-exact clusters tops cluster_of listed m r short is c =
    let at : slice_get cluster_of m ≡ Some r = slice_get-get_or cluster_of m r short ∙ ap (λ k. Some k) (sym is) in (
      (λ here. same_Some _ _ (sym ((listed.placed c m).0 here) ∙ at)),
      λ same. (listed.placed c m).1 (at ∙ ap (λ k. Some k) (sym same)),
    )

pub listed-from : (members : List Member) (n : ℕ) (numbers : List (Member × ℕ)) (clusters tops : List (List ℕ)) (cluster_of : List ℕ) → n < 2 ^ 32
    → AreFound members n numbers clusters cluster_of →
    length tops ≡ length clusters → IsListed clusters tops cluster_of
listed-from members n numbers clusters tops cluster_of small found aligned =
    record { aligned = aligned; few = let few = found.few in omega arith; placed = found.placed }
