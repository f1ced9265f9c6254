-- What one more member changes of what is found, and what is found of all members.
use Rattle.std.proofs.Common.{◌≡◌, ◌≢◌, ◌↔◌, ◌⊎◌, ℕ, ◌+◌, ◌<◌, cond, List, [], ◌∷◌, ◌++◌, length, get_or, set, Some, None, Option, refl, sym, ap, subst, ◌∙◌}
use Rattle.std.proofs.Common.{arith, inl, inr, slice_get}
use Rattle.std.specs.Prelude.{Contains, IsSomeAnd}
use Rattle.std.specs.BTreeMap.{is_at}
use Rattle.std.specs.List.Sorted.{IsStrictlyIncreasing}
use Rattle.std.proofs.lemmas.Bool.{cases_Bool, cases_eq}
use Rattle.std.proofs.lemmas.List.{length-set, length_push, get_or-set_same, get_or-set_other, get_or_append_left, get_or_default}
use Rattle.std.proofs.lemmas.List.Elements.{All-set, All-push, Contains-append_left, Contains-push, Contains-push_cases}
use Rattle.std.proofs.lemmas.List.Quantifiers.{all_pairs_push}
use Rattle.std.proofs.lemmas.Option.{slice_get_within, slice_get-get_or, same_Some}
use Rattle.dist_cluster.specs.Found.{AreFound, number_at}
use Rattle.dist_cluster.specs.Partition.{least, IsIn}
use Rattle.dist_cluster.specs.Relation.{Member, AreClustered}
use Rattle.dist_cluster.specs.TotalLaws.{member_cmp}
use Rattle.dist_cluster.proofs.Clustered.{clustered-joined, clustered-turned, number-same, clustered-found, found-itself}
use Rattle.dist_cluster.proofs.Places.{some-of, some-at, get-left, get-here, get-cases, get-set_same, get-set_other, increasing-push, increasing-one}

-- ---- nothing is found of no members

pub found-none : (members : List Member) → AreFound members 0 [] [] []
found-none members = record {
  counted = refl;
  few = omega arith;
  rising = λ k d short. absurd (omega arith);
  in_order = λ i j d before short. absurd (omega arith);
  some = λ k d short. absurd (omega arith);
  placed = λ c m. ((λ here. absurd here), λ is. cc);
  numbered = λ m c member is at. cc;
  apart = λ p q c first second. cc;
  within = λ q c is. cc;
}

-- ---- the members so far

-- a member of a cluster so far is below the next one
below-next : (members : List Member) (n : ℕ) (numbers : List (Member × ℕ)) (clusters : List (List ℕ)) (cluster_of : List ℕ)
    → AreFound members n numbers clusters cluster_of →
    (c m : ℕ) → IsIn clusters c m → m < n
below-next members n numbers clusters cluster_of found c m here =
    let short = slice_get_within cluster_of m c ((found.placed c m).0 here) in omega (arith, found.counted)

is-in : (clusters : List (List ℕ)) (c m : ℕ) (cluster : List ℕ) → slice_get clusters c ≡ Some cluster → Contains cluster m → IsIn clusters c m
is-in clusters c m cluster is there = some-at (λ (list : List ℕ). Contains list m) (slice_get clusters c) cluster is there

least-push : (xs : List ℕ) (y : ℕ) → 0 < length xs → least (xs ++ y ∷ []) ≡ least xs
least-push xs y some = get_or_append_left xs (y ∷ []) 0 0 some

pub contains-least : (xs : List ℕ) → 0 < length xs → Contains xs (least xs)
contains-least xs some = (0, some, get_or_default xs 0 (least xs) 0 some)

-- ---- a member joins a cluster

module _ (members : List Member) (n c : ℕ) (member : Member) (numbers : List (Member × ℕ)) (clusters : List (List ℕ)) (cluster_of : List ℕ)
    (found : AreFound members n numbers clusters cluster_of) (at : slice_get members n ≡ Some member) (number : number_at numbers member ≡ Some c) where
  old : List ℕ
  old = get_or clusters c []

  short : c < length clusters
  short = found.within member c number

  here : slice_get clusters c ≡ Some (get_or clusters c [])
  here = slice_get-get_or clusters c [] short

  abbrev joined : List (List ℕ)
  joined = set clusters c (get_or clusters c [] ++ n ∷ [])

  old-below : (m : ℕ) → Contains (get_or clusters c []) m → m < n
  old-below m there = below-next members n numbers clusters cluster_of found c m (is-in clusters c m (get_or clusters c []) here there)

  least-joined : (i : ℕ) (d : List ℕ) → i < length clusters → least (get_or joined i d) ≡ least (get_or clusters i d)
  least-joined i d within = elim (cases_eq i c) [
    | inl same ↦
        let P : ℕ → Type 0 = λ k. least (get_or joined k d) ≡ least (get_or clusters k d) in
        subst P (sym same) (
        ap least (get_or-set_same clusters c (get_or clusters c [] ++ n ∷ []) d short)
        ∙ least-push (get_or clusters c []) n (found.some c [] short)
        ∙ ap least (get_or_default clusters c [] d short))
    | inr other ↦ ap least (get_or-set_other clusters c i (get_or clusters c [] ++ n ∷ []) d other)
  ]

  placed-joined_at : (m : ℕ) → IsIn joined c m ↔ (slice_get (cluster_of ++ c ∷ []) m ≡ Some c)
  placed-joined_at m =
      let now : slice_get joined c ≡ Some (get_or clusters c [] ++ n ∷ []) = get-set_same clusters c (get_or clusters c [] ++ n ∷ []) short in (
        (λ inside.
            let one = some-of (λ (list : List ℕ). Contains list m) (slice_get joined c) inside in
            let is : one.0 ≡ get_or clusters c [] ++ n ∷ [] = same_Some _ _ (sym one.1 ∙ now) in
            let In : List ℕ → Type 0 = λ list. Contains list m in
            elim (Contains-push_cases (get_or clusters c []) n m (subst In is one.2)) [
              | inl h ↦ get-left cluster_of (c ∷ []) m c ((found.placed c m).0 (is-in clusters c m (get_or clusters c []) here h))
              | inr h ↦ get-here cluster_of c m (sym h ∙ sym found.counted)
            ]),
        λ is. is-in joined c m (get_or clusters c [] ++ n ∷ []) now (elim (get-cases cluster_of c m c is) [
          | inl h ↦
              let one = some-of (λ (list : List ℕ). Contains list m) (slice_get clusters c) ((found.placed c m).1 h) in
              let same : one.0 ≡ get_or clusters c [] = same_Some _ _ (sym one.1 ∙ here) in
              let In : List ℕ → Type 0 = λ list. Contains list m in
              Contains-append_left (get_or clusters c []) (n ∷ []) m (subst In same one.2)
          | inr h ↦
              let last : n ≡ m = sym found.counted ∙ sym h.0 in
              let In : ℕ → Type 0 = λ k. Contains (get_or clusters c [] ++ n ∷ []) k in subst In last (Contains-push (get_or clusters c []) n)
        ]),
      )

  placed-joined_other : (e m : ℕ) → e ≢ c → IsIn joined e m ↔ (slice_get (cluster_of ++ c ∷ []) m ≡ Some e)
  placed-joined_other e m other =
      let same : slice_get joined e ≡ slice_get clusters e = get-set_other clusters c e (get_or clusters c [] ++ n ∷ []) other in
      let In : Option (List ℕ) → Type 0 = λ o. IsSomeAnd o (λ list. Contains list m) in (
        (λ inside. get-left cluster_of (c ∷ []) m e ((found.placed e m).0 (subst In same inside))),
        λ is. elim (get-cases cluster_of c m e is) [
          | inl h ↦ subst In (sym same) ((found.placed e m).1 h)
          | inr h ↦ absurd (other (sym h.1))
        ],
      )

  placed-joined : (e m : ℕ) → IsIn joined e m ↔ (slice_get (cluster_of ++ c ∷ []) m ≡ Some e)
  placed-joined e m = elim (cases_eq e c) [
    | inl same ↦ let P : ℕ → Type 0 = λ k. IsIn joined k m ↔ (slice_get (cluster_of ++ c ∷ []) m ≡ Some k) in subst P (sym same) (placed-joined_at m)
    | inr other ↦ placed-joined_other e m other
  ]

  pub found-joined : AreFound members (n + 1) numbers joined (cluster_of ++ c ∷ [])
  found-joined = record {
    counted = length_push cluster_of c ∙ ap (λ k. k + 1) found.counted;
    few = let few = found.few in omega (arith, length-set clusters c (get_or clusters c [] ++ n ∷ []));
    rising = All-set IsStrictlyIncreasing clusters c (get_or clusters c [] ++ n ∷ [])
        (increasing-push (get_or clusters c []) n (found.rising c [] short) old-below) found.rising;
    in_order = λ i j d before within.
        let inside : j < length clusters = omega (arith, length-set clusters c (get_or clusters c [] ++ n ∷ [])) in
        let first = least-joined i d (omega arith) in
        let second = least-joined j d inside in
        let less = found.in_order i j d before inside in
        omega arith;
    some = All-set (λ (list : List ℕ). 0 < length list) clusters c (get_or clusters c [] ++ n ∷ []) (omega (arith, length_push (get_or clusters c []) n))
        found.some;
    placed = placed-joined;
    numbered = λ m e other is numbered. elim (get-cases cluster_of c m e numbered) [
      | inl h ↦ found.numbered m e other is h
      | inr h ↦
          let last : m ≡ n = h.0 ∙ found.counted in
          let Stands : ℕ → Type 0 = λ k. slice_get members k ≡ Some other in
          let same : member ≡ other = same_Some _ _ (sym at ∙ subst Stands last is) in
          ap (number_at numbers) (sym same) ∙ number ∙ ap (λ k. Some k) h.1
    ];
    apart = found.apart;
    within = λ q e is. let inside = found.within q e is in omega (arith, length-set clusters c (get_or clusters c [] ++ n ∷ []));
  }

-- ---- a member begins a cluster

module _ (members : List Member) (n : ℕ) (member : Member) (before after : List (Member × ℕ)) (clusters : List (List ℕ)) (cluster_of : List ℕ)
    (found : AreFound members n before clusters cluster_of) (at : slice_get members n ≡ Some member) (missing : number_at before member ≡ None)
    (updates : (q : Member) → number_at after q ≡ cond (is_at (member_cmp member) q) (Some (length clusters)) (number_at before q)) where
  abbrev begun : List (List ℕ)
  begun = clusters ++ (n ∷ []) ∷ []

  placed-begun : (e m : ℕ) → IsIn begun e m ↔ (slice_get (cluster_of ++ length clusters ∷ []) m ≡ Some e)
  placed-begun e m = (
    (λ inside.
        let one = some-of (λ (list : List ℕ). Contains list m) (slice_get begun e) inside in
        elim (get-cases clusters (n ∷ []) e one.0 one.1) [
          | inl h ↦ get-left cluster_of (length clusters ∷ []) m e ((found.placed e m).0 (is-in clusters e m one.0 h one.2))
          | inr h ↦
              let In : List ℕ → Type 0 = λ list. Contains list m in
              let only : n ≡ m = elim (Contains-push_cases [] n m (subst In (sym h.1) one.2)) [ inl g ↦ absurd (omega (arith, g.1)) | inr g ↦ g ] in
              get-here cluster_of (length clusters) m (sym only ∙ sym found.counted) ∙ ap (λ k. Some k) (sym h.0)
        ]),
    λ is. elim (get-cases cluster_of (length clusters) m e is) [
      | inl h ↦
          let one = some-of (λ (list : List ℕ). Contains list m) (slice_get clusters e) ((found.placed e m).1 h) in
          is-in begun e m one.0 (get-left clusters ((n ∷ []) ∷ []) e one.0 one.1) one.2
      | inr h ↦
          let last : n ≡ m = sym found.counted ∙ sym h.0 in
          let In : ℕ → Type 0 = λ k. Contains (n ∷ []) k in
          is-in begun e m (n ∷ []) (get-here clusters (n ∷ []) e (sym h.1)) (subst In last (Contains-push [] n))
    ],
  )

  old-number : (q : Member) (e : ℕ) → number_at before q ≡ Some e → number_at after q ≡ Some e
  old-number q e is = elim (cases_Bool (is_at (member_cmp member) q)) [
    | inl tied ↦ let same = number-same before member q (clustered-found member q tied) in absurd (let no : None ≡ Some e = sym missing ∙ same ∙ is in cc)
    | inr other ↦ updates q ∙ ap (λ b. cond b (Some (length clusters)) (number_at before q)) other ∙ is
  ]

  -- a number is an old one, or that of the new cluster
  number-cases : (q : Member) (e : ℕ) → number_at after q ≡ Some e → (number_at before q ≡ Some e) ⊎ ((e ≡ length clusters) × AreClustered member q)
  number-cases q e is = elim (cases_Bool (is_at (member_cmp member) q)) [
    | inl tied ↦
        let now : Some (length clusters) ≡ Some e = ap (λ b. cond b (Some (length clusters)) (number_at before q)) (sym tied) ∙ sym (updates q) ∙ is in
        inr (sym (same_Some _ _ now), clustered-found member q tied)
    | inr other ↦ inl (ap (λ b. cond b (Some (length clusters)) (number_at before q)) (sym other) ∙ sym (updates q) ∙ is)
  ]

  apart-begun : (p q : Member) (e : ℕ) → number_at after p ≡ Some e → number_at after q ≡ Some e → AreClustered p q
  apart-begun p q e first second = elim (number-cases p e first) [
    | inl h ↦ elim (number-cases q e second) [
      | inl g ↦ found.apart p q e h g
      | inr g ↦ absurd (let inside = found.within p e h in omega (arith, g.0))
    ]
    | inr h ↦ elim (number-cases q e second) [
      | inl g ↦ absurd (let inside = found.within q e g in omega (arith, h.0))
      | inr g ↦ clustered-joined p member q (clustered-turned member p h.1) g.1
    ]
  ]

  pub found-begun : AreFound members (n + 1) after begun (cluster_of ++ length clusters ∷ [])
  found-begun = record {
    counted = length_push cluster_of (length clusters) ∙ ap (λ k. k + 1) found.counted;
    few = let few = found.few in omega (arith, length_push clusters (n ∷ []));
    rising = All-push IsStrictlyIncreasing clusters (n ∷ []) found.rising (increasing-one n);
    in_order = all_pairs_push (λ (c d : List ℕ). least c < least d) clusters (n ∷ []) found.in_order (λ k d short.
        let is : slice_get clusters k ≡ Some (get_or clusters k d) = slice_get-get_or clusters k d short in
        below-next members n before clusters cluster_of found k (least (get_or clusters k d))
        (is-in clusters k _ (get_or clusters k d) is (contains-least (get_or clusters k d) (found.some k d short))));
    some = All-push (λ (list : List ℕ). 0 < length list) clusters (n ∷ []) found.some (omega arith);
    placed = placed-begun;
    numbered = λ m e other is numbered. elim (get-cases cluster_of (length clusters) m e numbered) [
      | inl h ↦ old-number other e (found.numbered m e other is h)
      | inr h ↦
          let last : m ≡ n = h.0 ∙ found.counted in
          let Stands : ℕ → Type 0 = λ k. slice_get members k ≡ Some other in
          let same : member ≡ other = same_Some _ _ (sym at ∙ subst Stands last is) in
          ap (number_at after) (sym same) ∙ updates member ∙ ap (λ b. cond b (Some (length clusters)) (number_at before member)) (found-itself member)
          ∙ ap (λ k. Some k) h.1
    ];
    apart = apart-begun;
    within = λ q e is. elim (number-cases q e is) [
      | inl h ↦ let inside = found.within q e h in omega (arith, length_push clusters (n ∷ []))
      | inr h ↦ omega (arith, length_push clusters (n ∷ []), h.0)
    ];
  }
