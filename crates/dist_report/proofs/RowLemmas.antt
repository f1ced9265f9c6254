-- The classes of all clusters in one row.
use Rattle.std.proofs.Common.{◌≡◌, ℕ, ◌+◌, ◌-◌, ◌<◌, ◌^◌, List, [], ◌∷◌, ◌++◌, length, map, get_or, refl}
use Rattle.std.proofs.Common.{Option, None, Some, sym, ap, subst, ◌∙◌, arith, slice_get, inl, inr}
use Rattle.std.specs.Prelude.{All, IsSomeAnd}
use Rattle.std.specs.List.{flat_map, range_with_len}
use Rattle.std.specs.Option.{option_map_or}
use Rattle.std.proofs.lemmas.Bool.{cases_lt}
use Rattle.std.proofs.lemmas.List.{flat_map_more, get_or-append_right, get_or_append_left, get_or_push, length_push}
use Rattle.std.proofs.lemmas.List.Elements.{All-append, All-map, All-nil}
use Rattle.std.proofs.lemmas.List.FromFn.{get_or-map-range_with_len, get_or-range_with_len, length-map-range_with_len, length-range_with_len}
use Rattle.std.proofs.lemmas.Option.{get_or_from_slice_get, slice_get-get_or, slice_get_within}
use Rattle.dist_classes.specs.declared.class_value.Class.{Class}
use Rattle.dist_report.specs.ChallengedReport.{class_pairs}
use Rattle.dist_report.specs.ClassTablePrivate.{HasClass, IsRow}
use Rattle.dist_report.proofs.PickedLemmas.{range-more}

-- the pairs of a cluster's classes
abbrev pub own-pairs : List (List Class) → ℕ → List (ℕ × ℕ)
own-pairs classes c = map (λ k. (c, k)) (range_with_len 0 (option_map_or length (slice_get classes c) 0))

-- ---- the row of the first clusters

pub record IsRowSoFar (classes : List (List Class)) (c : ℕ) (starts : List ℕ) (pairs : List (ℕ × ℕ)) : Type 0 where
  pub counted : length starts ≡ c
  pub row : IsRow starts pairs
  pub are : pairs ≡ flat_map (own-pairs classes) (range_with_len 0 c)

pub row-none : (classes : List (List Class)) → IsRowSoFar classes 0 [] []
row-none classes = record {
  counted = refl;
  row = record { few = omega arith; placed = λ place pair is. absurd (let short = slice_get_within [] place pair is in omega (arith, short)) };
  are = refl;
}

-- where a pair of the longer row stands
row-placed : (c n : ℕ) (starts starts' : List ℕ) (pairs pairs' : List (ℕ × ℕ)) → length starts ≡ c → IsRow starts pairs → starts' ≡ starts ++ length pairs ∷ []
    → pairs' ≡ pairs ++ map (λ k. (c, k)) (range_with_len 0 n) → (place : ℕ) (pair : ℕ × ℕ) → slice_get pairs' place ≡ Some pair
    → (pair.0 < length starts') × (get_or starts' pair.0 0 + pair.1 ≡ place)
row-placed c n starts starts' pairs pairs' counted row pushed more place pair is =
    let own : List (ℕ × ℕ) = map (λ (k : ℕ). (c, k)) (range_with_len 0 n) in
    let short : place < length pairs' = slice_get_within pairs' place pair is in
    let at : get_or pairs' place pair ≡ pair = get_or_from_slice_get pairs' place pair pair is in
    let long : length starts' ≡ length starts + 1 = ap length pushed ∙ length_push starts (length pairs) in
    elim (cases_lt place (length pairs)) [
      | inl before ↦
          let same : get_or pairs place pair ≡ pair =
          sym (get_or_append_left pairs own pair place before) ∙ ap (λ (l : List (ℕ × ℕ)). get_or l place pair) (sym more) ∙ at in
          let old = row.placed place pair (slice_get-get_or pairs place pair before ∙ ap (λ (p : ℕ × ℕ). Some p) same) in
          let kept : get_or starts' pair.0 0 ≡ get_or starts pair.0 0 =
          ap (λ (l : List ℕ). get_or l pair.0 0) pushed ∙ get_or_append_left starts (length pairs ∷ []) 0 pair.0 old.0 in
          let first : pair.0 < length starts = old.0 in
          let second : get_or starts pair.0 0 + pair.1 ≡ place = old.1 in
          (omega (arith, first, long), omega (arith, kept, second))
      | inr past ↦
          let whole : length pairs' ≡ length pairs + length own = ap length more ∙ length-both pairs own in
          let count : length own ≡ n = length-map-range_with_len (λ (k : ℕ). (c, k)) 0 n in
          let within : place - length pairs < n = omega (arith, whole, count, short, past) in
          let right : get_or pairs' place pair ≡ get_or own (place - length pairs) pair =
          ap (λ (l : List (ℕ × ℕ)). get_or l place pair) more ∙ get_or-append_right pairs own (length pairs) place pair refl past in
          let new : get_or own (place - length pairs) pair ≡ (c, place - length pairs) =
          get_or-map-range_with_len (λ (k : ℕ). (c, k)) 0 n (place - length pairs) (place - length pairs) pair within (omega arith) in
          let is_new : pair ≡ (c, place - length pairs) = sym at ∙ right ∙ new in
          let cluster : pair.0 ≡ c = ap (λ (p : ℕ × ℕ). p.0) is_new in
          let class : pair.1 ≡ place - length pairs = ap (λ (p : ℕ × ℕ). p.1) is_new in
          let start : get_or starts' pair.0 0 ≡ length pairs =
          ap (λ (l : List ℕ). get_or l pair.0 0) pushed ∙ get_or_push starts (length pairs) 0 pair.0 (sym (cluster ∙ sym counted)) in
          (omega (arith, cluster, long, counted), omega (arith, start, class, past))
    ]
  where
    length-both : (xs ys : List (ℕ × ℕ)) → length (xs ++ ys) ≡ length xs + length ys
    length-both [] ys = omega arith
    length-both (x ∷ xs) ys = let rest = length-both xs ys in omega (arith, rest)

pub row-more : (classes : List (List Class)) (c : ℕ) (own : List Class) (starts starts' : List ℕ) (pairs pairs' : List (ℕ × ℕ))
    → slice_get classes c ≡ Some own → IsRowSoFar classes c starts pairs → starts' ≡ starts ++ length pairs ∷ []
    → pairs' ≡ pairs ++ map (λ k. (c, k)) (range_with_len 0 (length own)) → length pairs' < 2 ^ 32 → IsRowSoFar classes (c + 1) starts' pairs'
row-more classes c own starts starts' pairs pairs' is so_far pushed more few =
    let count : option_map_or length (slice_get classes c) 0 ≡ length own = ap (λ (o : Option (List Class)). option_map_or length o 0) is in
    let own_are : map (λ (k : ℕ). (c, k)) (range_with_len 0 (length own)) ≡ own-pairs classes c =
    ap (λ (n : ℕ). map (λ (k : ℕ). (c, k)) (range_with_len 0 n)) (sym count) in
    record {
      counted = ap length pushed ∙ length_push starts (length pairs) ∙ ap (λ (n : ℕ). n + 1) so_far.counted;
      row = record { few = few; placed = row-placed c (length own) starts starts' pairs pairs' so_far.counted so_far.row pushed more };
      are = more ∙ ap (λ (l : List (ℕ × ℕ)). pairs ++ l) own_are ∙ ap (λ (l : List (ℕ × ℕ)). l ++ own-pairs classes c) so_far.are
          ∙ flat_map_more (own-pairs classes) [] (range_with_len 0 c) c ∙ ap (flat_map (own-pairs classes)) (sym (range-more c));
    }

pub row-all : (classes : List (List Class)) (c : ℕ) (starts : List ℕ) (pairs : List (ℕ × ℕ)) → c ≡ length classes → IsRowSoFar classes c starts pairs
    → pairs ≡ class_pairs classes
row-all classes c starts pairs end so_far = so_far.are ∙ ap (λ (n : ℕ). flat_map (own-pairs classes) (range_with_len 0 n)) end

-- ---- each pair of the row is that of a class

own-have : (classes : List (List Class)) (c : ℕ) (o : Option (List Class)) → slice_get classes c ≡ o → All (HasClass classes) (own-pairs classes c)
own-have classes c None is = rw is (All-nil (HasClass classes))
own-have classes c (Some own) is =
    let count : option_map_or length (slice_get classes c) 0 ≡ length own = ap (λ (o : Option (List Class)). option_map_or length o 0) is in
    let Below : ℕ → Type 0 = λ k. HasClass classes (c, k) in
    let Of : ℕ → Type 0 = λ n. All Below (range_with_len 0 n) in
    let below : All Below (range_with_len 0 (length own)) = λ k d short.
    let within : k < length own = omega (arith, short, length-range_with_len 0 (length own)) in
    let at : get_or (range_with_len 0 (length own)) k d ≡ k = get_or-range_with_len 0 (length own) k d within ∙ omega arith in
    let Here : Option (List Class) → Type 0 = λ o. IsSomeAnd o (λ list. k < length list) in
    subst Below (sym at) (subst Here (sym is) within) in
    All-map (HasClass classes) (λ (k : ℕ). (c, k)) (range_with_len 0 (option_map_or length (slice_get classes c) 0)) (subst Of (sym count) below)

pairs-have : (classes : List (List Class)) (cs : List ℕ) → All (HasClass classes) (flat_map (own-pairs classes) cs)
pairs-have classes [] = All-nil (HasClass classes)
pairs-have classes (c ∷ cs) = All-append (HasClass classes) (own-pairs classes c) (flat_map (own-pairs classes) cs) (own-have classes c
    (slice_get classes c) refl)
    (pairs-have classes cs)

pub row-has : (classes : List (List Class)) (row : List (ℕ × ℕ)) (place : ℕ) (pair : ℕ × ℕ) → row ≡ class_pairs classes → slice_get row place ≡ Some pair
    → HasClass classes pair
row-has classes row place pair are is =
    let Have : List (ℕ × ℕ) → Type 0 = All (HasClass classes) in
    let all = subst Have (sym are) (pairs-have classes (range_with_len 0 (length classes))) in
    let at : get_or row place pair ≡ pair = get_or_from_slice_get row place pair pair is in
    subst (HasClass classes) at (all place pair (slice_get_within row place pair is))
