-- The cuts among version texts in order.
use Rattle.std.proofs.Common.{◌≡◌, ◌≢◌, ◌⊎◌, ◌↔◌, ℕ, zero, suc, ◌+◌, ◌<◌, Bool, true, false, cond, List, [], ◌∷◌, length, get_or, Ordering, Less, Equal}
use Rattle.std.proofs.Common.{Greater, is_eq, is_lt, nat_cmp, refl, sym, ap, subst, ◌∙◌, inl, inr, arith}
use Rattle.std.specs.Prelude.{Contains}
use Rattle.std.specs.Cmp.Lexicographic.{slice_cmp}
use Rattle.std.specs.List.Sorted.{IsSorted, IsSortedBy}
use Rattle.std.specs.Ordering.{is_gt, ordering_then, ordering_reverse}
use Rattle.std.proofs.lemmas.Cmp.{nat_list_cmp_total, tied_itself}
use Rattle.std.proofs.lemmas.List.Elements.{All-contains, Contains-get_or}
use Rattle.std.proofs.lemmas.Map.Text.{is_eq-slice_cmp}
use Rattle.std.proofs.lemmas.Slice.Eq.{bytes_eq-Decides}
use Rattle.std.proofs.lemmas.List.Sorted.{ranks_by, sorted_far}
use Rattle.dist_version.specs.Order.{version_cmp, IsBelow}
use Rattle.dist_classes.specs.Cuts.{AreCuts, IsLeastText, Rises, RisesFrom}
use Rattle.dist_classes.specs.SortedPrivate.{cuts_after, cuts_of, text_cmp, text_total}
use Rattle.dist_classes.proofs.ClassLemmas.{IsTold}
use Rattle.dist_classes.specs.VersionOrderLaws.{above-below, below-above, below-trans, cases-order, equal-back, equal-itself, less-not_equal, not-above_below}
use Rattle.dist_classes.specs.VersionOrderLaws.{not-both}

-- ---- texts in order

-- no text is above a later one
abbrev pub IsOrdered : List (List ℕ) → Type 0
IsOrdered [] = Unit {0}
IsOrdered (x ∷ xs) = ((v : List ℕ) → Contains xs v → is_gt (text_cmp x v) ≡ false) × IsOrdered xs

abbrev lt : List ℕ → List ℕ → Bool
lt a b = is_lt (text_cmp a b)

turned : (o : Ordering) → is_lt o ≡ false → is_gt (ordering_reverse o) ≡ false
turned Less h = cc
turned Equal h = refl
turned Greater h = refl

sorted-tail : (x : List ℕ) (xs : List (List ℕ)) → IsSortedBy lt (x ∷ xs) → IsSortedBy lt xs
sorted-tail x xs up k d low short =
    let at : get_or (x ∷ xs) (suc k + 1) d ≡ get_or xs (k + 1) d = ap (λ j. get_or (x ∷ xs) j d) (let e : suc k + 1 ≡ suc (k + 1) = omega arith in e) in
    ap (λ y. lt y (get_or xs k d)) (sym at) ∙ up (suc k) d (omega arith) (omega arith)

pub ordered-from_sorted : (xs : List (List ℕ)) → IsSorted text_cmp xs → IsOrdered xs
ordered-from_sorted [] up = tt
ordered-from_sorted (x ∷ xs) up = (
  (λ v there.
      let far : lt (get_or xs there.0 v) x ≡ false = sorted_far lt (ranks_by text_total (λ (y : List ℕ). y)) (x ∷ xs) up 0 (suc there.0) v (omega arith)
      (omega (arith, there.1)) in
      let at : lt v x ≡ false = ap (λ y. lt y x) (sym there.2) ∙ far in
      ap is_gt (text_total.antisymm x v) ∙ turned (text_cmp v x) at),
  ordered-from_sorted xs (sorted-tail x xs up),
)

-- ---- what is told by a text in order

gt-is : (o : Ordering) → is_gt o ≡ true → o ≡ Greater
gt-is Less h = cc
gt-is Equal h = cc
gt-is Greater h = refl

not-gt : (o : Ordering) → is_gt o ≡ false → o ≢ Greater
not-gt Less h = λ e. cc
not-gt Equal h = λ e. cc
not-gt Greater h = cc

-- a text that isn't above another has a version that isn't
first-not_gt : (a b : Ordering) → is_gt (ordering_then a b) ≡ false → a ≢ Greater
first-not_gt Less b h = λ e. cc
first-not_gt Equal b h = λ e. cc
first-not_gt Greater b h = cc

second-not_gt : (a b : Ordering) → is_gt (ordering_then a b) ≡ false → a ≡ Equal → is_gt b ≡ false
second-not_gt Less b h e = cc
second-not_gt Equal b h e = h
second-not_gt Greater b h e = cc

-- among equal versions the earlier text isn't above the later one
earlier-text : (x v : List ℕ) → is_gt (text_cmp x v) ≡ false → version_cmp x v ≡ Equal → slice_cmp nat_cmp v x ≢ Less
earlier-text x v h equal less =
    let not_above = second-not_gt (version_cmp x v) (slice_cmp nat_cmp x v) h equal in
    let back : slice_cmp nat_cmp x v ≡ Greater = nat_list_cmp_total.antisymm x v ∙ ap ordering_reverse less in
    not-gt (slice_cmp nat_cmp x v) not_above back

contains-cases : (x v : List ℕ) (xs : List (List ℕ)) → Contains (x ∷ xs) v → (x ≡ v) ⊎ Contains xs v
contains-cases x v xs (zero, short, is) = inl is
contains-cases x v xs (suc k, short, is) = inr (k, omega arith, is)

contains-later : (x v : List ℕ) (xs : List (List ℕ)) → Contains xs v → Contains (x ∷ xs) v
contains-later x v xs there = (suc there.0, omega (arith, there.1), there.2)

told-later : (x v : List ℕ) (xs : List (List ℕ)) → IsTold xs v → IsTold (x ∷ xs) v
told-later x v xs told = (suc told.0, told.1, omega (arith, told.2), told.3, told.4)

-- ---- the cuts

abbrev IsAbove : List ℕ → List ℕ → Bool
IsAbove x low = is_gt (version_cmp x low)

above-is : (x low : List ℕ) → IsAbove x low ≡ true → IsBelow low x
above-is x low h = above-below low x (gt-is (version_cmp x low) h)

not_above-is : (x low v : List ℕ) → IsAbove x low ≡ false → IsBelow low v → IsBelow x v
not_above-is x low v h above =
    not-above_below low x v (λ below. not-gt (version_cmp x low) h (below-above low x below)) above

abbrev chosen : (b : Bool) → List ℕ → List ℕ → List (List ℕ) → List (List ℕ)
chosen b low x xs = cond b (x ∷ cuts_after x xs) (cuts_after low xs)

chosen-rise : (low x : List ℕ) (xs : List (List ℕ)) (b : Bool) → IsAbove x low ≡ b → RisesFrom x (cuts_after x xs) → RisesFrom low (cuts_after low xs)
    → RisesFrom low (chosen b low x xs)
chosen-rise low x xs true is further same = (above-is x low is, further)
chosen-rise low x xs false is further same = same

pub cuts-rise : (low : List ℕ) (xs : List (List ℕ)) → RisesFrom low (cuts_after low xs)
cuts-rise low [] = tt
cuts-rise low (x ∷ xs) = chosen-rise low x xs (IsAbove x low) refl (cuts-rise x xs) (cuts-rise low xs)

pub cut-above : (low : List ℕ) (cuts : List (List ℕ)) (c : List ℕ) → RisesFrom low cuts → Contains cuts c → IsBelow low c
cut-above low [] c rising there = absurd (omega (arith, there.1))
cut-above low (cut ∷ cuts) c rising there = elim (contains-cases cut c cuts there) [
  | inl here ↦ let Above : List ℕ → Type 0 = λ x. IsBelow low x in subst Above here rising.0
  | inr later ↦ below-trans low cut c rising.0 (cut-above cut cuts c rising.1 later)
]

chosen-there : (low x : List ℕ) (xs : List (List ℕ)) (c : List ℕ) (b : Bool) → (Contains (cuts_after x xs) c → Contains xs c)
    → (Contains (cuts_after low xs) c → Contains xs c) → Contains (chosen b low x xs) c → Contains (x ∷ xs) c
chosen-there low x xs c true further same inside = elim (contains-cases x c (cuts_after x xs) inside) [
  | inl here ↦ (0, omega arith, here)
  | inr later ↦ contains-later x c xs (further later)
]
chosen-there low x xs c false further same inside = contains-later x c xs (same inside)

pub cut-there : (low : List ℕ) (xs : List (List ℕ)) (c : List ℕ) → Contains (cuts_after low xs) c → Contains xs c
cut-there low [] c there = there
cut-there low (x ∷ xs) c there = chosen-there low x xs c (IsAbove x low) (cut-there x xs c) (cut-there low xs c) there

-- each text above `low` is told
told-after : (x v : List ℕ) (xs : List (List ℕ)) → is_gt (text_cmp x v) ≡ false → (IsBelow x v → IsTold (cuts_after x xs) v) → IsTold (x ∷ cuts_after x xs) v
told-after x v xs ordered later = elim (cases-order (version_cmp x v)) [
  | inl less ↦ told-later x v (cuts_after x xs) (later less)
  | inr rest ↦ elim rest [
    | inl equal ↦ (0, x, omega arith, refl, equal-back x v equal)
    | inr greater ↦ absurd (first-not_gt (version_cmp x v) (slice_cmp nat_cmp x v) ordered greater)
  ]
]

chosen-told : (low x v : List ℕ) (xs : List (List ℕ)) (b : Bool) → IsAbove x low ≡ b → ((w : List ℕ) → Contains xs w → is_gt (text_cmp x w) ≡ false)
    → IsBelow low v → Contains (x ∷ xs) v →
    (Contains xs v → IsBelow x v → IsTold (cuts_after x xs) v) → (Contains xs v → IsTold (cuts_after low xs) v) → IsTold (chosen b low x xs) v
chosen-told low x v xs true is ordered above there further same = elim (contains-cases x v xs there) [
  | inl here ↦ (0, x, omega arith, refl, ap (λ y. version_cmp y x) (sym here) ∙ equal-itself x)
  | inr later ↦ told-after x v xs (ordered v later) (further later)
]
chosen-told low x v xs false is ordered above there further same = elim (contains-cases x v xs there) [
  | inl here ↦
      let Below : List ℕ → Type 0 = λ y. IsBelow low y in
      let own : IsBelow x x = not_above-is x low x is (subst Below (sym here) above) in absurd (less-not_equal x x own (equal-itself x))
  | inr later ↦ same later
]

pub all-told : (low : List ℕ) (xs : List (List ℕ)) → IsOrdered xs → (v : List ℕ) → Contains xs v → IsBelow low v → IsTold (cuts_after low xs) v
all-told low [] ordered v there above = absurd (omega (arith, there.1))
all-told low (x ∷ xs) ordered v there above =
    chosen-told low x v xs (IsAbove x low) refl ordered.0 above there (λ later below. all-told x xs ordered.1 v later below)
    (λ later. all-told low xs ordered.1 v later above)

-- the text of a cut is the least
least-first : (x v : List ℕ) (xs : List (List ℕ)) → ((w : List ℕ) → Contains xs w → is_gt (text_cmp x w) ≡ false) → Contains (x ∷ xs) v
    → version_cmp v x ≡ Equal → slice_cmp nat_cmp v x ≢ Less
least-first x v xs ordered there equal less = elim (contains-cases x v xs there) [
  | inl here ↦ let no : Less ≡ Equal = sym less ∙ ap (λ y. slice_cmp nat_cmp y x) (sym here) ∙ tied_itself nat_list_cmp_total x in cc
  | inr later ↦ earlier-text x v (ordered v later) (equal-back v x equal) less
]

-- the first text is below a later cut, so it isn't equal to it
least-apart : (x c v : List ℕ) (xs : List (List ℕ)) → Contains (x ∷ xs) v → version_cmp v c ≡ Equal → IsBelow x c → Contains xs v
least-apart x c v xs there equal below = elim (contains-cases x v xs there) [
  | inl here ↦ absurd (less-not_equal x c below (ap (λ y. version_cmp y c) here ∙ equal))
  | inr later ↦ later
]

chosen-least : (low x c v : List ℕ) (xs : List (List ℕ)) (b : Bool) → IsAbove x low ≡ b → ((w : List ℕ) → Contains xs w → is_gt (text_cmp x w) ≡ false)
    → Contains (x ∷ xs) v → version_cmp v c ≡ Equal →
    (Contains (cuts_after x xs) c → Contains xs v → slice_cmp nat_cmp v c ≢ Less)
    → (Contains (cuts_after low xs) c → Contains xs v → slice_cmp nat_cmp v c ≢ Less) → Contains (chosen b low x xs) c → slice_cmp nat_cmp v c ≢ Less
chosen-least low x c v xs true is ordered there equal further same cut = elim (contains-cases x c (cuts_after x xs) cut) [
  | inl here ↦
      let Of : List ℕ → Type 0 = λ y. slice_cmp nat_cmp v y ≢ Less in
      subst Of here (least-first x v xs ordered there (ap (version_cmp v) here ∙ equal))
  | inr later ↦ further later (least-apart x c v xs there equal (cut-above x (cuts_after x xs) c (cuts-rise x xs) later))
]
chosen-least low x c v xs false is ordered there equal further same cut =
    same cut (least-apart x c v xs there equal (not_above-is x low c is (cut-above low (cuts_after low xs) c (cuts-rise low xs) cut)))

pub cut-least : (low : List ℕ) (xs : List (List ℕ)) → IsOrdered xs → (c v : List ℕ) → Contains (cuts_after low xs) c → Contains xs v → version_cmp v c ≡ Equal
    → slice_cmp nat_cmp v c ≢ Less
cut-least low [] ordered c v inside there equal = absurd (omega (arith, there.1))
cut-least low (x ∷ xs) ordered c v inside there equal =
    chosen-least low x c v xs (IsAbove x low) refl ordered.0 there equal (λ cut later. cut-least x xs ordered.1 c v cut later equal)
    (λ cut later. cut-least low xs ordered.1 c v cut later equal) inside

-- ---- the cuts of a set of texts

rises : (low : List ℕ) (cuts : List (List ℕ)) → RisesFrom low cuts → Rises cuts
rises low [] rising = tt
rises low (cut ∷ cuts) rising = rising.1

pub cuts-above : (Has : List ℕ → Type 0) (low : List ℕ) (xs : List (List ℕ)) → IsOrdered xs → ((v : List ℕ) → Has v ↔ (IsBelow low v × Contains xs v))
    → AreCuts Has (cuts_after low xs)
cuts-above Has low xs ordered same = record {
  rising = rises low (cuts_after low xs) (cuts-rise low xs);
  least = λ k d short.
      let c = get_or (cuts_after low xs) k d in
      let inside : Contains (cuts_after low xs) c = Contains-get_or (cuts_after low xs) k d short in (
        (same c).1 (cut-above low (cuts_after low xs) c (cuts-rise low xs) inside, cut-there low xs c inside),
        λ other has equal. cut-least low xs ordered c other inside ((same other).0 has).1 equal,
      );
  every = λ v has. let parts = (same v).0 has in all-told low xs ordered v parts.1 parts.0;
}

-- the first text and the cuts above it
first-cuts : (Has : List ℕ → Type 0) (x : List ℕ) (xs : List (List ℕ)) → IsOrdered (x ∷ xs) → ((v : List ℕ) → Has v ↔ Contains (x ∷ xs) v)
    → AreCuts Has (x ∷ cuts_after x xs)
first-cuts Has x xs ordered same = record {
  rising = cuts-rise x xs;
  least = λ k d short. least-at k d short;
  every = λ v has. elim (contains-cases x v xs ((same v).0 has)) [
    | inl here ↦ (0, x, omega arith, refl, ap (λ y. version_cmp y x) (sym here) ∙ equal-itself x)
    | inr later ↦ told-after x v xs (ordered.0 v later) (λ below. all-told x xs ordered.1 v later below)
  ];
}
  where
    later-least : (c : List ℕ) → Contains (cuts_after x xs) c → IsLeastText Has c
    later-least c inside =
        let above = cut-above x (cuts_after x xs) c (cuts-rise x xs) inside in (
          (same c).1 (contains-later x c xs (cut-there x xs c inside)),
          λ other has equal. elim (contains-cases x other xs ((same other).0 has)) [
            | inl here ↦ absurd (less-not_equal x c above (ap (λ y. version_cmp y c) here ∙ equal))
            | inr further ↦ cut-least x xs ordered.1 c other inside further equal
          ],
        )

    least-at : (k : ℕ) (d : List ℕ) → k < length (x ∷ cuts_after x xs) → IsLeastText Has (get_or (x ∷ cuts_after x xs) k d)
    least-at zero d short = ((same x).1 (0, omega arith, refl), λ other has equal. least-first x other xs ordered.0 ((same other).0 has) equal)
    least-at (suc k) d short = later-least (get_or (cuts_after x xs) k d) (Contains-get_or (cuts_after x xs) k d (omega arith))

pub cuts-all : (Has : List ℕ → Type 0) (xs : List (List ℕ)) → IsOrdered xs → ((v : List ℕ) → Has v ↔ Contains xs v) → AreCuts Has (cuts_of xs)
cuts-all Has [] ordered same = record {
  rising = tt;
  least = λ k d short. absurd (omega arith);
  every = λ v has. absurd (let there = (same v).0 has in omega (arith, there.1));
}
cuts-all Has (x ∷ xs) ordered same = first-cuts Has x xs ordered same

pub all-rise : (xs : List (List ℕ)) → Rises (cuts_of xs)
all-rise [] = tt
all-rise (x ∷ xs) = cuts-rise x xs

-- ---- one list of cuts

-- two least texts of equal versions are one
one-text : (a b : List ℕ) (o : Ordering) → slice_cmp nat_cmp a b ≡ o → slice_cmp nat_cmp a b ≢ Less → slice_cmp nat_cmp b a ≢ Less → a ≡ b
one-text a b Less is first second = absurd (first is)
one-text a b Equal is first second = (bytes_eq-Decides a b).0 (sym (is_eq-slice_cmp a b) ∙ ap is_eq is)
one-text a b Greater is first second = absurd (second (nat_list_cmp_total.antisymm b a ∙ ap ordering_reverse is))

-- the cuts are the least texts
cut-iff : (Has : List ℕ → Type 0) (cuts : List (List ℕ)) → AreCuts Has cuts → (c : List ℕ) → Contains cuts c ↔ IsLeastText Has c
cut-iff Has cuts are c = (
  (λ there. All-contains (IsLeastText Has) cuts c are.least there),
  λ least.
      let told = are.every c least.0 in
      let d : List ℕ = told.1 in
      let inside : Contains cuts d = (told.0, told.2, told.3) in
      let other = All-contains (IsLeastText Has) cuts d are.least inside in
      let In : List ℕ → Type 0 = λ v. Contains cuts v in
      let same : d ≡ c = one-text d c (slice_cmp nat_cmp d c) refl (least.1 d other.0 (equal-back c d told.4)) (other.1 c least.0 told.4) in
      subst In same inside,
)

abbrev HaveSame : List (List ℕ) → List (List ℕ) → Type 0
HaveSame xs ys = (v : List ℕ) → Contains xs v ↔ Contains ys v

same-heads : (x y : List ℕ) (xs ys : List (List ℕ)) → RisesFrom x xs → RisesFrom y ys → HaveSame (x ∷ xs) (y ∷ ys) → x ≡ y
same-heads x y xs ys first second same = elim (contains-cases y x ys ((same x).0 (0, omega arith, refl))) [
  | inl h ↦ sym h
  | inr h ↦ elim (contains-cases x y xs ((same y).1 (0, omega arith, refl))) [
    | inl g ↦ g
    | inr g ↦ absurd (not-both y x (cut-above y ys x second h) (cut-above x xs y first g))
  ]
]

tail-same : (x y : List ℕ) (xs ys : List (List ℕ)) → x ≡ y → RisesFrom x xs → ((v : List ℕ) → Contains (x ∷ xs) v → Contains (y ∷ ys) v) → (v : List ℕ)
    → Contains xs v → Contains ys v
tail-same x y xs ys heads rising into v there = elim (contains-cases y v ys (into v (contains-later x v xs there))) [
  | inl h ↦
      let Below : List ℕ → Type 0 = λ w. IsBelow x w in
      absurd (less-not_equal x x (subst Below (sym (heads ∙ h)) (cut-above x xs v rising there)) (equal-itself x))
  | inr h ↦ h
]

same-lists : (xs ys : List (List ℕ)) → Rises xs → Rises ys → HaveSame xs ys → xs ≡ ys
same-lists [] [] first second same = refl
same-lists [] (y ∷ ys) first second same = absurd (let there = (same y).1 (0, omega arith, refl) in omega (arith, there.1))
same-lists (x ∷ xs) [] first second same = absurd (let there = (same x).0 (0, omega arith, refl) in omega (arith, there.1))
same-lists (x ∷ xs) (y ∷ ys) first second same =
    let heads = same-heads x y xs ys first second same in
    let rest : HaveSame xs ys = λ v. (
      tail-same x y xs ys heads first (λ w. (same w).0) v,
      tail-same y x ys xs (sym heads) second (λ w. (same w).1) v,
    ) in
    ap (λ list. x ∷ list) (same-lists xs ys (rises x xs first) (rises y ys second) rest) ∙ ap (λ head. head ∷ ys) heads

pub one-cuts : (Has : List ℕ → Type 0) (a b : List (List ℕ)) → AreCuts Has a → AreCuts Has b → a ≡ b
one-cuts Has a b first second = same-lists a b first.rising second.rising (λ v. (
  (λ there. (cut-iff Has b second v).1 ((cut-iff Has a first v).0 there)),
  λ there. (cut-iff Has a first v).1 ((cut-iff Has b second v).0 there),
))
