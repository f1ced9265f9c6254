-- Bounds in order: where those on a name begin that are above a version, and which versions are found there.
use Rattle.std.proofs.Common.{◌≡◌, ◌≢◌, ◌⊎◌, ◌↔◌, ℕ, ◌<◌, ◌≤◌, Bool, true, false, List, [], ◌∷◌, ◌++◌, length, get_or, Some, Ordering, Less, Equal}
use Rattle.std.proofs.Common.{Greater, is_le, nat_cmp, refl, sym, ap, subst, ◌∙◌, inl, inr, arith, slice_get}
use Rattle.std.specs.Prelude.{Any, Contains, IsPermutation}
use Rattle.std.specs.Cmp.{IsTotalOrder}
use Rattle.std.specs.Cmp.Lexicographic.{slice_cmp}
use Rattle.std.specs.List.Sorted.{IsPartitionPoint, IsPartitionedBy, IsSorted}
use Rattle.std.specs.Ordering.{is_gt, is_lt, ordering_reverse, ordering_then}
use Rattle.std.proofs.lemmas.Bool.{cases_lt, false≢true}
use Rattle.std.proofs.lemmas.Cmp.{nat_list_cmp_total, on_total, then_total, tied_itself, upto}
use Rattle.std.proofs.lemmas.List.Elements.{Contains-append_left, Contains-push, Contains-push_cases}
use Rattle.std.proofs.lemmas.List.Sorted.{Contains-permutation, IsPermutation-sym, ranks_by, sorted_far}
use Rattle.std.proofs.lemmas.Option.{get_or_from_slice_get, slice_get-get_or, slice_get_within}
use Rattle.dist_base.specs.ListLaws.{any-contained, any-there, contains-at}
use Rattle.dist_version.specs.Order.{version_cmp, IsBelow}
use Rattle.dist_version.specs.OrderLaws.{version_total}
use Rattle.dist_classes.specs.SortedPrivate.{text_cmp, text_total}
use Rattle.dist_classes.specs.Table.{AddsLeast, Entries, Entry, HasLess, IsStart, StandsFrom, bound_cmp, key_cmp}
use Rattle.dist_classes.specs.VersionOrderLaws.{above-below, below-above, equal-itself, less-not_equal}
use Rattle.dist_classes.proofs.FoundCuts.{least-iff}
use Rattle.dist_classes.proofs.FreshLemmas.{same_names}

-- ---- how two bounds stand

pub bound_total : IsTotalOrder bound_cmp
bound_total = then_total (on_total (λ (b : Entry). b.0) nat_list_cmp_total) (on_total (λ (b : Entry). b.1) text_total)

key_total : IsTotalOrder key_cmp
key_total = then_total (on_total (λ (b : Entry). b.0) nat_list_cmp_total) (on_total (λ (b : Entry). b.1) version_total)

-- what isn't above by more isn't above by less
first-not_gt : (a b : Ordering) → is_gt (ordering_then a b) ≡ false → is_gt a ≡ false
first-not_gt Less b h = refl
first-not_gt Equal b h = refl
first-not_gt Greater b h = h

shorter-not_gt : (a b c : Ordering) → is_gt (ordering_then a (ordering_then b c)) ≡ false → is_gt (ordering_then a b) ≡ false
shorter-not_gt Less b c h = refl
shorter-not_gt Equal b c h = first-not_gt b c h
shorter-not_gt Greater b c h = h

first-not_lt : (a b : Ordering) → is_lt (ordering_then a b) ≡ false → is_lt a ≡ false
first-not_lt Less b h = h
first-not_lt Equal b h = refl
first-not_lt Greater b h = refl

turned : (o : Ordering) → is_lt o ≡ false → is_gt (ordering_reverse o) ≡ false
turned Less h = cc
turned Equal h = refl
turned Greater h = refl

le-not_gt : (o : Ordering) → is_le o ≡ true → is_gt o ≡ false
le-not_gt Less h = refl
le-not_gt Equal h = refl
le-not_gt Greater h = cc

not_gt-le : (o : Ordering) → is_gt o ≡ false → is_le o ≡ true
not_gt-le Less h = refl
not_gt-le Equal h = refl
not_gt-le Greater h = cc

not_le-greater : (o : Ordering) → is_le o ≡ false → o ≡ Greater
not_le-greater Less h = cc
not_le-greater Equal h = cc
not_le-greater Greater h = refl

not_le-first : (a b : Ordering) → is_le (ordering_then a b) ≡ false → is_lt a ≡ false
not_le-first Less b h = cc
not_le-first Equal b h = refl
not_le-first Greater b h = refl

less-is : (o : Ordering) → is_lt o ≡ true → o ≡ Less
less-is Less h = refl
less-is Equal h = cc
less-is Greater h = cc

not_less-is : (o : Ordering) → is_lt o ≡ false → o ≢ Less
not_less-is Less h = λ e. cc
not_less-is Equal h = λ e. cc
not_less-is Greater h = λ e. cc

neither-equal : (o : Ordering) → is_lt o ≡ false → is_lt (ordering_reverse o) ≡ false → o ≡ Equal
neither-equal Less h g = cc
neither-equal Equal h g = refl
neither-equal Greater h g = cc

lesser-name : (o : Ordering) (a b q : List ℕ) → slice_cmp nat_cmp a b ≡ o → is_gt o ≡ false → is_lt (slice_cmp nat_cmp b q) ≡ true
    → is_lt (slice_cmp nat_cmp a q) ≡ true
lesser-name Less a b q is up less = ap is_lt (nat_list_cmp_total.trans a b q is (less-is (slice_cmp nat_cmp b q) less))
lesser-name Equal a b q is up less = ap is_lt (nat_list_cmp_total.congr a b q is) ∙ less
lesser-name Greater a b q is up less = cc

-- of one name, by version
same-name : (q v w : List ℕ) → key_cmp (q, v) (q, w) ≡ version_cmp v w
same-name q v w = ap (λ o. ordering_then o (version_cmp v w)) (tied_itself nat_list_cmp_total q)

same-name_text : (q v w : List ℕ) → bound_cmp (q, v) (q, w) ≡ text_cmp v w
same-name_text q v w = ap (λ o. ordering_then o (text_cmp v w)) (tied_itself nat_list_cmp_total q)

-- ---- where the bounds on a name begin

abbrev pub is_before : List ℕ → Entry → Bool
is_before name entry = is_lt (slice_cmp nat_cmp entry.0 name)

abbrev pub is_up_to : List ℕ → List ℕ → Entry → Bool
is_up_to name low entry = is_le (key_cmp entry (name, low))

-- ---- what is found from a place on

-- what was found, where the next one stands at a place
pub record AreFound (table : Entries) (name : List ℕ) (start place : ℕ) (old new : List (List ℕ)) : Type 0 where
  pub from : start ≤ place
  pub behind : (entry : Entry) → slice_get table place ≡ Some entry → is_lt (slice_cmp nat_cmp entry.0 name) ≡ false
  pub there : (v : List ℕ) → Contains new v → Contains old v ⊎ StandsFrom table start name v
  pub kept : (v : List ℕ) → Contains old v → Contains new v
  pub least : (v : List ℕ) → StandsFrom table start name v → Any (HasLess v) new ⊎ StandsFrom table place name v

-- from its own start on
pub start-own : (table : Entries) (name : List ℕ) (place : ℕ) (Has : List ℕ → Type 0) → IsStart table name place Has
    → IsStart table name place (StandsFrom table place name)
start-own table name place Has at = record { versions = λ v. ((λ h. h), λ h. h); behind = at.behind }

pub start-found : (table : Entries) (name : List ℕ) (place : ℕ) (Has : List ℕ → Type 0) (old new : List (List ℕ)) → IsStart table name place Has
    → AddsLeast old new (StandsFrom table place name) → AddsLeast old new Has
start-found table name place Has old new at adds = least-iff old new (StandsFrom table place name) Has at.versions adds

-- the bound at a place
pub entry-there : (table : Entries) (place : ℕ) (b : Entry) → place < length table → ((d : Entry) → b ≡ get_or table place d) → slice_get table place ≡ Some b
entry-there table place b short is = slice_get-get_or table place b short ∙ ap (λ (x : Entry). Some x) (sym (is b))

module _ (table : Entries) (sorted : IsSorted bound_cmp table) where
  up-to : (i j : ℕ) (d : Entry) → i ≤ j → j < length table → is_gt (bound_cmp (get_or table i d) (get_or table j d)) ≡ false
  up-to i j d less short =
      let a = get_or table i d in
      let b = get_or table j d in
      ap is_gt (bound_total.antisymm a b) ∙ turned (bound_cmp b a)
      (sorted_far (λ x y. is_lt (bound_cmp x y)) (ranks_by bound_total (λ (x : Entry). x)) table sorted i j d less short)

  -- of two bounds the later one isn't less
  not-less : (i j : ℕ) (a b : Entry) → i ≤ j → slice_get table i ≡ Some a → slice_get table j ≡ Some b → is_lt (bound_cmp b a) ≡ false
  not-less i j a b less first second =
      ap (λ x. is_lt (bound_cmp b x)) (sym (get_or_from_slice_get table i a a first))
      ∙ ap (λ x. is_lt (bound_cmp x (get_or table i a))) (sym (get_or_from_slice_get table j b a second))
      ∙ sorted_far (λ x y. is_lt (bound_cmp x y)) (ranks_by bound_total (λ (x : Entry). x)) table sorted i j a less (slice_get_within table j b second)

  pub parted-name : (name : List ℕ) → IsPartitionedBy (is_before name) table
  parted-name name i j d less short holds =
      let a = get_or table i d in
      let b = get_or table j d in
      lesser-name (slice_cmp nat_cmp a.0 b.0) a.0 b.0 name refl
      (first-not_gt (slice_cmp nat_cmp a.0 b.0) (text_cmp a.1 b.1) (up-to i j d less short)) holds

  pub parted-above : (name low : List ℕ) → IsPartitionedBy (is_up_to name low) table
  parted-above name low i j d less short holds =
      let a = get_or table i d in
      let b = get_or table j d in
      let shorter = shorter-not_gt (slice_cmp nat_cmp a.0 b.0) (version_cmp a.1 b.1) (slice_cmp nat_cmp a.1 b.1) (up-to i j d less short) in
      not_gt-le (key_cmp a (name, low)) (upto key_total a b (name, low) shorter (le-not_gt (key_cmp b (name, low)) holds))

  pub start-name : (name : List ℕ) (place : ℕ) → IsPartitionPoint (λ b. is_before name b ≡ true) (λ b. is_before name b ≡ false) table place →
      IsStart table name place (λ v. Contains table (name, v))
  start-name name place point = record {
    versions = λ v. (
      (λ from. contains-at table from.0 (name, v) from.2),
      λ there.
          let k = there.0 in
          let e : Entry = (name, v) in
          let is : get_or table k e ≡ e = there.2 in
          let level : is_before name (get_or table k e) ≡ false = ap (is_before name) is ∙ ap is_lt (tied_itself nat_list_cmp_total name) in
          let from : place ≤ k = elim (cases_lt k place) [
            | inl less ↦ absurd (false≢true (sym level ∙ point.0 k e (omega arith) less))
            | inr more ↦ more
          ] in
          (k, from, slice_get-get_or table k e there.1 ∙ ap (λ (b : Entry). Some b) is),
    );
    behind = λ entry at.
        let short = slice_get_within table place entry at in
        ap (is_before name) (sym (get_or_from_slice_get table place entry entry at)) ∙ point.1 place entry (omega arith) short;
  }

  pub start-above : (name low : List ℕ) (place : ℕ) → IsPartitionPoint (λ b. is_up_to name low b ≡ true) (λ b. is_up_to name low b ≡ false) table place →
      IsStart table name place (λ v. IsBelow low v × Contains table (name, v))
  start-above name low place point = record {
    versions = λ v.
        let e : Entry = (name, v) in (
          (λ from.
              let short = slice_get_within table from.0 e from.2 in
              let past : is_up_to name low e ≡ false =
              ap (is_up_to name low) (sym (get_or_from_slice_get table from.0 e e from.2)) ∙ point.1 from.0 e from.1 short in
              let greater : version_cmp v low ≡ Greater = sym (same-name name v low) ∙ not_le-greater (key_cmp e (name, low)) past in
              (above-below low v greater, contains-at table from.0 e from.2)),
          λ both.
              let k = both.1.0 in
              let is : get_or table k e ≡ e = both.1.2 in
              let greater : key_cmp e (name, low) ≡ Greater = same-name name v low ∙ below-above low v both.0 in
              let past : is_up_to name low (get_or table k e) ≡ false = ap (is_up_to name low) is ∙ ap is_le greater in
              let from : place ≤ k = elim (cases_lt k place) [
                | inl less ↦ absurd (false≢true (sym past ∙ point.0 k e (omega arith) less))
                | inr more ↦ more
              ] in
              (k, from, slice_get-get_or table k e both.1.1 ∙ ap (λ (b : Entry). Some b) is),
        );
    behind = λ entry at.
        let short = slice_get_within table place entry at in
        not_le-first (slice_cmp nat_cmp entry.0 name) (version_cmp entry.1 low)
        (ap (is_up_to name low) (sym (get_or_from_slice_get table place entry entry at)) ∙ point.1 place entry (omega arith) short);
  }

  -- ---- what is found from there on

  pub found-none : (name : List ℕ) (start : ℕ) (old : List (List ℕ)) (Has : List ℕ → Type 0) → IsStart table name start Has
      → AreFound table name start start old old
  found-none name start old Has at = record {
    from = omega arith;
    behind = at.behind;
    there = λ v inside. inl inside;
    kept = λ v inside. inside;
    least = λ v from. inr from;
  }

  -- the version at the place is below the versions from the next one on
  pub next-past : (name w : List ℕ) (place next : ℕ) → slice_get table place ≡ Some (name, w) →
      IsStart table name next (λ v. IsBelow w v × Contains table (name, v)) → place < next
  next-past name w place next here start = elim (cases_lt place next) [
    | inl less ↦ less
    | inr more ↦ absurd (less-not_equal w w ((start.versions w).0 (place, more, here)).0 (equal-itself w))
  ]

  -- and no version before them is of less
  passed : (name w v : List ℕ) (place next : ℕ) → slice_get table place ≡ Some (name, w) →
      IsStart table name next (λ x. IsBelow w x × Contains table (name, x)) → StandsFrom table place name v →
      HasLess v w ⊎ StandsFrom table next name v
  passed name w v place next here start from =
      let up : is_lt (text_cmp v w) ≡ false = ap is_lt (sym (same-name_text name v w)) ∙ not-less place from.0 (name, w) (name, v) from.1 here from.2 in
      by (version_cmp v w) refl up
    where
      by : (o : Ordering) → version_cmp v w ≡ o → is_lt (ordering_then o (slice_cmp nat_cmp v w)) ≡ false → HasLess v w ⊎ StandsFrom table next name v
      by Less is up = cc
      by Equal is up = inl (is, not_less-is (slice_cmp nat_cmp v w) up)
      by Greater is up = inr ((start.versions v).1 (above-below w v is, contains-at table from.0 (name, v) from.2))

  pub found-more : (name w : List ℕ) (start place next : ℕ) (old new pushed : List (List ℕ)) → slice_get table place ≡ Some (name, w) →
      IsStart table name next (λ v. IsBelow w v × Contains table (name, v)) → pushed ≡ new ++ w ∷ [] → AreFound table name start place old new →
      AreFound table name start next old pushed
  found-more name w start place next old new pushed here at is found =
      let In : List ℕ → List (List ℕ) → Type 0 = λ v xs. Contains xs v in
      let later : (v : List ℕ) → Contains new v → Contains pushed v = λ v inside. subst (In v) (sym is) (Contains-append_left new (w ∷ []) v inside) in
      record {
        from = let past = next-past name w place next here at in let up = found.from in omega (arith, past, up);
        behind = at.behind;
        there = λ v inside. elim (Contains-push_cases new w v (subst (In v) is inside)) [
          | inl h ↦ found.there v h
          | inr h ↦ let From : List ℕ → Type 0 = λ x. StandsFrom table start name x in inr (subst From h (place, found.from, here))
        ];
        kept = λ v inside. later v (found.kept v inside);
        least = λ v from. elim (found.least v from) [
          | inl any ↦ inl (any-contained (HasLess v) pushed any.1 (later any.1 (any-there (HasLess v) new any)) any.4)
          | inr rest ↦ elim (passed name w v place next here at rest) [
            | inl less ↦ inl (any-contained (HasLess v) pushed w (subst (In w) (sym is) (Contains-push new w)) less)
            | inr further ↦ inr further
          ]
        ];
      }

  -- behind the last one stands no further one
  none-further : (name v : List ℕ) (place : ℕ) → ((entry : Entry) → slice_get table place ≡ Some entry → is_lt (slice_cmp nat_cmp entry.0 name) ≡ false) →
      ((w : List ℕ) → slice_get table place ≢ Some (name, w)) → StandsFrom table place name v → ⊥
  none-further name v place behind other from =
      let e : Entry = (name, v) in
      let short = slice_get_within table from.0 e from.2 in
      let b : Entry = get_or table place e in
      let here : slice_get table place ≡ Some b = slice_get-get_or table place e (omega (arith, short, from.1)) in
      let up : is_lt (slice_cmp nat_cmp name b.0) ≡ false =
      first-not_lt (slice_cmp nat_cmp name b.0) (text_cmp v b.1) (not-less place from.0 b e from.1 here from.2) in
      let back : is_lt (ordering_reverse (slice_cmp nat_cmp name b.0)) ≡ false = ap is_lt (sym (nat_list_cmp_total.antisymm b.0 name)) ∙ behind b here in
      let same : name ≡ b.0 = same_names name b.0 (neither-equal (slice_cmp nat_cmp name b.0) up back) in
      other b.1 (here ∙ ap (λ q. Some (q, b.1)) (sym same))

  pub found-all : (name : List ℕ) (start place : ℕ) (old new : List (List ℕ)) → ((w : List ℕ) → slice_get table place ≢ Some (name, w)) →
      AreFound table name start place old new → AddsLeast old new (StandsFrom table start name)
  found-all name start place old new other found = record {
    there = found.there;
    kept = found.kept;
    least = λ v from. elim (found.least v from) [
      | inl any ↦ any
      | inr rest ↦ absurd (none-further name v place found.behind other rest)
    ];
  }

-- ---- the table in order

pub table-sorted : (old new : Entries) → IsPermutation old new → (q v : List ℕ) → Contains new (q, v) ↔ Contains old (q, v)
table-sorted old new permuted q v = (
  (λ there. Contains-permutation new old (q, v) (IsPermutation-sym old new permuted) there),
  λ there. Contains-permutation old new (q, v) permuted there,
)
