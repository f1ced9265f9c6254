-- Entries of Provides in the order of their names, and those of one name between two places.
use Rattle.std.proofs.Common.{◌≡◌, ◌↔◌, ℕ, ◌+◌, ◌-◌, ◌<◌, ◌≤◌, Bool, true, false, List, [], ◌∷◌, ◌++◌, length, get_or, Option, Some, Ordering}
use Rattle.std.proofs.Common.{Less, Equal, Greater, nat_cmp, is_eq, is_le, refl, sym, ap, subst, ◌∙◌, inl, inr, arith, slice_get}
use Rattle.std.specs.Prelude.{Contains, IsPermutation, IsSomeAnd}
use Rattle.std.specs.Cmp.{IsTotalOrder}
use Rattle.std.specs.Cmp.Lexicographic.{options_total, slice_cmp}
use Rattle.std.specs.List.{between}
use Rattle.std.specs.List.Sorted.{IsPartitionPoint, IsPartitionedBy, IsSortedBy}
use Rattle.std.specs.Ordering.{is_lt, ordering_reverse, ordering_then}
use Rattle.std.proofs.lemmas.Bool.{cases_lt, false≢true}
use Rattle.std.proofs.lemmas.Cmp.{alike_right, nat_cmp_total, nat_list_cmp_total, on_total, then_total, tied_itself}
use Rattle.std.proofs.lemmas.List.Elements.{Contains-get_or}
use Rattle.std.proofs.lemmas.List.Edits.{get_or-between, length-between}
use Rattle.std.proofs.lemmas.List.Sorted.{Contains-permutation, IsPermutation-sym, ranks_by, sorted_far}
use Rattle.std.proofs.lemmas.Map.Text.{is_eq-slice_cmp}
use Rattle.std.proofs.lemmas.Slice.Eq.{bytes_eq-Decides}
use Rattle.dist_base.specs.ListLaws.{at-has, element-at, has-at, here-at, same-at, within-from}
use Rattle.dist_version.specs.OrderLaws.{version_total}
use Rattle.dist_relation.specs.declared.atom.Provide.{Provide}
use Rattle.dist_repo.specs.PackageList.{PackageList}
use Rattle.dist_repo.specs.declared.package.Package.{Package}
use Rattle.dist_space.proofs.FrameLemmas.{each-pushed}
use Rattle.dist_space.specs.EntryOrder.{AreInNameOrder, AreInUseOrder, IsEntryNamed, IsEntryOrder, entry_cmp, entry_name, name_at, rank_at, use_cmp, version_at}

-- ---- between two places

-- how a name stands to another one
abbrev pub side : List Provide → List ℕ → ℕ → Ordering
side provides name place = slice_cmp nat_cmp (name_at provides place) name

abbrev pub is_before : List Provide → List ℕ → ℕ → Bool
is_before provides name place = is_lt (side provides name place)

abbrev pub is_up_to : List Provide → List ℕ → ℕ → Bool
is_up_to provides name place = is_le (side provides name place)

before-up_to : (o : Ordering) → is_lt o ≡ true → is_le o ≡ true
before-up_to Less is = refl
before-up_to Equal is = cc
before-up_to Greater is = cc

same_names : (a b : List ℕ) → slice_cmp nat_cmp a b ≡ Equal → a ≡ b
same_names a b is = (bytes_eq-Decides a b).0 (sym (is_eq-slice_cmp a b) ∙ ap is_eq is)

equal-from : (o : Ordering) → is_lt o ≡ false → is_le o ≡ true → o ≡ Equal
equal-from Less more up = cc
equal-from Equal more up = refl
equal-from Greater more up = cc

first-not_lt : (a b : Ordering) → is_lt (ordering_then a b) ≡ false → is_lt a ≡ false
first-not_lt Less b h = h
first-not_lt Equal b h = refl
first-not_lt Greater b h = refl

less-is : (o : Ordering) → is_lt o ≡ true → o ≡ Less
less-is Less is = refl
less-is Equal is = cc
less-is Greater is = cc

-- ---- names that do not stand behind one another

abbrev names_cmp : List ℕ → List ℕ → Ordering
names_cmp a b = slice_cmp nat_cmp a b

reversed : (o : Ordering) → is_lt o ≡ false → is_le (ordering_reverse o) ≡ true
reversed Less more = cc
reversed Equal more = refl
reversed Greater more = refl

not-behind : (a b : List ℕ) → is_lt (names_cmp b a) ≡ false → is_le (names_cmp a b) ≡ true
not-behind a b up = ap is_le (nat_list_cmp_total.antisymm a b) ∙ reversed (names_cmp b a) up

lesser-before : (o : Ordering) (a b q : List ℕ) → names_cmp a b ≡ o → is_le o ≡ true → is_lt (names_cmp b q) ≡ true → is_lt (names_cmp a q) ≡ true
lesser-before Less a b q is up before = ap is_lt (nat_list_cmp_total.trans a b q is (less-is (names_cmp b q) before))
lesser-before Equal a b q is up before = ap is_lt (nat_list_cmp_total.congr a b q is) ∙ before
lesser-before Greater a b q is up before = cc

lesser-up_to : (o : Ordering) (a b q : List ℕ) → names_cmp b q ≡ o → is_le o ≡ true → is_le (names_cmp a b) ≡ true → is_le (names_cmp a q) ≡ true
lesser-up_to Less a b q is up before = before-up_to (names_cmp a q) (lesser-before (names_cmp a b) a b q refl before (ap is_lt is))
lesser-up_to Equal a b q is up before = ap is_le (sym (alike_right nat_list_cmp_total b q a is)) ∙ before
lesser-up_to Greater a b q is up before = cc

module _ (provides : List Provide) (places : List ℕ) (name : List ℕ) (order : AreInNameOrder provides places) where
  far : (i j d : ℕ) → i ≤ j → j < length places
      → is_lt (slice_cmp nat_cmp (name_at provides (get_or places j d)) (name_at provides (get_or places i d))) ≡ false
  far i j d less short = sorted_far _ (ranks_by nat_list_cmp_total (name_at provides)) places order i j d less short

  pub parted-before : IsPartitionedBy (is_before provides name) places
  parted-before i j d less short holds =
      let a = name_at provides (get_or places i d) in
      let b = name_at provides (get_or places j d) in
      lesser-before (names_cmp a b) a b name refl (not-behind a b (far i j d less short)) holds

  pub parted-up_to : IsPartitionedBy (is_up_to provides name) places
  parted-up_to i j d less short holds =
      let a = name_at provides (get_or places i d) in
      let b = name_at provides (get_or places j d) in
      lesser-up_to (names_cmp b name) a b name refl holds (not-behind a b (far i j d less short))

  module _ (start end : ℕ) (first : IsPartitionPoint (λ y. is_before provides name y ≡ true) (λ y. is_before provides name y ≡ false) places start)
      (last : IsPartitionPoint (λ y. is_up_to provides name y ≡ true) (λ y. is_up_to provides name y ≡ false) places end) (within : start ≤ length places) where
    pub points-rise : start ≤ end
    points-rise = elim (cases_lt end start) [
      | inl less ↦
          let up = before-up_to (side provides name (get_or places end 0)) (first.0 end 0 (omega arith) less) in
          absurd (false≢true (sym (last.1 end 0 (omega arith) (omega (arith, less, within))) ∙ up))
      | inr more ↦ more
    ]

    -- between the two places are those of the name, and all of them
    pub between-iff : end ≤ length places → (j : ℕ) → Contains (between start end places) j ↔ (Contains places j × (name_at provides j ≡ name))
    between-iff short j = (
      (λ there.
          let k = there.0 in
          let counted = length-between places start end short in
          let inside : start + k < end = let less = there.1 in omega (arith, less, counted, points-rise) in
          let at : get_or places (start + k) j ≡ j = sym (get_or-between places start end k j inside) ∙ there.2 in
          let past = first.1 (start + k) j (omega arith) (omega (arith, inside, short)) in
          let up = last.0 (start + k) j (omega arith) inside in
          let same = equal-from (side provides name (get_or places (start + k) j)) past up in (
            (start + k, omega (arith, inside, short), at),
            subst (λ (i : ℕ). name_at provides i ≡ name) at (same_names (name_at provides (get_or places (start + k) j)) name same),
          )),
      λ both.
          let k = both.0.0 in
          let is : get_or places k j ≡ j = both.0.2 in
          let level : side provides name (get_or places k j) ≡ Equal =
          ap (λ (i : ℕ). side provides name i) is ∙ ap (λ (n : List ℕ). names_cmp n name) both.1 ∙ tied_itself nat_list_cmp_total name in
          let from : start ≤ k = elim (cases_lt k start) [
            | inl less ↦ absurd (false≢true (sym (ap is_lt level) ∙ first.0 k j (omega arith) less))
            | inr more ↦ more
          ] in
          let to : k < end = elim (cases_lt k end) [
            | inl less ↦ less
            | inr more ↦ absurd (false≢true (sym (last.1 k j more both.0.1) ∙ ap is_le level))
          ] in
          let counted = length-between places start end short in
          let same : start + (k - start) ≡ k = omega (arith, from) in (
            k - start,
            omega (arith, from, to, counted),
            get_or-between places start end (k - start) j (omega (arith, from, to))
                ∙ ap (λ (i : ℕ). get_or places i j) same ∙ is,
          ),
    )

-- ---- what is sorted

module _ (architecture : Option (List ℕ)) (provides : List Provide) where
  pub use_total : IsTotalOrder (use_cmp architecture provides)
  use_total = then_total (on_total (rank_at architecture provides) nat_cmp_total) (on_total (version_at provides) (options_total version_total))

  pub entry_total : IsTotalOrder (entry_cmp architecture provides)
  entry_total = then_total (on_total (name_at provides) nat_list_cmp_total) use_total

  -- by name and more is by name
  by-name : (places : List ℕ) → IsSortedBy (λ i j. is_lt (entry_cmp architecture provides i j)) places → AreInNameOrder provides places
  by-name places rising k d from short =
      first-not_lt (side provides (name_at provides (get_or places k d)) (get_or places (k + 1) d))
      (use_cmp architecture provides (get_or places (k + 1) d) (get_or places k d)) (rising k d from short)

  pub order-from : (places sorted : List ℕ) → ((j : ℕ) → Contains places j ↔ (j < length provides)) → IsPermutation places sorted
      → IsSortedBy (λ i j. is_lt (entry_cmp architecture provides i j)) sorted → IsEntryOrder architecture provides sorted
  order-from places sorted all permuted rising = record {
    rising = rising;
    exact = λ j. (
      (λ there. (all j).0 (Contains-permutation sorted places j (IsPermutation-sym places sorted permuted) there)),
      λ less. Contains-permutation places sorted j permuted ((all j).1 less),
    );
  }

  pub order-by_name : (places : List ℕ) → IsEntryOrder architecture provides places → AreInNameOrder provides places
  order-by_name places order = by-name places order.rising

  -- a part of one name is in the order of use
  pub part-in_order : (places : List ℕ) (start end : ℕ) (name : List ℕ) → IsEntryOrder architecture provides places → start ≤ end → end ≤ length places
      → ((j : ℕ) → Contains (between start end places) j → name_at provides j ≡ name)
      → IsSortedBy (λ i j. is_lt (use_cmp architecture provides i j)) (between start end places)
  part-in_order places start end name order rise short named k d from less =
      let part = between start end places in
      let counted = length-between places start end short in
      let x = get_or part k d in
      let y = get_or part (k + 1) d in
      let at : x ≡ get_or places (start + k) d = get_or-between places start end k d (omega (arith, less, counted, rise)) in
      let next : y ≡ get_or places (start + k + 1) d =
      get_or-between places start end (k + 1) d (omega (arith, less, counted, rise)) ∙ ap (λ (i : ℕ). get_or places i d) (omega arith) in
      let up : is_lt (entry_cmp architecture provides (get_or places (start + k + 1) d) (get_or places (start + k) d)) ≡ false =
      order.rising (start + k) d (omega arith) (omega (arith, less, counted, rise, short)) in
      let here : is_lt (entry_cmp architecture provides y x) ≡ false =
      ap (λ (i : ℕ). is_lt (entry_cmp architecture provides i x)) next
      ∙ ap (λ (i : ℕ). is_lt (entry_cmp architecture provides (get_or places (start + k + 1) d) i)) at ∙ up in
      let one : name_at provides x ≡ name = named x (Contains-get_or part k d (omega (arith, less))) in
      let other : name_at provides y ≡ name = named y (Contains-get_or part (k + 1) d (omega (arith, less))) in
      let level : slice_cmp nat_cmp (name_at provides y) (name_at provides x) ≡ Equal =
      ap (λ (n : List ℕ). names_cmp n (name_at provides x)) (other ∙ sym one) ∙ tied_itself nat_list_cmp_total (name_at provides x) in
      ap (λ o. is_lt (ordering_then o (use_cmp architecture provides y x))) (sym level) ∙ here

-- ---- the entries of a package by name

pub named-iff : (architecture : Option (List ℕ)) (packages : List Package) (member : ℕ) (p : Package) (name : List ℕ) (order result : List ℕ)
    → slice_get packages member ≡ Some p → IsEntryOrder architecture p.provides order → ((j : ℕ)
    → Contains result j ↔ (Contains order j × (name_at p.provides j ≡ name)))
    → (j : ℕ) → Contains result j ↔ IsEntryNamed packages member name j
named-iff architecture packages member p name order result is ordered iff j =
    let Named : Provide → Type 0 = λ entry. entry.name ≡ name in
    let Has : Package → Type 0 = λ q. IsSomeAnd (slice_get q.provides j) Named in (
      (λ there.
          let both = (iff j).0 there in
          let short = (ordered.exact j).0 both.0 in
          let entry = element-at p.provides j short in
          let named : entry.element.name ≡ name = ap entry_name (sym entry.is) ∙ both.1 in
          at-has Has packages member p is (at-has Named p.provides j entry.element entry.is named)),
      λ named.
          let inner = has-at Has packages member p is named in
          let entry = here-at Named p.provides j inner in
          (iff j).1 ((ordered.exact j).1 (within-from Named p.provides j inner), ap entry_name entry.is ∙ entry.holds),
    )

pub use-order : (r : PackageList) (member : ℕ) (p : Package) (places : List ℕ) → slice_get r.packages member ≡ Some p
    → IsSortedBy (λ i j. is_lt (use_cmp r.architecture p.provides i j)) places → AreInUseOrder r member places
use-order r member p places is rising q other =
    subst (λ (x : Package). IsSortedBy (λ i j. is_lt (use_cmp r.architecture x.provides i j)) places) (same-at r.packages member p q is other) rising

-- ---- the packages so far

pub order-pushed : (architecture : Option (List ℕ)) (packages : List Package) (orders pushed : List (List ℕ)) (order : List ℕ) (n : ℕ) (p : Package)
    → pushed ≡ orders ++ order ∷ []
    → length orders ≡ n → slice_get packages n ≡ Some p → IsEntryOrder architecture p.provides order
    → ((k : ℕ) → k < n → (q : Package) → slice_get packages k ≡ Some q → IsEntryOrder architecture q.provides (get_or orders k []))
    → (k : ℕ) → k < n + 1 → (q : Package) → slice_get packages k ≡ Some q → IsEntryOrder architecture q.provides (get_or pushed k [])
order-pushed architecture packages orders pushed order n p is counted at last before =
    each-pushed (λ k xs. (q : Package) → slice_get packages k ≡ Some q → IsEntryOrder architecture q.provides xs) orders pushed order [] n is counted before
    (λ q there. subst (λ (x : Package). IsEntryOrder architecture x.provides order) (same-at packages n p q at there) last)
