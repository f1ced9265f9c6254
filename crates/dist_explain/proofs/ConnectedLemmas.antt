-- What needed relations ask for another is on, and what they are on another asks for: else their witness with one package more, or
-- without one, fails nothing.
use Rattle.std.proofs.Common.{◌≡◌, ◌≢◌, inl, inr, ℕ, ◌+◌, ◌-◌, ◌<◌, Bool, true, false, List, Option, Some, get_or, length, set, slice_get}
use Rattle.std.proofs.Common.{refl, sym, ap, subst, ◌∙◌, arith, get_or-set_other, get_or-set_same}
use Rattle.std.specs.Prelude.{All, Any, Contains, IsSomeAnd}
use Rattle.std.proofs.lemmas.Bool.{cases_eq, false≢true}
use Rattle.std.proofs.lemmas.List.Elements.{All-contains}
use Rattle.dist_base.specs.ListLaws.{any-contained, any-there, at-has, contains-at, element-at, here-at, place-of, same-at, within-from}
use Rattle.dist_clause.specs.Formula.{value_of}
use Rattle.dist_relation.specs.declared.atom.Atom.{Atom}
use Rattle.dist_repo.specs.DecidedLaws.{met-decided}
use Rattle.dist_repo.specs.Healthy.{IsMet}
use Rattle.dist_repo.specs.Match.{Matches}
use Rattle.dist_repo.specs.PackageList.{IsPackageAnd, PackageList}
use Rattle.dist_repo.specs.declared.package.Package.{Package}
use Rattle.dist_now.specs.Members.{members_of}
use Rattle.dist_now.specs.PresentClauses.{Demand, Item, Apart, Required, IsMetBy}
use Rattle.dist_now.specs.Relations.{AreMembersByValues, AreOf, AreRelations, AreValuesOf, Fails}
use Rattle.dist_explain.specs.Explanation.{AreConnected, AsksFor, Explain, FailsNumber, IsNeeded, IsOfNumber, IsOn, IsRelation}

-- more members meet what some meet
met-more : (architecture : Option (List ℕ)) (some more : List Package) (item : List Atom) → ((y : Package) → Contains some y → Contains more y)
    → IsMet architecture some item → IsMet architecture more item
met-more architecture some more item within met = (
  met.0,
  met.1,
  met.2,
  met.3,
  any-contained (Matches architecture met.1) more met.4.1
      (within met.4.1 (any-there (Matches architecture met.1) some met.4)) met.4.4,
)

pub record WhatIsTold (r : PackageList) (relations : List Demand) : Type 0 where
  pub are : AreRelations r relations
  pub members : (values : List Bool) → AreMembersByValues r values
  pub values : (members : List Package) → AreOf r members → (values : List Bool) × AreValuesOf r members values

module _ (r : PackageList) (relations : List Demand) (told : WhatIsTold r relations) where
  one-relation : (number : ℕ) (d e : Demand) → IsRelation relations number d → IsRelation relations number e → d ≡ e
  one-relation number d e (k, at, is) (j, also, here) =
      let same : j ≡ k = omega (arith, at, also) in
      same-at relations k d e is (subst (λ (i : ℕ). slice_get relations i ≡ Some e) same here)

  -- no name is required of a relation
  none-required : (number : ℕ) (name : List ℕ) → ¬ IsRelation relations number (Required name)
  none-required number name (k, at, is) =
      let there = (told.are.exact (Required name)).0 (contains-at relations k (Required name) is) in
      omega (arith, there.1)

  -- ---- members with one package more, or one less

  module _ (members : List Package) (of : AreOf r members) (n : ℕ) (q : Package) (at_n : slice_get r.packages n ≡ Some q) (b : Bool) where
    old : (values : List Bool) × AreValuesOf r members values
    old = told.values members of

    new : List Bool
    unfolding old
    new = set old.0 n b

    pub changed : List Package
    unfolding new old
    changed = members_of r.packages (set old.0 n b)

    pub changed-of : AreOf r changed
    unfolding changed new old
    changed-of = (told.members (set old.0 n b)).of

    pub other-to : (k : ℕ) (x : Package) → slice_get r.packages k ≡ Some x → k ≢ n → Contains changed x → Contains members x
    unfolding changed new old
    other-to k x is other there =
        let apart : k + 1 - 1 ≢ n = λ same. other (omega (arith, same)) in
        let value = get_or-set_other old.0 n (k + 1 - 1) b false apart in
        (old.1.same x).1 (((told.members old.0).exact k x is).1 (sym value ∙ ((told.members (set old.0 n b)).exact k x is).0 there))

    pub other-from : (k : ℕ) (x : Package) → slice_get r.packages k ≡ Some x → k ≢ n → Contains members x → Contains changed x
    unfolding changed new old
    other-from k x is other there =
        let apart : k + 1 - 1 ≢ n = λ same. other (omega (arith, same)) in
        let value = get_or-set_other old.0 n (k + 1 - 1) b false apart in
        ((told.members (set old.0 n b)).exact k x is).1 (value ∙ ((told.members old.0).exact k x is).0 ((old.1.same x).0 there))

    value-here : value_of (set old.0 n b) (n + 1) ≡ b
    unfolding old
    value-here =
        let short = within-from (λ p. p ≡ q) r.packages n (at-has (λ p. p ≡ q) r.packages n q at_n refl) in
        let one_each = old.1.one_each in
        let here : n + 1 - 1 ≡ n = omega arith in
        ap (λ (k : ℕ). get_or (set old.0 n b) k false) here ∙ get_or-set_same old.0 n b false (omega (arith, short, one_each))

    pub put-in : b ≡ true → Contains changed q
    unfolding changed new old
    put-in is = ((told.members (set old.0 n b)).exact n q at_n).1 (value-here ∙ is)

    pub left-out : b ≡ false → ¬ Contains changed q
    unfolding changed new old
    left-out is there = false≢true (sym is ∙ sym value-here ∙ ((told.members (set old.0 n b)).exact n q at_n).0 there)

  -- ---- what a witness fails

  module _ (p : Package) (numbers : List ℕ) (explain : Explain r relations p numbers) (number : ℕ) (needed : IsNeeded r relations p numbers number) where
    no-other : (o : ℕ) (e : Demand) → Contains numbers o → IsRelation relations o e → o ≢ number → ¬ Fails r needed.members e
    no-other o e there is other fails =
        All-contains (λ o. o ≢ number → ¬ FailsNumber r relations needed.members o) numbers o needed.no_other there other (e, is, fails)

    place-in : (y : Package) → Contains needed.members y → Contains r.packages y
    place-in y there = All-contains (Contains r.packages) needed.members y needed.of there

    -- with what the needed one asks for
    module _ (j s : ℕ) (own : IsRelation relations number (Item j s)) (n : ℕ) (asks : AsksFor r n (Item j s)) (q : Package)
        (at_n : slice_get r.packages n ≡ Some q) where
      more : List Package
      more = changed needed.members needed.of n q at_n true

      all-in : (y : Package) → Contains needed.members y → Contains more y
      unfolding more
      all-in y there =
          let place = place-of r.packages y (place-in y there) in
          elim (cases_eq place.place n) [
            | inl same ↦
                let is_q : q ≡ y = same-at r.packages n q y at_n (subst (λ (i : ℕ). slice_get r.packages i ≡ Some y) same place.is) in
                subst (λ (z : Package). Contains (changed needed.members needed.of n q at_n true) z) is_q
                (put-in needed.members needed.of n q at_n true refl)
            | inr other ↦ other-from needed.members needed.of n q at_n true place.place y place.is other there
          ]

      served : ¬ Fails r more (Item j s)
      unfolding more
      served fails =
          let a = here-at (λ a. IsSomeAnd (slice_get a.depends s) (λ item. Contains more a × (¬ IsMet r.architecture more item))) r.packages j fails in
          let item = here-at (λ item. Contains more a.element × (¬ IsMet r.architecture more item)) a.element.depends s a.holds in
          let b = here-at (λ b. IsSomeAnd (slice_get b.depends s) (λ it. IsPackageAnd r.packages n (IsMetBy r.architecture it))) r.packages j asks in
          let it = here-at (λ it. IsPackageAnd r.packages n (IsMetBy r.architecture it)) b.element.depends s b.holds in
          let same_package : b.element ≡ a.element = same-at r.packages j b.element a.element b.is a.is in
          let same_item : it.element ≡ item.element =
          same-at a.element.depends s it.element item.element (subst (λ (z : Package). slice_get z.depends s ≡ Some it.element) same_package it.is) item.is in
          let c = here-at (IsMetBy r.architecture it.element) r.packages n it.holds in
          let is_q : c.element ≡ q = same-at r.packages n c.element q c.is at_n in
          let matched = subst (λ (z : Package). IsMetBy r.architecture it.element z) is_q c.holds in
          let met : IsMet r.architecture more it.element = (
            matched.0,
            matched.1,
            matched.2,
            matched.3,
            any-contained (Matches r.architecture matched.1) more q
                (put-in needed.members needed.of n q at_n true refl) matched.4,
          ) in
          item.holds.1 (subst (λ (i : List Atom). IsMet r.architecture more i) same_item met)

      found : (o : ℕ) → Contains numbers o → FailsNumber r relations more o → IsOfNumber relations (IsOn n) o
      unfolding more
      found o there (Item k t, is, fails) = elim (cases_eq k n) [
        | inl same ↦ (Item k t, is, same)
        | inr other ↦
            let a = here-at (λ a. IsSomeAnd (slice_get a.depends t) (λ item. Contains more a × (¬ IsMet r.architecture more item))) r.packages k fails in
            let item = here-at (λ item. Contains more a.element × (¬ IsMet r.architecture more item)) a.element.depends t a.holds in
            let before : Fails r needed.members (Item k t) =
            at-has (λ a. IsSomeAnd (slice_get a.depends t) (λ item. Contains needed.members a × (¬ IsMet r.architecture needed.members item))) r.packages k
            a.element a.is
            (at-has (λ item. Contains needed.members a.element × (¬ IsMet r.architecture needed.members item)) a.element.depends t item.element item.is (
              other-to needed.members needed.of n q at_n true k a.element a.is other item.holds.0,
              λ met. item.holds.1 (met-more r.architecture needed.members more item.element all-in met),
            )) in
            elim (cases_eq o number) [
              | inl same ↦
                  let mine : Item k t ≡ Item j s =
                  one-relation number (Item k t) (Item j s) (subst (λ (i : ℕ). IsRelation relations i (Item k t)) same is) own in
                  absurd (served (subst (λ (d : Demand). Fails r more d) mine fails))
              | inr apart ↦ absurd (no-other o (Item k t) there is apart before)
            ]
      ]
      found o there (Apart i k, is, fails) = elim (cases_eq i n) [
        | inl same ↦ (Apart i k, is, inl same)
        | inr first ↦ elim (cases_eq k n) [
          | inl same ↦ (Apart i k, is, inr same)
          | inr second ↦
              let a = here-at (λ a. IsPackageAnd r.packages k (λ b. Contains more a × Contains more b)) r.packages i fails in
              let b = here-at (λ b. Contains more a.element × Contains more b) r.packages k a.holds in
              let before : Fails r needed.members (Apart i k) =
              at-has (λ a. IsPackageAnd r.packages k (λ b. Contains needed.members a × Contains needed.members b)) r.packages i a.element a.is
              (at-has (λ b. Contains needed.members a.element × Contains needed.members b) r.packages k b.element b.is (
                other-to needed.members needed.of n q at_n true i a.element a.is first b.holds.0,
                other-to needed.members needed.of n q at_n true k b.element b.is second b.holds.1,
              )) in
              elim (cases_eq o number) [
                | inl same ↦
                    let mine : Apart i k ≡ Item j s =
                    one-relation number (Apart i k) (Item j s) (subst (λ (i' : ℕ). IsRelation relations i' (Apart i k)) same is) own in
                    absurd cc
                | inr apart ↦ absurd (no-other o (Apart i k) there is apart before)
              ]
        ]
      ]
      found o there (Required name, is, fails) = absurd (none-required o name is)

      pub on-it : Any (IsOfNumber relations (IsOn n)) numbers
      unfolding more
      on-it =
          let any = explain more (changed-of needed.members needed.of n q at_n true) (all-in p needed.has) in
          any-contained (IsOfNumber relations (IsOn n)) numbers any.1 (any-there (FailsNumber r relations more) numbers any)
          (found any.1 (any-there (FailsNumber r relations more) numbers any) any.4)

    -- without what the needed one is on
    module _ (d : Demand) (own : IsRelation relations number d) (n : ℕ) (on : IsOn n d) (q : Package) (at_n : slice_get r.packages n ≡ Some q)
        (not_p : q ≢ p) where
      less : List Package
      less = changed needed.members needed.of n q at_n false

      -- who is still there has another number
      other-number : (k : ℕ) (x : Package) → slice_get r.packages k ≡ Some x → Contains less x → k ≢ n
      unfolding less
      other-number k x is there same =
          let is_q : x ≡ q = same-at r.packages n x q (subst (λ (i : ℕ). slice_get r.packages i ≡ Some x) same is) at_n in
          left-out needed.members needed.of n q at_n false refl (subst (λ (z : Package). Contains less z) is_q there)

      still : (k : ℕ) (x : Package) → slice_get r.packages k ≡ Some x → Contains less x → Contains needed.members x
      unfolding less
      still k x is there = other-to needed.members needed.of n q at_n false k x is (other-number k x is there) there

      off : (o : ℕ) (e : Demand) → IsRelation relations o e → o ≡ number → ¬ IsOn n e → ⊥
      off o e is same none =
          let mine : d ≡ e = one-relation number d e own (subst (λ (i : ℕ). IsRelation relations i e) same is) in
          none (subst (λ (z : Demand). IsOn n z) mine on)

      -- the package is still there
      p-there : Contains less p
      unfolding less
      p-there =
          let place = place-of r.packages p (place-in p needed.has) in
          other-from needed.members needed.of n q at_n false place.place p place.is
          (λ same. not_p (same-at r.packages n q p at_n (subst (λ (i : ℕ). slice_get r.packages i ≡ Some p) same place.is))) needed.has

      -- what meets an item no more had the package alone
      asked : (k t : ℕ) (a : Package) (item : List Atom) → slice_get r.packages k ≡ Some a → slice_get a.depends t ≡ Some item
          → IsMet r.architecture needed.members item → ¬ IsMet r.architecture less item → AsksFor r n (Item k t)
      unfolding less
      asked k t a item at_k at_t met none =
          let atom = met.1 in
          let y = met.4.1 in
          let y_in = any-there (Matches r.architecture atom) needed.members met.4 in
          let place = place-of r.packages y (place-in y y_in) in
          elim (cases_eq place.place n) [
            | inl same ↦
                at-has (λ b. IsSomeAnd (slice_get b.depends t) (λ it. IsPackageAnd r.packages n (IsMetBy r.architecture it))) r.packages k a at_k
                (at-has (λ it. IsPackageAnd r.packages n (IsMetBy r.architecture it)) a.depends t item at_t
                (at-has (IsMetBy r.architecture item) r.packages n y (subst (λ (i : ℕ). slice_get r.packages i ≡ Some y) same place.is)
                (met.0, atom, met.2, met.3, met.4.4)))
            | inr other ↦
                let y_still = other-from needed.members needed.of n q at_n false place.place y place.is other y_in in
                absurd (none (met.0, atom, met.2, met.3, any-contained (Matches r.architecture atom) less y y_still met.4.4))
          ]

      found-less : (o : ℕ) → Contains numbers o → FailsNumber r relations less o → IsOfNumber relations (AsksFor r n) o
      found-less o there (Item k t, is, fails) =
          let a = here-at (λ a. IsSomeAnd (slice_get a.depends t) (λ item. Contains less a × (¬ IsMet r.architecture less item))) r.packages k fails in
          let item = here-at (λ item. Contains less a.element × (¬ IsMet r.architecture less item)) a.element.depends t a.holds in
          elim (met-decided r.architecture needed.members item.element) [
            | inl met ↦ (Item k t, is, asked k t a.element item.element a.is item.is met item.holds.1)
            | inr none ↦
                let before : Fails r needed.members (Item k t) =
                at-has (λ a. IsSomeAnd (slice_get a.depends t) (λ item. Contains needed.members a × (¬ IsMet r.architecture needed.members item))) r.packages k
                a.element a.is
                (at-has (λ item. Contains needed.members a.element × (¬ IsMet r.architecture needed.members item)) a.element.depends t item.element item.is
                (still k a.element a.is item.holds.0, none)) in
                elim (cases_eq o number) [
                  | inl same ↦ absurd (off o (Item k t) is same (other-number k a.element a.is item.holds.0))
                  | inr apart ↦ absurd (no-other o (Item k t) there is apart before)
                ]
          ]
      found-less o there (Apart i k, is, fails) =
          let a = here-at (λ a. IsPackageAnd r.packages k (λ b. Contains less a × Contains less b)) r.packages i fails in
          let b = here-at (λ b. Contains less a.element × Contains less b) r.packages k a.holds in
          let before : Fails r needed.members (Apart i k) =
          at-has (λ a. IsPackageAnd r.packages k (λ b. Contains needed.members a × Contains needed.members b)) r.packages i a.element a.is
          (at-has (λ b. Contains needed.members a.element × Contains needed.members b) r.packages k b.element b.is
          (still i a.element a.is b.holds.0, still k b.element b.is b.holds.1)) in
          elim (cases_eq o number) [
            | inl same ↦ absurd (off o (Apart i k) is same (λ on. elim on [
              | inl first ↦ other-number i a.element a.is b.holds.0 first
              | inr second ↦ other-number k b.element b.is b.holds.1 second
            ]))
            | inr apart ↦ absurd (no-other o (Apart i k) there is apart before)
          ]
      found-less o there (Required name, is, fails) = absurd (none-required o name is)

      pub asks-for-it : Any (IsOfNumber relations (AsksFor r n)) numbers
      unfolding less
      asks-for-it =
          let any = explain less (changed-of needed.members needed.of n q at_n false) p-there in
          any-contained (IsOfNumber relations (AsksFor r n)) numbers any.1 (any-there (FailsNumber r relations less) numbers any)
          (found-less any.1 (any-there (FailsNumber r relations less) numbers any) any.4)

  -- ---- all needed ones

  -- the package that an item asks for
  asked-one : (n : ℕ) (d : Demand) → AsksFor r n d → n < length r.packages
  asked-one n (Item j s) asks =
      let b = here-at (λ b. IsSomeAnd (slice_get b.depends s) (λ it. IsPackageAnd r.packages n (IsMetBy r.architecture it))) r.packages j asks in
      let it = here-at (λ it. IsPackageAnd r.packages n (IsMetBy r.architecture it)) b.element.depends s b.holds in
      within-from (IsMetBy r.architecture it.element) r.packages n it.holds
  asked-one n (Apart i k) asks = absurd asks
  asked-one n (Required name) asks = absurd asks

  on-one : (p : Package) (numbers : List ℕ) → Explain r relations p numbers → (number n : ℕ) → IsNeeded r relations p numbers number
      → IsOfNumber relations (AsksFor r n) number → Any (IsOfNumber relations (IsOn n)) numbers
  on-one p numbers explain number n needed (Item j s, is, asks) =
      let at = element-at r.packages n (asked-one n (Item j s) asks) in
      on-it p numbers explain number needed j s is n asks at.element at.is
  on-one p numbers explain number n needed (Apart i k, is, asks) = absurd asks
  on-one p numbers explain number n needed (Required name, is, asks) = absurd asks

  pub connected : (p : Package) (needed numbers : List ℕ) → Explain r relations p numbers → All (IsNeeded r relations p numbers) needed
      → AreConnected r relations p needed numbers
  connected p needed numbers explain each = record {
    on_each = λ n any. on-one p numbers explain any.1 n
        (All-contains (IsNeeded r relations p numbers) needed any.1 each (any-there (IsOfNumber relations (AsksFor r n)) needed any)) any.4;
    asks_for_each = λ n q at_n not_p any. asks-for-it p numbers explain any.1
        (All-contains (IsNeeded r relations p numbers) needed any.1 each (any-there (IsOfNumber relations (IsOn n)) needed any))
        any.4.0 any.4.1 n any.4.2 q at_n not_p;
  }
