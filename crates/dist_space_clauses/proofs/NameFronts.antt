-- The clauses of essential names, package by package.
use Rattle.std.proofs.Common.{◌≡◌, ◌⊎◌, ℕ, zero, suc, ◌+◌, ◌<◌, ◌≤◌, Bool, true, false, cond, List, [], ◌∷◌, ◌++◌, length, get_or, map, nat_cmp, Ordering, Less}
use Rattle.std.proofs.Common.{Equal, Greater, refl, sym, ap, subst, ◌∙◌, arith, inl, inr, Some, slice_get}
use Rattle.std.specs.Prelude.{All, Contains, filter}
use Rattle.std.specs.Cmp.Lexicographic.{slice_cmp}
use Rattle.std.specs.Ordering.{is_eq, ordering_reverse, ordering_then}
use Rattle.std.proofs.lemmas.Bool.{cases_lt, false≢true}
use Rattle.std.proofs.lemmas.Cmp.{nat_list_cmp_total}
use Rattle.std.proofs.lemmas.List.Elements.{All-contains, All-cons, All-map, All-nil, All-tail}
use Rattle.std.proofs.lemmas.Map.Text.{is_eq-slice_cmp}
use Rattle.std.proofs.lemmas.Option.{get_or_from_slice_get, slice_get_within}
use Rattle.std.proofs.lemmas.Slice.Eq.{bytes_eq-Decides}
use Rattle.dist_base.specs.ListLaws.{all-contained, at-has, has-at, here-at, within-from}
use Rattle.dist_clause.specs.ClauseList.{ClauseList}
use Rattle.dist_clause.specs.DemandLaws as made
use Rattle.dist_clause.specs.Formula.{Literal}
use Rattle.dist_version.specs.Order.{version_cmp}
use Rattle.dist_repo.specs.Healthy.{required_names}
use Rattle.dist_repo.specs.Order.{IsFlat, IsInOrder, package_cmp}
use Rattle.dist_repo.specs.PackageList.{IsPackageAnd}
use Rattle.dist_repo.specs.declared.package.Package.{Package}
use Rattle.dist_space_clauses.specs.GatheringPrivate.{IsGroupsFront, IsNamedBelow, IsNamedFront, IsNamedSoFar, IsWholeSet}
use Rattle.dist_space.specs.Space.{IsSpace, SpaceView}
use Rattle.dist_space_clauses.specs.SpaceClauses.{Demand, OneClass, Gone, Moved, Carried, OneFresh, Item, Apart, StaysNow, AbsentNow, Required, IsBefore}
use Rattle.dist_space_clauses.specs.SpaceClauses.{IsClauseFor, IsDemand, group_of, rank_of, space_demands}
use Rattle.dist_space_clauses.specs.SpaceSet.{IsSetOf}
use Rattle.dist_space.specs.KeyLaws.{cmp-less, less-cmp}
use Rattle.dist_space.specs.ClusterLaws.{names-apart}

-- ---- the elements that pass a test

abbrev EachPassed : {X : Type 0} → (X → Bool) → (X → Type 0) → List X → Type 0
EachPassed {X} test P xs = (k : ℕ) (x : X) → slice_get xs k ≡ Some x → test x ≡ true → P x

passed-more : {X : Type 0} (test : X → Bool) (P : X → Type 0) (x : X) (xs : List X) (answer : Bool) → test x ≡ answer → (test x ≡ true → P x)
    → All P (filter test xs) → All P (cond answer (x ∷ filter test xs) (filter test xs))
passed-more test P x xs true passes here later = All-cons P x (filter test xs) (here passes) later
passed-more test P x xs false fails here later = later

all-passed : {X : Type 0} (test : X → Bool) (P : X → Type 0) (xs : List X) → EachPassed test P xs → All P (filter test xs)
all-passed test P [] each = All-nil P
all-passed test P (x ∷ xs) each = passed-more test P x xs (test x) refl (each 0 x refl) (all-passed test P xs (λ k y is. each (suc k) y is))

passed-head : {X : Type 0} (test : X → Bool) (P : X → Type 0) (x : X) (xs : List X) (answer : Bool) → test x ≡ answer
    → All P (cond answer (x ∷ filter test xs) (filter test xs)) → test x ≡ true → P x
passed-head test P x xs true told all passes = all 0 x (omega arith)
passed-head test P x xs false told all passes = cc

passed-later : {X : Type 0} (test : X → Bool) (P : X → Type 0) (x : X) (xs : List X) (answer : Bool) → All P (cond answer (x ∷ filter test xs) (filter test xs))
    → All P (filter test xs)
passed-later test P x xs true all = All-tail P x (filter test xs) all
passed-later test P x xs false all = all

passed-at : {X : Type 0} (test : X → Bool) (P : X → Type 0) (xs : List X) → All P (filter test xs) → EachPassed test P xs
passed-at test P [] all k x is passes = cc
passed-at {X} test P (y ∷ ys) all zero x is passes =
    let same : y ≡ x = cc in
    let Q : X → Type 0 = λ z. test z ≡ true → P z in
    subst Q same (passed-head test P y ys (test y) refl all) passes
passed-at test P (y ∷ ys) all (suc k) x is passes = passed-at test P ys (passed-later test P y ys (test y) all) k x is passes

before-map : {X Y : Type 0} (P : Y → Type 0) (f : X → Y) (xs : List X) → All P (map f xs) → All (λ x. P (f x)) xs
before-map P f [] all = All-nil (λ x. P (f x))
before-map P f (x ∷ xs) all = All-cons (λ y. P (f y)) x xs (all 0 (f x) (omega arith)) (before-map P f xs (All-tail P (f x) (map f xs) all))

-- ---- essential packages

abbrev IsEssentialOf : List ℕ → Package → Type 0
IsEssentialOf name p = (p.essential ≡ true) × (p.name ≡ name)

-- an essential package's name is required
required-from : (packages : List Package) (n : ℕ) (p : Package) → slice_get packages n ≡ Some p → p.essential ≡ true
    → Contains (required_names true packages) p.name
required-from packages n p is essential =
    let Required_ : List ℕ → Type 0 = Contains (required_names true packages) in
    passed-at (λ q. q.essential) (λ q. Required_ q.name) packages
    (before-map Required_ (λ q. q.name) (filter (λ q. q.essential) packages) (all-contained Required_ (required_names true packages) (λ name there. there)))
    n p is essential

record SomeEssential (packages : List Package) (name : List ℕ) : Type 0 where
  number : ℕ
  has : IsPackageAnd packages number (IsEssentialOf name)

-- and a required name is that of an essential package
required-at : (packages : List Package) (name : List ℕ) → Contains (required_names true packages) name → SomeEssential packages name
required-at packages name there =
    All-contains (SomeEssential packages) (required_names true packages) name
    (All-map (SomeEssential packages) (λ q. q.name) (filter (λ q. q.essential) packages)
    (all-passed (λ q. q.essential) (λ q. SomeEssential packages q.name) packages
    (λ k p is essential. record { number = k; has = at-has (IsEssentialOf p.name) packages k p is (essential, refl) })))
    there

-- ---- the order of names

pub same_names : (a b : List ℕ) → slice_cmp nat_cmp a b ≡ Equal → a ≡ b
same_names a b is = (bytes_eq-Decides a b).0 (sym (is_eq-slice_cmp a b) ∙ ap is_eq is)

never-less : (a : List ℕ) → ¬ (slice_cmp nat_cmp a a ≡ Less)
never-less a less = let turned = nat_list_cmp_total.antisymm a a in cc

turned-greater : (a b : List ℕ) → slice_cmp nat_cmp a b ≡ Less → slice_cmp nat_cmp b a ≡ Greater
turned-greater a b less = nat_list_cmp_total.antisymm b a ∙ ap ordering_reverse less

then-less : (a b : Ordering) → ordering_then a b ≡ Less → (a ≡ Less) ⊎ (a ≡ Equal)
then-less Less b is = inl refl
then-less Equal b is = inr refl
then-less Greater b is = absurd (let no-one : Greater ≡ Less = is in cc)

-- of a flat repository in order, names rise
names-rise : (packages : List Package) (i j : ℕ) (p q : Package) → IsInOrder packages → IsFlat packages → i < j → slice_get packages i ≡ Some p
    → slice_get packages j ≡ Some q → slice_cmp nat_cmp p.name q.name ≡ Less
names-rise packages i j p q ordered flat before is_p is_q =
    let first : get_or packages i p ≡ p = get_or_from_slice_get packages i p p is_p in
    let second : get_or packages j p ≡ q = get_or_from_slice_get packages j q p is_q in
    let less : package_cmp (get_or packages i p) (get_or packages j p) ≡ Less = ordered i j p before (slice_get_within packages j q is_q) in
    let also : package_cmp p q ≡ Less = sym (ap (λ (x : Package). package_cmp x (get_or packages j p)) first ∙ ap (λ (x : Package). package_cmp p x) second)
    ∙ less in
    elim (then-less (slice_cmp nat_cmp p.name q.name) (version_cmp p.version q.version) also) [
      | inl is ↦ is
      | inr same ↦ absurd (let one = names-apart packages i j p q flat is_p is_q (same_names p.name q.name same) in omega (arith, before, one))
    ]

-- ---- fronts

pub group-cases : (d : Demand) → (group_of d < 7) ⊎ ((name : List ℕ) × (d ≡ Required name))
group-cases (Required name) = inr (name, refl)
group-cases (OneClass c k l) = inl (omega arith)
group-cases (Gone r k) = inl (omega arith)
group-cases (Moved r k) = inl (omega arith)
group-cases (Carried r k j) = inl (omega arith)
group-cases (OneFresh x k l) = inl (omega arith)
group-cases (Item n place) = inl (omega arith)
group-cases (Apart n other) = inl (omega arith)
group-cases (StaysNow c k) = inl (omega arith)
group-cases (AbsentNow x k) = inl (omega arith)

-- at mode plain no name is required
pub plain-end : (s : SpaceView) (limits set : ClauseList) → s.essential ≡ false → IsGroupsFront s 7 limits set → IsWholeSet s limits set
plain-end s limits set plain of =
    made.set-shift (space_demands s) (λ d. IsDemand s d × (group_of d < 7)) (IsDemand s) limits.clause_limit limits.literal_limit set (λ d h. h.0)
    (λ d demand. elim (group-cases d) [
      | inl less ↦ (demand, less)
      | inr named ↦
          let there : Contains (required_names false s.repository.packages) named.0 =
          subst (λ (b : Bool). Contains (required_names b s.repository.packages) named.0) plain (subst (IsDemand s) named.1 demand) in
          absurd (omega (arith, there.1))
    ]) of

abbrev pub NamedBefore : SpaceView → ℕ → Demand → Type 0
NamedBefore s number d = IsDemand s d × IsNamedSoFar s number d

module _ (s : SpaceView) (space : IsSpace s) (limits : ClauseList) where
  -- a demand of another group is there from the start
  so-far : (number : ℕ) (d : Demand) → group_of d < 7 → IsNamedSoFar s number d
  so-far number (Required name) less = absurd (omega (arith, less))
  so-far number (OneClass c k l) less = tt
  so-far number (Gone r k) less = tt
  so-far number (Moved r k) less = tt
  so-far number (Carried r k j) less = tt
  so-far number (OneFresh x k l) less = tt
  so-far number (Item n place) less = tt
  so-far number (Apart n other) less = tt
  so-far number (StaysNow c k) less = tt
  so-far number (AbsentNow x k) less = tt

  -- by cases: of another group, or a name
  by-name : (P : Demand → Type 0) (d : Demand) → (group_of d < 7 → P d) → ((name : List ℕ) → d ≡ Required name → P (Required name)) → P d
  by-name P d other named = elim (group-cases d) [
    | inl less ↦ other less
    | inr is ↦ subst P (sym is.1) (named is.0 is.1)
  ]

  pub named-start : (set : ClauseList) → IsGroupsFront s 7 limits set → IsNamedFront s 0 limits set
  named-start set of =
      made.set-shift (space_demands s) (λ d. IsDemand s d × (group_of d < 7)) (NamedBefore s 0) limits.clause_limit limits.literal_limit set
      (λ d h. (h.0, so-far 0 d h.1))
      (λ d h. (
        h.0,
        by-name (λ e. group_of e < 7) d (λ less. less)
            (λ name is. let below : IsNamedBelow s 0 name = subst (IsNamedSoFar s 0) is h.1 in absurd (omega (arith, below.1))),
      )) of

  pub named-end : (number : ℕ) (set : ClauseList) → s.essential ≡ true → length s.repository.packages ≤ number → IsNamedFront s number limits set
      → IsWholeSet s limits set
  named-end number set essential past of =
      made.set-shift (space_demands s) (NamedBefore s number) (IsDemand s) limits.clause_limit limits.literal_limit set (λ d h. h.0)
      (λ d demand. (
        demand,
        by-name (IsNamedSoFar s number) d (so-far number d) (λ name is.
            let some = required-at s.repository.packages name (subst (λ (b : Bool). Contains (required_names b s.repository.packages) name) essential
            (subst (IsDemand s) is demand)) in
            (some.number, omega (arith, past, within-from (IsEssentialOf name) s.repository.packages some.number some.has), some.has)),
      )) of

  module _ (number : ℕ) (p : Package) (is : slice_get s.repository.packages number ≡ Some p) where
    below-wider : (name : List ℕ) → IsNamedBelow s number name → IsNamedBelow s (number + 1) name
    below-wider name below = (below.0, omega (arith, below.1), below.2)

    below-cases : (name : List ℕ) → IsNamedBelow s (number + 1) name → IsNamedBelow s number name ⊎ IsEssentialOf name p
    below-cases name below =
        elim (cases_lt below.0 number) [
          | inl less ↦ inl (below.0, less, below.2)
          | inr most ↦
              let same : below.0 ≡ number = omega (arith, below.1, most) in
              inr (has-at (IsEssentialOf name) s.repository.packages below.0 p (ap (λ (i : ℕ). slice_get s.repository.packages i) same ∙ is) below.2)
        ]

    wider : (d : Demand) → NamedBefore s number d → NamedBefore s (number + 1) d
    wider d h = (h.0, by-name (IsNamedSoFar s (number + 1)) d (so-far (number + 1) d) (λ name same. below-wider name (subst (IsNamedSoFar s number) same h.1)))

    -- a package that is not essential
    pub named-skipped : (set : ClauseList) → p.essential ≡ false → IsNamedFront s number limits set → IsNamedFront s (number + 1) limits set
    named-skipped set plain of =
        made.set-shift (space_demands s) (NamedBefore s number) (NamedBefore s (number + 1)) limits.clause_limit limits.literal_limit set wider
        (λ d h. (
          h.0,
          by-name (IsNamedSoFar s number) d (so-far number d) (λ name same. elim (below-cases name (subst (IsNamedSoFar s (number + 1)) same h.1)) [
            | inl below ↦ below
            | inr here ↦ absurd (false≢true (sym plain ∙ here.0))
          ]),
        )) of

    module _ (ordered : IsInOrder s.repository.packages) (essential_space : s.essential ≡ true) (essential : p.essential ≡ true) where
      pub name-demand : IsDemand s (Required p.name)
      name-demand = subst (λ (b : Bool). Contains (required_names b s.repository.packages) p.name) (sym essential_space)
          (required-from s.repository.packages number p is essential)

      others-before : (d : Demand) → group_of d < 7 → IsBefore s d (Required p.name)
      others-before d less = less-cmp (rank_of s d) (rank_of s (Required p.name)) (inl less)

      name-before : (name : List ℕ) → IsNamedBelow s number name → IsBefore s (Required name) (Required p.name)
      name-before name below =
          let e = here-at (IsEssentialOf name) s.repository.packages below.0 below.2 in
          let less : slice_cmp nat_cmp e.element.name p.name ≡ Less =
          names-rise s.repository.packages below.0 number e.element p ordered space.frame.flat below.1 e.is is in
          less-cmp (rank_of s (Required name)) (rank_of s (Required p.name))
          (inr (refl, inr (refl, cmp-less name p.name (subst (λ (x : List ℕ). slice_cmp nat_cmp x p.name ≡ Less) e.holds.1 less))))

      before-name : (name : List ℕ) → IsDemand s (Required name) → IsBefore s (Required name) (Required p.name) → IsNamedBelow s number name
      before-name name demand before =
          let less : slice_cmp nat_cmp name p.name ≡ Less = elim (cmp-less (rank_of s (Required name)) (rank_of s (Required p.name)) before) [
            | inl h ↦ absurd (omega (arith, h))
            | inr h ↦ elim h.1 [
              | inl g ↦ absurd (omega (arith, g))
              | inr g ↦ less-cmp name p.name g.1
            ]
          ] in
          let some = required-at s.repository.packages name (subst (λ (b : Bool). Contains (required_names b s.repository.packages) name) essential_space
          demand) in
          let e = here-at (IsEssentialOf name) s.repository.packages some.number some.has in
          elim (cases_lt some.number number) [
            | inl low ↦ (some.number, low, some.has)
            | inr high ↦ elim (cases_lt number some.number) [
              | inl behind ↦
                  let up = names-rise s.repository.packages number some.number p e.element ordered space.frame.flat behind is e.is in
                  let turned = turned-greater p.name name (subst (λ (x : List ℕ). slice_cmp nat_cmp p.name x ≡ Less) e.holds.1 up) in
                  absurd (let no-one : Less ≡ Greater = sym less ∙ turned in cc)
              | inr most ↦
                  let same : some.number ≡ number = omega (arith, high, most) in
                  let first = e.is in
                  let there : slice_get s.repository.packages some.number ≡ Some p = ap (λ (i : ℕ). slice_get s.repository.packages i) same ∙ is in
                  let it : e.element ≡ p = cc in
                  let named : p.name ≡ name = ap (λ (x : Package). x.name) (sym it) ∙ e.holds.1 in
                  absurd (never-less name (subst (λ (x : List ℕ). slice_cmp nat_cmp name x ≡ Less) named less))
            ]
          ]

      -- the clauses before that of the package's name
      pub named-before : (set : ClauseList) → IsNamedFront s number limits set
          → IsSetOf s (λ d. IsDemand s d × IsBefore s d (Required p.name)) limits.clause_limit limits.literal_limit set
      named-before set of =
          made.set-shift (space_demands s) (NamedBefore s number) (λ d. IsDemand s d × IsBefore s d (Required p.name)) limits.clause_limit
          limits.literal_limit set
          (λ d h. (
            h.0,
            by-name (λ e. IsBefore s e (Required p.name)) d (others-before d)
                (λ name same. name-before name (subst (IsNamedSoFar s number) same h.1)),
          ))
          (λ d h. (
            h.0,
            by-name (IsNamedSoFar s number) d (so-far number d)
                (λ name same. before-name name (subst (IsDemand s) same h.0) (subst (λ e. IsBefore s e (Required p.name)) same h.1)),
          )) of

      -- with that clause
      pub named-pushed : (set : ClauseList) (clause : List Literal) → IsClauseFor s (Required p.name) clause → IsNamedFront s number limits set
          → IsNamedFront s (number + 1) limits (record set { clauses = set.clauses ++ clause ∷ [] })
      named-pushed set clause is_clause of =
          made.set-more (space_demands s) (NamedBefore s number) (NamedBefore s (number + 1)) limits.clause_limit limits.literal_limit set (Required p.name)
          clause of is_clause before cases wider
          (name-demand, (number, omega arith, at-has (IsEssentialOf p.name) s.repository.packages number p is (essential, refl)))
        where
          before : (d : Demand) → NamedBefore s number d → IsBefore s d (Required p.name)
          before d h = by-name (λ e. IsBefore s e (Required p.name)) d (others-before d)
              (λ name same. name-before name (subst (IsNamedSoFar s number) same h.1))

          cases : (d : Demand) → NamedBefore s (number + 1) d → NamedBefore s number d ⊎ (Required p.name ≡ d)
          cases d h = elim (group-cases d) [
            | inl less ↦ inl (h.0, so-far number d less)
            | inr named ↦ elim (below-cases named.0 (subst (IsNamedSoFar s (number + 1)) named.1 h.1)) [
              | inl earlier ↦ inl (h.0, subst (IsNamedSoFar s number) (sym named.1) earlier)
              | inr here ↦ inr (ap (λ (x : List ℕ). Required x) here.1 ∙ sym named.1)
            ]
          ]
