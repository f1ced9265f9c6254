-- The list of relations, one relation after another.
use Rattle.std.proofs.Common.{◌≡◌, ◌⊎◌, ◌↔◌, inl, inr, ℕ, ◌+◌, ◌<◌, ◌≤◌, false, List, [], ◌∷◌, ◌++◌, length, get_or}
use Rattle.std.proofs.Common.{map, Some, slice_get}
use Rattle.std.proofs.Common.{refl, sym, ap, ap₂, subst, ◌∙◌, arith}
use Rattle.std.specs.Prelude.{AllPairs, Contains, IsSomeAnd}
use Rattle.std.proofs.lemmas.Bool.{cases_lt}
use Rattle.std.proofs.lemmas.List.Elements.{Contains-append_cases, Contains-append_left, Contains-append_right}
use Rattle.std.proofs.lemmas.List.Elements.{Contains-get_or, Contains-push, Contains-push_cases}
use Rattle.std.proofs.lemmas.List.Kept.{AllPairs-cons, AllPairs-from_increasing}
use Rattle.std.proofs.lemmas.List.Quantifiers.{all_pairs_push}
use Rattle.dist_base.specs.ListLaws.{all-contained, at-has, at-weaker, has-at, here-at}
use Rattle.dist_base.specs.ListLaws.{pairs-head, pairs-tail, within-from}
use Rattle.dist_cert.specs.ListLaws.{contains-cases, contains-later, pairs-map}
use Rattle.dist_relation.specs.declared.atom.Atom.{Atom}
use Rattle.dist_repo.specs.Conflict.{AreInConflict}
use Rattle.dist_repo.specs.PackageList.{PackageList, IsPackageAnd}
use Rattle.dist_repo.specs.Providers.{AreProviders, IsProvider}
use Rattle.dist_repo.specs.declared.package.Package.{Package}
use Rattle.dist_now.specs.Partners.{IsPartner}
use Rattle.dist_now.specs.PresentClauses.{Apart, Demand, IsBefore, IsDemand, IsMetBy, Item, Required}
use Rattle.dist_now.specs.Relations.{AreRelations}
use Rattle.dist_explain.specs.RelationList.{demand_of}
use Rattle.dist_explain.specs.RelationListPrivate.{AreApart, AreListedBefore, IsNamesake, pair_with}
use Rattle.dist_explain.specs.declared.relations.Relation.{Relation}

-- ---- lists

push-demands : (list : List Relation) (x : Relation) → map demand_of (list ++ x ∷ []) ≡ map demand_of list ++ demand_of x ∷ []
push-demands [] x = refl
push-demands (y ∷ list) x = ap (λ (ds : List Demand). demand_of y ∷ ds) (push-demands list x)

pair-demands : (list : List Relation) (first : ℕ) (seconds : List ℕ)
    → map demand_of (list ++ map (pair_with first) seconds) ≡ map demand_of list ++ map (λ s. Apart first s) seconds
pair-demands [] first [] = refl
pair-demands [] first (s ∷ seconds) = ap (λ (ds : List Demand). Apart first s ∷ ds) (pair-demands [] first seconds)
pair-demands (y ∷ list) first seconds = ap (λ (ds : List Demand). demand_of y ∷ ds) (pair-demands list first seconds)

pairs-append : {X : Type 0} (R : X → X → Type 0) (xs ys : List X) → AllPairs R xs → AllPairs R ys
    → ((x y : X) → Contains xs x → Contains ys y → R x y) → AllPairs R (xs ++ ys)
pairs-append R [] ys first second cross = second
pairs-append R (x ∷ xs) ys first second cross =
    AllPairs-cons R x (xs ++ ys) (all-contained (R x) (xs ++ ys) (λ y there. elim (Contains-append_cases xs ys y there) [
      | inl here ↦ pairs-head R x xs first y here
      | inr later ↦ cross x y (0, omega arith, refl) later
    ]))
    (pairs-append R xs ys (pairs-tail R x xs first) second (λ z y there inside. cross z y (contains-later x xs z there) inside))

mapped-from : {X Y : Type 0} (f : X → Y) (xs : List X) (y : Y) → Contains (map f xs) y → (x : X) × Contains xs x × (f x ≡ y)
mapped-from f [] y there = absurd (omega (arith, there.1))
mapped-from f (x ∷ xs) y there = elim (contains-cases (f x) (map f xs) y there) [
  | inl same ↦ (x, (0, omega arith, refl), same)
  | inr later ↦ let rest = mapped-from f xs y later in (rest.0, contains-later x xs rest.0 rest.1, rest.2)
]

mapped-there : {X Y : Type 0} (f : X → Y) (xs : List X) (x : X) → Contains xs x → Contains (map f xs) (f x)
mapped-there f [] x there = absurd (omega (arith, there.1))
mapped-there f (y ∷ xs) x there = elim (contains-cases y xs x there) [
  | inl same ↦ (0, omega arith, ap f same)
  | inr later ↦ contains-later (f y) (map f xs) (f x) (mapped-there f xs x later)
]

-- ---- one demand after another

-- no relation stands between two demands
listed-skip : (r : PackageList) (d next : Demand) (list : List Relation) → ((e : Demand) → IsBefore e d → IsBefore e next)
    → ((e : Demand) → IsDemand r false e → IsBefore e next → IsBefore e d) → AreListedBefore r d list → AreListedBefore r next list
listed-skip r d next list up down before = record {
  in_order = before.in_order;
  exact = λ e. (
    (λ there. let h = (before.exact e).0 there in (h.0, up e h.1)),
    (λ h. (before.exact e).1 (h.0, down e h.0 h.1)),
  );
}

-- the first of the two is the only one
listed-push : (r : PackageList) (d next : Demand) (list : List Relation) (x : Relation) → demand_of x ≡ d → IsDemand r false d
    → ((e : Demand) → IsBefore e d → IsBefore e next) → IsBefore d next
    → ((e : Demand) → IsDemand r false e → IsBefore e next → IsBefore e d ⊎ (e ≡ d)) → AreListedBefore r d list
    → AreListedBefore r next (list ++ x ∷ [])
listed-push r d next list x is demand up last down before = record {
  in_order = subst (AllPairs IsBefore) (sym (push-demands list x)) (all_pairs_push IsBefore ds (demand_of x) before.in_order (λ k e short.
      subst (IsBefore (get_or ds k e)) (sym is) ((before.exact (get_or ds k e)).0 (Contains-get_or ds k e short)).1));
  exact = λ e. (
    (λ there. elim (Contains-push_cases ds (demand_of x) e (subst (λ es. Contains es e) (push-demands list x) there)) [
      | inl here ↦ let h = (before.exact e).0 here in (h.0, up e h.1)
      | inr same ↦
          let at : d ≡ e = sym is ∙ same in
          (subst (IsDemand r false) at demand, subst (λ f. IsBefore f next) at last)
    ]),
    (λ h. subst (λ es. Contains es e) (sym (push-demands list x)) (elim (down e h.0 h.1) [
      | inl earlier ↦ Contains-append_left ds (demand_of x ∷ []) e ((before.exact e).1 (h.0, earlier))
      | inr same ↦ subst (Contains (ds ++ demand_of x ∷ [])) (is ∙ sym same) (Contains-push ds (demand_of x))
    ])),
  );
}
  where
    ds : List Demand
    ds = map demand_of list

-- ---- items

item-up : (n k : ℕ) (e : Demand) → IsBefore e (Item n k) → IsBefore e (Item n (k + 1))
item-up n k (Item m j) before = elim before [
  | inl less ↦ inl less
  | inr same ↦ inr (same.0, omega (arith, same.1))
]
item-up n k (Apart first second) before = absurd before
item-up n k (Required name) before = absurd before

item-down : (n k : ℕ) (e : Demand) → IsBefore e (Item n (k + 1)) → IsBefore e (Item n k) ⊎ (e ≡ Item n k)
item-down n k (Item m j) before = elim before [
  | inl less ↦ inl (inl less)
  | inr same ↦ elim (cases_lt j k) [
    | inl less ↦ inl (inr (same.0, less))
    | inr past ↦ let equal : j ≡ k = omega (arith, past, same.1) in inr (ap₂ (λ (a b : ℕ). Item a b) same.0 equal)
  ]
]
item-down n k (Apart first second) before = absurd before
item-down n k (Required name) before = absurd before

pub item-skipped : (r : PackageList) (n k : ℕ) (list : List Relation) → ¬ IsDemand r false (Item n k) → AreListedBefore r (Item n k) list
    → AreListedBefore r (Item n (k + 1)) list
item-skipped r n k list none before = listed-skip r (Item n k) (Item n (k + 1)) list (item-up n k) (λ e demand earlier.
    elim (item-down n k e earlier) [
      | inl less ↦ less
      | inr same ↦ absurd (none (subst (IsDemand r false) same demand))
    ]) before

pub item-pushed : (r : PackageList) (n k : ℕ) (list : List Relation) (x : Relation) → demand_of x ≡ Item n k → IsDemand r false (Item n k)
    → AreListedBefore r (Item n k) list → AreListedBefore r (Item n (k + 1)) (list ++ x ∷ [])
item-pushed r n k list x is demand before = listed-push r (Item n k) (Item n (k + 1)) list x is demand (item-up n k) (inr (refl, omega arith))
    (λ e there earlier. item-down n k e earlier) before

-- the package of a demanded item has it
item-there : (r : PackageList) (n k : ℕ) (p : Package) → slice_get r.packages n ≡ Some p → IsDemand r false (Item n k) → k < length p.depends
item-there r n k p is demand =
    let Of : Package → Type 0 = λ q. IsSomeAnd (slice_get q.depends k) (λ item. ¬ IsMetBy r.architecture item q) in
    within-from (λ item. ¬ IsMetBy r.architecture item p) p.depends k (has-at Of r.packages n p is demand)

pub items-done : (r : PackageList) (n k : ℕ) (p : Package) (list : List Relation) → slice_get r.packages n ≡ Some p → length p.depends ≤ k
    → AreListedBefore r (Item n k) list → AreListedBefore r (Item (n + 1) 0) list
items-done r n k p list is past before = listed-skip r (Item n k) (Item (n + 1) 0) list up down before
  where
    up : (e : Demand) → IsBefore e (Item n k) → IsBefore e (Item (n + 1) 0)
    up (Item m j) earlier = elim earlier [
      | inl less ↦ inl (omega (arith, less))
      | inr same ↦ inl (omega (arith, same.0))
    ]
    up (Apart first second) earlier = absurd earlier
    up (Required name) earlier = absurd earlier

    down : (e : Demand) → IsDemand r false e → IsBefore e (Item (n + 1) 0) → IsBefore e (Item n k)
    down (Item m j) demand earlier = elim earlier [
      | inr same ↦ absurd (omega (arith, same.1))
      | inl less ↦ elim (cases_lt m n) [
        | inl lower ↦ inl lower
        | inr most ↦
            let same : m ≡ n = omega (arith, less, most) in
            let short = item-there r n j p is (subst (λ (a : ℕ). IsDemand r false (Item a j)) same demand) in
            inr (same, omega (arith, short, past))
      ]
    ]
    down (Apart first second) demand earlier = absurd earlier
    down (Required name) demand earlier = absurd earlier

-- no name is required at mode plain
none-required : (r : PackageList) (name : List ℕ) → ¬ IsDemand r false (Required name)
none-required r name there = omega (arith, there.1)

pub all-items : (r : PackageList) (n : ℕ) (list : List Relation) → length r.packages ≤ n → AreListedBefore r (Item n 0) list
    → AreListedBefore r (Apart 0 0) list
all-items r n list past before = listed-skip r (Item n 0) (Apart 0 0) list up down before
  where
    up : (e : Demand) → IsBefore e (Item n 0) → IsBefore e (Apart 0 0)
    up (Item m j) earlier = tt
    up (Apart first second) earlier = absurd earlier
    up (Required name) earlier = absurd earlier

    down : (e : Demand) → IsDemand r false e → IsBefore e (Apart 0 0) → IsBefore e (Item n 0)
    down (Item m j) demand earlier =
        let short = within-from (λ q. IsSomeAnd (slice_get q.depends j) (λ item. ¬ IsMetBy r.architecture item q)) r.packages m demand in
        inl (omega (arith, short, past))
    down (Apart first second) demand earlier = elim earlier [
      | inl less ↦ absurd (omega (arith, less))
      | inr same ↦ absurd (omega (arith, same.1))
    ]
    down (Required name) demand earlier = absurd (none-required r name demand)

pub none-listed : (r : PackageList) → AreListedBefore r (Item 0 0) []
none-listed r = record {
  in_order = λ i j d less short. absurd (omega (arith, short));
  exact = λ e. ((λ there. absurd (omega (arith, there.1))), λ h. absurd (none e h.1));
}
  where
    none : (e : Demand) → ¬ IsBefore e (Item 0 0)
    none (Item m j) earlier = elim earlier [
      | inl less ↦ omega (arith, less)
      | inr same ↦ omega (arith, same.1)
    ]
    none (Apart first second) earlier = earlier
    none (Required name) earlier = earlier

-- ---- pairs

before-pairs : (f s : ℕ) (e : Demand) → IsBefore e (Apart f 0) → IsBefore e (Apart f s)
before-pairs f s (Item m j) earlier = tt
before-pairs f s (Apart g t) earlier = elim earlier [
  | inl less ↦ inl less
  | inr same ↦ absurd (omega (arith, same.1))
]
before-pairs f s (Required name) earlier = absurd earlier

pair-up : (f : ℕ) (e : Demand) → IsBefore e (Apart f 0) → IsBefore e (Apart (f + 1) 0)
pair-up f (Item m j) earlier = tt
pair-up f (Apart g t) earlier = elim earlier [
  | inl less ↦ inl (omega (arith, less))
  | inr same ↦ absurd (omega (arith, same.1))
]
pair-up f (Required name) earlier = absurd earlier

pub pairs-listed : (r : PackageList) (f : ℕ) (seconds : List ℕ) (list : List Relation) → AreApart r f seconds → AreListedBefore r (Apart f 0) list
    → AreListedBefore r (Apart (f + 1) 0) (list ++ map (pair_with f) seconds)
pairs-listed r f seconds list apart before = record {
  in_order = subst (AllPairs IsBefore) (sym (pair-demands list f seconds)) (pairs-append IsBefore ds es before.in_order
      (pairs-map IsBefore (λ s. Apart f s) seconds (λ i j d less short. inr (refl, AllPairs-from_increasing seconds apart.rising i j d less short)))
      (λ x y there inside.
      let some = mapped-from (λ s. Apart f s) seconds y inside in
      subst (IsBefore x) some.2 (before-pairs f some.0 x ((before.exact x).0 there).1)));
  exact = λ e. (
    (λ there. elim (Contains-append_cases ds es e (subst (λ xs. Contains xs e) (pair-demands list f seconds) there)) [
      | inl here ↦ let h = (before.exact e).0 here in (h.0, pair-up f e h.1)
      | inr later ↦
          let some = mapped-from (λ s. Apart f s) seconds e later in
          let demand = (apart.exact some.0).0 some.1 in
          (subst (IsDemand r false) some.2 demand, subst (λ x. IsBefore x (Apart (f + 1) 0)) some.2 (inl (omega arith)))
    ]),
    (λ h. subst (λ xs. Contains xs e) (sym (pair-demands list f seconds)) (back e h.0 h.1)),
  );
}
  where
    ds : List Demand
    ds = map demand_of list

    es : List Demand
    es = map (λ s. Apart f s) seconds

    earlier-there : (e : Demand) → IsDemand r false e → IsBefore e (Apart f 0)
        → Contains (map demand_of list ++ map (λ s. Apart f s) seconds) e
    earlier-there e demand earlier = Contains-append_left (map demand_of list) (map (λ s. Apart f s) seconds) e ((before.exact e).1 (demand, earlier))

    back : (e : Demand) → IsDemand r false e → IsBefore e (Apart (f + 1) 0)
        → Contains (map demand_of list ++ map (λ s. Apart f s) seconds) e
    back (Item m j) demand earlier = earlier-there (Item m j) demand tt
    back (Apart g t) demand earlier = elim earlier [
      | inr same ↦ absurd (omega (arith, same.1))
      | inl less ↦ elim (cases_lt g f) [
        | inl lower ↦ earlier-there (Apart g t) demand (inl lower)
        | inr most ↦
            let same : f ≡ g = omega (arith, less, most) in
            let there = (apart.exact t).1 (subst (λ (a : ℕ). IsDemand r false (Apart a t)) (sym same) demand) in
            subst (λ (a : ℕ). Contains (map demand_of list ++ map (λ s. Apart f s) seconds) (Apart a t)) same
            (Contains-append_right (map demand_of list) (map (λ s. Apart f s) seconds) (Apart f t) (mapped-there (λ s. Apart f s) seconds t there))
      ]
    ]
    back (Required name) demand earlier = absurd (none-required r name demand)

pub all-pairs : (r : PackageList) (n : ℕ) (list : List Relation) → length r.packages ≤ n → AreListedBefore r (Apart n 0) list
    → AreRelations r (map demand_of list)
all-pairs r n list past before = record {
  in_order = before.in_order;
  exact = λ e. ((λ there. ((before.exact e).0 there).0), λ demand. (before.exact e).1 (demand, all e demand));
}
  where
    all : (e : Demand) → IsDemand r false e → IsBefore e (Apart n 0)
    all (Item m j) demand = tt
    all (Apart first second) demand =
        let short = within-from (λ p. IsPackageAnd r.packages second (λ q. (p.name ≡ q.name) ⊎ AreInConflict r.architecture p q)) r.packages first demand.1 in
        inl (omega (arith, short, past))
    all (Required name) demand = absurd (none-required r name demand)

-- ---- what a package must be apart from

apart-by : (r : PackageList) (first second : ℕ) → (IsNamesake r first second ⊎ IsPartner r first second) ↔ IsDemand r false (Apart first second)
apart-by r first second = (
  (λ some. elim some [
    | inl named ↦ (
      named.0,
      at-weaker (λ p. IsPackageAnd r.packages second (λ q. p.name ≡ q.name)) Apart-from r.packages first
          (λ p h. at-weaker (λ q. p.name ≡ q.name) (λ q. (p.name ≡ q.name) ⊎ AreInConflict r.architecture p q) r.packages second (λ q e. inl e) h) named.1,
    )
    | inr partner ↦ (
      partner.0,
      at-weaker (λ p. IsPackageAnd r.packages second (AreInConflict r.architecture p)) Apart-from r.packages first
          (λ p h. at-weaker (AreInConflict r.architecture p) (λ q. (p.name ≡ q.name) ⊎ AreInConflict r.architecture p q) r.packages second (λ q e. inr e) h)
          partner.1,
    )
  ]),
  (λ demand.
      let one = here-at Apart-from r.packages first demand.1 in
      let two = here-at (λ q. (one.element.name ≡ q.name) ⊎ AreInConflict r.architecture one.element q) r.packages second one.holds in
      elim two.holds [
        | inl same ↦ inl (
          demand.0,
          at-has (λ p. IsPackageAnd r.packages second (λ q. p.name ≡ q.name)) r.packages first one.element one.is
              (at-has (λ q. one.element.name ≡ q.name) r.packages second two.element two.is same),
        )
        | inr conflict ↦ inr (
          demand.0,
          at-has (λ p. IsPackageAnd r.packages second (AreInConflict r.architecture p)) r.packages first one.element one.is
              (at-has (AreInConflict r.architecture one.element) r.packages second two.element two.is conflict),
        )
      ]),
)
  where
    Apart-from : Package → Type 0
    Apart-from p = IsPackageAnd r.packages second (λ q. (p.name ≡ q.name) ⊎ AreInConflict r.architecture p q)

pub gathered-apart : (r : PackageList) (first : ℕ) (none named all sorted : List ℕ) → none ≡ []
    → ((k : ℕ) → Contains named k ↔ (Contains none k ⊎ IsNamesake r first k))
    → ((k : ℕ) → Contains all k ↔ (Contains named k ⊎ IsPartner r first k))
    → ((k : ℕ) → Contains sorted k ↔ Contains all k) → ((k : ℕ) → k + 1 < length sorted → get_or sorted k 0 < get_or sorted (k + 1) 0)
    → AreApart r first sorted
gathered-apart r first none named all sorted empty by_name by_conflict same rising = record {
  rising = rising;
  exact = λ k. (
    (λ there. (apart-by r first k).0 (elim ((by_conflict k).0 ((same k).0 there)) [
      | inl here ↦ elim ((by_name k).0 here) [
        | inl no_one ↦ absurd (let is = subst (λ xs. Contains xs k) empty no_one in omega (arith, is.1))
        | inr namesake ↦ inl namesake
      ]
      | inr partner ↦ inr partner
    ])),
    (λ demand. (same k).1 ((by_conflict k).1 (elim ((apart-by r first k).1 demand) [
      | inl namesake ↦ inl ((by_name k).1 (inr namesake))
      | inr partner ↦ inr partner
    ]))),
  );
}

-- ---- tests

-- the numbers that were looked at, with one more
pub named-there : (old new front : List ℕ) (k : ℕ) (P : ℕ → Type 0) → ((x : ℕ) → Contains new x ↔ (Contains old x ⊎ (Contains front x × P x)))
    → P k → (x : ℕ) → Contains (new ++ k ∷ []) x ↔ (Contains old x ⊎ (Contains (front ++ k ∷ []) x × P x))
named-there old new front k P before holds x = (
  (λ there. elim (Contains-push_cases new k x there) [
    | inl here ↦ elim ((before x).0 here) [
      | inl was ↦ inl was
      | inr some ↦ inr (Contains-append_left front (k ∷ []) x some.0, some.1)
    ]
    | inr same ↦ inr (subst (Contains (front ++ k ∷ [])) same (Contains-push front k), subst P same holds)
  ]),
  (λ some. elim some [
    | inl was ↦ Contains-append_left new (k ∷ []) x ((before x).1 (inl was))
    | inr has ↦ elim (Contains-push_cases front k x has.0) [
      | inl here ↦ Contains-append_left new (k ∷ []) x ((before x).1 (inr (here, has.1)))
      | inr same ↦ subst (Contains (new ++ k ∷ [])) same (Contains-push new k)
    ]
  ]),
)

pub named-not : (old new front : List ℕ) (k : ℕ) (P : ℕ → Type 0) → ((x : ℕ) → Contains new x ↔ (Contains old x ⊎ (Contains front x × P x)))
    → ¬ P k → (x : ℕ) → Contains new x ↔ (Contains old x ⊎ (Contains (front ++ k ∷ []) x × P x))
named-not old new front k P before none x = (
  (λ there. elim ((before x).0 there) [
    | inl was ↦ inl was
    | inr some ↦ inr (Contains-append_left front (k ∷ []) x some.0, some.1)
  ]),
  (λ some. elim some [
    | inl was ↦ (before x).1 (inl was)
    | inr has ↦ elim (Contains-push_cases front k x has.0) [
      | inl here ↦ (before x).1 (inr (here, has.1))
      | inr same ↦ absurd (none (subst P (sym same) has.1))
    ]
  ]),
)

-- all namesakes of a package are providers of its name
pub named-all : (r : PackageList) (number : ℕ) (p : Package) (numbers old new front : List ℕ) → slice_get r.packages number ≡ Some p
    → AreProviders r p.name numbers → front ≡ numbers
    → ((x : ℕ) → Contains new x ↔ (Contains old x ⊎ (Contains front x × IsNamesake r number x)))
    → (x : ℕ) → Contains new x ↔ (Contains old x ⊎ IsNamesake r number x)
named-all r number p numbers old new front is providers all before x = (
  (λ there. elim ((before x).0 there) [
    | inl was ↦ inl was
    | inr some ↦ inr some.1
  ]),
  (λ some. (before x).1 (elim some [
    | inl was ↦ inl was
    | inr named ↦
        let here = has-at (λ q. IsPackageAnd r.packages x (λ o. q.name ≡ o.name)) r.packages number p is named.1 in
        inr (
          subst (λ ns. Contains ns x) (sym all) ((providers.exact x).1
              (at-weaker (λ o. p.name ≡ o.name) (IsProvider r.architecture p.name) r.packages x (λ o same. inl (sym same)) here)),
          named,
        )
  ])),
)

pub provider-within : (r : PackageList) (name numbers : List ℕ) (k : ℕ) → AreProviders r name numbers → k < length numbers
    → get_or numbers k 0 < length r.packages
provider-within r name numbers k providers short =
    within-from (IsProvider r.architecture name) r.packages (get_or numbers k 0) ((providers.exact (get_or numbers k 0)).0 (Contains-get_or numbers k 0 short))

-- an item of a package is demanded exactly where the package doesn't meet it
pub item-is-demand : (r : PackageList) (n k : ℕ) (p : Package) (item : List Atom) → slice_get r.packages n ≡ Some p → slice_get p.depends k ≡ Some item
    → IsDemand r false (Item n k) ↔ (¬ IsMetBy r.architecture item p)
item-is-demand r n k p item is at = (
  (λ demand. has-at (λ x. ¬ IsMetBy r.architecture x p) p.depends k item at
      (has-at (λ q. IsSomeAnd (slice_get q.depends k) (λ x. ¬ IsMetBy r.architecture x q)) r.packages n p is demand)),
  (λ none. at-has (λ q. IsSomeAnd (slice_get q.depends k) (λ x. ¬ IsMetBy r.architecture x q)) r.packages n p is
      (at-has (λ x. ¬ IsMetBy r.architecture x p) p.depends k item at none)),
)
