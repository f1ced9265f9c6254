-- What is found of versions in bounds: on the names of a package, of the members of a cluster, and the classes of them.
use Rattle.std.proofs.Common.{◌≡◌, ◌⊎◌, ◌↔◌, ℕ, ◌+◌, ◌≤◌, List, [], ◌∷◌, ◌++◌, length, take, Option, Some, sym, subst, ◌∙◌, inl, inr, refl, arith, slice_get}
use Rattle.std.proofs.Common.{◌≢◌, Equal, Greater, Less, Ordering, ap, append-nil, append_assoc, nat_cmp}
use Rattle.std.specs.Prelude.{Any, Contains, IsPermutation, IsSomeAnd}
use Rattle.std.specs.Cmp.Lexicographic.{slice_cmp}
use Rattle.std.specs.List.Sorted.{IsSorted}
use Rattle.std.specs.Ordering.{ordering_reverse}
use Rattle.std.proofs.lemmas.Cmp.{alike_right, nat_list_cmp_total}
use Rattle.std.proofs.lemmas.List.Elements.{All-contains, Contains-append_left, Contains-push}
use Rattle.std.proofs.lemmas.List.Elements.{Contains-push_cases}
use Rattle.std.proofs.lemmas.List.Sorted.{Contains-permutation, IsPermutation-sym}
use Rattle.dist_base.specs.ListLaws.{all-contained, any-contained, any-more, any-there}
use Rattle.dist_version.specs.Order.{version_cmp, IsBelow}
use Rattle.dist_relation.specs.declared.atom.Provide.{Provide}
use Rattle.dist_repo.specs.PackageList.{PackageList, IsPackageAnd}
use Rattle.dist_repo.specs.declared.package.Package.{Package}
use Rattle.dist_classes.specs.Answers.{AreClassesOf, AreClassesOfName}
use Rattle.dist_classes.specs.Atoms.{IsBoundOn}
use Rattle.dist_classes.specs.ClassList.{classes_above, classes_of_all}
use Rattle.dist_classes.specs.Cuts.{AreCuts, IsClusterCut, IsLeastText, IsNameCut, IsNameOfCluster}
use Rattle.dist_classes.specs.NewVersion.{IsMovedName, IsMoving}
use Rattle.dist_classes.specs.SortedPrivate.{cuts_after, cuts_of, text_cmp}
use Rattle.dist_classes.specs.Table.{Adds, AddsLeast, Entries, HasBounds, HasLess}
use Rattle.dist_classes.specs.declared.class_value.Class.{Class}
use Rattle.dist_classes.specs.VersionOrderLaws.{alike-left}
use Rattle.dist_classes.proofs.SortedLemmas.{cuts-above, cuts-all, cuts-rise, ordered-from_sorted}
use Rattle.dist_classes.proofs.TableLemmas.{any-none, any-take, any-whole}

-- ---- sets of texts

pub adds-iff : (a b : List (List ℕ)) (P Q : List ℕ → Type 0) → ((v : List ℕ) → P v ↔ Q v) → Adds a b P → Adds a b Q
adds-iff a b P Q same adds v = (
  (λ there. elim ((adds v).0 there) [ inl h ↦ inl h | inr h ↦ inr ((same v).0 h) ]),
  λ either. (adds v).1 (elim either [ inl h ↦ inl h | inr h ↦ inr ((same v).1 h) ]),
)

pub adds-both : (a b c : List (List ℕ)) (P Q : List ℕ → Type 0) → Adds a b P → Adds b c Q → Adds a c (λ v. P v ⊎ Q v)
adds-both a b c P Q first second v = (
  (λ there. elim ((second v).0 there) [
    | inl h ↦ elim ((first v).0 h) [ inl g ↦ inl g | inr g ↦ inr (inl g) ]
    | inr h ↦ inr (inr h)
  ]),
  λ either. (second v).1 (elim either [
    | inl h ↦ inl ((first v).1 (inl h))
    | inr h ↦ elim h [ inl g ↦ inl ((first v).1 (inr g)) | inr g ↦ inr g ]
  ]),
)

pub adds-nothing : (a : List (List ℕ)) (P : List ℕ → Type 0) → ((v : List ℕ) → ¬ P v) → Adds a a P
adds-nothing a P none v = ((λ there. inl there), λ either. elim either [ inl h ↦ h | inr h ↦ absurd (none v h) ])

-- ---- versions in bounds on names

on-weaker : (r : PackageList) (A B : List ℕ → Type 0) → ((n : List ℕ) → A n → B n) → (v : List ℕ) → IsBoundOn r A v → IsBoundOn r B v
on-weaker r A B more v on = record { atom = on.atom; is_atom = on.is_atom; allowed = more on.atom.name on.allowed; bound = on.bound }

on-iff : (r : PackageList) (A B : List ℕ → Type 0) → ((n : List ℕ) → A n ↔ B n) → (v : List ℕ) → IsBoundOn r A v ↔ IsBoundOn r B v
on-iff r A B same v = (on-weaker r A B (λ n. (same n).0) v, on-weaker r B A (λ n. (same n).1) v)

on-either : (r : PackageList) (A B : List ℕ → Type 0) (v : List ℕ) → (IsBoundOn r A v ⊎ IsBoundOn r B v) ↔ IsBoundOn r (λ n. A n ⊎ B n) v
on-either r A B v = (
  (λ either. elim either [
    | inl h ↦ on-weaker r A (λ n. A n ⊎ B n) (λ n. λ x. inl x) v h
    | inr h ↦ on-weaker r B (λ n. A n ⊎ B n) (λ n. λ x. inr x) v h
  ]),
  λ on. elim on.allowed [
    | inl h ↦ inl (record { atom = on.atom; is_atom = on.is_atom; allowed = h; bound = on.bound })
    | inr h ↦ inr (record { atom = on.atom; is_atom = on.is_atom; allowed = h; bound = on.bound })
  ],
)

-- ---- versions of which each is there in a least text

pub least-iff : (a b : List (List ℕ)) (P Q : List ℕ → Type 0) → ((v : List ℕ) → P v ↔ Q v) → AddsLeast a b P → AddsLeast a b Q
least-iff a b P Q same adds = record {
  there = λ v inside. elim (adds.there v inside) [ inl h ↦ inl h | inr h ↦ inr ((same v).0 h) ];
  kept = adds.kept;
  least = λ v has. adds.least v ((same v).1 has);
}

least-both : (a b c : List (List ℕ)) (P Q : List ℕ → Type 0) → AddsLeast a b P → AddsLeast b c Q → AddsLeast a c (λ v. P v ⊎ Q v)
least-both a b c P Q first second = record {
  there = λ v inside. elim (second.there v inside) [
    | inl h ↦ elim (first.there v h) [ inl g ↦ inl g | inr g ↦ inr (inl g) ]
    | inr h ↦ inr (inr h)
  ];
  kept = λ v inside. second.kept v (first.kept v inside);
  least = λ v either. elim either [
    | inl h ↦
        let any = first.least v h in
        any-contained (HasLess v) c any.1 (second.kept any.1 (any-there (HasLess v) b any)) any.4
    | inr h ↦ second.least v h
  ];
}

least-nothing : (a : List (List ℕ)) (P : List ℕ → Type 0) → ((v : List ℕ) → ¬ P v) → AddsLeast a a P
least-nothing a P none = record {
  there = λ v inside. inl inside;
  kept = λ v inside. inside;
  least = λ v has. absurd (none v has);
}

-- the versions above a top, on some names
abbrev pub IsOnAbove : PackageList → List ℕ → (List ℕ → Type 0) → List ℕ → Type 0
IsOnAbove r top Allows v = IsBelow top v × IsBoundOn r Allows v

pub table-all : (r : PackageList) (table : Entries) (name : List ℕ) (a b : List (List ℕ)) → HasBounds r table
    → AddsLeast a b (λ v. Contains table (name, v)) → AddsLeast a b (IsBoundOn r (λ other. other ≡ name))
table-all r table name a b tabled adds =
    least-iff a b (λ v. Contains table (name, v)) (IsBoundOn r (λ other. other ≡ name)) (λ v. tabled name v) adds

pub table-above : (r : PackageList) (table : Entries) (name top : List ℕ) (a b : List (List ℕ)) → HasBounds r table
    → AddsLeast a b (λ v. IsBelow top v × Contains table (name, v)) → AddsLeast a b (IsOnAbove r top (λ other. other ≡ name))
table-above r table name top a b tabled adds =
    least-iff a b (λ v. IsBelow top v × Contains table (name, v)) (IsOnAbove r top (λ other. other ≡ name))
    (λ v. ((λ both. (both.0, (tabled name v).0 both.1)), λ both. (both.0, (tabled name v).1 both.1))) adds

-- the versions on some names, and then those on others
on-more : (r : PackageList) (top : List ℕ) (a b c : List (List ℕ)) (A B C : List ℕ → Type 0) → ((n : List ℕ) → (A n ⊎ B n) ↔ C n)
    → AddsLeast a b (IsOnAbove r top A) → AddsLeast b c (IsOnAbove r top B) → AddsLeast a c (IsOnAbove r top C)
on-more r top a b c A B C same first second =
    let Both : List ℕ → Type 0 = λ n. A n ⊎ B n in
    least-iff a c (λ v. IsOnAbove r top A v ⊎ IsOnAbove r top B v) (IsOnAbove r top C) (λ v.
    let either = on-either r A B v in
    let turn = on-iff r Both C same v in (
      (λ h. elim h [ inl g ↦ (g.0, turn.0 (either.0 (inl g.1))) | inr g ↦ (g.0, turn.0 (either.0 (inr g.1))) ]),
      λ g. elim (either.1 (turn.1 g.1)) [ inl h ↦ inl (g.0, h) | inr h ↦ inr (g.0, h) ],
    )) (least-both a b c (IsOnAbove r top A) (IsOnAbove r top B) first second)

-- ---- the names of a package

-- the name, and those of the moving ones among the first entries
abbrev pub IsMovedBy : Option (List ℕ) → Package → ℕ → List ℕ → Type 0
IsMovedBy architecture p count n = (p.name ≡ n) ⊎ Any (λ entry. IsMoving architecture p entry × (entry.name ≡ n)) (take count p.provides)

module _ (architecture : Option (List ℕ)) (p : Package) where
  pub moved-none : (a b : List (List ℕ)) → Adds a b (λ n. p.name ≡ n) → Adds a b (IsMovedBy architecture p 0)
  moved-none a b adds =
      adds-iff a b (λ n. p.name ≡ n) (IsMovedBy architecture p 0) (λ n. (
        (λ same. inl same),
        λ either. elim either [
          | inl h ↦ h
          | inr any ↦ absurd (any-none (λ (entry : Provide). IsMoving architecture p entry × (entry.name ≡ n)) p.provides any)
        ],
      )) adds

  pub moved-more : (k : ℕ) (entry : Provide) (a b c : List (List ℕ)) → slice_get p.provides k ≡ Some entry → IsMoving architecture p entry
      → Adds a b (IsMovedBy architecture p k) → Adds b c (λ n. entry.name ≡ n) → Adds a c (IsMovedBy architecture p (k + 1))
  moved-more k entry a b c here moving first second =
      adds-iff a c (λ n. IsMovedBy architecture p k n ⊎ (entry.name ≡ n)) (IsMovedBy architecture p (k + 1)) (λ n.
      let taken = any-take (λ (e : Provide). IsMoving architecture p e × (e.name ≡ n)) p.provides k entry here in (
        (λ either. elim either [
          | inl h ↦ elim h [ inl g ↦ inl g | inr any ↦ inr (taken.0 (inl any)) ]
          | inr same ↦ inr (taken.0 (inr (moving, same)))
        ]),
        λ either. elim either [
          | inl g ↦ inl (inl g)
          | inr any ↦ elim (taken.1 any) [ inl h ↦ inl (inr h) | inr h ↦ inr h.1 ]
        ],
      )) (adds-both a b c (IsMovedBy architecture p k) (λ n. entry.name ≡ n) first second)

  pub moved-still : (k : ℕ) (entry : Provide) (a b : List (List ℕ)) → slice_get p.provides k ≡ Some entry → ¬ IsMoving architecture p entry
      → Adds a b (IsMovedBy architecture p k) → Adds a b (IsMovedBy architecture p (k + 1))
  moved-still k entry a b here still adds =
      adds-iff a b (IsMovedBy architecture p k) (IsMovedBy architecture p (k + 1)) (λ n.
      let taken = any-take (λ (e : Provide). IsMoving architecture p e × (e.name ≡ n)) p.provides k entry here in (
        (λ either. elim either [ inl g ↦ inl g | inr any ↦ inr (taken.0 (inl any)) ]),
        λ either. elim either [
          | inl g ↦ inl g
          | inr any ↦ elim (taken.1 any) [ inl h ↦ inr h | inr h ↦ absurd (still h.0) ]
        ],
      )) adds

  pub moved-all : (k : ℕ) (a b : List (List ℕ)) → length p.provides ≤ k → Adds a b (IsMovedBy architecture p k) → Adds a b (IsMovedName architecture p)
  moved-all k a b past adds =
      adds-iff a b (IsMovedBy architecture p k) (IsMovedName architecture p) (λ n.
      let whole = any-whole (λ (e : Provide). IsMoving architecture p e × (e.name ≡ n)) p.provides k past in (
        (λ either. elim either [ inl g ↦ inl g | inr any ↦ inr (whole.0 any) ]),
        λ either. elim either [ inl g ↦ inl g | inr any ↦ inr (whole.1 any) ],
      )) adds

-- ---- the names of the members of a cluster

-- a name of the package of a number
abbrev pub IsNameOf : PackageList → List ℕ → ℕ → Type 0
IsNameOf r n number = IsPackageAnd r.packages number (λ p. IsMovedName r.architecture p n)

pub member-named : (r : PackageList) (number : ℕ) (p : Package) (a b : List (List ℕ)) → slice_get r.packages number ≡ Some p
    → Adds a b (IsMovedName r.architecture p) → Adds a b (λ n. IsNameOf r n number)
member-named r number p a b at adds =
    adds-iff a b (IsMovedName r.architecture p) (λ n. IsNameOf r n number) (λ n.
    let Is : Option Package → Type 0 = λ o. IsSomeAnd o (λ q. IsMovedName r.architecture q n) in
    ((λ h. subst Is (sym at) h), λ h. subst Is at h)) adds

-- ---- the versions in bounds on names, one after another

-- the versions above a top on the names before those that are left
pub record AreCollected (r : PackageList) (top : List ℕ) (keys rest : List (List ℕ)) (a b : List (List ℕ)) : Type 0 where
  pub done : List (List ℕ)
  pub split : done ++ rest ≡ keys
  pub adds : AddsLeast a b (IsOnAbove r top (Contains done))

pub collected-none : (r : PackageList) (top : List ℕ) (keys a : List (List ℕ)) → AreCollected r top keys keys a a
collected-none r top keys a = record {
  done = [];
  split = refl;
  adds = least-nothing a (IsOnAbove r top (Contains [])) (λ v on. let there = on.1.allowed in omega (arith, there.1));
}

pub collected-more : (r : PackageList) (top : List ℕ) (keys rest : List (List ℕ)) (name : List ℕ) (a b c : List (List ℕ))
    → AreCollected r top keys (name ∷ rest) a b → AddsLeast b c (IsOnAbove r top (λ other. other ≡ name)) → AreCollected r top keys rest a c
collected-more r top keys rest name a b c of more = record {
  done = of.done ++ name ∷ [];
  split = append_assoc of.done (name ∷ []) rest ∙ of.split;
  adds = on-more r top a b c (Contains of.done) (λ other. other ≡ name) (Contains (of.done ++ name ∷ [])) (λ n. (
    (λ either. elim either [
      | inl h ↦ Contains-append_left of.done (name ∷ []) n h
      | inr h ↦ subst (λ (x : List ℕ). Contains (of.done ++ name ∷ []) x) (sym h) (Contains-push of.done name)
    ]),
    λ there. elim (Contains-push_cases of.done name n there) [ inl h ↦ inl h | inr h ↦ inr (sym h) ],
  )) of.adds more;
}

pub collected-all : (r : PackageList) (top : List ℕ) (keys a b : List (List ℕ)) → AreCollected r top keys [] a b
    → AddsLeast a b (IsOnAbove r top (Contains keys))
collected-all r top keys a b of =
    let whole : of.done ≡ keys = sym (append-nil of.done) ∙ of.split in
    subst (λ (xs : List (List ℕ)). AddsLeast a b (IsOnAbove r top (Contains xs))) whole of.adds

-- the names were those of a cluster
pub members-all : (r : PackageList) (members top : List ℕ) (keys a b : List (List ℕ)) → Adds [] keys (IsNameOfCluster r members)
    → AddsLeast a b (IsOnAbove r top (Contains keys)) → AddsLeast a b (IsClusterCut r members top)
members-all r members top keys a b names adds =
    let turn = on-iff r (Contains keys) (IsNameOfCluster r members) (λ n. (
      (λ there. elim ((names n).0 there) [ inl h ↦ absurd (omega (arith, h.1)) | inr h ↦ h ]),
      λ named. (names n).1 (inr named),
    )) in
    least-iff a b (IsOnAbove r top (Contains keys)) (IsClusterCut r members top)
    (λ v. ((λ on. (on.0, (turn v).0 on.1)), λ on. (on.0, (turn v).1 on.1))) adds

-- ---- the classes

-- a text that isn't less than one that isn't less is not less
not-less : (o : Ordering) (v w c : List ℕ) → slice_cmp nat_cmp w c ≡ o → slice_cmp nat_cmp v w ≢ Less → o ≢ Less → slice_cmp nat_cmp v c ≢ Less
not-less Less v w c is first second less = absurd (second refl)
not-less Equal v w c is first second less = first (alike_right nat_list_cmp_total w c v is ∙ less)
not-less Greater v w c is first second less =
    first (nat_list_cmp_total.trans v c w less (nat_list_cmp_total.antisymm c w ∙ ap ordering_reverse is))

-- the cuts of texts, among which each version of a set is in a least text, are those of the set
least-cuts : (Has Got : List ℕ → Type 0) (cuts : List (List ℕ)) → ((v : List ℕ) → Got v → Has v)
    → ((v : List ℕ) → Has v → (w : List ℕ) × Got w × HasLess v w) → AreCuts Got cuts → AreCuts Has cuts
least-cuts Has Got cuts into least are = record {
  rising = are.rising;
  least = all-contained (IsLeastText Has) cuts (λ c there.
      let own = All-contains (IsLeastText Got) cuts c are.least there in (
        into c own.0,
        λ other has equal.
            let stands = least other has in
            let w = stands.0 in
            let less = stands.2 in
            let level : version_cmp w c ≡ Equal = sym (alike-left other w c less.0) ∙ equal in
            not-less (slice_cmp nat_cmp w c) other w c refl less.1 (own.1 w stands.1 level),
      ));
  every = λ text has.
      let stands = least text has in
      let told = are.every stands.0 stands.1 in
      any-more (λ cut. version_cmp stands.0 cut ≡ Equal) (λ cut. version_cmp text cut ≡ Equal)
      (λ cut is. alike-left text stands.0 cut stands.2.0 ∙ is) cuts told;
}

module _ (P : List ℕ → Type 0) (found sorted : List (List ℕ)) (adds : AddsLeast [] found P) (permuted : IsPermutation found sorted) where
  sorted-into : (v : List ℕ) → Contains sorted v → P v
  sorted-into v there = elim (adds.there v (Contains-permutation sorted found v (IsPermutation-sym found sorted permuted) there))
      [ inl h ↦ absurd (omega (arith, h.1)) | inr h ↦ h ]

  sorted-least : (v : List ℕ) → P v → (w : List ℕ) × Contains sorted w × HasLess v w
  sorted-least v has =
      let any = adds.least v has in
      (any.1, Contains-permutation found sorted any.1 permuted (any-there (HasLess v) found any), any.4)

pub cluster-classes : (r : PackageList) (members top : List ℕ) (found sorted : List (List ℕ)) (classes : List Class)
    → AddsLeast [] found (IsClusterCut r members top) → IsPermutation found sorted → IsSorted text_cmp sorted →
    classes ≡ classes_above top (cuts_after top sorted) → AreClassesOf r members top classes
cluster-classes r members top found sorted classes adds permuted up is =
    let Cut = IsClusterCut r members top in
    let Got : List ℕ → Type 0 = λ v. IsBelow top v × Contains sorted v in
    record {
      cuts = cuts_after top sorted;
      are_cuts = least-cuts Cut Got (cuts_after top sorted) (λ v got. sorted-into Cut found sorted adds permuted v got.1)
          (λ v has.
          let stands = sorted-least Cut found sorted adds permuted v has in
          (stands.0, ((sorted-into Cut found sorted adds permuted stands.0 stands.1).0, stands.1), stands.2))
          (cuts-above Got top sorted (ordered-from_sorted sorted up) (λ v. ((λ h. h), λ h. h)));
      rising = cuts-rise top sorted;
      are = is;
    }

pub name-classes : (r : PackageList) (name : List ℕ) (found sorted : List (List ℕ)) (classes : List Class)
    → AddsLeast [] found (IsBoundOn r (λ other. other ≡ name)) → IsPermutation found sorted → IsSorted text_cmp sorted →
    classes ≡ classes_of_all (cuts_of sorted) → AreClassesOfName r name classes
name-classes r name found sorted classes adds permuted up is =
    let Cut = IsNameCut r name in
    record {
      cuts = cuts_of sorted;
      are_cuts = least-cuts Cut (Contains sorted) (cuts_of sorted) (sorted-into Cut found sorted adds permuted)
          (sorted-least Cut found sorted adds permuted)
          (cuts-all (Contains sorted) sorted (ordered-from_sorted sorted up) (λ v. ((λ h. h), λ h. h)));
      are = is;
    }
