-- What new versions of a member match, and what packages of a new name do: at versions of one class, the same atoms.
use Rattle.std.proofs.Common.{◌≡◌, ◌⊎◌, ◌↔◌, ℕ, zero, suc, Bool, true, false, List, [], ◌∷◌, Option, Some, None, Ordering, Less, Equal, Greater, refl, sym}
use Rattle.std.proofs.Common.{subst, ◌∙◌, inl, inr, arith, slice_get}
use Rattle.std.specs.Prelude.{Any, Contains, IfSome, IsSomeAnd}
use Rattle.dist_version.specs.Order.{version_cmp, IsBelow}
use Rattle.dist_relation.specs.Satisfies.{AllowsOrder, Satisfies}
use Rattle.dist_relation.specs.declared.atom.Atom.{Atom}
use Rattle.dist_relation.specs.declared.atom.Bound.{Bound}
use Rattle.dist_relation.specs.declared.atom.Provide.{Provide}
use Rattle.dist_relation.specs.declared.atom.Qualifier.{Qualifier}
use Rattle.dist_repo.specs.Match.{IsUsable, Matches, MatchesByEntry, MatchesByName}
use Rattle.dist_repo.specs.PackageList.{PackageList}
use Rattle.dist_repo.specs.declared.package.Package.{Package}
use Rattle.dist_classes.specs.Atoms.{IsAtomOf, IsBoundOn}
use Rattle.dist_classes.specs.ClassList.{classes_above, classes_of_all, AreInOneClass}
use Rattle.dist_classes.specs.Cuts.{AreCuts, IsClusterCut, IsNameCut, IsNameOfCluster, RisesFrom}
use Rattle.dist_classes.specs.NewVersion.{AreCarried, IsAt, IsCarried, IsMovedName, IsNewVersionOf, IsOfNewName}
use Rattle.dist_classes.proofs.ClassLemmas.{IsTold, same-side, same-side_of_all}
use Rattle.dist_classes.specs.VersionOrderLaws.{alike-left, cases-order, less-not_equal}

some-of : {X : Type 0} (P : X → Type 0) (o : Option X) → IsSomeAnd o P → (x : X) × (o ≡ Some x) × P x
some-of P None h = absurd h
some-of P (Some x) h = (x, refl, h)

some-at : {X : Type 0} (P : X → Type 0) (o : Option X) (x : X) → o ≡ Some x → P x → IsSomeAnd o P
some-at {X} P o x is h = let Here : Option X → Type 0 = λ w. IsSomeAnd w P in subst Here (sym is) h

-- the versions of the atom's bound compare alike with both
abbrev AreAlike : Atom → List ℕ → List ℕ → Type 0
AreAlike atom v w = (bound : Bound) → atom.bound ≡ Some bound → version_cmp v bound.version ≡ version_cmp w bound.version

-- ---- bounds

satisfies-same : (v w : List ℕ) (bound : Bound) → version_cmp v bound.version ≡ version_cmp w bound.version → Satisfies v bound → Satisfies w bound
satisfies-same v w bound same met = let P : Ordering → Type 0 = AllowsOrder bound.op in subst P same met

meets-same : (o : Option Bound) (v w : List ℕ) → ((bound : Bound) → o ≡ Some bound → version_cmp v bound.version ≡ version_cmp w bound.version)
    → IfSome o (λ bound. Satisfies v bound) → IfSome o (λ bound. Satisfies w bound)
meets-same None v w alike met = tt
meets-same (Some bound) v w alike met = satisfies-same v w bound (alike bound refl) met

by-name : (atom : Atom) (first second : Package) → first.name ≡ second.name → AreAlike atom first.version second.version → MatchesByName atom first
    → MatchesByName atom second
by-name atom first second same alike h = record {
  name = sym same ∙ h.name;
  bound = meets-same atom.bound first.version second.version alike h.bound;
}

-- ---- entries of Provides

at-cases : (version : Option (List ℕ)) (old : List ℕ) → IsSomeAnd version (λ v. version_cmp v old ≡ Equal)
    ⊎ ¬ IsSomeAnd version (λ v. version_cmp v old ≡ Equal)
at-cases None old = inr (λ h. h)
at-cases (Some v) old = elim (cases-order (version_cmp v old)) [
  | inl less ↦ inr (λ equal. less-not_equal v old less equal)
  | inr rest ↦ elim rest [
    | inl equal ↦ inl equal
    | inr greater ↦ inr (λ equal. let no : Greater ≡ Equal = sym greater ∙ equal in cc)
  ]
]

-- carried entries have versions that are equal to those of their packages
moved-meets : (o : Option Bound) (v w : List ℕ) (first second : Option (List ℕ))
    → ((bound : Bound) → o ≡ Some bound → version_cmp v bound.version ≡ version_cmp w bound.version) →
    IsSomeAnd first (λ x. version_cmp x v ≡ Equal) → IsSomeAnd second (λ x. version_cmp x w ≡ Equal) →
    IfSome o (λ bound. IsSomeAnd first (λ x. Satisfies x bound)) → IfSome o (λ bound. IsSomeAnd second (λ x. Satisfies x bound))
moved-meets None v w first second alike at_first at_second met = tt
moved-meets (Some bound) v w None second alike at_first at_second met = absurd at_first
moved-meets (Some bound) v w (Some x) None alike at_first at_second met = absurd at_second
moved-meets (Some bound) v w (Some x) (Some y) alike at_first at_second met =
    satisfies-same x y bound (alike-left x v bound.version at_first ∙ alike bound refl ∙ sym (alike-left y w bound.version at_second)) met

module _ (architecture : Option (List ℕ)) (atom : Atom) (old v w : List ℕ) where
  -- an entry that moves and has the atom's name has bounds that compare alike
  abbrev IsFair : Provide → Type 0
  IsFair entry = IsUsable architecture entry.qualifier → IsAt entry old → entry.name ≡ atom.name → AreAlike atom v w

  carried-one : (entry first second : Provide) → IsFair entry → IsCarried old v entry first → IsCarried old w entry second
      → MatchesByEntry architecture atom first → MatchesByEntry architecture atom second
  carried-one entry first second fair one other h =
      let Usable : Qualifier → Type 0 = λ q. IsUsable architecture q in
      let own_usable : IsUsable architecture entry.qualifier = subst Usable one.qualifier h.usable in
      let own_name : entry.name ≡ atom.name = sym one.name ∙ h.name in
      record {
        usable = subst Usable (sym other.qualifier) own_usable;
        name = other.name ∙ own_name;
        bound = elim (at-cases entry.version old) [
          | inl at ↦ moved-meets atom.bound v w first.version second.version (fair own_usable at own_name) (one.moved at) (other.moved at) h.bound
          | inr not_at ↦
              let P : Option (List ℕ) → Type 0 = λ version. IfSome atom.bound (λ bound. IsSomeAnd version (λ x. Satisfies x bound)) in
              subst P (one.stays not_at ∙ sym (other.stays not_at)) h.bound
        ];
      }

  abbrev HasMatch : List Provide → Type 0
  HasMatch entries = Any (λ entry. MatchesByEntry architecture atom entry) entries

  match-first : (entry : Provide) (entries : List Provide) → MatchesByEntry architecture atom entry → HasMatch (entry ∷ entries)
  match-first entry entries h = (0, entry, omega arith, refl, h)

  match-later : (entry : Provide) (entries : List Provide) → HasMatch entries → HasMatch (entry ∷ entries)
  match-later entry entries h = (suc h.0, h.1, omega (arith, h.2), h.3, h.4)

  match-cases : (entry : Provide) (entries : List Provide) → HasMatch (entry ∷ entries) → MatchesByEntry architecture atom entry ⊎ HasMatch entries
  match-cases entry entries (zero, x, short, is, h) = let P : Provide → Type 0 = λ e. MatchesByEntry architecture atom e in inl (subst P (sym is) h)
  match-cases entry entries (suc k, x, short, is, h) = inr (k, x, omega arith, is, h)

  fair-tail : (entry : Provide) (entries : List Provide) → ((e : Provide) → Contains (entry ∷ entries) e → IsFair e) → (e : Provide) → Contains entries e
      → IsFair e
  fair-tail entry entries fair e there = fair e (suc there.0, omega (arith, there.1), there.2)

  pub carried-match : (kept : List Bool) (entries first second : List Provide) → ((e : Provide) → Contains entries e → IsFair e) →
      AreCarried old v kept entries first → AreCarried old w kept entries second → HasMatch first → HasMatch second
  carried-match [] [] first second fair one other h = absurd (let there = subst HasMatch one h in omega (arith, there.2))
  carried-match [] (entry ∷ entries) first second fair one other h = absurd one
  carried-match (true ∷ kept) [] first second fair one other h = absurd one
  carried-match (false ∷ kept) [] first second fair one other h = absurd one
  carried-match (false ∷ kept) (entry ∷ entries) first second fair one other h =
      carried-match kept entries first second (fair-tail entry entries fair) one other h
  carried-match (true ∷ kept) (entry ∷ entries) first second fair one other h =
      subst HasMatch (sym other.2) (elim (match-cases one.0 one.1 (subst HasMatch one.2 h)) [
        | inl here ↦ match-first other.0 other.1 (carried-one entry one.0 other.0 (fair entry (0, omega arith, refl)) one.3 other.3 here)
        | inr later ↦ match-later other.0 other.1 (carried-match kept entries one.1 other.1 (fair-tail entry entries fair) one.4 other.4 later)
      ])

-- ---- a member of a cluster

rises-above : (r : PackageList) (members top : List ℕ) (cuts : List (List ℕ)) → AreCuts (IsClusterCut r members top) cuts → RisesFrom top cuts
rises-above r members top [] are = tt
rises-above r members top (cut ∷ cuts) are = ((are.least 0 cut (omega arith)).0.0, are.rising)

module _ (r : PackageList) (members top : List ℕ) (cuts : List (List ℕ)) (are : AreCuts (IsClusterCut r members top) cuts)
    (number : ℕ) (p : Package) (there : Contains members number) (at : slice_get r.packages number ≡ Some p)
    (v w : List ℕ) (one : AreInOneClass (classes_above top cuts) v w) (atom : Atom) (is : IsAtomOf r atom) where
  moved-alike : IsMovedName r.architecture p atom.name → AreAlike atom v w
  moved-alike moved bound bound_is =
      let allowed : IsNameOfCluster r members atom.name = (
        there.0,
        number,
        there.1,
        there.2,
        some-at (λ (q : Package). IsMovedName r.architecture q atom.name) (slice_get r.packages number) p at moved,
      ) in
      let b = bound.version in
      let named : IsBoundOn r (IsNameOfCluster r members) b =
      record { atom = atom; is_atom = is; allowed = allowed; bound = some-at (λ (x : Bound). x.version ≡ b) atom.bound bound bound_is refl } in
      let told : (¬ IsBelow top b) ⊎ IsTold cuts b = elim (cases-order (version_cmp top b)) [
        | inl less ↦ inr (are.every b (less, named))
        | inr rest ↦ elim rest [
          | inl equal ↦ inl (λ less. less-not_equal top b less equal)
          | inr greater ↦ inl (λ less. let no : Greater ≡ Less = sym greater ∙ less in cc)
        ]
      ] in
      same-side top cuts (rises-above r members top cuts are) b v w told one.number one.first one.second

one-way : (r : PackageList) (members top : List ℕ) (cuts : List (List ℕ)) → AreCuts (IsClusterCut r members top) cuts →
    (number : ℕ) (p : Package) → Contains members number → slice_get r.packages number ≡ Some p →
    (kept : List Bool) (first second : Package) → IsNewVersionOf p kept first → IsNewVersionOf p kept second →
    AreInOneClass (classes_above top cuts) first.version second.version →
    (atom : Atom) → IsAtomOf r atom → Matches r.architecture atom first → Matches r.architecture atom second
one-way r members top cuts are number p there at kept first second a b one atom is h =
    let alike = moved-alike r members top cuts are number p there at first.version second.version one atom is in
    record {
      usable = h.usable;
      matched = elim h.matched [
        | inl by ↦ inl (by-name atom first second (a.name ∙ sym b.name) (alike (inl (sym a.name ∙ by.name))) by)
        | inr any ↦ inr (carried-match r.architecture atom p.version first.version second.version kept p.provides first.provides second.provides
            (λ entry inside usable at_old name. alike (inr (inside.0, entry, inside.1, inside.2, ((usable, at_old), name)))) a.provides b.provides any)
      ];
    }

in-one-back : (r : PackageList) (members top : List ℕ) (cuts : List (List ℕ)) (v w : List ℕ) → AreInOneClass (classes_above top cuts) v w
    → AreInOneClass (classes_above top cuts) w v
in-one-back r members top cuts v w one = record { number = one.number; first = one.second; second = one.first }

pub members-alike : (r : PackageList) (members top : List ℕ) (cuts : List (List ℕ)) → AreCuts (IsClusterCut r members top) cuts →
    (number : ℕ) (p : Package) → Contains members number → slice_get r.packages number ≡ Some p →
    (kept : List Bool) (first second : Package) → IsNewVersionOf p kept first → IsNewVersionOf p kept second →
    AreInOneClass (classes_above top cuts) first.version second.version →
    (atom : Atom) → IsAtomOf r atom → Matches r.architecture atom first ↔ Matches r.architecture atom second
members-alike r members top cuts are number p there at kept first second a b one atom is = (
  one-way r members top cuts are number p there at kept first second a b one atom is,
  one-way r members top cuts are number p there at kept second first b a (in-one-back r members top cuts first.version second.version one) atom is,
)

-- ---- packages of a new name

names-one-way : (r : PackageList) (name : List ℕ) (cuts : List (List ℕ)) → AreCuts (IsNameCut r name) cuts →
    (first second : Package) → IsOfNewName name first → IsOfNewName name second →
    AreInOneClass (classes_of_all cuts) first.version second.version →
    (atom : Atom) → IsAtomOf r atom → Matches r.architecture atom first → Matches r.architecture atom second
names-one-way r name cuts are first second a b one atom is h = record {
  usable = h.usable;
  matched = elim h.matched [
    | inl by ↦
        let named : atom.name ≡ name = sym by.name ∙ a.name in
        let alike : AreAlike atom first.version second.version = λ bound bound_is.
        let is_cut : IsNameCut r name bound.version = record {
          atom = atom;
          is_atom = is;
          allowed = named;
          bound = some-at (λ (x : Bound). x.version ≡ bound.version) atom.bound bound bound_is refl;
        } in
        same-side_of_all cuts are.rising bound.version first.version second.version (are.every bound.version is_cut) one.number one.first one.second in
        inl (by-name atom first second (a.name ∙ sym b.name) alike by)
    | inr any ↦ absurd (let P : List Provide → Type 0 = λ entries. Any (λ entry. MatchesByEntry r.architecture atom entry) entries in
        let none = subst P a.provides any in omega (arith, none.2))
  ];
}

pub names-alike : (r : PackageList) (name : List ℕ) (cuts : List (List ℕ)) → AreCuts (IsNameCut r name) cuts →
    (first second : Package) → IsOfNewName name first → IsOfNewName name second →
    AreInOneClass (classes_of_all cuts) first.version second.version →
    (atom : Atom) → IsAtomOf r atom → Matches r.architecture atom first ↔ Matches r.architecture atom second
names-alike r name cuts are first second a b one atom is = (
  names-one-way r name cuts are first second a b one atom is,
  names-one-way r name cuts are second first b a (record { number = one.number; first = one.second; second = one.first }) atom is,
)
