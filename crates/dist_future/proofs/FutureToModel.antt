-- A healthy installation of a future meets the demands of the space: which meanings hold in it.
use Rattle.std.proofs.Common.{◌≡◌, ◌≢◌, ◌⊎◌, ℕ, ◌<◌, Bool, true, false, List, [], Option, Some, None, length, refl, sym, ap, subst, ◌∙◌, inl, inr, arith}
use Rattle.std.proofs.Common.{slice_get}
use Rattle.std.specs.Prelude.{All, AllPairs, Any, Contains, IsSomeAnd, filter, slice_index}
use Rattle.std.proofs.lemmas.List.Elements.{All-contains, All-filter, All-map}
use Rattle.std.proofs.lemmas.Option.{same_Some, slice_get_within}
use Rattle.dist_base.specs.ListLaws.{all-contained, any-at, any-contained, at-has, contains-at, element-at, found-at, FoundAt, has-at, here-at, pair-from}
use Rattle.dist_base.specs.ListLaws.{place-of, within-from}
use Rattle.dist_relation.specs.declared.atom.Atom.{Atom}
use Rattle.dist_repo.specs.Conflict.{AreInConflict}
use Rattle.dist_repo.specs.DecidedLaws.{any-decided, IsDecided, text-decided}
use Rattle.dist_repo.specs.Healthy.{IsMet, required_names}
use Rattle.dist_repo.specs.Match.{IsUsable, Matches, MatchesByEntry}
use Rattle.dist_repo.specs.Order.{IsFlat}
use Rattle.dist_repo.specs.PackageList.{IsPackageAnd}
use Rattle.dist_repo.specs.Providers.{IsProvider}
use Rattle.dist_repo.specs.declared.package.Package.{Package}
use Rattle.dist_classes.specs.Atoms.{IsAtomOf, IsDependencyAtom}
use Rattle.dist_classes.specs.ClassList.{IsOfClass, IsOfClassAt}
use Rattle.dist_classes.specs.NewNames.{IsNewName}
use Rattle.dist_classes.specs.NewVersion.{IsNewOf, IsNewVersionOf, IsOfNewName}
use Rattle.dist_future.specs.Future.{IsProvided, IsTaken}
use Rattle.dist_future.specs.Outdated.{IsInstallationOf}
use Rattle.dist_space.specs.Space.{IsMatched, IsMeaning, IsMetBy, IsSpace, SpaceView, cluster_classes, fresh_classes, member_classes}
use Rattle.dist_space_clauses.specs.SpaceClauses.{Excludes, IsBearer}
use Rattle.dist_space.specs.declared.meaning.Meaning.{Meaning}
use Rattle.dist_space.specs.declared.meaning.Meaning.TheVariants.{Now, Present, At, New, Kept, Fresh}
use Rattle.dist_future.proofs.ClassMatch.{ClassLaws, fresh-at, from-fresh, from-kept, from-new, member-at, to-fresh, to-new}
use Rattle.dist_future.proofs.DemandLemmas.{AreMet, IsMetIn}
use Rattle.dist_space.specs.ClusterLaws.{has-cluster, names-apart}
use Rattle.dist_future.proofs.SpaceLemmas.{never-at, one-of-name, fresh-class}
use Rattle.dist_future.proofs.SpaceParts.{conflict-atom, member-of-class, never-taken, other-name}
use Rattle.dist_classes.specs.VersionOrderLaws.{equal-back}

-- ---- conflicts

pub conflict-back : (architecture : Option (List ℕ)) (p q : Package) → AreInConflict architecture p q → AreInConflict architecture q p
conflict-back architecture p q conflict = record {
  different = λ same. conflict.different (sym same.0, equal-back q.version p.version same.1);
  matched = elim conflict.matched [
    | inl h ↦ inr h
    | inr h ↦ inl h
  ];
}

-- no two members of different names are in conflict
pub never-conflict : (architecture : Option (List ℕ)) (members : List Package) (p q : Package) → AllPairs (λ a b. ¬ AreInConflict architecture a b) members
    → Contains members p → Contains members q → p.name ≢ q.name
    → ¬ AreInConflict architecture p q
never-conflict architecture members p q apart first second names =
    pair-from (λ a b. ¬ AreInConflict architecture a b) (λ a b none other. none (conflict-back architecture b a other)) members p q apart first second
    (λ same. names (ap (λ (x : Package). x.name) same))

-- ---- the package of a required name

pub required-package : (essential : Bool) (packages : List Package) (name : List ℕ) → Contains (required_names essential packages) name
    → FoundAt (λ (q : Package). q.name ≡ name) packages
required-package false packages name there = absurd (omega (arith, there.1))
required-package true packages name there =
    let Named : List ℕ → Type 0 = λ x. Any (λ (q : Package). q.name ≡ x) packages in
    let each : All (λ (q : Package). Named q.name) (filter (λ q. q.essential) packages) =
    All-filter (λ (q : Package). q.essential) (λ (q : Package). Named q.name) packages
    (all-contained (λ (q : Package). Named q.name) packages (λ q inside. any-contained (λ (x : Package). x.name ≡ q.name) packages q inside refl)) in
    found-at (λ (q : Package). q.name ≡ name) packages
    (All-contains Named (required_names true packages) name (All-map Named (λ (q : Package). q.name) (filter (λ q. q.essential) packages) each) there)

-- ---- a future as a space sees it

-- what becomes of a cluster: its packages stay, or they move to a class
abbrev pub IsFate : SpaceView → List Package → ℕ → Option ℕ → Type 0
IsFate s future c None = (m : ℕ) (q n : Package) → slice_get s.repository.packages m ≡ Some q → slice_index s.cluster_of m ≡ c → Contains future n
    → n.name ≡ q.name → n ≡ q
IsFate s future c (Some k) =
    (m : ℕ) (q n : Package) → slice_get s.repository.packages m ≡ Some q → slice_index s.cluster_of m ≡ c → Contains future n → n.name ≡ q.name → IsNewOf q n
    × IsOfClassAt (cluster_classes s c) k n.version

-- A future with an installation, the fates of clusters, and whether the archive is that of today.
pub record IsSeen (s : SpaceView) (future members : List Package) (N : Type 0) (fate : ℕ → Option ℕ) : Type 0 where
  pub flat : IsFlat future
  pub healthy : IsInstallationOf s.essential s.repository future members
  pub fates : (c : ℕ) → c < length s.clusters.members → IsFate s future c (fate c)
  pub fresh : (n : Package) → Contains future n → ¬ IsTaken s.repository n.name → IsOfNewName n.name n × (¬ IsProvided s.repository n.name)
  pub now : IsDecided N
  pub now_stays : N → (c : ℕ) → fate c ≡ None
  pub now_taken : N → (n : Package) → Contains future n → IsTaken s.repository n.name

pub option-cases : (o : Option ℕ) → (o ≡ None) ⊎ (k : ℕ) × (o ≡ Some k)
option-cases None = inl refl
option-cases (Some k) = inr (k, refl)

-- a member of a name
abbrev pub IsNamedIn : List Package → List ℕ → Type 0
IsNamedIn members name = Any (λ n. n.name ≡ name) members

module _ (laws : ClassLaws) (s : SpaceView) (space : IsSpace s) (future members : List Package) (N : Type 0) (fate : ℕ → Option ℕ)
    (seen : IsSeen s future members N fate) where
  abbrev in_future : (n : Package) → Contains members n → Contains future n
  in_future n there = All-contains (Contains future) members n seen.healthy.chosen there

  one-member : (n m : Package) → Contains members n → Contains members m → n.name ≡ m.name → n ≡ m
  one-member n m first second same = one-of-name members n m seen.healthy.one_of_a_name first second same

  cluster-of : (r : ℕ) (q : Package) → slice_get s.repository.packages r ≡ Some q → slice_index s.cluster_of r < length s.clusters.members
  cluster-of r q is = (has-cluster s space.frame r (slice_get_within s.repository.packages r q is)).within

  stays-itself : (r : ℕ) (q n : Package) → slice_get s.repository.packages r ≡ Some q → fate (slice_index s.cluster_of r) ≡ None → Contains members n
      → n.name ≡ q.name → n ≡ q
  stays-itself r q n is stays there name =
      let fates : IsFate s future (slice_index s.cluster_of r) None =
      subst (IsFate s future (slice_index s.cluster_of r)) stays (seen.fates (slice_index s.cluster_of r) (cluster-of r q is)) in
      fates r q n is refl (in_future n there) name

  moves-to : (r k : ℕ) (q n : Package) → slice_get s.repository.packages r ≡ Some q → fate (slice_index s.cluster_of r) ≡ Some k → Contains members n
      → n.name ≡ q.name → IsNewOf q n × IsOfClassAt (member_classes s r) k n.version
  moves-to r k q n is moves there name =
      let fates : IsFate s future (slice_index s.cluster_of r) (Some k) =
      subst (IsFate s future (slice_index s.cluster_of r)) moves (seen.fates (slice_index s.cluster_of r) (cluster-of r q is)) in
      fates r q n is refl (in_future n there) name

  -- ---- which entries are kept

  abbrev pub IsFlagsOf : ℕ → List Bool → Type 0
  IsFlagsOf r kept = (k : ℕ) (p n : Package) → slice_get s.repository.packages r ≡ Some p → fate (slice_index s.cluster_of r) ≡ Some k → Contains members n
      → n.name ≡ p.name → IsNewVersionOf p kept n

  pub flags-of : (r : ℕ) → (kept : List Bool) × IsFlagsOf r kept
  flags-of r = by (slice_get s.repository.packages r) refl
    where
      none-moved : ((k : ℕ) → ¬ (fate (slice_index s.cluster_of r) ≡ Some k)) → (kept : List Bool) × IsFlagsOf r kept
      none-moved never = ([], λ k p n at moves there name. absurd (never k moves))

      by-name : (q : Package) → slice_get s.repository.packages r ≡ Some q → (k : ℕ) → fate (slice_index s.cluster_of r) ≡ Some k → IsNamedIn members q.name
          → (kept : List Bool) × IsFlagsOf r kept
      by-name q is k moves named =
          let n : Package = named.1 in
          let there : Contains members n = (named.0, named.2, named.3) in
          let new = (moves-to r k q n is moves there named.4).0 in (
            new.0,
            λ l p m at also other name.
                let same_package : q ≡ p = cc in
                let same_member : n ≡ m = one-member n m there other (named.4 ∙ ap (λ (x : Package). x.name) same_package ∙ sym name) in
                subst (λ (x : Package). IsNewVersionOf x new.0 m) same_package (subst (λ (x : Package). IsNewVersionOf q new.0 x) same_member new.1),
          )

      by-fate : (q : Package) → slice_get s.repository.packages r ≡ Some q → (k : ℕ) → fate (slice_index s.cluster_of r) ≡ Some k → (kept : List Bool)
          × IsFlagsOf r kept
      by-fate q is k moves = elim (any-decided (λ (n : Package). n.name ≡ q.name) (λ n. text-decided n.name q.name) members) [
        | inl named ↦ by-name q is k moves named
        | inr none ↦ (
          [],
          λ l p n at also there name. absurd (none
              (any-contained (λ (x : Package). x.name ≡ q.name) members n there (let same : q ≡ p = cc in name ∙ ap (λ (x : Package). x.name) (sym same)))),
        )
      ]

      by : (o : Option Package) → slice_get s.repository.packages r ≡ o → (kept : List Bool) × IsFlagsOf r kept
      by None is = ([], λ k p n at moves there name. absurd (let no : None ≡ Some p = sym is ∙ at in cc))
      by (Some q) is = elim (option-cases (fate (slice_index s.cluster_of r))) [
        | inl stays ↦ none-moved (λ k moves. let no : None ≡ Some k = sym stays ∙ moves in cc)
        | inr to ↦ by-fate q is to.0 to.1
      ]

  abbrev pub kept_of : ℕ → List Bool
  kept_of r = (flags-of r).0

  -- ---- which meanings hold

  abbrev pub IsNamedMember : ℕ → Type 0
  IsNamedMember r = IsPackageAnd s.repository.packages r (λ p. IsNamedIn members p.name)

  abbrev pub IsFreshMember : ℕ → ℕ → List ℕ → Package → Type 0
  IsFreshMember x k name n = (n.name ≡ name) × IsOfClassAt (fresh_classes s x) k n.version

  abbrev pub Holds : Meaning → Type 0
  Holds Now = N
  Holds (Present r) = IsPackageAnd s.repository.packages r (λ p. Contains members p)
  Holds (At c k) = fate c ≡ Some k
  Holds (New r k) = (fate (slice_index s.cluster_of r) ≡ Some k) × IsNamedMember r
  Holds (Kept r k j) = (fate (slice_index s.cluster_of r) ≡ Some k) × IsNamedMember r × (slice_get (kept_of r) j ≡ Some true)
  Holds (Fresh x k) = IsSomeAnd (slice_get s.names x) (λ name. Any (IsFreshMember x k name) members)

  -- the package of a member that holds, as it is today
  present-at : (r : ℕ) (p : Package) → slice_get s.repository.packages r ≡ Some p → Holds (Present r) → Contains members p
  present-at r p is holds = has-at (λ q. Contains members q) s.repository.packages r p is holds

  -- the member of the name of a package
  pub record NamedMember (q : Package) : Type 0 where
    pub n : Package
    pub there : Contains members n
    pub name : n.name ≡ q.name

  named-at : (r : ℕ) (q : Package) → slice_get s.repository.packages r ≡ Some q → IsNamedMember r → NamedMember q
  named-at r q is named =
      let any : IsNamedIn members q.name = has-at (λ (p : Package). IsNamedIn members p.name) s.repository.packages r q is named in
      record { n = any.1; there = (any.0, any.2, any.3); name = any.4 }

  name-of-member : (r : ℕ) (q n : Package) → slice_get s.repository.packages r ≡ Some q → Contains members n → n.name ≡ q.name → IsNamedMember r
  name-of-member r q n is there name = at-has (λ (p : Package). IsNamedIn members p.name) s.repository.packages r q is
      (any-contained (λ (m : Package). m.name ≡ q.name) members n there name)

  -- a number of a class that some version has
  short-of : (r k : ℕ) (v : List ℕ) → IsOfClassAt (member_classes s r) k v → k < length (member_classes s r)
  short-of r k v at = within-from (λ class. IsOfClass class v) (member_classes s r) k at

  -- ---- a member that an atom matches is one of a meaning that does

  abbrev IsFound : Atom → Type 0
  IsFound atom = IsMetIn s Holds (IsMatched s atom)

  old-found : (atom : Atom) (r : ℕ) (q n : Package) → slice_get s.repository.packages r ≡ Some q → n ≡ q → Contains members n
      → Matches s.repository.architecture atom n → IsFound atom
  old-found atom r q n is same there matches = record {
    meaning = Present r;
    is_meaning = slice_get_within s.repository.packages r q is;
    holds = at-has (λ p. Contains members p) s.repository.packages r q is (subst (λ (x : Package). Contains members x) same there);
    has = (
      matches.usable,
      at-has (Matches s.repository.architecture atom) s.repository.packages r q is
          (subst (λ (x : Package). Matches s.repository.architecture atom x) same matches),
    );
  }

  new-found : (atom : Atom) → IsAtomOf s.repository atom → (r k : ℕ) (q n : Package) → slice_get s.repository.packages r ≡ Some q
      → fate (slice_index s.cluster_of r) ≡ Some k → Contains members n → n.name ≡ q.name
      → Matches s.repository.architecture atom n → IsFound atom
  new-found atom of r k q n is moves there name matches =
      let class = (moves-to r k q n is moves there name).1 in
      let short = short-of r k n.version class in
      let within = slice_get_within s.repository.packages r q is in
      let member = member-at laws s space.frame r k q (has-cluster s space.frame r within) is short in
      let named = name-of-member r q n is there name in
      elim (to-new s r k q member atom of n (kept_of r) ((flags-of r).1 k q n is moves there name) class matches) [
        | inl by_name ↦ record { meaning = New r k; is_meaning = (within, short); holds = (moves, named); has = by_name }
        | inr by_entry ↦ record { meaning = Kept r k by_entry.0; is_meaning = by_entry.1.1; holds = (moves, named, by_entry.1.0); has = by_entry.1.2 }
      ]

  -- the number of a name that no package has, and that a dependency names
  fresh-found : (atom : Atom) → IsUsable s.repository.architecture atom.qualifier → IsDependencyAtom s.repository.packages atom → (n : Package)
      → Contains members n → ¬ IsTaken s.repository n.name
      → Matches s.repository.architecture atom n → IsFound atom
  fresh-found atom usable there n inside untaken matches =
      let new = seen.fresh n (in_future n inside) untaken in
      let named : atom.name ≡ n.name = elim matches.matched [
        | inl by_name ↦ sym by_name.name
        | inr any ↦ absurd (let entry = subst (λ (xs : List _). Any (λ e. MatchesByEntry s.repository.architecture atom e) xs) new.0.provides any in
            omega (arith, entry.2))
      ] in
      let is_new : IsNewName s.repository n.name = record {
        atom = atom;
        usable = usable;
        there = there;
        named = named;
        unprovided = unprovided untaken new.1;
      } in
      let at = place-of s.names n.name ((space.frame.names.exact n.name).1 is_new) in
      let class = fresh-class laws s space.frame at.place n.version (slice_get_within s.names at.place n.name at.is) in
      let short = within-from (λ c. IsOfClass c n.version) (fresh_classes s at.place) class.number class.holds in
      record {
        meaning = Fresh at.place class.number;
        is_meaning = short;
        holds = at-has (λ (name : List ℕ). Any (IsFreshMember at.place class.number name) members) s.names at.place n.name at.is
            (any-contained (IsFreshMember at.place class.number n.name) members n inside (refl, class.holds));
        has = to-fresh s at.place class.number n.name (fresh-at laws s space.frame at.place class.number n.name at.is short) atom
            (record { usable = usable; there = inl there }) n new.0 class.holds matches;
      }
    where
      unprovided : ¬ IsTaken s.repository n.name → ¬ IsProvided s.repository n.name
          → ¬ Any (λ p. IsProvider s.repository.architecture n.name p) s.repository.packages
      unprovided first second any = elim any.4 [
        | inl name ↦ first (any.0, any.1, any.2, any.3, name)
        | inr entry ↦ second (any.0, any.1, any.2, any.3, entry)
      ]

  member-found : (atom : Atom) → IsUsable s.repository.architecture atom.qualifier → IsDependencyAtom s.repository.packages atom → (n : Package)
      → Contains members n → Matches s.repository.architecture atom n → IsFound atom
  member-found atom usable there n inside matches =
      elim (any-decided (λ (q : Package). q.name ≡ n.name) (λ q. text-decided q.name n.name) s.repository.packages) [
        | inr untaken ↦ fresh-found atom usable there n inside untaken matches
        | inl taken ↦
            let at = found-at (λ (q : Package). q.name ≡ n.name) s.repository.packages taken in
            elim (option-cases (fate (slice_index s.cluster_of at.place))) [
              | inl stays ↦ old-found atom at.place at.element n at.is (stays-itself at.place at.element n at.is stays inside (sym at.holds)) inside matches
              | inr to ↦ new-found atom (record { usable = usable; there = inl there }) at.place to.0 at.element n at.is to.1 inside (sym at.holds) matches
            ]
      ]

  -- ---- packages of new names

  record FreshMember (x k : ℕ) : Type 0 where
    name : List ℕ
    is : slice_get s.names x ≡ Some name
    n : Package
    there : Contains members n
    name_is : n.name ≡ name
    class : IsOfClassAt (fresh_classes s x) k n.version

  fresh-member : (x k : ℕ) → Holds (Fresh x k) → FreshMember x k
  fresh-member x k holds =
      let at = here-at (λ (name : List ℕ). Any (IsFreshMember x k name) members) s.names x holds in
      let any : Any (IsFreshMember x k at.element) members = at.holds in
      record { name = at.element; is = at.is; n = any.1; there = (any.0, any.2, any.3); name_is = any.4.0; class = any.4.1 }

  fresh-new : (x : ℕ) (name : List ℕ) (n : Package) → slice_get s.names x ≡ Some name → Contains members n → n.name ≡ name → IsOfNewName name n
  fresh-new x name n is there same =
      subst (λ (y : List ℕ). IsOfNewName y n) same (seen.fresh n (in_future n there)
      (λ taken. never-taken s space x name is (subst (λ (y : List ℕ). IsTaken s.repository y) same taken))).0

  -- ---- conflicts

  rejects : (p n : Package) (place : ℕ) (atom : Atom) → Contains members p → Contains members n → p.name ≢ n.name → slice_get p.conflicts place ≡ Some atom
      → Matches s.repository.architecture atom n → ⊥
  rejects p n place atom first second names is matches =
      never-conflict s.repository.architecture members p n seen.healthy.no_conflict first second names
      (record { different = λ same. names same.0; matched = inl (any-at (λ a. Matches s.repository.architecture a n) p.conflicts place atom is matches) })

  rejects-new : (r o k : ℕ) (p q : Package) → slice_get s.repository.packages r ≡ Some p → slice_get s.repository.packages o ≡ Some q
      → k < length (member_classes s o) → q.name ≢ p.name → Contains members p
      → fate (slice_index s.cluster_of o) ≡ Some k → IsNamedMember o → (place : ℕ) (atom : Atom) → slice_get p.conflicts place ≡ Some atom
      → IsUsable s.repository.architecture atom.qualifier
      → ((n : Package) → IsNewVersionOf q (kept_of o) n → IsOfClassAt (member_classes s o) k n.version → Matches s.repository.architecture atom n) → ⊥
  rejects-new r o k p q is_p is_q short names there moves named place atom is usable matches =
      let m = named-at o q is_q named in
      let new = (flags-of o).1 k q m.n is_q moves m.there m.name in
      let class = (moves-to o k q m.n is_q moves m.there m.name).1 in
      rejects p m.n place atom there m.there (λ same. names (sym (same ∙ m.name))) is (matches m.n new class)

  apart-from : (r : ℕ) (p : Package) (m : Meaning) → slice_get s.repository.packages r ≡ Some p → IsMeaning s m → Excludes s r p m → Holds (Present r) → Holds m
      → ⊥
  apart-from r p Now is is_meaning excludes present holds = excludes.0
  apart-from r p (At c k) is is_meaning excludes present holds = excludes.0
  apart-from r p (Present o) is is_meaning excludes present holds =
      let q = here-at (AreInConflict s.repository.architecture p) s.repository.packages o excludes.1 in
      never-conflict s.repository.architecture members p q.element seen.healthy.no_conflict (present-at r p is present) (present-at o q.element q.is holds)
      (λ same. let one = names-apart s.repository.packages r o p q.element space.frame.flat is q.is same in omega (arith, excludes.0, one)) q.holds
  apart-from r p (New o k) is is_meaning excludes present holds =
      let q = element-at s.repository.packages o is_meaning.0 in
      let at = found-at (λ atom. IsMatched s atom (New o k)) p.conflicts excludes.1 in
      let of = conflict-atom s r p at.place at.element is at.is at.holds.0 in
      rejects-new r o k p q.element is q.is is_meaning.1 (other-name s o q.element p.name q.is excludes.0) (present-at r p is present) holds.0 holds.1 at.place
      at.element at.is at.holds.0
      (λ n new class. from-new s o k q.element (member-of-class laws s space o k q.element q.is is_meaning.1) at.element of n (kept_of o) new class at.holds)
  apart-from r p (Kept o k j) is is_meaning excludes present holds =
      let q = element-at s.repository.packages o (within-from
      (λ (x : Package). IsSomeAnd (slice_get x.provides j) (λ entry. IsUsable s.repository.architecture entry.qualifier)) s.repository.packages o
      is_meaning.0) in
      let at = found-at (λ atom. IsMatched s atom (Kept o k j)) p.conflicts excludes.1 in
      let of = conflict-atom s r p at.place at.element is at.is at.holds.0 in
      rejects-new r o k p q.element is q.is is_meaning.1 (other-name s o q.element p.name q.is excludes.0) (present-at r p is present) holds.0 holds.1 at.place
      at.element at.is at.holds.0
      (λ n new class. from-kept s o k q.element (member-of-class laws s space o k q.element q.is is_meaning.1) at.element of n (kept_of o) j new class holds.2
      at.holds)
  apart-from r p (Fresh x k) is is_meaning excludes present holds =
      let m = fresh-member x k holds in
      let at = found-at (λ atom. IsMatched s atom (Fresh x k)) p.conflicts excludes.1 in
      let of = conflict-atom s r p at.place at.element is at.is at.holds.0 in
      let names : m.name ≢ p.name = has-at (λ (n : List ℕ). n ≢ p.name) s.names x m.name m.is excludes.0 in
      rejects p m.n at.place at.element (present-at r p is present) m.there (λ same. names (sym (same ∙ m.name_is))) at.is
      (from-fresh s x k m.name (fresh-at laws s space.frame x k m.name m.is is_meaning) at.element of m.n (fresh-new x m.name m.n m.is m.there m.name_is)
      m.class at.holds)

  -- ---- the demands

  one-fresh : (x k l : ℕ) → k < l → l < length (fresh_classes s x) → Holds (Fresh x k) → Holds (Fresh x l) → ⊥
  one-fresh x k l less short first second =
      let a = fresh-member x k first in
      let b = fresh-member x l second in
      let name : a.name ≡ b.name = let p = a.is in let q = b.is in cc in
      let same : a.n ≡ b.n = one-member a.n b.n a.there b.there (a.name_is ∙ name ∙ sym b.name_is) in
      let one = fresh-class laws s space.frame x b.n.version (slice_get_within s.names x b.name b.is) in
      let k_is = one.alone k (subst (λ (n : Package). IsOfClassAt (fresh_classes s x) k n.version) same a.class) in
      let l_is = one.alone l b.class in
      omega (arith, less, k_is, l_is)

  gone : (r k : ℕ) → IsMeaning s (New r k) → Holds (Present r) → Holds (At (slice_index s.cluster_of r) k) → ⊥
  gone r k is_meaning present moves =
      let p = element-at s.repository.packages r is_meaning.0 in
      never-at laws s space.frame r k p.element p.is (moves-to r k p.element p.element p.is moves (present-at r p.element p.is present) refl).1

  met-item : (r place : ℕ) (p : Package) (item : List Atom) → slice_get s.repository.packages r ≡ Some p → slice_get p.depends place ≡ Some item
      → Holds (Present r) → IsMetIn s Holds (IsMetBy s item)
  met-item r place p item is is_item present =
      let Met : List Atom → Type 0 = IsMet s.repository.architecture members in
      let items : All Met p.depends = All-contains (λ (q : Package). All Met q.depends) members p seen.healthy.met (present-at r p is present) in
      let any : Met item = All-contains Met p.depends item items (contains-at p.depends place item is_item) in
      let at = found-at (λ atom. Any (Matches s.repository.architecture atom) members) item any in
      let n : Package = at.holds.1 in
      let inside : Contains members n = (at.holds.0, at.holds.2, at.holds.3) in
      let matches : Matches s.repository.architecture at.element n = at.holds.4 in
      let dependency : IsDependencyAtom s.repository.packages at.element =
      any-at (λ (q : Package). Any (λ i. Contains i at.element) q.depends) s.repository.packages r p is
      (any-at (λ i. Contains i at.element) p.depends place item is_item (contains-at item at.place at.element at.is)) in
      let found = member-found at.element matches.usable dependency n inside matches in
      record {
        meaning = found.meaning;
        is_meaning = found.is_meaning;
        holds = found.holds;
        has = any-at (λ atom. IsMatched s atom found.meaning) item at.place at.element at.is found.has;
      }

  bearer : (name : List ℕ) → Contains (required_names s.essential s.repository.packages) name → IsMetIn s Holds (IsBearer s name)
  bearer name there =
      let any : Any (λ (q : Package). q.name ≡ name) members =
      All-contains (λ (x : List ℕ). Any (λ (q : Package). q.name ≡ x) members) (required_names s.essential s.repository.packages) name
      seen.healthy.has_required there in
      let n : Package = any.1 in
      let inside : Contains members n = (any.0, any.2, any.3) in
      let at = required-package s.essential s.repository.packages name there in
      let same : n.name ≡ at.element.name = any.4 ∙ sym at.holds in
      let within = slice_get_within s.repository.packages at.place at.element at.is in
      let is_bearer = at-has (λ (p : Package). p.name ≡ name) s.repository.packages at.place at.element at.is at.holds in
      elim (option-cases (fate (slice_index s.cluster_of at.place))) [
        | inl stays ↦ record {
          meaning = Present at.place;
          is_meaning = within;
          holds = at-has (λ (p : Package). Contains members p) s.repository.packages at.place at.element at.is
              (subst (λ (x : Package). Contains members x) (stays-itself at.place at.element n at.is stays inside same) inside);
          has = is_bearer;
        }
        | inr to ↦ record {
          meaning = New at.place to.0;
          is_meaning = (within, short-of at.place to.0 n.version (moves-to at.place to.0 at.element n at.is to.1 inside same).1);
          holds = (to.1, name-of-member at.place at.element n at.is inside same);
          has = is_bearer;
        }
      ]

  pub met-by-future : AreMet s Holds
  met-by-future = record {
    future = record {
      one_class = λ c k l less short first second. let same : k ≡ l = same_Some k l (sym first ∙ second) in omega (arith, less, same);
      gone = gone;
      moved = λ r k is_meaning holds. holds.0;
      carried = λ r k j is_meaning holds. (holds.0, holds.1);
      one_fresh = one-fresh;
      stays = λ c k is_meaning now moves. let no : None ≡ Some k = sym (seen.now_stays now c) ∙ moves in cc;
      absent = λ x k is_meaning now holds. let m = fresh-member x k holds in
          never-taken s space x m.name m.is (subst (λ (name : List ℕ). IsTaken s.repository name) m.name_is (seen.now_taken now m.n (in_future m.n m.there)));
    };
    met = met-item;
    apart = apart-from;
    required = bearer;
  }
