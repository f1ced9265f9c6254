-- Each cluster and each new name has its classes, and each repository has its new names: the atoms are gone through, and no memory is
-- asked for.
use Rattle.std.proofs.Common.{◌≡◌, ◌⊎◌, ℕ, List, [], ◌∷◌, Option, None, Some, Equal, refl, ap, subst, inl, inr, arith, nat_cmp, slice_get}
use Rattle.std.specs.Prelude.{Any, IsSomeAnd}
use Rattle.std.specs.Cmp.Lexicographic.{slice_cmp}
use Rattle.std.specs.Ordering.{is_gt}
use Rattle.std.proofs.lemmas.Cmp.{nat_list_cmp_total}
use Rattle.dist_version.specs.Order.{version_cmp}
use Rattle.dist_relation.specs.declared.atom.Atom.{Atom}
use Rattle.dist_relation.specs.declared.atom.Bound.{Bound}
use Rattle.dist_relation.specs.declared.atom.Provide.{Provide}
use Rattle.dist_repo.specs.DecidedLaws.{any-decided, both-decided, either-decided, equal-decided, IsDecided, some-decided, text-decided, usable-decided}
use Rattle.dist_repo.specs.Match.{IsUsable}
use Rattle.dist_repo.specs.PackageList.{PackageList, IsPackageAnd}
use Rattle.dist_repo.specs.Providers.{IsEntryOf, IsProvider}
use Rattle.dist_repo.specs.declared.package.Package.{Package}
use Rattle.dist_classes.specs.Answers.{AreClassesOf, AreClassesOfName}
use Rattle.dist_classes.specs.Atoms.{IsBoundOn}
use Rattle.dist_classes.specs.ClassList.{classes_above, classes_of_all}
use Rattle.dist_classes.specs.Cuts.{IsClusterCut, IsNameCut, IsNameOfCluster}
use Rattle.dist_classes.specs.NewNames.{AreNewNames, IsFreshAtom}
use Rattle.dist_classes.specs.NewVersion.{IsMovedName, IsMoving}
use Rattle.dist_classes.specs.SortedPrivate.{cuts_after, cuts_of, text_cmp, text_total}
use Rattle.dist_classes.specs.declared.class_value.Class.{Class}
use Rattle.dist_classes.proofs.FreshLemmas.{HasFresh, names-from, same_names}
use Rattle.dist_classes.proofs.SomeSets.{AreStrict, Found, InOrder, found-any, found-either, found-iff, found-none, found-one, in-order, same-texts}
use Rattle.dist_classes.proofs.SomeSets.{strictly-sorted}
use Rattle.dist_classes.proofs.SortedLemmas.{IsOrdered, cuts-above, cuts-all, cuts-rise}

-- ---- what is decided

moving-decided : (architecture : Option (List ℕ)) (p : Package) (entry : Provide) → IsDecided (IsMoving architecture p entry)
moving-decided architecture p entry =
    both-decided (usable-decided architecture entry.qualifier)
    (some-decided (λ v. version_cmp v p.version ≡ Equal) (λ v. equal-decided (version_cmp v p.version)) entry.version)

moved_name-decided : (architecture : Option (List ℕ)) (p : Package) (name : List ℕ) → IsDecided (IsMovedName architecture p name)
moved_name-decided architecture p name =
    either-decided (text-decided p.name name) (any-decided (λ entry. IsMoving architecture p entry × (entry.name ≡ name))
    (λ entry. both-decided (moving-decided architecture p entry) (text-decided entry.name name)) p.provides)

name_of_cluster-decided : (r : PackageList) (members : List ℕ) (name : List ℕ) → IsDecided (IsNameOfCluster r members name)
name_of_cluster-decided r members name =
    any-decided (λ number. IsPackageAnd r.packages number (λ p. IsMovedName r.architecture p name))
    (λ number. some-decided (λ p. IsMovedName r.architecture p name) (λ p. moved_name-decided r.architecture p name) (slice_get r.packages number)) members

provider-decided : (architecture : Option (List ℕ)) (name : List ℕ) (p : Package) → IsDecided (IsProvider architecture name p)
provider-decided architecture name p =
    either-decided (text-decided p.name name) (any-decided (IsEntryOf architecture name)
    (λ entry. both-decided (usable-decided architecture entry.qualifier) (text-decided entry.name name)) p.provides)

-- ---- the versions in bounds on some names

module _ (r : PackageList) (Allows : List ℕ → Type 0) (decided : (name : List ℕ) → IsDecided (Allows name)) where
  abbrev OfAtom : List ℕ → Atom → Type 0
  OfAtom v atom = IsUsable r.architecture atom.qualifier × Allows atom.name × IsSomeAnd atom.bound (λ bound. bound.version ≡ v)

  abbrev OfPackage : List ℕ → Package → Type 0
  OfPackage v p = Any (λ item. Any (OfAtom v) item) p.depends ⊎ Any (OfAtom v) p.conflicts

  of-bound : (o : Option Bound) → Found (λ v. IsSomeAnd o (λ bound. bound.version ≡ v))
  of-bound None = let nothing : Option Bound = None in found-none (λ v. IsSomeAnd nothing (λ bound. bound.version ≡ v)) (λ v h. h)
  of-bound (Some bound) = found-one bound.version

  of-atom : (atom : Atom) → Found (λ v. OfAtom v atom)
  of-atom atom = elim (usable-decided r.architecture atom.qualifier) [
    | inl usable ↦ elim (decided atom.name) [
      | inl allowed ↦ found-iff (λ v. IsSomeAnd atom.bound (λ bound. bound.version ≡ v)) (λ v. OfAtom v atom) (λ v. ((λ h. (usable, allowed, h)), λ h. h.2))
          (of-bound atom.bound)
      | inr other ↦ found-none (λ v. OfAtom v atom) (λ v h. other h.1)
    ]
    | inr other ↦ found-none (λ v. OfAtom v atom) (λ v h. other h.0)
  ]

  of-package : (p : Package) → Found (λ v. OfPackage v p)
  of-package p =
      found-either (λ v. Any (λ item. Any (OfAtom v) item) p.depends) (λ v. Any (OfAtom v) p.conflicts)
      (found-any (λ v item. Any (OfAtom v) item) (λ item. found-any OfAtom of-atom item) p.depends)
      (found-any OfAtom of-atom p.conflicts)

  bound-from : (v : List ℕ) → Any (OfPackage v) r.packages → IsBoundOn r Allows v
  bound-from v (k, p, short, is, inl item) =
      let holds = item.4.4 in
      record {
        atom = item.4.1;
        is_atom = record { usable = holds.0; there = inl (k, p, short, is, (item.0, item.1, item.2, item.3, (item.4.0, item.4.2, item.4.3))) };
        allowed = holds.1;
        bound = holds.2;
      }
  bound-from v (k, p, short, is, inr conflict) =
      record {
        atom = conflict.1;
        is_atom = record { usable = conflict.4.0; there = inr (k, p, short, is, (conflict.0, conflict.2, conflict.3)) };
        allowed = conflict.4.1;
        bound = conflict.4.2;
      }

  from-bound : (v : List ℕ) → IsBoundOn r Allows v → Any (OfPackage v) r.packages
  from-bound v on = elim on.is_atom.there [
    | inl dependency ↦
        let item = dependency.4 in
        let inside = item.4 in (
          dependency.0,
          dependency.1,
          dependency.2,
          dependency.3,
          inl (item.0, item.1, item.2, item.3, (inside.0, on.atom, inside.1, inside.2, (on.is_atom.usable, on.allowed, on.bound))),
        )
    | inr conflict ↦
        let inside = conflict.4 in
        (conflict.0, conflict.1, conflict.2, conflict.3, inr (inside.0, on.atom, inside.1, inside.2, (on.is_atom.usable, on.allowed, on.bound)))
  ]

  bounds-in-order : InOrder text_cmp (IsBoundOn r Allows)
  bounds-in-order =
      let found = found-iff (λ v. Any (OfPackage v) r.packages) (IsBoundOn r Allows) (λ v. (bound-from v, from-bound v))
      (found-any OfPackage of-package r.packages) in
      in-order text_cmp text_total same-texts (IsBoundOn r Allows) found.found found.adds

strict-ordered : (xs : List (List ℕ)) → AreStrict text_cmp xs → IsOrdered xs
strict-ordered [] strict = tt
strict-ordered (x ∷ xs) strict = ((λ v there. ap is_gt (strict.0 v there)), strict-ordered xs strict.1)

pub some-cluster_classes : (r : PackageList) (members top : List ℕ) → (classes : List Class) × AreClassesOf r members top classes
some-cluster_classes r members top =
    let list = bounds-in-order r (IsNameOfCluster r members) (name_of_cluster-decided r members) in
    let cuts = cuts_after top list.sorted in (
      classes_above top cuts,
      record {
        cuts = cuts;
        are_cuts = cuts-above (IsClusterCut r members top) top list.sorted (strict-ordered list.sorted list.strict) (λ v. (
          (λ h. (h.0, (list.same v).0 h.1)),
          λ h. (h.0, (list.same v).1 h.1),
        ));
        rising = cuts-rise top list.sorted;
        are = refl;
      },
    )

pub some-name_classes : (r : PackageList) (name : List ℕ) → (classes : List Class) × AreClassesOfName r name classes
some-name_classes r name =
    let list = bounds-in-order r (λ other. other ≡ name) (λ other. text-decided other name) in
    let cuts = cuts_of list.sorted in (
      classes_of_all cuts,
      record {
        cuts = cuts;
        are_cuts = cuts-all (IsNameCut r name) list.sorted (strict-ordered list.sorted list.strict) list.same;
        are = refl;
      },
    )

-- ---- the new names

fresh-atom : (r : PackageList) (atom : Atom) → Found (λ q. IsFreshAtom r q atom)
fresh-atom r atom = elim (usable-decided r.architecture atom.qualifier) [
  | inl usable ↦ elim (any-decided (λ p. IsProvider r.architecture atom.name p) (provider-decided r.architecture atom.name) r.packages) [
    | inl there ↦ found-none (λ q. IsFreshAtom r q atom) (λ q h. let Provided : List ℕ → Type 0 = λ n. Any (λ p. IsProvider r.architecture n p) r.packages in
        h.2 (subst Provided h.1 there))
    | inr none ↦ found-iff (λ q. atom.name ≡ q) (λ q. IsFreshAtom r q atom) (λ q. (
      (λ same. let Free : List ℕ → Type 0 = λ n. ¬ Any (λ p. IsProvider r.architecture n p) r.packages in (usable, same, subst Free same none)),
      λ h. h.1,
    )) (found-one atom.name)
  ]
  | inr other ↦ found-none (λ q. IsFreshAtom r q atom) (λ q h. other h.0)
]

pub some-new_names : (r : PackageList) → (names : List (List ℕ)) × AreNewNames r names
some-new_names r =
    let found = found-any (HasFresh r) (λ p. found-any (λ q item. Any (IsFreshAtom r q) item) (λ item. found-any (IsFreshAtom r) (fresh-atom r) item) p.depends)
    r.packages in
    let list = in-order (slice_cmp nat_cmp) nat_list_cmp_total same_names (λ q. Any (HasFresh r q) r.packages) found.found found.adds in (
      list.sorted,
      names-from r list.sorted (strictly-sorted (slice_cmp nat_cmp) list.sorted list.strict) (λ q. (
        (λ inside. inr ((list.same q).1 inside)),
        λ either. (list.same q).0 (elim either [ inl h ↦ absurd (omega (arith, h.1)) | inr h ↦ h ]),
      )),
    )
