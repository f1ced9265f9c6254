-- Packages of different names, put in their order.
use Rattle.std.proofs.Common.{◌≡◌, ◌≢◌, ◌⊎◌, ◌↔◌, ℕ, List, [], ◌∷◌, Ordering, Less, Equal, Greater, refl, sym, ap, subst, ◌∙◌, inl, inr, arith}
use Rattle.std.proofs.Common.{nat_cmp, is_eq}
use Rattle.std.specs.Prelude.{Contains}
use Rattle.std.specs.Cmp.Lexicographic.{slice_cmp}
use Rattle.std.specs.Ordering.{ordering_reverse, ordering_then}
use Rattle.std.proofs.lemmas.List.Kept.{AllPairs-cons}
use Rattle.std.proofs.lemmas.Map.Text.{is_eq-slice_cmp}
use Rattle.std.proofs.lemmas.Slice.Eq.{bytes_eq-Decides}
use Rattle.dist_base.specs.ListLaws.{all-contained, pairs-head, pairs-tail}
use Rattle.dist_version.specs.Order.{version_cmp}
use Rattle.dist_repo.specs.Order.{IsFlat, IsInOrder, package_cmp}
use Rattle.dist_repo.specs.TotalLaws.{package_total}
use Rattle.dist_repo.specs.declared.package.Package.{Package}
use Rattle.dist_archive.proofs.LeadLemmas.{cons-cases, cons-head, cons-later}

abbrev pub Below : Package → Package → Type 0
Below p q = package_cmp p q ≡ Less

same-name : (a b : List ℕ) → slice_cmp nat_cmp a b ≡ Equal → a ≡ b
same-name a b is = (bytes_eq-Decides a b).0 (sym (is_eq-slice_cmp a b) ∙ ap is_eq is)

-- of two packages of different names one is below the other
below-cases : (p q : Package) → p.name ≢ q.name → Below p q ⊎ Below q p
below-cases p q apart = by-names (slice_cmp nat_cmp p.name q.name) refl
  where
    whole : (o : Ordering) → slice_cmp nat_cmp p.name q.name ≡ o → package_cmp p q ≡ ordering_then o (version_cmp p.version q.version)
    whole o is = ap (λ (x : Ordering). ordering_then x (version_cmp p.version q.version)) is

    by-names : (o : Ordering) → slice_cmp nat_cmp p.name q.name ≡ o → Below p q ⊎ Below q p
    by-names Less is = inl (whole Less is)
    by-names Equal is = absurd (apart (same-name p.name q.name is))
    by-names Greater is = inr (package_total.antisymm q p ∙ ap ordering_reverse (whole Greater is))

order-cons : (p : Package) (packages : List Package) → ((q : Package) → Contains packages q → Below p q) → IsInOrder packages → IsInOrder (p ∷ packages)
order-cons p packages below ordered = AllPairs-cons Below p packages (all-contained (Below p) packages below) ordered

-- a package among others that are in order
record Inserted (p : Package) (packages : List Package) : Type 0 where
  pub list : List Package
  pub exact : (n : Package) → Contains list n ↔ ((p ≡ n) ⊎ Contains packages n)
  pub in_order : IsInOrder list

at-front : (p : Package) (packages : List Package) → ((q : Package) → Contains packages q → Below p q) → IsInOrder packages → Inserted p packages
at-front p packages below ordered = record {
  list = p ∷ packages;
  exact = λ n. (
    (λ there. cons-cases p n packages there),
    λ either. elim either [
      | inl is ↦ subst (λ (x : Package). Contains (p ∷ packages) x) is (cons-head p packages)
      | inr later ↦ cons-later p n packages later
    ],
  );
  in_order = order-cons p packages below ordered;
}

behind : (p x : Package) (packages : List Package) → Below x p → IsInOrder (x ∷ packages) → Inserted p packages → Inserted p (x ∷ packages)
behind p x packages above ordered rest = record {
  list = x ∷ rest.list;
  exact = λ n. (
    (λ there. elim (cons-cases x n rest.list there) [
      | inl is ↦ inr (subst (λ (z : Package). Contains (x ∷ packages) z) is (cons-head x packages))
      | inr later ↦ elim ((rest.exact n).0 later) [
        | inl is ↦ inl is
        | inr old ↦ inr (cons-later x n packages old)
      ]
    ]),
    λ either. elim either [
      | inl is ↦ cons-later x n rest.list ((rest.exact n).1 (inl is))
      | inr there ↦ elim (cons-cases x n packages there) [
        | inl is ↦ subst (λ (z : Package). Contains (x ∷ rest.list) z) is (cons-head x rest.list)
        | inr later ↦ cons-later x n rest.list ((rest.exact n).1 (inr later))
      ]
    ],
  );
  in_order = order-cons x rest.list (λ q there. elim ((rest.exact q).0 there) [
    | inl is ↦ subst (λ (z : Package). Below x z) is above
    | inr old ↦ pairs-head Below x packages ordered q old
  ]) rest.in_order;
}

inserted : (p : Package) (packages : List Package) → ((q : Package) → Contains packages q → p.name ≢ q.name) → IsInOrder packages → Inserted p packages
inserted p [] apart ordered = at-front p [] (λ q there. absurd (omega (arith, there.1))) ordered
inserted p (x ∷ packages) apart ordered = elim (below-cases p x (apart x (cons-head x packages))) [
  | inl below ↦ at-front p (x ∷ packages) (λ q there. elim (cons-cases x q packages there) [
    | inl is ↦ subst (λ (z : Package). Below p z) is below
    | inr later ↦ package_total.trans p x q below (pairs-head Below x packages ordered q later)
  ]) ordered
  | inr above ↦ behind p x packages above ordered
      (inserted p packages (λ q there. apart q (cons-later x q packages there)) (pairs-tail Below x packages ordered))
]

-- the same packages, in order
pub record Sorted (packages : List Package) : Type 0 where
  pub list : List Package
  pub exact : (n : Package) → Contains list n ↔ Contains packages n
  pub in_order : IsInOrder list

pub sorted : (packages : List Package) → IsFlat packages → Sorted packages
sorted [] flat = record {
  list = [];
  exact = λ n. ((λ there. there), λ there. there);
  in_order = λ i j d less short. absurd (omega (arith, short));
}
sorted (p ∷ packages) flat =
    let rest = sorted packages (pairs-tail (λ (x y : Package). x.name ≢ y.name) p packages flat) in
    let put = inserted p rest.list (λ q there. pairs-head (λ (x y : Package). x.name ≢ y.name) p packages flat q ((rest.exact q).0 there)) rest.in_order in
    record {
      list = put.list;
      exact = λ n. (
        (λ there. elim ((put.exact n).0 there) [
          | inl is ↦ subst (λ (x : Package). Contains (p ∷ packages) x) is (cons-head p packages)
          | inr old ↦ cons-later p n packages ((rest.exact n).0 old)
        ]),
        λ there. (put.exact n).1 (elim (cons-cases p n packages there) [
          | inl is ↦ inl is
          | inr later ↦ inr ((rest.exact n).1 later)
        ]),
      );
      in_order = put.in_order;
    }
