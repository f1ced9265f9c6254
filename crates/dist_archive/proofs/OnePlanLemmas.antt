-- A later archive has one plan.
use Rattle.std.proofs.Common.{◌≡◌, ◌↔◌, ℕ, zero, suc, List, [], ◌∷◌, ◌++◌, None, Some, Less, Greater, refl, sym, ap}
use Rattle.std.proofs.Common.{subst, ◌∙◌, inl, inr, arith, length, slice_get}
use Rattle.std.specs.Prelude.{Contains}
use Rattle.std.specs.Ordering.{ordering_reverse}
use Rattle.dist_base.specs.ListLaws.{any-more, has-at, here-at, pairs-head, pairs-tail, same-at}
use Rattle.dist_repo.specs.Order.{IsInOrder}
use Rattle.dist_repo.specs.PackageList.{IsPackageAnd, PackageList}
use Rattle.dist_repo.specs.TotalLaws.{package_total}
use Rattle.dist_repo.specs.declared.package.Package.{Package}
use Rattle.dist_space.specs.Space.{IsFrame, SpaceView}
use Rattle.dist_future.specs.Future.{IsTaken}
use Rattle.dist_archive.specs.Reach.{AreParts, AreRemovals, AreStepsFor, HasLater, IsLater, IsPart, IsPlan, IsUploadOf}
use Rattle.dist_archive.specs.Steps.{IsClusterName, IsHeld, IsOfCluster}
use Rattle.dist_archive.specs.declared.step.Step.{Step}
use Rattle.dist_archive.specs.declared.step.Step.TheVariants.{Upload, Removal, NewName}
use Rattle.dist_archive.proofs.LeadLemmas.{cons-cases, cons-head, cons-later}
use Rattle.dist_archive.proofs.SortLemmas.{Below}
use Rattle.dist_archive.proofs.StageLemmas.{name-of, of-name}

-- ---- lists in order

never-both : (p q : Package) → Below p q → ¬ Below q p
never-both p q below above =
    let turned : Less ≡ Greater = sym above ∙ package_total.antisymm q p ∙ ap ordering_reverse below in
    cc

never-itself : (p q : Package) → p ≡ q → ¬ Below p q
never-itself p q is below =
    never-both p q below (subst (λ (z : Package). Below z p) is (subst (λ (z : Package). Below p z) (sym is) below))

one-head : (x y : Package) (xs ys : List Package) → IsInOrder (x ∷ xs) → IsInOrder (y ∷ ys) → ((n : Package) → Contains (x ∷ xs) n ↔ Contains (y ∷ ys) n)
    → x ≡ y
one-head x y xs ys first second same = elim (cons-cases y x ys ((same x).0 (cons-head x xs))) [
  | inl is ↦ sym is
  | inr later ↦ elim (cons-cases x y xs ((same y).1 (cons-head y ys))) [
    | inl is ↦ is
    | inr behind ↦ absurd (never-both y x (pairs-head Below y ys second x later) (pairs-head Below x xs first y behind))
  ]
]

tail-within : (x y : Package) (xs ys : List Package) → x ≡ y → IsInOrder (x ∷ xs) → ((n : Package) → Contains (x ∷ xs) n → Contains (y ∷ ys) n)
    → (n : Package) → Contains xs n → Contains ys n
tail-within x y xs ys same ordered to n there = elim (cons-cases y n ys (to n (cons-later x n xs there))) [
  | inl is ↦ absurd (never-itself x n (same ∙ is) (pairs-head Below x xs ordered n there))
  | inr later ↦ later
]

-- two lists in order that have the same packages are one
one-list : (xs ys : List Package) → IsInOrder xs → IsInOrder ys → ((n : Package) → Contains xs n ↔ Contains ys n) → xs ≡ ys
one-list [] [] first second same = refl
one-list [] (y ∷ ys) first second same = absurd (let there = (same y).1 (cons-head y ys) in omega (arith, there.1))
one-list (x ∷ xs) [] first second same = absurd (let there = (same x).0 (cons-head x xs) in omega (arith, there.1))
one-list (x ∷ xs) (y ∷ ys) first second same =
    let head = one-head x y xs ys first second same in
    let rest = one-list xs ys (pairs-tail Below x xs first) (pairs-tail Below y ys second) (λ n. (
      tail-within x y xs ys head first (λ m. (same m).0) n,
      tail-within y x ys xs (sym head) second (λ m. (same m).1) n,
    )) in
    ap (λ (l : List Package). x ∷ l) rest ∙ ap (λ (z : Package). z ∷ ys) head

-- ---- steps for things

one-steps : {X : Type 0} (P : X → Type 0) (Does : X → Step → Type 0) → ((x : X) (a b : Step) → Does x a → Does x b → a ≡ b) → (xs : List X)
    (steps other : List Step) → AreStepsFor P Does xs steps → AreStepsFor P Does xs other → steps ≡ other
one-steps P Does one [] steps other first second = first ∙ sym second
one-steps P Does one (x ∷ xs) steps other (inl skip) (inl also) = one-steps P Does one xs steps other skip.1 also.1
one-steps P Does one (x ∷ xs) steps other (inl skip) (inr got) = absurd (skip.0 got.0)
one-steps P Does one (x ∷ xs) steps other (inr got) (inl skip) = absurd (skip.0 got.0)
one-steps P Does one (x ∷ xs) steps other (inr got) (inr also) =
    got.1.2 ∙ ap (λ (step : Step). step ∷ got.1.1) (one x got.1.0 also.1.0 got.1.3 also.1.3)
    ∙ ap (λ (l : List Step). also.1.0 ∷ l) (one-steps P Does one xs got.1.1 also.1.1 got.1.4 also.1.4) ∙ sym also.1.2

one-removals : (r : PackageList) (later : List Package) (members : List ℕ) (steps other : List Step) → AreRemovals r later members steps
    → AreRemovals r later members other → steps ≡ other
one-removals r later =
    one-steps (λ m. IsPackageAnd r.packages m (λ q. ¬ IsHeld later q.name)) (λ m step. IsPackageAnd r.packages m (λ q. step ≡ Removal q.name))
    (λ m a b first second.
    let at = here-at (λ (q : Package). a ≡ Removal q.name) r.packages m first in
    at.holds ∙ sym (has-at (λ (q : Package). b ≡ Removal q.name) r.packages m at.element at.is second))

-- ---- uploads

module _ (r : PackageList) (later : List Package) (cluster : ℕ) (c d : Package)
    (names : (name : List ℕ) → IsClusterName r c name ↔ IsClusterName r d name) (step other : Step) (first : IsUploadOf r later cluster c step)
    (second : IsUploadOf r later cluster d other) where
  one-packages : first.block.packages ≡ second.block.packages
  one-packages = one-list first.block.packages second.block.packages first.in_order second.in_order (λ n. (
    (λ there. let both = (first.brings n).0 there in (second.brings n).1 (both.0, (names n.name).0 both.1)),
    λ there. let both = (second.brings n).0 there in (first.brings n).1 (both.0, (names n.name).1 both.1),
  ))

  one-block : first.block ≡ second.block
  one-block = λ i. record { architecture = (first.architecture ∙ sym second.architecture) i; packages = one-packages i }

  one-first : first.first ≡ second.first
  one-first = same-at second.block.packages 0 first.first second.first
      (subst (λ (l : List Package). slice_get l 0 ≡ Some first.first) one-packages first.is_first) second.is_first

  one-upload : step ≡ other
  one-upload = first.is ∙ ap (λ (b : PackageList). Upload cluster first.first.version b) one-block
      ∙ ap (λ (p : Package). Upload cluster p.version second.block) one-first ∙ sym second.is

-- ---- parts

module _ (s : SpaceView) (frame : IsFrame s) (later : List Package) where
  cluster-names : (cluster : ℕ) (c d : Package) → IsOfCluster s cluster c → IsOfCluster s cluster d → (name : List ℕ) → IsClusterName s.repository c name
      → IsClusterName s.repository d name
  cluster-names cluster c d of also name named = of-name s frame cluster d name also (name-of s frame cluster c name of named)

  has-too : (cluster : ℕ) (c d : Package) → IsOfCluster s cluster c → IsOfCluster s cluster d → HasLater s.repository later c → HasLater s.repository later d
  has-too cluster c d of also = any-more (λ (n : Package). IsClusterName s.repository c n.name × IsLater s.repository n)
      (λ (n : Package). IsClusterName s.repository d n.name × IsLater s.repository n)
      (λ n both. (cluster-names cluster c d of also n.name both.0, both.1)) later

  one-part : (cluster : ℕ) (steps other : List Step) → IsPart s later cluster steps → IsPart s later cluster other → steps ≡ other
  one-part cluster steps other first second = elim first.2 [
    | inl has ↦ elim second.2 [
      | inl also ↦ has.1.1 ∙ ap (λ (step : Step). step ∷ []) (one-upload s.repository later cluster first.0 second.0 (λ name. (
        cluster-names cluster first.0 second.0 first.1 second.1 name,
        cluster-names cluster second.0 first.0 second.1 first.1 name,
      )) has.1.0 also.1.0 has.1.2 also.1.2) ∙ sym also.1.1
      | inr none ↦ absurd (none.0 (has-too cluster first.0 second.0 first.1 second.1 has.0))
    ]
    | inr none ↦ elim second.2 [
      | inl has ↦ absurd (none.0 (has-too cluster second.0 first.0 second.1 first.1 has.0))
      | inr also ↦
          let at = here-at (λ members. AreRemovals s.repository later members steps) s.clusters.members cluster none.1 in
          one-removals s.repository later at.element steps other at.holds
          (has-at (λ members. AreRemovals s.repository later members other) s.clusters.members cluster at.element at.is also.1)
    ]
  ]

  one-parts : (count : ℕ) (steps other : List Step) → AreParts s later count steps → AreParts s later count other → steps ≡ other
  one-parts zero steps other first second = first ∙ sym second
  one-parts (suc cluster) steps other first second =
      first.2 ∙ ap (λ (l : List Step). l ++ first.1) (one-parts cluster first.0 second.0 first.3 second.3)
      ∙ ap (λ (l : List Step). second.0 ++ l) (one-part cluster first.1 second.1 first.4 second.4) ∙ sym second.2

  pub one-plan : (steps other : List Step) → IsPlan s later steps → IsPlan s later other → steps ≡ other
  one-plan steps other first second =
      first.whole ∙ ap (λ (l : List Step). l ++ first.names)
      (one-parts (length s.clusters.members) first.parts second.parts first.are_parts second.are_parts)
      ∙ ap (λ (l : List Step). second.parts ++ l)
      (one-steps (λ n. ¬ IsTaken s.repository n.name) (λ n step. step ≡ NewName (record { architecture = None; packages = n ∷ [] }))
      (λ n a b one also. one ∙ sym also) later first.names second.names first.are_names second.are_names) ∙ sym second.whole
