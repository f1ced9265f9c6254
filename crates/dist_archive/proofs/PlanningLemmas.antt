-- Steps that are put behind others, and blocks that are filled.
use Rattle.std.proofs.Common.{◌≡◌, ◌≢◌, ◌⊎◌, ◌↔◌, ℕ, zero, suc, ◌+◌, ◌<◌, ◌≤◌, List, [], ◌∷◌, ◌++◌, None, Some, length, get_or, take}
use Rattle.std.proofs.Common.{add-one, append_assoc, append-nil, slice_get, refl, sym, ap, subst, ◌∙◌, inl, inr, arith, nat_cmp}
use Rattle.std.specs.Prelude.{Any, Contains, Err, IfOk, IsOk, Ok, Result}
use Rattle.std.specs.Cmp.Lexicographic.{slice_cmp}
use Rattle.std.specs.List.Sorted.{IsPermutation, IsStrictlyIncreasing}
use Rattle.std.specs.Option.{option_map}
use Rattle.std.specs.Ordering.{ordering_then}
use Rattle.std.specs.declared.cmp.Ordering.{Ordering}
use Rattle.std.specs.declared.cmp.Ordering.TheVariants.{Less, Equal}
use Rattle.std.proofs.lemmas.Bool.{false≢true}
use Rattle.std.proofs.lemmas.Cmp.{nat_list_cmp_total, tied_itself}
use Rattle.std.proofs.lemmas.List.{take_all, take_more}
use Rattle.std.proofs.lemmas.List.Elements.{All-contains, Contains-append_left, Contains-append_right, Contains-get_or, Contains-push_cases}
use Rattle.std.proofs.lemmas.List.Sorted.{Contains-permutation, IsPermutation-map, IsPermutation-sym}
use Rattle.std.proofs.lemmas.Option.{get_or_from_slice_get, slice_get-map, slice_get_within}
use Rattle.dist_base.specs.ListLaws.{any-at, any-contained, at-has, contains-at, found-at, has-at, here-at, place-of}
use Rattle.dist_classes.specs.VersionOrderLaws.{equal-itself}
use Rattle.dist_version.specs.Order.{version_cmp}
use Rattle.dist_repo.specs.Held.{Held, IsHeld as IsInBuilder, packages_of}
use Rattle.dist_repo.specs.Order.{IsFlat, IsInOrder, package_cmp}
use Rattle.dist_repo.specs.PackageList.{IsPackageAnd, PackageList}
use Rattle.dist_repo.specs.declared.builder.AddError.{AddError}
use Rattle.dist_repo.specs.declared.builder.Added.{Added}
use Rattle.dist_repo.specs.declared.builder.Added.TheVariants.{New, Same}
use Rattle.dist_repo.specs.declared.package.Package.{Package}
use Rattle.dist_space.specs.Space.{IsFrame, SpaceView}
use Rattle.dist_archive.specs.FoundPrivate.{AllFit, IsFound}
use Rattle.dist_archive.specs.PlanningPrivate.{AreBrought, AreMembers, ArePushed, HoldsMore, IsNameAmong, IsPushed}
use Rattle.dist_archive.specs.Reach.{AreParts, AreRemovals, AreStepsFor, HasLater, IsLater, IsPart}
use Rattle.dist_archive.specs.Steps.{IsClusterName, IsHeld, IsOfCluster}
use Rattle.dist_archive.specs.declared.fitting.Found.TheVariants as found
use Rattle.dist_archive.specs.declared.step.Step.{Step}
use Rattle.dist_archive.specs.declared.step.Step.TheVariants.{Upload, Removal}
use Rattle.dist_archive.proofs.ClusterLemmas.{cluster-some, in-member, member-in, member-package}
use Rattle.dist_archive.proofs.FitLemmas.{both-together, kept-not_later}
use Rattle.dist_archive.proofs.FutureLemmas.{one-named}
use Rattle.dist_archive.proofs.LeadLemmas.{cons-cases, cons-head}

-- ---- one more step

steps-more : {X : Type 0} (P : X → Type 0) (Does : X → Step → Type 0) (xs : List X) (x : X) (steps new : List Step) → AreStepsFor P Does xs steps
    → IsPushed (P x) (Does x) steps new → AreStepsFor P Does (xs ++ x ∷ []) new
steps-more P Does [] x steps new are (inl (holds, (step, does, whole))) =
    inr (holds, (step, [], whole ∙ ap (λ (l : List Step). l ++ step ∷ []) are, does, refl))
steps-more P Does [] x steps new are (inr (fails, same)) = inl (fails, same ∙ are)
steps-more P Does (y ∷ xs) x steps new (inl skip) pushed = inl (skip.0, steps-more P Does xs x steps new skip.1 pushed)
steps-more P Does (y ∷ xs) x steps new (inr got) (inl (holds, (step, does, whole))) = inr (
  got.0,
  (
    got.1.0,
    got.1.1 ++ step ∷ [],
    whole ∙ ap (λ (l : List Step). l ++ step ∷ []) got.1.2,
    got.1.3,
    steps-more P Does xs x got.1.1 (got.1.1 ++ step ∷ []) got.1.4 (inl (holds, (step, does, refl))),
  ),
)
steps-more P Does (y ∷ xs) x steps new (inr got) (inr (fails, same)) = inr (
  got.0,
  (got.1.0, got.1.1, same ∙ got.1.2, got.1.3, steps-more P Does xs x got.1.1 got.1.1 got.1.4 (inr (fails, refl))),
)

module _ {X : Type 0} (P : X → Type 0) (Does : X → Step → Type 0) (xs : List X) where
  pub pushed-none : (old : List Step) → ArePushed old old (AreStepsFor P Does [])
  pushed-none old = record { more = []; whole = sym (append-nil old); pushed = refl }

  pub pushed-more : (i : ℕ) (x : X) (old now new : List Step) → slice_get xs i ≡ Some x → ArePushed old now (AreStepsFor P Does (take i xs))
      → IsPushed (P x) (Does x) now new → ArePushed old new (AreStepsFor P Does (take (i + 1) xs))
  pushed-more i x old now new is before pushed =
      let whole : take (i + 1) xs ≡ take i xs ++ get_or xs i x ∷ [] = take_more xs i x (slice_get_within xs i x is) in
      let here : take (i + 1) xs ≡ take i xs ++ x ∷ [] =
      whole ∙ ap (λ (y : X). take i xs ++ y ∷ []) (get_or_from_slice_get xs i x x is) in
      elim pushed [
        | inl got ↦ record {
          more = before.more ++ got.1.0 ∷ [];
          whole = got.1.2 ∙ ap (λ (l : List Step). l ++ got.1.0 ∷ []) before.whole ∙ append_assoc old before.more (got.1.0 ∷ []);
          pushed = subst (λ (l : List X). AreStepsFor P Does l (before.more ++ got.1.0 ∷ [])) (sym here)
              (steps-more P Does (take i xs) x before.more (before.more ++ got.1.0 ∷ []) before.pushed (inl (got.0, (got.1.0, got.1.1, refl))));
        }
        | inr none ↦ record {
          more = before.more;
          whole = none.1 ∙ before.whole;
          pushed = subst (λ (l : List X). AreStepsFor P Does l before.more) (sym here)
              (steps-more P Does (take i xs) x before.more before.more before.pushed (inr (none.0, refl)));
        }
      ]

-- the removal of the package of a number
pub removal-pushed : (r : PackageList) (later : List Package) (m : ℕ) (q : Package) (old new : List Step) → slice_get r.packages m ≡ Some q
    → IsPushed (¬ IsHeld later q.name) (λ step. step ≡ Removal q.name) old new
    → IsPushed (IsPackageAnd r.packages m (λ x. ¬ IsHeld later x.name)) (λ step. IsPackageAnd r.packages m (λ x. step ≡ Removal x.name)) old new
removal-pushed r later m q old new is (inl got) = inl (
  at-has (λ (x : Package). ¬ IsHeld later x.name) r.packages m q is got.0,
  (got.1.0, at-has (λ (x : Package). got.1.0 ≡ Removal x.name) r.packages m q is got.1.1, got.1.2),
)
removal-pushed r later m q old new is (inr none) =
    inr ((λ missing. none.0 (has-at (λ (x : Package). ¬ IsHeld later x.name) r.packages m q is missing)), none.1)

-- one more cluster
pub parts-more : (s : SpaceView) (later : List Package) (cluster : ℕ) (old new : List Step) → AreParts s later cluster old
    → ArePushed old new (IsPart s later cluster) → AreParts s later (cluster + 1) new
parts-more s later cluster old new parts pushed =
    subst (λ (k : ℕ). AreParts s later k new) (sym (add-one cluster)) (old, pushed.more, pushed.whole, parts, pushed.pushed)

-- ---- builders

pub held-new : (old new : List Held) (p : Package) (line : ℕ) → IsPermutation ((p, line) ∷ old) new → HoldsMore old new (λ n. p ≡ n)
held-new old new p line permuted n =
    let First : Held → Package = λ h. h.0 in
    let names : IsPermutation (p ∷ packages_of old) (packages_of new) = IsPermutation-map First ((p, line) ∷ old) new permuted in (
      (λ there. elim (cons-cases p n (packages_of old)
          (Contains-permutation (packages_of new) (p ∷ packages_of old) n (IsPermutation-sym (p ∷ packages_of old) (packages_of new) names) there)) [
            | inl is ↦ inr is
            | inr before ↦ inl before
          ]),
      λ either. Contains-permutation (p ∷ packages_of old) (packages_of new) n names (elim either [
        | inl before ↦ (suc before.0, omega (arith, before.1), before.2)
        | inr is ↦ subst (λ (x : Package). Contains (p ∷ packages_of old) x) is (cons-head p (packages_of old))
      ]),
    )

pub held-before : (old new : List Held) (p : Package) → IsInBuilder old p → new ≡ old → HoldsMore old new (λ n. p ≡ n)
held-before old new p held same n =
    let at = found-at (λ (h : Held). h.0 ≡ p) old held in
    let First : Held → Package = λ h. h.0 in
    let there : Contains (packages_of old) p = contains-at (packages_of old) at.place p
    (slice_get-map First old at.place ∙ ap (option_map First) at.is ∙ ap (λ (x : Package). Some x) at.holds) in
    subst (λ (l : List Held). Contains (packages_of l) n ↔ (Contains (packages_of old) n ⊎ (p ≡ n))) (sym same) (
      (λ here. inl here),
      λ either. elim either [
        | inl here ↦ here
        | inr is ↦ subst (λ (x : Package). Contains (packages_of old) x) is there
      ],
    )

-- what has the name of a package of the later archive is that package
pub named-more : (later : List Package) (old new : List Held) (p : Package) (name : List ℕ) → IsFlat later → Contains later p → p.name ≡ name
    → HoldsMore old new (λ n. p ≡ n) → HoldsMore old new (λ n. Contains later n × (n.name ≡ name))
named-more later old new p name flat there named more n = (
  (λ here. elim ((more n).0 here) [
    | inl before ↦ inl before
    | inr is ↦ inr (subst (λ (x : Package). Contains later x × (x.name ≡ name)) is (there, named))
  ]),
  λ either. (more n).1 (elim either [
    | inl before ↦ inl before
    | inr one ↦ inr (one-named later p n flat there one.0 (named ∙ sym one.1))
  ]),
)

pub named-none : (later : List Package) (old : List Held) (name : List ℕ) → (¬ IsHeld later name)
    → HoldsMore old old (λ n. Contains later n × (n.name ≡ name))
named-none later old name none n = (
  (λ here. inl here),
  λ either. elim either [
    | inl here ↦ here
    | inr one ↦ absurd (none (any-contained (λ (x : Package). x.name ≡ name) later n one.0 one.1))
  ],
)

-- a list that has one package alone
pub one-package : (packages : List Package) (p : Package) → IsInOrder packages → ((n : Package) → Contains packages n ↔ (Contains [] n ⊎ (p ≡ n)))
    → packages ≡ p ∷ []
one-package [] p ordered exact = absurd (let there = (exact p).1 (inr refl) in omega (arith, there.1))
one-package (x ∷ []) p ordered exact = elim ((exact x).0 (cons-head x [])) [
  | inl none ↦ absurd (omega (arith, none.1))
  | inr is ↦ ap (λ (y : Package). y ∷ []) (sym is)
]
one-package (x ∷ y ∷ packages) p ordered exact =
    let first : p ≡ x = is-it x (0, omega arith, refl) in
    let second : p ≡ y = is-it y (1, omega arith, refl) in
    let below : package_cmp x y ≡ Less = ordered 0 1 x (omega arith) (omega arith) in
    absurd (itself p (subst (λ (z : Package). package_cmp p z ≡ Less) (sym second) (subst (λ (z : Package). package_cmp z y ≡ Less) (sym first) below)))
  where
    is-it : (z : Package) → Contains (x ∷ y ∷ packages) z → p ≡ z
    is-it z there = elim ((exact z).0 there) [
      | inl none ↦ absurd (omega (arith, none.1))
      | inr is ↦ is
    ]

    itself : (z : Package) → package_cmp z z ≡ Less → ⊥
    itself z less =
        let tied : slice_cmp nat_cmp z.name z.name ≡ Equal = tied_itself nat_list_cmp_total z.name in
        let level : version_cmp z.version z.version ≡ Equal = equal-itself z.version in
        let no : Equal ≡ Less = sym level ∙ sym (ap (λ (o : Ordering). ordering_then o (version_cmp z.version z.version)) tied) ∙ less in cc

-- ---- blocks

any-pushed : {X : Type 0} (P : X → Type 0) (xs : List X) (x : X) → Any P (xs ++ x ∷ []) → Any P xs ⊎ P x
any-pushed P xs x any =
    let at = found-at P (xs ++ x ∷ []) any in
    elim (Contains-push_cases xs x at.element (contains-at (xs ++ x ∷ []) at.place at.element at.is)) [
      | inl before ↦ inl (any-contained P xs at.element before at.holds)
      | inr is ↦ inr (subst P (sym is) at.holds)
    ]

pub brought-none : (r : PackageList) (later : List Package) → AreBrought r later [] []
brought-none r later n = (
  (λ there. absurd (omega (arith, there.1))),
  λ both. absurd (let short = both.1.2 in omega (arith, short)),
)

pub brought-more : (r : PackageList) (later : List Package) (members : List ℕ) (i m : ℕ) (q : Package) (old new : List Held) → slice_get members i ≡ Some m
    → slice_get r.packages m ≡ Some q → AreBrought r later (take i members) (packages_of old)
    → HoldsMore old new (λ n. Contains later n × (n.name ≡ q.name)) → AreBrought r later (take (i + 1) members) (packages_of new)
brought-more r later members i m q old new is own before more =
    let whole : take (i + 1) members ≡ take i members ++ get_or members i m ∷ [] = take_more members i m (slice_get_within members i m is) in
    let here : take (i + 1) members ≡ take i members ++ m ∷ [] = whole ∙ ap (λ (y : ℕ). take i members ++ y ∷ []) (get_or_from_slice_get members i m m is) in
    subst (λ (l : List ℕ). AreBrought r later l (packages_of new)) (sym here) (λ n.
    let Among : ℕ → Type 0 = λ k. IsPackageAnd r.packages k (λ x. x.name ≡ n.name) in (
      (λ there. elim ((more n).0 there) [
        | inl held ↦
            let both = (before n).0 held in
            let at = found-at Among (take i members) both.1 in (
              both.0,
              any-contained Among (take i members ++ m ∷ []) at.element
                  (Contains-append_left (take i members) (m ∷ []) at.element (contains-at (take i members) at.place at.element at.is)) at.holds,
            )
        | inr come ↦ (
          come.0,
          any-contained Among (take i members ++ m ∷ []) m
              (Contains-append_right (take i members) (m ∷ []) m (cons-head m []))
              (at-has (λ (x : Package). x.name ≡ n.name) r.packages m q own (sym come.1)),
        )
      ]),
      λ both. (more n).1 (elim (any-pushed Among (take i members) m both.1) [
        | inl among ↦ inl ((before n).1 (both.0, among))
        | inr last ↦ inr (both.0, sym (has-at (λ (x : Package). x.name ≡ n.name) r.packages m q own last))
      ]),
    ))

-- in rising numbers each place is at most the number there
place-below : (numbers : List ℕ) → IsStrictlyIncreasing numbers → (i : ℕ) → i < length numbers → i ≤ get_or numbers i 0
place-below numbers rising zero short = omega arith
place-below numbers rising (suc i) short =
    let before = place-below numbers rising i (omega (arith, short)) in
    let next : get_or numbers i 0 < get_or numbers (i + 1) 0 = rising i (omega (arith, short)) in
    let here : get_or numbers i 0 < get_or numbers (suc i) 0 = subst (λ (k : ℕ). get_or numbers i 0 < get_or numbers k 0) (add-one i) next in
    omega (arith, before, here)

pub places-few : (r : PackageList) (members : List ℕ) (i : ℕ) → AreMembers r members → i < length members → i < length r.packages
places-few r members i are short =
    let below = place-below members are.rising i short in
    let within : get_or members i 0 < length r.packages = are.within i 0 short in
    omega (arith, below, within)

-- ---- the part of a cluster

module _ (s : SpaceView) (frame : IsFrame s) (later : List Package) (cluster : ℕ) (members : List ℕ)
    (are : slice_get s.clusters.members cluster ≡ Some members) where
  some-of : (c : Package) × IsOfCluster s cluster c
  some-of = cluster-some s frame cluster (slice_get_within s.clusters.members cluster members are)

  pub are-members : AreMembers s.repository members
  are-members = record {
    within = λ i d short. member-package s frame cluster some-of.0 some-of.1 members are (get_or members i d)
        (Contains-get_or members i d short);
    rising = All-contains IsStrictlyIncreasing s.clusters.members members frame.clusters.partition.rising
        (contains-at s.clusters.members cluster members are);
  }

  among-named : (c : Package) → IsOfCluster s cluster c → (name : List ℕ) → IsNameAmong s.repository members name ↔ IsClusterName s.repository c name
  among-named c of name =
      let Among : ℕ → Type 0 = λ k. IsPackageAnd s.repository.packages k (λ x. x.name ≡ name) in (
        (λ among.
            let at = found-at Among members among in
            let own = here-at (λ (x : Package). x.name ≡ name) s.repository.packages at.element at.holds in
            (own.element, member-in s frame cluster c of members are at.element own.element own.is (contains-at members at.place at.element at.is), own.holds)),
        λ named.
            let at = place-of s.repository.packages named.0 named.1.there in
            any-contained Among members at.place (in-member s frame cluster c of members are at.place named.0 at.is named.1)
            (at-has (λ (x : Package). x.name ≡ name) s.repository.packages at.place named.0 at.is named.2),
      )

  cluster-brought : (c : Package) → IsOfCluster s cluster c → (packages : List Package) → AreBrought s.repository later members packages
      → (n : Package) → Contains packages n ↔ (Contains later n × IsClusterName s.repository c n.name)
  cluster-brought c of packages brought n = (
    (λ there. let both = (brought n).0 there in (both.0, (among-named c of n.name).0 both.1)),
    λ both. (brought n).1 (both.0, (among-named c of n.name).1 both.1),
  )

  -- an upload has a package
  pub block-some : ((c : Package) → IsOfCluster s cluster c → HasLater s.repository later c) → (packages : List Package)
      → AreBrought s.repository later members packages → 0 < length packages
  block-some some packages brought =
      let at = found-at (λ n. IsClusterName s.repository some-of.0 n.name × IsLater s.repository n) later (some some-of.0 some-of.1) in
      let there = (cluster-brought some-of.0 some-of.1 packages brought at.element).1 (contains-at later at.place at.element at.is, at.holds.0) in
      omega (arith, there.1)

  pub upload-pushed : ((c : Package) → IsOfCluster s cluster c → HasLater s.repository later c) → (block : PackageList) (first : Package)
      (version : List ℕ) (old new : List Step) → block.architecture ≡ None → IsInOrder block.packages → AreBrought s.repository later members block.packages
      → slice_get block.packages 0 ≡ Some first → version ≡ first.version → new ≡ old ++ Upload cluster version block ∷ []
      → ArePushed old new (IsPart s later cluster)
  upload-pushed some block first version old new architecture ordered brought is_first same whole = record {
    more = Upload cluster version block ∷ [];
    whole = whole;
    pushed = (
      some-of.0,
      some-of.1,
      inl (
        some some-of.0 some-of.1,
        (
          Upload cluster version block,
          refl,
          record {
            block = block;
            first = first;
            is = ap (λ (v : List ℕ). Upload cluster v block) same;
            architecture = architecture;
            is_first = is_first;
            brings = cluster-brought some-of.0 some-of.1 block.packages brought;
            in_order = ordered;
          },
        ),
      ),
    );
  }

  pub missing-pushed : ((c : Package) → IsOfCluster s cluster c → ¬ HasLater s.repository later c) → (old new : List Step)
      → ArePushed old new (AreRemovals s.repository later members) → ArePushed old new (IsPart s later cluster)
  missing-pushed none old new pushed = record {
    more = pushed.more;
    whole = pushed.whole;
    pushed = (
      some-of.0,
      some-of.1,
      inr (
        none some-of.0 some-of.1,
        at-has (λ (l : List ℕ). AreRemovals s.repository later l pushed.more) s.clusters.members cluster members are pushed.pushed,
      ),
    );
  }

-- ---- what was found tells whether a cluster has something later

module _ (r : PackageList) (flat : IsFlat r.packages) (later : List Package) (c : Package) (there : Contains r.packages c) where
  pub found-later : (k : ℕ) → IsFound r later (length later) c (found.New k) → HasLater r later c
  found-later k holds =
      let at = here-at (λ n. IsClusterName r c n.name × IsLater r n) later k holds.1 in
      any-at (λ n. IsClusterName r c n.name × IsLater r n) later k at.element at.is at.holds

  pub found-nothing : IsFound r later (length later) c found.Nothing → ¬ HasLater r later c
  found-nothing none some =
      let at = found-at (λ n. IsClusterName r c n.name × IsLater r n) later some in
      none at.place at.element (slice_get_within later at.place at.element at.is) at.is at.holds.0

  pub found-kept : AllFit r later (length later) → IsFound r later (length later) c found.Kept → ¬ HasLater r later c
  found-kept fits holds some =
      let kept = here-at (λ n. IsClusterName r c n.name × Contains r.packages n) later holds.0 holds.2 in
      let at = found-at (λ n. IsClusterName r c n.name × IsLater r n) later some in
      elim (both-together r flat later (length later) fits holds.0 at.place c kept.element at.element holds.1
      (slice_get_within later at.place at.element at.is) kept.is at.is there kept.holds.0 at.holds.0) [
        | inl both ↦ kept-not_later r flat at.element both.1 at.holds.1
        | inr both ↦ kept-not_later r flat kept.element kept.holds.1 both.0
      ]

-- ---- answers

pub if-ok_both : {X E : Type 0} (result : Result X E) (P Q S : X → Type 0) → ((x : X) → P x → Q x → S x) → IfOk result P → IfOk result Q → IfOk result S
if-ok_both (Ok x) P Q S both first second = both x first second
if-ok_both (Err e) P Q S both first second = tt

pub added-more : (old new : List Held) (p : Package) (answer : Result Added AddError) → (answer ≡ Ok New → IsPermutation ((p, 0) ∷ old) new)
    → (answer ≡ Ok Same → IsInBuilder old p) → (answer ≢ Ok New → new ≡ old) → IsOk answer → HoldsMore old new (λ n. p ≡ n)
added-more old new p (Ok New) permuted known kept ok = held-new old new p 0 (permuted refl)
added-more old new p (Ok Same) permuted known kept ok = held-before old new p (known refl) (kept (λ is. cc))
added-more old new p (Err e) permuted known kept ok = absurd (false≢true ok)

pub pushed-all : {X : Type 0} (P : X → Type 0) (Does : X → Step → Type 0) (xs : List X) (i : ℕ) (old now : List Step) → length xs ≤ i
    → ArePushed old now (AreStepsFor P Does (take i xs)) → ArePushed old now (AreStepsFor P Does xs)
pushed-all {X} P Does xs i old now all pushed =
    subst (λ (l : List X). ArePushed old now (AreStepsFor P Does l)) (take_all i xs all) pushed

pub brought-all : (r : PackageList) (later : List Package) (members : List ℕ) (i : ℕ) (held : List Held) → length members ≤ i
    → AreBrought r later (take i members) (packages_of held) → AreBrought r later members (packages_of held)
brought-all r later members i held all brought =
    subst (λ (l : List ℕ). AreBrought r later l (packages_of held)) (take_all i members all) brought
