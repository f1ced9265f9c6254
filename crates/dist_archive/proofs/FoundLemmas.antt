-- What is found of a later archive with one more package of it.
use Rattle.std.proofs.Common.{◌≡◌, ◌↔◌, ℕ, zero, suc, ◌+◌, ◌<◌, Bool, List, [], Some, None, length, get_or, set, replicate, slice_get}
use Rattle.std.proofs.Common.{length-set, sym, ap, subst, ◌∙◌, inl, inr, arith}
use Rattle.std.specs.Prelude.{Contains, IsTrue, slice_index}
use Rattle.std.specs.declared.cmp.Ordering.TheVariants.{Equal}
use Rattle.std.proofs.lemmas.Bool.{cases_eq, cases_lt}
use Rattle.std.proofs.lemmas.List.{length-replicate}
use Rattle.std.proofs.lemmas.Option.{slice_get-get_or, slice_get_within}
use Rattle.dist_base.specs.ListLaws.{any-contained, at-has, contains-at, element-at, has-at, here-at, same-at}
use Rattle.dist_version.specs.Order.{version_cmp}
use Rattle.dist_cluster.specs.Partition.{IsIn}
use Rattle.dist_cluster.specs.Relation.{AreClustered}
use Rattle.dist_repo.specs.PackageList.{IsPackageAnd, PackageList}
use Rattle.dist_repo.specs.declared.package.Package.{Package}
use Rattle.dist_classes.specs.Answers.{member_of}
use Rattle.dist_classes.specs.NewVersion.{IsOfNewName}
use Rattle.dist_classes.specs.VersionOrderLaws.{alike-left, equal-back}
use Rattle.dist_space.specs.ClusterLaws.{has-cluster}
use Rattle.dist_space.specs.Space.{IsFrame, SpaceView}
use Rattle.dist_future.specs.Future.{IsInClusterOf, IsProvided, IsTaken}
use Rattle.dist_archive.specs.FoundPrivate.{AllFit, AreChecked, AreNamedAlike, IsFound, IsNext, Takes}
use Rattle.dist_archive.specs.Reach.{AreOfOneCluster, Fits, GoTogether, IsFirstMisfit, IsLater}
use Rattle.dist_archive.specs.Steps.{IsClusterName, IsOfCluster}
use Rattle.dist_archive.specs.declared.fitting.Found.{Found}
use Rattle.dist_archive.specs.declared.fitting.Found.TheVariants.{Nothing, Kept, New}
use Rattle.dist_archive.proofs.ChangeLemmas.{set-other, set-same}
use Rattle.dist_archive.proofs.ClusterLemmas.{in-cluster}
use Rattle.dist_archive.proofs.FitLemmas.{both-together, in-itself, kept-not_later, name-same}
use Rattle.dist_archive.proofs.FutureLemmas.{clustered-back, one-named}
use Rattle.dist_archive.proofs.StageLemmas.{name-of, one-cluster}

-- ---- the cluster of a package

pub of-number : (s : SpaceView) (frame : IsFrame s) (number : ℕ) (q : Package) → slice_get s.repository.packages number ≡ Some q
    → IsOfCluster s (slice_index s.cluster_of number) q
of-number s frame number q is =
    let own = has-cluster s frame number (slice_get_within s.repository.packages number q is) in
    record {
      member = number;
      in_cluster = at-has (λ (l : List ℕ). Contains l number) s.clusters.members (slice_index s.cluster_of number)
          (get_or s.clusters.members (slice_index s.cluster_of number) []) (slice_get-get_or s.clusters.members (slice_index s.cluster_of number) [] own.within)
          own.there;
      is = is;
    }

pub number-within : (s : SpaceView) (frame : IsFrame s) (number : ℕ) (q : Package) → slice_get s.repository.packages number ≡ Some q
    → slice_index s.cluster_of number < length s.clusters.members
number-within s frame number q is = (has-cluster s frame number (slice_get_within s.repository.packages number q is)).within

-- ---- one more package

module _ (s : SpaceView) (frame : IsFrame s) (later : List Package) (place number : ℕ) (alike : AreNamedAlike s later place number) where
  own-there : Contains s.repository.packages alike.own
  own-there = contains-at s.repository.packages number alike.own alike.is_own

  own-name : IsClusterName s.repository alike.own alike.fresh.name
  own-name = (alike.own, in-itself s.repository alike.own own-there, alike.named)

  own-taken : IsTaken s.repository alike.fresh.name
  own-taken = any-contained (λ (q : Package). q.name ≡ alike.fresh.name) s.repository.packages alike.own own-there alike.named

  own-cluster : (m : Package) → AreOfOneCluster s.repository m alike.fresh → IsClusterName s.repository alike.own m.name
  own-cluster m one =
      let same : one.3.0 ≡ alike.own = one-named s.repository.packages one.3.0 alike.own frame.flat one.3.1.there own-there
      (one.3.2 ∙ sym alike.named) in
      let inside = subst (λ (x : Package). IsInClusterOf s.repository one.0 x) same one.3.1 in
      name-same s.repository one.0 alike.own m.name inside.clustered one.2

  -- ---- tests

  pub named-at : (x : Package) → slice_get later place ≡ Some x → IsPackageAnd s.repository.packages number (λ q. q.name ≡ x.name)
  named-at x is = at-has (λ (q : Package). q.name ≡ x.name) s.repository.packages number alike.own alike.is_own
      (subst (λ (y : Package). alike.own.name ≡ y.name) (same-at later place alike.fresh x alike.is_fresh is) alike.named)

  pub same-test : (b : Bool) (x y : Package) → slice_get later place ≡ Some x → slice_get s.repository.packages number ≡ Some y
      → (IsTrue b ↔ (x ≡ y)) → IsTrue b ↔ Contains s.repository.packages alike.fresh
  same-test b x y is_x is_y test =
      let a : alike.fresh ≡ x = same-at later place alike.fresh x alike.is_fresh is_x in
      let o : alike.own ≡ y = same-at s.repository.packages number alike.own y alike.is_own is_y in (
        (λ yes. subst (λ (z : Package). Contains s.repository.packages z) (o ∙ sym (test.0 yes) ∙ sym a) own-there),
        λ there. test.1 (sym a
            ∙ sym (one-named s.repository.packages alike.own alike.fresh frame.flat own-there there alike.named) ∙ o),
      )

  pub later-test : (b : Bool) (x : Package) → slice_get later place ≡ Some x → (IsTrue b ↔ IsLater s.repository x)
      → IsTrue b ↔ IsLater s.repository alike.fresh
  later-test b x is test =
      subst (λ (z : Package). IsTrue b ↔ IsLater s.repository z) (sym (same-at later place alike.fresh x alike.is_fresh is)) test

  -- ---- what it takes to fit

  takes-some : (found : Found) → Fits s.repository later place alike.fresh → IsFound s.repository later (place + 1) alike.own found
      → Takes s later place number (Some found)
  takes-some found fits holds = (
    at-has (Fits s.repository later place) later place alike.fresh alike.is_fresh fits,
    at-has (λ q. IsFound s.repository later (place + 1) q found) s.repository.packages number alike.own alike.is_own holds,
  )

  takes-none : (¬ Fits s.repository later place alike.fresh) → Takes s later place number None
  takes-none fails = at-has (λ n. ¬ Fits s.repository later place n) later place alike.fresh alike.is_fresh fails

  kept-fits : Contains s.repository.packages alike.fresh
      → ((k : ℕ) (m : Package) → k < place → slice_get later k ≡ Some m → IsClusterName s.repository alike.own m.name → Contains s.repository.packages m)
      → Fits s.repository later place alike.fresh
  kept-fits kept others = record {
    own = λ taken. inl kept;
    together = λ k less.
        let at = element-at later k (omega (arith, less, slice_get_within later place alike.fresh alike.is_fresh)) in
        at-has (λ m. AreOfOneCluster s.repository m alike.fresh → GoTogether s.repository m alike.fresh) later k at.element at.is
        (λ one. inl (others k at.element less at.is (own-cluster at.element one), kept));
    fresh = λ free. absurd (free own-taken);
  }

  later-fits : IsLater s.repository alike.fresh
      → ((k : ℕ) (m : Package) → k < place → slice_get later k ≡ Some m → IsClusterName s.repository alike.own m.name
      → IsLater s.repository m × (version_cmp alike.fresh.version m.version ≡ Equal))
      → Fits s.repository later place alike.fresh
  later-fits new others = record {
    own = λ taken. inr new;
    together = λ k less.
        let at = element-at later k (omega (arith, less, slice_get_within later place alike.fresh alike.is_fresh)) in
        at-has (λ m. AreOfOneCluster s.repository m alike.fresh → GoTogether s.repository m alike.fresh) later k at.element at.is
        (λ one. let other = others k at.element less at.is (own-cluster at.element one) in inr (other.0, new, other.1));
    fresh = λ free. absurd (free own-taken);
  }

  -- ---- the first package of its cluster

  pub first-kept : IsFound s.repository later place alike.own Nothing → Contains s.repository.packages alike.fresh
      → Takes s later place number (Some Kept)
  first-kept none kept = takes-some Kept (kept-fits kept (λ k m less is named. absurd (none k m less is named))) (
    place,
    omega arith,
    at-has (λ n. IsClusterName s.repository alike.own n.name × Contains s.repository.packages n) later place alike.fresh alike.is_fresh (own-name, kept),
  )

  pub first-later : IsFound s.repository later place alike.own Nothing → IsLater s.repository alike.fresh
      → Takes s later place number (Some (New place))
  first-later none new = takes-some (New place) (later-fits new (λ k m less is named. absurd (none k m less is named))) (
    omega arith,
    at-has (λ n. IsClusterName s.repository alike.own n.name × IsLater s.repository n) later place alike.fresh alike.is_fresh (own-name, new),
  )

  pub first-none : (¬ Contains s.repository.packages alike.fresh) → (¬ IsLater s.repository alike.fresh) → Takes s later place number None
  first-none changed old = takes-none (λ fits. elim (fits.own own-taken) [
    | inl kept ↦ changed kept
    | inr new ↦ old new
  ])

  -- ---- a further one

  module _ (fits : AllFit s.repository later place) where
    go-together : (i j : ℕ) (m n : Package) → i < place → j < place → slice_get later i ≡ Some m → slice_get later j ≡ Some n
        → IsClusterName s.repository alike.own m.name → IsClusterName s.repository alike.own n.name → GoTogether s.repository m n
    go-together i j m n in_i in_j is_m is_n of_m of_n =
        both-together s.repository frame.flat later place fits i j alike.own m n in_i in_j is_m is_n own-there of_m of_n

    pub more-kept : IsFound s.repository later place alike.own Kept → Contains s.repository.packages alike.fresh
        → Takes s later place number (Some Kept)
    more-kept found kept =
        let at = here-at (λ n. IsClusterName s.repository alike.own n.name × Contains s.repository.packages n) later found.0 found.2 in
        takes-some Kept (kept-fits kept (λ k m less is named.
        elim (go-together found.0 k at.element m found.1 less at.is is at.holds.0 named) [
          | inl both ↦ both.1
          | inr both ↦ absurd (kept-not_later s.repository frame.flat at.element at.holds.1 both.0)
        ])) (found.0, omega (arith, found.1), found.2)

    pub more-later : (first : ℕ) → IsFound s.repository later place alike.own (New first) → IsLater s.repository alike.fresh
        → ((m : Package) → slice_get later first ≡ Some m → version_cmp alike.fresh.version m.version ≡ Equal)
        → Takes s later place number (Some (New first))
    more-later first found new level =
        let at = here-at (λ n. IsClusterName s.repository alike.own n.name × IsLater s.repository n) later first found.1 in
        takes-some (New first) (later-fits new (λ k m less is named.
        elim (go-together first k at.element m found.0 less at.is is at.holds.0 named) [
          | inl both ↦ absurd (kept-not_later s.repository frame.flat at.element both.0 at.holds.1)
          | inr both ↦ (
            both.1,
            alike-left alike.fresh.version at.element.version m.version (level at.element at.is)
                ∙ equal-back m.version at.element.version both.2,
          )
        ])) (omega (arith, found.0), found.1)

  pub kept-none : IsFound s.repository later place alike.own Kept → (¬ Contains s.repository.packages alike.fresh) → Takes s later place number None
  kept-none found changed =
      let at = here-at (λ n. IsClusterName s.repository alike.own n.name × Contains s.repository.packages n) later found.0 found.2 in
      takes-none (λ fits. elim (has-at (λ m. AreOfOneCluster s.repository m alike.fresh → GoTogether s.repository m alike.fresh) later found.0 at.element
      at.is (fits.together found.0 found.1) (alike.own, own-there, at.holds.0, own-name)) [
        | inl both ↦ changed both.1
        | inr both ↦ kept-not_later s.repository frame.flat at.element at.holds.1 both.0
      ])

  pub later-none : (first : ℕ) → IsFound s.repository later place alike.own (New first)
      → (IsLater s.repository alike.fresh → (m : Package) → slice_get later first ≡ Some m
      → version_cmp alike.fresh.version m.version ≡ Equal → ⊥)
      → Takes s later place number None
  later-none first found fails =
      let at = here-at (λ n. IsClusterName s.repository alike.own n.name × IsLater s.repository n) later first found.1 in
      takes-none (λ fits. elim (has-at (λ m. AreOfOneCluster s.repository m alike.fresh → GoTogether s.repository m alike.fresh) later first at.element
      at.is (fits.together first found.0) (alike.own, own-there, at.holds.0, own-name)) [
        | inl both ↦ kept-not_later s.repository frame.flat at.element both.0 at.holds.1
        | inr both ↦ fails both.1 at.element at.is both.2
      ])

-- ---- all clusters

-- nothing more is found of a cluster whose name the next package does not have
found-more : (r : PackageList) (later : List Package) (place : ℕ) (c n : Package) (found : Found) → slice_get later place ≡ Some n
    → (¬ IsClusterName r c n.name) → IsFound r later place c found → IsFound r later (place + 1) c found
found-more r later place c n Nothing is other none = λ k m less at named. elim (cases_lt k place) [
  | inl before ↦ none k m before at named
  | inr here ↦
      let same : k ≡ place = omega (arith, less, here) in
      let one : m ≡ n = same-at later place m n (subst (λ (j : ℕ). slice_get later j ≡ Some m) same at) is in
      other (subst (λ (x : Package). IsClusterName r c x.name) one named)
]
found-more r later place c n Kept is other found = (found.0, omega (arith, found.1), found.2)
found-more r later place c n (New k) is other found = (omega (arith, found.0), found.1)

-- what is found is that of the cluster, whichever package names it
found-same : (r : PackageList) (later : List Package) (count : ℕ) (c d : Package) (found : Found) → AreClustered (member_of c) (member_of d)
    → IsFound r later count c found → IsFound r later count d found
found-same r later count c d Nothing same none = λ k m less at named.
    none k m less at (name-same r d c m.name (clustered-back (member_of c) (member_of d) same) named)
found-same r later count c d Kept same found =
    let at = here-at (λ n. IsClusterName r c n.name × Contains r.packages n) later found.0 found.2 in (
      found.0,
      found.1,
      at-has (λ n. IsClusterName r d n.name × Contains r.packages n) later found.0 at.element at.is
          (name-same r c d at.element.name same at.holds.0, at.holds.1),
    )
found-same r later count c d (New k) same found =
    let at = here-at (λ n. IsClusterName r c n.name × IsLater r n) later k found.1 in (
      found.0,
      at-has (λ n. IsClusterName r d n.name × IsLater r n) later k at.element at.is (name-same r c d at.element.name same at.holds.0, at.holds.1),
    )

fit-more : (r : PackageList) (later : List Package) (place : ℕ) → AllFit r later place → IsPackageAnd later place (Fits r later place)
    → AllFit r later (place + 1)
fit-more r later place fits here = λ k n less at. elim (cases_lt k place) [
  | inl before ↦ fits k n before at
  | inr same ↦
      let is : place ≡ k = omega (arith, less, same) in
      subst (λ (j : ℕ). Fits r later j n) is (has-at (Fits r later place) later place n (subst (λ (j : ℕ). slice_get later j ≡ Some n) (sym is) at) here)
]

module _ (s : SpaceView) (frame : IsFrame s) (later : List Package) where
  pub checked-none : (founds : List Found) (clusters : ℕ) → founds ≡ replicate clusters Nothing → clusters ≡ length s.clusters.members
      → AreChecked s later 0 founds
  checked-none founds clusters all count = record {
    beside = ap (λ (x : List Found). length x) all ∙ length-replicate clusters Nothing ∙ count;
    fits = λ k n less at. absurd (omega (arith, less));
    each = λ cluster c found of is.
        let nothing : found ≡ Nothing = only clusters cluster found (sym (ap (λ (x : List Found). slice_get x cluster) all) ∙ is) in
        subst (λ (x : Found). IsFound s.repository later 0 c x) (sym nothing) (λ k n less at named. omega (arith, less));
  }
    where
      only : (count k : ℕ) (found : Found) → slice_get (replicate count Nothing) k ≡ Some found → found ≡ Nothing
      only zero k found is = cc
      only (suc count) zero found is = let same : Nothing ≡ found = cc in sym same
      only (suc count) (suc k) found is = only count k found is

  module _ (place : ℕ) (founds : List Found) (checked : AreChecked s later place founds) where
    pub first-misfit : IsPackageAnd later place (λ n. ¬ Fits s.repository later place n) → IsFirstMisfit s.repository later place
    first-misfit here =
        let at = here-at (λ n. ¬ Fits s.repository later place n) later place here in
        record {
          before = λ k less.
              let own = element-at later k (omega (arith, less, slice_get_within later place at.element at.is)) in
              at-has (Fits s.repository later k) later k own.element own.is (checked.fits k own.element less own.is);
          here = here;
        }

    pub checked-fresh : (n : Package) → slice_get later place ≡ Some n → (¬ IsTaken s.repository n.name)
        → IsOfNewName n.name n × (¬ IsProvided s.repository n.name) → AreChecked s later (place + 1) founds
    checked-fresh n is free fresh = record {
      beside = checked.beside;
      fits = fit-more s.repository later place checked.fits (at-has (Fits s.repository later place) later place n is (fresh-fits n is free fresh));
      each = λ cluster c found of at. found-more s.repository later place c n found is (stranger c n free) (checked.each cluster c found of at);
    }
      where
        stranger : (c n : Package) → (¬ IsTaken s.repository n.name) → ¬ IsClusterName s.repository c n.name
        stranger c n free named = free (any-contained (λ (q : Package). q.name ≡ n.name) s.repository.packages named.0 named.1.there named.2)

        fresh-fits : (n : Package) → slice_get later place ≡ Some n → (¬ IsTaken s.repository n.name)
            → IsOfNewName n.name n × (¬ IsProvided s.repository n.name) → Fits s.repository later place n
        fresh-fits n is free fresh = record {
          own = λ taken. absurd (free taken);
          together = λ k less.
              let at = element-at later k (omega (arith, less, slice_get_within later place n is)) in
              at-has (λ m. AreOfOneCluster s.repository m n → GoTogether s.repository m n) later k at.element at.is
              (λ one. absurd (stranger one.0 n free one.3));
          fresh = λ _. fresh;
        }

    pub fresh-misfit : (n : Package) → slice_get later place ≡ Some n → (¬ IsTaken s.repository n.name)
        → (¬ (IsOfNewName n.name n × (¬ IsProvided s.repository n.name))) → IsFirstMisfit s.repository later place
    fresh-misfit n is free fails = first-misfit (at-has (λ x. ¬ Fits s.repository later place x) later place n is (λ fits. fails (fits.fresh free)))

    pub checked-own : (number : ℕ) (next : Found) → AreNamedAlike s later place number → Takes s later place number (Some next)
        → AreChecked s later (place + 1) (set founds (slice_index s.cluster_of number) next)
    checked-own number next alike takes = record {
      beside = length-set founds (slice_index s.cluster_of number) next ∙ checked.beside;
      fits = fit-more s.repository later place checked.fits takes.0;
      each = λ cluster c found of at. elim (cases_eq cluster (slice_index s.cluster_of number)) [
        | inl same ↦
            let short = number-within s frame number alike.own alike.is_own in
            let here : Some next ≡ Some found = sym (set-same founds (slice_index s.cluster_of number) next (omega (arith, short, checked.beside)))
            ∙ ap (slice_get (set founds (slice_index s.cluster_of number) next)) (sym same) ∙ at in
            let one : next ≡ found = cc in
            let of_own = of-number s frame number alike.own alike.is_own in
            let holds = has-at (λ q. IsFound s.repository later (place + 1) q next) s.repository.packages number alike.own alike.is_own takes.1 in
            let inside = (in-cluster s frame (slice_index s.cluster_of number) alike.own of_own of.member c of.is).0
            (subst (λ (k : ℕ). IsIn s.clusters.members k of.member) same of.in_cluster) in
            subst (λ (x : Found). IsFound s.repository later (place + 1) c x) one
            (found-same s.repository later (place + 1) alike.own c next inside.clustered holds)
        | inr other ↦
            found-more s.repository later place c alike.fresh found alike.is_fresh
            (λ named. other (one-cluster s frame cluster (slice_index s.cluster_of number) alike.fresh.name
            (name-of s frame cluster c alike.fresh.name of named)
            (name-of s frame (slice_index s.cluster_of number) alike.own alike.fresh.name (of-number s frame number alike.own alike.is_own)
            (own-name s frame later place number alike))))
            (checked.each cluster c found of (sym (set-other founds (slice_index s.cluster_of number) cluster next other) ∙ at))
      ];
    }

-- ---- the package that comes next

pub alike-at : (s : SpaceView) (later : List Package) (place number : ℕ) (n : Package) (name : List ℕ) → slice_get later place ≡ Some n
    → name ≡ n.name → IsPackageAnd s.repository.packages number (λ p. p.name ≡ name) → AreNamedAlike s later place number
alike-at s later place number n name is same named =
    let at = here-at (λ (p : Package). p.name ≡ name) s.repository.packages number named in
    record { own = at.element; fresh = n; is_own = at.is; is_fresh = is; named = at.holds ∙ same }

pub next-own : (s : SpaceView) (frame : IsFrame s) (later : List Package) (place number : ℕ) (founds : List Found) (found : Found)
    → AreNamedAlike s later place number → AreChecked s later place founds → slice_get founds (slice_index s.cluster_of number) ≡ Some found
    → IsNext s later place number found
next-own s frame later place number founds found alike checked is = record {
  alike = alike;
  fits = checked.fits;
  holds = checked.each (slice_index s.cluster_of number) alike.own found (of-number s frame number alike.own alike.is_own) is;
}
