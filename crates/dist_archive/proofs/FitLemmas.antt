-- A later archive is a future of a repository exactly where each of its packages fits.
use Rattle.std.proofs.Common.{◌≡◌, ◌⊎◌, ◌↔◌, ℕ, ◌<◌, List, Some, length, slice_get, refl, sym, subst, ◌∙◌, inl, inr, arith}
use Rattle.std.specs.Prelude.{Contains}
use Rattle.std.specs.declared.cmp.Ordering.TheVariants.{Equal}
use Rattle.std.proofs.lemmas.Bool.{cases_lt}
use Rattle.std.proofs.lemmas.Option.{slice_get_within}
use Rattle.dist_base.specs.ListLaws.{any-contained, at-has, contains-at, element-at, found-at, has-at, here-at, place-of, same-at}
use Rattle.dist_version.specs.Between.{without_rebuild_text}
use Rattle.dist_version.specs.Order.{version_cmp}
use Rattle.dist_version.specs.Spelling.{IsVersion}
use Rattle.dist_cluster.specs.Relation.{AreClustered, Member}
use Rattle.dist_repo.specs.DecidedLaws.{IsDecided, any-decided, both-decided, same-as, text-decided}
use Rattle.dist_repo.specs.Order.{IsFlat}
use Rattle.dist_repo.specs.PackageList.{IsPackageAnd, PackageList}
use Rattle.dist_repo.specs.declared.package.Package.{Package}
use Rattle.dist_classes.specs.Answers.{member_of}
use Rattle.dist_classes.specs.NewVersion.{IsNewOf}
use Rattle.dist_classes.specs.VersionOrderLaws.{alike-left, alike-right, equal-back, equal-itself, less-not_equal}
use Rattle.dist_future.specs.Future.{IsAboveCluster, IsFuture, IsInClusterOf, IsTaken, Moves, Stays}
use Rattle.dist_archive.specs.FoundPrivate.{AllFit}
use Rattle.dist_archive.specs.Reach.{AreOfOneCluster, Fits, GoTogether, IsFirstMisfit, IsLater}
use Rattle.dist_archive.specs.Steps.{IsClusterName, IsHeld}
use Rattle.dist_archive.proofs.FutureLemmas.{clustered-back, clustered-decided, in-same, one-named}

-- ---- names

pub cluster-name-decided : (r : PackageList) (c : Package) (name : List ℕ) → IsDecided (IsClusterName r c name)
cluster-name-decided r c name =
    let Named : Package → Type 0 = λ q. AreClustered (member_of c) (member_of q) × (q.name ≡ name) in
    same-as
    (λ any. let at = found-at Named r.packages any in (
      at.element,
      record { there = contains-at r.packages at.place at.element at.is; clustered = at.holds.0 },
      at.holds.1,
    ))
    (λ named. any-contained Named r.packages named.0 named.1.there (named.1.clustered, named.2))
    (any-decided Named (λ q. both-decided (clustered-decided (member_of c) (member_of q)) (text-decided q.name name)) r.packages)

pub held-decided : (packages : List Package) (name : List ℕ) → IsDecided (IsHeld packages name)
held-decided packages name = any-decided (λ (n : Package). n.name ≡ name) (λ n. text-decided n.name name) packages

pub taken-decided : (r : PackageList) (name : List ℕ) → IsDecided (IsTaken r name)
taken-decided r name = held-decided r.packages name

-- ---- clusters

clustered-itself : (a : Member) → AreClustered a a
clustered-itself a = record {
  source = refl;
  source_version = equal-itself a.source_version;
  version = equal-itself (without_rebuild_text a.version);
}

pub in-itself : (r : PackageList) (q : Package) → Contains r.packages q → IsInClusterOf r q q
in-itself r q there = record { there = there; clustered = clustered-itself (member_of q) }

-- a name of the same cluster
pub name-same : (r : PackageList) (c d : Package) (name : List ℕ) → AreClustered (member_of c) (member_of d) → IsClusterName r c name → IsClusterName r d name
name-same r c d name same named = (named.0, in-same r d c named.0 (clustered-back (member_of c) (member_of d) same) named.1, named.2)

-- above the top of the same cluster
pub above-same : (r : PackageList) (c d : Package) (version : List ℕ) → AreClustered (member_of c) (member_of d) → IsAboveCluster r c version
    → IsAboveCluster r d version
above-same r c d version same above = record {
  is_version = above.is_version;
  above = λ q inside. above.above q (in-same r c d q same inside);
}

-- in any text of the version
pub above-equal : (r : PackageList) (c : Package) (a b : List ℕ) → IsVersion b → version_cmp a b ≡ Equal → IsAboveCluster r c a → IsAboveCluster r c b
above-equal r c a b is_version same above = record {
  is_version = is_version;
  above = λ q inside. sym (alike-right a b q.version same) ∙ above.above q inside;
}

-- ---- packages of a later archive

module _ (r : PackageList) (flat : IsFlat r.packages) where
  -- a later package is later than the one of its name
  pub later-of : (q n : Package) → Contains r.packages q → n.name ≡ q.name → IsLater r n → IsNewOf q n × IsAboveCluster r q n.version
  later-of q n there name later =
      let fresh : IsNewOf later.0 n = later.2 in
      let same : later.0 ≡ q = one-named r.packages later.0 q flat later.1 there (sym fresh.1.name ∙ name) in
      (subst (λ (x : Package). IsNewOf x n) same later.2, subst (λ (x : Package). IsAboveCluster r x n.version) same later.3)

  -- no package of the repository is later
  pub kept-not_later : (n : Package) → Contains r.packages n → IsLater r n → ⊥
  kept-not_later n there later =
      let own = later-of n n there refl later in
      less-not_equal n.version n.version (own.1.above n (in-itself r n there)) (equal-itself n.version)

  module _ (later : List Package) where
    -- what moves is later
    pub moved-later : (c q n : Package) → Moves r later c → IsInClusterOf r c q → Contains later n → n.name ≡ q.name → IsLater r n
    moved-later c q n moves inside there name =
        let moved = moves.moved q n inside there name in
        let fresh : IsNewOf q n = moved.0 in (
          q,
          inside.there,
          fresh,
          above-equal r q moves.version n.version fresh.1.version (equal-back n.version moves.version moved.1)
              (above-same r c q moves.version inside.clustered moves.above),
        )

    -- ---- in a future all fits

    own-kind : (q n : Package) → Contains r.packages q → q.name ≡ n.name → Contains later n → Stays r later q ⊎ Moves r later q
        → Contains r.packages n ⊎ IsLater r n
    own-kind q n own name there (inl stays) =
        inl (subst (λ (x : Package). Contains r.packages x) (sym (stays q n (in-itself r q own) there (sym name))) own)
    own-kind q n own name there (inr moves) = inr (moved-later q q n moves (in-itself r q own) there (sym name))

    pub stay-kept : (c n : Package) → Stays r later c → Contains later n → IsClusterName r c n.name → Contains r.packages n
    stay-kept c n stays there named =
        subst (λ (x : Package). Contains r.packages x) (sym (stays named.0 n named.1 there (sym named.2))) named.1.there

    pub cluster-together : (c m n : Package) → Contains later m → Contains later n → IsClusterName r c m.name → IsClusterName r c n.name
        → Stays r later c ⊎ Moves r later c → GoTogether r m n
    cluster-together c m n first second of_m of_n (inl stays) = inl (stay-kept c m stays first of_m, stay-kept c n stays second of_n)
    cluster-together c m n first second of_m of_n (inr moves) = inr (
      moved-later c of_m.0 m moves of_m.1 first (sym of_m.2),
      moved-later c of_n.0 n moves of_n.1 second (sym of_n.2),
      alike-left n.version moves.version m.version (moves.moved of_n.0 n of_n.1 second (sym of_n.2)).1
          ∙ equal-back m.version moves.version (moves.moved of_m.0 m of_m.1 first (sym of_m.2)).1,
    )

    pub future-fits : IsFuture r later → (k : ℕ) (n : Package) → slice_get later k ≡ Some n → Fits r later k n
    future-fits future k n is =
        let there = contains-at later k n is in
        record {
          own = λ taken.
              let at = found-at (λ (q : Package). q.name ≡ n.name) r.packages taken in
              let own = contains-at r.packages at.place at.element at.is in
              own-kind at.element n own at.holds there (future.clusters at.element own);
          together = λ j less.
              let at = element-at later j (omega (arith, less, slice_get_within later k n is)) in
              at-has (λ m. AreOfOneCluster r m n → GoTogether r m n) later j at.element at.is
              (λ one. cluster-together one.0 at.element n (contains-at later j at.element at.is) there one.2 one.3 (future.clusters one.0 one.1));
          fresh = future.fresh n there;
        }

    -- ---- where all fits there is a future

    turned : (m n : Package) → GoTogether r n m → GoTogether r m n
    turned m n (inl both) = inl (both.1, both.0)
    turned m n (inr both) = inr (both.1, both.0, equal-back m.version n.version both.2)

    itself-together : (n : Package) → Contains r.packages n ⊎ IsLater r n → GoTogether r n n
    itself-together n (inl kept) = inl (kept, kept)
    itself-together n (inr new) = inr (new, new, equal-itself n.version)

    name-taken : (c : Package) (name : List ℕ) → IsClusterName r c name → IsTaken r name
    name-taken c name named = any-contained (λ (q : Package). q.name ≡ name) r.packages named.0 named.1.there named.2

    pub both-together : (count : ℕ) → AllFit r later count
        → (i j : ℕ) (c m n : Package) → i < count → j < count → slice_get later i ≡ Some m → slice_get later j ≡ Some n
        → Contains r.packages c → IsClusterName r c m.name → IsClusterName r c n.name → GoTogether r m n
    both-together count fits i j c m n in_i in_j is_m is_n there of_m of_n = elim (cases_lt i j) [
      | inl less ↦ has-at (λ x. AreOfOneCluster r x n → GoTogether r x n) later i m is_m ((fits j n in_j is_n).together i less) (c, there, of_m, of_n)
      | inr more ↦ elim (cases_lt j i) [
        | inl less ↦ turned m n (has-at (λ x. AreOfOneCluster r x m → GoTogether r x m) later j n is_n ((fits i m in_i is_m).together j less)
            (c, there, of_n, of_m))
        | inr also ↦
            let at : i ≡ j = omega (arith, more, also) in
            let same : m ≡ n = same-at later j m n (subst (λ (x : ℕ). slice_get later x ≡ Some m) at is_m) is_n in
            subst (λ (x : Package). GoTogether r m x) same (itself-together m ((fits i m in_i is_m).own (name-taken c m.name of_m)))
      ]
    ]

    module _ (fits : AllFit r later (length later)) where
      all-together : (c m n : Package) → Contains r.packages c → Contains later m → Contains later n → IsClusterName r c m.name
          → IsClusterName r c n.name → GoTogether r m n
      all-together c m n there first second of_m of_n =
          let a = place-of later m first in
          let b = place-of later n second in
          both-together (length later) fits a.place b.place c m n (slice_get_within later a.place m a.is) (slice_get_within later b.place n b.is)
          a.is b.is there of_m of_n

      by-first : (c m : Package) → Contains r.packages c → Contains later m → IsClusterName r c m.name → Contains r.packages m ⊎ IsLater r m
          → Stays r later c ⊎ Moves r later c
      by-first c m there first of_m (inl kept) = inl (λ q n inside here name.
          elim (all-together c m n there first here of_m (q, inside, sym name)) [
            | inl both ↦ one-named r.packages n q flat both.1 inside.there name
            | inr both ↦ absurd (kept-not_later m kept both.0)
          ])
      by-first c m there first of_m (inr new) = inr (record {
        version = m.version;
        above = above-same r of_m.0 c m.version (clustered-back (member_of c) (member_of of_m.0) of_m.1.clustered)
            (later-of of_m.0 m of_m.1.there (sym of_m.2) new).1;
        moved = λ q n inside here name. elim (all-together c m n there first here of_m (q, inside, sym name)) [
          | inl both ↦ absurd (kept-not_later m both.0 new)
          | inr both ↦ ((later-of q n inside.there name both.1).0, both.2)
        ];
      })

      cluster-moves : (c : Package) → Contains r.packages c → Stays r later c ⊎ Moves r later c
      cluster-moves c there =
          let Named : Package → Type 0 = λ n. IsClusterName r c n.name in
          elim (any-decided Named (λ n. cluster-name-decided r c n.name) later) [
            | inl some ↦
                let at = found-at Named later some in
                by-first c at.element there (contains-at later at.place at.element at.is) at.holds
                ((fits at.place at.element (slice_get_within later at.place at.element at.is) at.is).own (name-taken c at.element.name at.holds))
            | inr none ↦ inl (λ q n inside here name. absurd (none (any-contained Named later n here (q, inside, sym name))))
          ]

      pub fits-future : IsFlat later → IsFuture r later
      fits-future one = record {
        one_of_a_name = one;
        clusters = cluster-moves;
        fresh = λ n there. let at = place-of later n there in (fits at.place n (slice_get_within later at.place n at.is) at.is).fresh;
      }

    -- ---- the first misfit

    pub misfit-no_future : (number : ℕ) → IsFirstMisfit r later number → ¬ IsFuture r later
    misfit-no_future number misfit future =
        let at = here-at (λ n. ¬ Fits r later number n) later number misfit.here in
        at.holds (future-fits future number at.element at.is)

    misfit-earlier : (a b : ℕ) → IsFirstMisfit r later a → IsFirstMisfit r later b → a < b → ⊥
    misfit-earlier a b first second less =
        let at = here-at (λ n. ¬ Fits r later a n) later a first.here in
        at.holds (has-at (Fits r later a) later a at.element at.is (second.before a less))

    pub one-misfit : (a b : ℕ) → IsFirstMisfit r later a → IsFirstMisfit r later b → a ≡ b
    one-misfit a b first second = elim (cases_lt a b) [
      | inl less ↦ absurd (misfit-earlier a b first second less)
      | inr more ↦ elim (cases_lt b a) [
        | inl less ↦ absurd (misfit-earlier b a second first less)
        | inr also ↦ omega (arith, more, also)
      ]
    ]

    -- ---- futures are the lists in which all fits

    pub all-fit-future : IsFlat later → ((number : ℕ) → number < length later → IsPackageAnd later number (Fits r later number)) → IsFuture r later
    all-fit-future one all = fits-future (λ k n less is. has-at (Fits r later k) later k n is (all k less)) one

    pub future-all-fit : IsFlat later → IsFuture r later ↔ ((number : ℕ) → number < length later → IsPackageAnd later number (Fits r later number))
    future-all-fit one = (
      (λ future number less.
          let at = element-at later number less in
          at-has (Fits r later number) later number at.element at.is (future-fits future number at.element at.is)),
      all-fit-future one,
    )
