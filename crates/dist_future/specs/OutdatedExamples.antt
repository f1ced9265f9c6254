-- Worked examples of outdated packages and of challenges: p depends on libx below a version, and libx is at 1 today.
use Rattle.std.specs.Prelude.{◌≡◌, ◌≢◌, ℕ, zero, suc, Bool, true, false, List, [], ◌∷◌, None, Some, All, AllPairs}
use Rattle.std.specs.Prelude.{Any, Contains, codes, slice_index_or, refl}
use Rattle.std.specs.declared.cmp.Ordering.TheVariants.{Less, Equal, Greater}
use Rattle.std.specs.Ordering.{ordering_reverse}
use Rattle.std.proofs.Common.{ap, arith, inl, inr, lit<, subst, sym, ⊎_elim, ◌∙◌}
use Rattle.std.proofs.lemmas.List.Elements.{All-cons, All-contains, All-nil}
use Rattle.dist_base.specs.ListLaws.{any-cases}
use Rattle.dist_version.specs.Between.{without_rebuild_text}
use Rattle.dist_version.specs.Order.{version_cmp}
use Rattle.dist_version.specs.OrderLaws.{version_total}
use Rattle.dist_relation.specs.declared.atom.Atom.{Atom}
use Rattle.dist_relation.specs.declared.atom.Op.TheVariants.{Lt}
use Rattle.dist_relation.specs.declared.atom.Provide.{Provide}
use Rattle.dist_relation.specs.declared.atom.Qualifier.TheVariants.{Plain}
use Rattle.dist_repo.specs.Conflict.{AreInConflict}
use Rattle.dist_repo.specs.Healthy.{IsMet}
use Rattle.dist_repo.specs.Match.{Matches, MatchesByEntry, MatchesByName}
use Rattle.dist_repo.specs.PackageList.{PackageList}
use Rattle.dist_repo.specs.Strong.{IsInstallation}
use Rattle.dist_repo.specs.declared.package.Package.{Package}
use Rattle.dist_classes.specs.NewVersion.{AreCarried}
use Rattle.dist_future.specs.Future.{IsFuture, IsInClusterOf, IsTaken}
use Rattle.dist_future.specs.FutureExamples.{a, b, itself, later_a, later_b, one-below-two, one-of, pair, two}
use Rattle.dist_future.specs.FutureExamples.{two-is-two, two-is-version}
use Rattle.dist_future.specs.Outdated.{Challenges, HoldsCluster, IsInstallableIn, IsOutdated}

-- ---- a cluster at a version

-- With a and b at 2 the future holds their cluster at 2.
holds_both : HoldsCluster two (later_a ∷ later_b ∷ []) a (codes "2")
holds_both q in_cluster = elim (one-of a b q in_cluster.there) [
  | inl is ↦ (0, later_a, lit< tt, refl, (ap (λ (x : Package). x.name) is, two-is-two))
  | inr is ↦ (1, later_b, lit< tt, refl, (ap (λ (x : Package). x.name) is, two-is-two))
]

-- ---- an archive of two

-- libx below a version
abbrev on_libx : List ℕ → Atom
on_libx below = record { name = codes "libx"; qualifier = Plain; bound = Some (record { op = Lt; version = below }) }

abbrev at_one : List ℕ → List (List Atom) → Package
at_one name depends = record {
  name = name;
  version = codes "1";
  source = name;
  source_version = codes "1";
  depends = depends;
  conflicts = [];
  provides = [];
  essential = false;
}

abbrev pub libx : Package
libx = at_one (codes "libx") []

abbrev pub p : List ℕ → Package
p below = at_one (codes "p") ((on_libx below ∷ []) ∷ [])

abbrev pub both : List ℕ → PackageList
both below = record { architecture = None; packages = libx ∷ p below ∷ [] }

-- ---- what a healthy installation of a future has

no-more : (kept : List Bool) (old new : List ℕ) (carried : List Provide) → AreCarried old new kept [] carried
    → carried ≡ []
no-more [] old new carried is = is
no-more (true ∷ kept) old new carried is = absurd is
no-more (false ∷ kept) old new carried is = absurd is

nothing-before : (below : List ℕ) (q : Package) → Contains (both below).packages q → [] ≡ q.provides
nothing-before below q there = elim (one-of libx (p below) q there) [
  | inl is ↦ ap (λ (x : Package). x.provides) is
  | inr is ↦ ap (λ (x : Package). x.provides) is
]

own : (below : List ℕ) (q : Package) → Contains (both below).packages q → IsInClusterOf (both below) q q
own below q there = record {
  there = there;
  clustered = record {
    source = refl;
    source_version = itself q.source_version;
    version = itself (without_rebuild_text q.version);
  };
}

-- no package of a future provides anything
no-entry : (below : List ℕ) (future : List Package) → IsFuture (both below) future → (n : Package) → Contains future n
    → (P : Provide → Type 0) → ¬ Any P n.provides
no-entry below future is n inside P any = new (is.fresh n inside (λ taken. old taken)).0.provides
  where
    new : ¬ (n.provides ≡ [])
    new none = let some : Any P [] = subst (λ (es : List Provide). Any P es) none any in omega (arith, some.2)

    old : ¬ IsTaken (both below) n.name
    old taken =
        let there : Contains (both below).packages taken.1 = (taken.0, taken.2, taken.3) in
        elim (is.clusters taken.1 there) [
          | inl stays ↦
              let same = stays taken.1 n (own below taken.1 there) inside (sym taken.4) in
              new (ap (λ (x : Package). x.provides) same ∙ sym (nothing-before below taken.1 there))
          | inr moves ↦
              let moved = (moves.moved taken.1 n (own below taken.1 there) inside (sym taken.4)).0 in
              new (no-more moved.0 taken.1.version n.version n.provides
              (subst (λ (es : List Provide). AreCarried taken.1.version n.version moved.0 es n.provides)
              (sym (nothing-before below taken.1 there)) moved.1.provides))
        ]

-- a libx below the version
record HasOlder (future : List Package) (below : List ℕ) : Type 0 where
  it : Package
  inside : Contains future it
  name : it.name ≡ codes "libx"
  older : version_cmp it.version below ≡ Less

has-older : (below : List ℕ) (future : List Package) → IsFuture (both below) future
    → IsInstallableIn false (both below) future (p below) → HasOlder future below
has-older below future is in_it =
    let items = All-contains (λ q. All (IsMet None in_it.members) q.depends) in_it.members (p below) in_it.healthy.met
    in_it.holds in
    let item : IsMet None in_it.members (on_libx below ∷ []) = items 0 [] (lit< tt) in
    let met : Any (Matches None (on_libx below)) in_it.members =
    ⊎_elim (λ here. here) (λ none. absurd (omega (arith, none.2)))
    (any-cases (λ atom. Any (Matches None atom) in_it.members) (on_libx below) [] item) in
    let inside = All-contains (Contains future) in_it.members met.1 in_it.healthy.chosen (met.0, met.2, met.3) in
    elim met.4.matched [
      | inl named ↦ record { it = met.1; inside = inside; name = named.name; older = named.bound }
      | inr entry ↦ absurd (no-entry below future is met.1 inside (λ e. MatchesByEntry None (on_libx below) e) entry)
    ]

libx-there : (below : List ℕ) → Contains (both below).packages libx
libx-there below = (0, lit< tt, refl)

equal-to : (v w u : List ℕ) → version_cmp v w ≡ Equal → version_cmp v u ≡ version_cmp w u
equal-to v w u is = version_total.congr v w u is

-- ---- outdated

-- No later libx is below 1: p, which asks for one, is outdated.
pub p_is_outdated : IsOutdated false (both (codes "1")) (p (codes "1"))
p_is_outdated = record {
  there = (1, lit< tt, refl);
  never = λ later.
      let has = has-older (codes "1") later.future later.is_future later.installable in
      let here = own (codes "1") libx (libx-there (codes "1")) in
      elim (later.is_future.clusters libx (libx-there (codes "1"))) [
        | inl stays ↦
            let same : version_cmp has.it.version (codes "1") ≡ Equal
            = ap (λ (x : Package). version_cmp x.version (codes "1")) (stays libx has.it here has.inside has.name)
            ∙ itself (codes "1") in
            let less = has.older in cc
        | inr moves ↦
            let equal = (moves.moved libx has.it here has.inside has.name).1 in
            let above : version_cmp moves.version (codes "1") ≡ Greater
            = version_total.antisymm moves.version (codes "1") ∙ ap ordering_reverse (moves.above.above libx here) in
            let order = equal-to has.it.version moves.version (codes "1") equal in
            let less = has.older in cc
      ];
}

-- ---- a challenge

libx_is_not_p : codes "libx" ≢ codes "p"
libx_is_not_p e = let differ : 108 ≡ 112 = ap (λ (s : List ℕ). slice_index_or s 0 0) e in omega (arith, differ)

both-at-one : (q : Package) → Contains (both (codes "2")).packages q → codes "1" ≡ q.version
both-at-one q there = elim (one-of libx (p (codes "2")) q there) [
  | inl is ↦ ap (λ (x : Package). x.version) is
  | inr is ↦ ap (λ (x : Package). x.version) is
]

abbrev members : List Package
members = libx ∷ p (codes "2") ∷ []

-- today both are a healthy installation
healthy_today : IsInstallation false (both (codes "2")) members
healthy_today = record {
  chosen = All-cons (Contains members) libx (p (codes "2") ∷ []) (0, lit< tt, refl)
      (All-cons (Contains members) (p (codes "2")) [] (1, lit< tt, refl) (All-nil (Contains members)));
  one_of_a_name = pair libx (p (codes "2")) libx_is_not_p;
  met = All-cons (λ q. All (IsMet None members) q.depends) libx (p (codes "2") ∷ []) (All-nil (IsMet None members))
      (All-cons (λ q. All (IsMet None members) q.depends) (p (codes "2")) []
      (All-cons (IsMet None members) (on_libx (codes "2") ∷ []) []
      (0, on_libx (codes "2"), lit< tt, refl, (0, libx, lit< tt, refl, record { usable = tt; matched = inl named }))
      (All-nil (IsMet None members)))
      (All-nil (λ q. All (IsMet None members) q.depends)));
  no_conflict = related (λ x y. ¬ AreInConflict None x y) (λ conflict. ⊎_elim (λ none. omega (arith, none.2))
      (λ none. omega (arith, none.2)) conflict.matched);
  has_required = All-nil (λ name. Any (λ (q : Package). q.name ≡ name) members);
}
  where
    named : MatchesByName (on_libx (codes "2")) libx
    named = record { name = refl; bound = one-below-two }

    related : (R : Package → Package → Type 0) → R libx (p (codes "2")) → AllPairs R members
    related R holds zero zero d less short = absurd (omega (arith, less))
    related R holds zero (suc zero) d less short = holds
    related R holds zero (suc (suc j)) d less short = absurd (omega (arith, short))
    related R holds (suc i) j d less short = absurd (omega (arith, less, short))

-- p asks for a libx below 2. A libx at 2 challenges it.
pub two_challenges : Challenges false (both (codes "2")) libx (codes "2") (p (codes "2"))
two_challenges = record {
  cluster = libx-there (codes "2");
  package_there = (1, lit< tt, refl);
  outside = λ clustered. libx_is_not_p clustered.source;
  above = record {
    is_version = two-is-version;
    above = λ q in_cluster.
        subst (λ (v : List ℕ). version_cmp v (codes "2") ≡ Less) (both-at-one q in_cluster.there) one-below-two;
  };
  installable = record { members = libx ∷ p (codes "2") ∷ []; healthy = healthy_today; holds = (1, lit< tt, refl) };
  never = λ at.
      let has = has-older (codes "2") at.future at.is_future at.installable in
      let here = own (codes "2") libx (libx-there (codes "2")) in
      let held = at.holds libx here in
      let there : Contains at.future held.1 = (held.0, held.2, held.3) in
      elim (at.is_future.clusters libx (libx-there (codes "2"))) [
        | inl stays ↦
            let as_it_is = stays libx held.1 here there held.4.0 in
            let same : version_cmp (codes "1") (codes "2") ≡ Equal
            = sym (ap (λ (x : Package). version_cmp x.version (codes "2")) as_it_is) ∙ held.4.1 in
            let less = one-below-two in cc
        | inr moves ↦
            let older = moves.moved libx has.it here has.inside has.name in
            let one = equal-to has.it.version moves.version (codes "2") older.1 in
            let newer = moves.moved libx held.1 here there held.4.0 in
            let other = equal-to held.1.version moves.version (codes "2") newer.1 in
            let less = has.older in
            let equal = held.4.1 in cc
      ];
}

-- The version of today is above no top, so that it challenges nothing.
today_is_no_challenge : (q : Package) → ¬ Challenges false (both (codes "2")) libx (codes "1") q
today_is_no_challenge q challenge =
    let less = challenge.above.above libx (own (codes "2") libx (libx-there (codes "2"))) in
    let equal = itself (codes "1") in cc
