-- What is missing of a cluster mends nothing: with its missing packages as empty new versions a future stays one, and has the cluster whole.
use Rattle.std.proofs.Common.{◌≡◌, ◌≢◌, ◌⊎◌, ◌<◌, ℕ, Bool, false, List, [], ◌∷◌, Some, length, slice_get, refl, sym, ap, subst, ◌∙◌, inl, inr, arith}
use Rattle.std.specs.Prelude.{Contains}
use Rattle.std.specs.declared.cmp.Ordering.TheVariants.{Equal}
use Rattle.std.proofs.lemmas.List.Elements.{All-contains}
use Rattle.dist_base.specs.ListLaws.{all-contained, any-contained, any-there, place-of, same-at}
use Rattle.dist_version.specs.Between.{without_rebuild_text}
use Rattle.dist_version.specs.Order.{version_cmp}
use Rattle.dist_relation.specs.declared.atom.Provide.{Provide}
use Rattle.dist_cluster.specs.Relation.{AreClustered, Member}
use Rattle.dist_repo.specs.DecidedLaws.{IsDecided, any-decided, both-decided, equal-decided, same-as, text-decided}
use Rattle.dist_repo.specs.Order.{IsFlat}
use Rattle.dist_repo.specs.PackageList.{PackageList}
use Rattle.dist_repo.specs.declared.package.Package.{Package}
use Rattle.dist_classes.specs.Answers.{member_of}
use Rattle.dist_classes.specs.NewVersion.{AreCarried, IsNewOf}
use Rattle.dist_classes.specs.VersionOrderLaws.{alike-left, equal-back, equal-itself, less-not_equal}
use Rattle.dist_space.specs.ClusterLaws.{names-apart}
use Rattle.dist_space.specs.RisingLaws.{contains-cons, contains-first, contains-later, pairs-cons}
use Rattle.dist_space.specs.Space.{IsSpace, SpaceView, cluster_classes, example_at}
use Rattle.dist_future.specs.Future.{IsAboveCluster, IsFuture, IsInClusterOf, Moves, Stays}
use Rattle.dist_future.specs.Outdated.{Challenges, HoldsCluster, IsInstallableAt, IsInstallableIn}
use Rattle.dist_future.specs.Pairs.{IsOfPair}
use Rattle.dist_archive.specs.Steps.{IsHeld, IsOfCluster}
use Rattle.dist_history.specs.Left.{HoldsNoOther, HoldsNothing}

-- ---- clusters

clustered-back : (a b : Member) → AreClustered a b → AreClustered b a
clustered-back a b h = record {
  source = sym h.source;
  source_version = equal-back a.source_version b.source_version h.source_version;
  version = equal-back (without_rebuild_text a.version) (without_rebuild_text b.version) h.version;
}

clustered-join : (a b c : Member) → AreClustered a b → AreClustered b c → AreClustered a c
clustered-join a b c f g = record {
  source = f.source ∙ g.source;
  source_version = alike-left a.source_version b.source_version c.source_version f.source_version ∙ g.source_version;
  version = alike-left (without_rebuild_text a.version) (without_rebuild_text b.version) (without_rebuild_text c.version) f.version ∙ g.version;
}

clustered-decided : (a b : Member) → IsDecided (AreClustered a b)
clustered-decided a b =
    same-as (λ h. record { source = h.0; source_version = h.1.0; version = h.1.1 }) (λ h. (h.source, (h.source_version, h.version)))
    (both-decided (text-decided a.source b.source)
    (both-decided (equal-decided (version_cmp a.source_version b.source_version))
    (equal-decided (version_cmp (without_rebuild_text a.version) (without_rebuild_text b.version)))))

-- a name has one package
one-named : (packages : List Package) (p q : Package) → IsFlat packages → Contains packages p → Contains packages q → p.name ≡ q.name → p ≡ q
one-named packages p q flat first second same =
    let a = place-of packages p first in
    let b = place-of packages q second in
    let at : a.place ≡ b.place = names-apart packages a.place b.place p q flat a.is b.is same in
    same-at packages b.place p q (subst (λ (n : ℕ). slice_get packages n ≡ Some p) at a.is) b.is

-- ---- an empty new version

abbrev bare : (version : List ℕ) → Package → Package
bare version q = record q { version = version; depends = []; conflicts = []; provides = [] }

abbrev none-kept : List Provide → List Bool
none-kept [] = []
none-kept (entry ∷ entries) = false ∷ none-kept entries

none-carried : (old new : List ℕ) (entries : List Provide) → AreCarried old new (none-kept entries) entries []
none-carried old new [] = refl
none-carried old new (entry ∷ entries) = none-carried old new entries

module _ (r : PackageList) (flat : IsFlat r.packages) (c : Package) (version : List ℕ) (above : IsAboveCluster r c version) where
  bare-new : (q : Package) → IsNewOf q (bare version q)
  bare-new q = (
    none-kept q.provides,
    record {
      name = refl;
      version = above.is_version;
      provides = none-carried q.version version q.provides;
    },
  )

  in-same : (d p : Package) → AreClustered (member_of c) (member_of d) → IsInClusterOf r d p → IsInClusterOf r c p
  in-same d p same inside = record {
    there = inside.there;
    clustered = clustered-join (member_of c) (member_of d) (member_of p) same inside.clustered;
  }

  -- it comes for a package of c's cluster whose name is not held
  module _ (archive : List Package) (before : IsFuture r archive) (only : HoldsNoOther r archive c version) (q : Package)
      (member : IsInClusterOf r c q) (unheld : ¬ IsHeld archive q.name) where
    abbrev more : List Package
    more = bare version q ∷ archive

    -- it is of the one package of its name
    of-name : (p n : Package) → Contains r.packages p → bare version q ≡ n → n.name ≡ p.name → q ≡ p
    of-name p n there is name =
        one-named r.packages q p flat member.there there (ap (λ (x : Package). x.name) is ∙ name)

    -- what is held beside it is new too
    held-new : (d p n : Package) → Contains r.packages d → AreClustered (member_of c) (member_of d) → IsInClusterOf r d p → Contains archive n
        → n.name ≡ p.name → IsNewOf p n × (version_cmp n.version version ≡ Equal)
    held-new d p n there same inside held name =
        let own = in-same d p same inside in
        let equal = only n held (p, own, sym name) in
        elim (before.clusters d there) [
          | inl stays ↦ absurd (less-not_equal p.version version (above.above p own)
              (subst (λ (x : Package). version_cmp x.version version ≡ Equal) (stays p n inside held name) equal))
          | inr moves ↦ ((moves.moved p n inside held name).0, equal)
        ]

    own-cluster : (d : Package) → Contains r.packages d → AreClustered (member_of c) (member_of d) → Moves r more d
    own-cluster d there same = record {
      version = version;
      above = record { is_version = above.is_version; above = λ p inside. above.above p (in-same d p same inside) };
      moved = λ p n inside here name. elim (contains-cons (bare version q) n archive here) [
        | inl is ↦ subst (λ (x : Package). IsNewOf p x × (version_cmp x.version version ≡ Equal)) is
            (subst (λ (x : Package). IsNewOf x (bare version q)) (of-name p n inside.there is name) (bare-new q), equal-itself version)
        | inr held ↦ held-new d p n there same inside held name
      ];
    }

    -- and the other clusters are as before
    other-held : (d p n : Package) → ¬ AreClustered (member_of c) (member_of d) → IsInClusterOf r d p → Contains more n → n.name ≡ p.name
        → Contains archive n
    other-held d p n apart inside here name = elim (contains-cons (bare version q) n archive here) [
      | inl is ↦
          let own = subst (λ (x : Package). AreClustered (member_of c) (member_of x)) (of-name p n inside.there is name) member.clustered in
          absurd (apart (clustered-join (member_of c) (member_of p) (member_of d) own
          (clustered-back (member_of d) (member_of p) inside.clustered)))
      | inr held ↦ held
    ]

    other-cluster : (d : Package) → ¬ AreClustered (member_of c) (member_of d) → Stays r archive d ⊎ Moves r archive d
        → Stays r more d ⊎ Moves r more d
    other-cluster d apart (inl stays) = inl (λ p n inside here name. stays p n inside (other-held d p n apart inside here name) name)
    other-cluster d apart (inr moves) = inr (record {
      version = moves.version;
      above = moves.above;
      moved = λ p n inside here name. moves.moved p n inside (other-held d p n apart inside here name) name;
    })

    more-future : IsFuture r more
    more-future = record {
      one_of_a_name = pairs-cons (λ (x y : Package). x.name ≢ y.name) (bare version q) archive
          (λ n held same. unheld (any-contained (λ (x : Package). x.name ≡ q.name) archive n held (sym same))) before.one_of_a_name;
      clusters = λ d there. elim (clustered-decided (member_of c) (member_of d)) [
        | inl same ↦ inr (own-cluster d there same)
        | inr apart ↦ other-cluster d apart (before.clusters d there)
      ];
      fresh = λ n here untaken. elim (contains-cons (bare version q) n archive here) [
        | inl is ↦ absurd (untaken (any-contained (λ (x : Package). x.name ≡ n.name) r.packages q member.there
            (ap (λ (x : Package). x.name) is)))
        | inr held ↦ before.fresh n held untaken
      ];
    }

    more-only : HoldsNoOther r more c version
    more-only n here name = elim (contains-cons (bare version q) n archive here) [
      | inl is ↦ subst (λ (x : Package). version_cmp x.version version ≡ Equal) is (equal-itself version)
      | inr held ↦ only n held name
    ]

  -- ---- all that are missing

  -- a future that has more, and of some packages each one of c's cluster under its name
  record HasMissing (archive packages : List Package) : Type 0 where
    full : List Package
    future : IsFuture r full
    only : HoldsNoOther r full c version
    more : (n : Package) → Contains archive n → Contains full n
    held : (q : Package) → Contains packages q → IsInClusterOf r c q → IsHeld full q.name

  -- a package whose name is held, or that is of no such name
  passed : (archive : List Package) (q : Package) (packages : List Package) (has : HasMissing archive packages)
      → (IsInClusterOf r c q → IsHeld has.full q.name) → HasMissing archive (q ∷ packages)
  passed archive q packages has here = record {
    full = has.full;
    future = has.future;
    only = has.only;
    more = has.more;
    held = λ p there inside. elim (contains-cons q p packages there) [
      | inl is ↦ subst (λ (x : Package). IsHeld has.full x.name) is (here (subst (λ (x : Package). IsInClusterOf r c x) (sym is) inside))
      | inr later ↦ has.held p later inside
    ];
  }

  -- a package of the cluster whose name is not
  put : (archive : List Package) (q : Package) (packages : List Package) (has : HasMissing archive packages) → IsInClusterOf r c q
      → ¬ IsHeld has.full q.name → HasMissing archive (q ∷ packages)
  put archive q packages has member unheld =
      let full = bare version q ∷ has.full in
      record {
        full = full;
        future = more-future has.full has.future has.only q member unheld;
        only = more-only has.full has.future has.only q member unheld;
        more = λ n there. contains-later (bare version q) n has.full (has.more n there);
        held = λ p there inside. elim (contains-cons q p packages there) [
          | inl is ↦ any-contained (λ (x : Package). x.name ≡ p.name) full (bare version q) (contains-first (bare version q) has.full)
              (ap (λ (x : Package). x.name) is)
          | inr later ↦
              let at = has.held p later inside in
              any-contained (λ (x : Package). x.name ≡ p.name) full at.1
              (contains-later (bare version q) at.1 has.full (any-there (λ (x : Package). x.name ≡ p.name) has.full at)) at.4
        ];
      }

  has-missing : (archive packages : List Package) → IsFuture r archive → HoldsNoOther r archive c version
      → ((q : Package) → Contains packages q → Contains r.packages q) → HasMissing archive packages
  has-missing archive [] before only within = record {
    full = archive;
    future = before;
    only = only;
    more = λ n there. there;
    held = λ q there inside. absurd (omega (arith, there.1));
  }
  has-missing archive (q ∷ packages) before only within =
      let has = has-missing archive packages before only (λ p there. within p (contains-later q p packages there)) in
      elim (clustered-decided (member_of c) (member_of q)) [
        | inl same ↦ elim (any-decided (λ (x : Package). x.name ≡ q.name) (λ x. text-decided x.name q.name) has.full) [
          | inl held ↦ passed archive q packages has (λ inside. held)
          | inr unheld ↦ put archive q packages has (record { there = within q (contains-first q packages); clustered = same }) unheld
        ]
        | inr apart ↦ passed archive q packages has (λ inside. absurd (apart inside.clustered))
      ]

  -- what is in no installation of a future that has the cluster whole is in none of one that lacks some of it
  pub nothing-mends : (essential : Bool) (p : Package) (archive : List Package) → ¬ IsInstallableAt essential r c version p → IsFuture r archive
      → HoldsNoOther r archive c version → ¬ IsInstallableIn essential r archive p
  nothing-mends essential p archive never before only installable =
      let has = has-missing archive r.packages before only (λ q there. there) in
      never (record {
        future = has.full;
        is_future = has.future;
        holds = λ q inside.
            let at = has.held q inside.there inside in
            let there = any-there (λ (x : Package). x.name ≡ q.name) has.full at in
            any-contained (λ (n : Package). (n.name ≡ q.name) × (version_cmp n.version version ≡ Equal)) has.full at.1 there
            (at.4, has.only at.1 there (q, inside, sym at.4));
        installable = record {
          members = installable.members;
          healthy = record {
            chosen = all-contained (Contains has.full) installable.members (λ n inside.
                has.more n (All-contains (Contains archive) installable.members n installable.healthy.chosen inside));
            one_of_a_name = installable.healthy.one_of_a_name;
            met = installable.healthy.met;
            no_conflict = installable.healthy.no_conflict;
            has_required = installable.healthy.has_required;
          };
          holds = installable.holds;
        };
      })

pub challenge-stays : (essential : Bool) (r : PackageList) (c p : Package) (version : List ℕ) (archive : List Package) → IsFlat r.packages
    → Challenges essential r c version p → IsFuture r archive → HoldsNoOther r archive c version → ¬ IsInstallableIn essential r archive p
challenge-stays essential r c p version archive flat challenges before only =
    nothing-mends r flat c version challenges.above essential p archive challenges.never before only

-- what holds a cluster whole at a version holds no other
pub whole-no-other : (r : PackageList) (archive : List Package) (c : Package) (version : List ℕ) → IsFlat archive
    → HoldsCluster r archive c version → HoldsNoOther r archive c version
whole-no-other r archive c version flat whole n there (q, inside, name) =
    let at = whole q inside in
    let held = any-there (λ (x : Package). (x.name ≡ q.name) × (version_cmp x.version version ≡ Equal)) archive at in
    let same : at.1 ≡ n = one-named archive at.1 n flat held there (at.4.0 ∙ name) in
    subst (λ (x : Package). version_cmp x.version version ≡ Equal) same at.4.1

-- ---- nothing of the cluster

pub challenge-needs : (essential : Bool) (r : PackageList) (c p : Package) (version : List ℕ) (archive : List Package) → IsFlat r.packages
    → Challenges essential r c version p → IsFuture r archive → HoldsNothing r archive c → ¬ IsInstallableIn essential r archive p
challenge-needs essential r c p version archive flat challenges before none =
    challenge-stays essential r c p version archive flat challenges before (λ n there name. absurd (none n there name))

-- a class has an example
pub class-needs : (s : SpaceView) (cluster class : ℕ) (c p : Package) (archive : List Package) → IsSpace s → IsOfCluster s cluster c
    → class < length (cluster_classes s cluster)
    → ((version : List ℕ) → IsOfPair s cluster class c version → Challenges s.essential s.repository c version p)
    → IsFuture s.repository archive → HoldsNothing s.repository archive c → ¬ IsInstallableIn s.essential s.repository archive p
class-needs s cluster class c p archive space of within challenged before none =
    let example = example_at (cluster_classes s cluster) class in
    let is = space.frame.examples cluster class within in
    let pair : IsOfPair s cluster class c example = record {
      member = of.member;
      in_cluster = of.in_cluster;
      is = of.is;
      is_version = is.0;
      of_class = is.1;
    } in
    challenge-needs s.essential s.repository c p example archive space.frame.flat (challenged example pair) before none
