-- What steps make of a future is a future.
use Rattle.std.proofs.Common.{◌≡◌, ◌⊎◌, ℕ, Bool, List, [], ◌∷◌, Some, slice_get, refl, sym, subst, ◌∙◌, inl, inr}
use Rattle.std.specs.Prelude.{Contains}
use Rattle.std.specs.declared.cmp.Ordering.TheVariants.{Equal}
use Rattle.std.proofs.lemmas.List.Elements.{All-contains}
use Rattle.dist_base.specs.ListLaws.{any-contained, place-of, same-at}
use Rattle.dist_version.specs.Order.{version_cmp}
use Rattle.dist_version.specs.Between.{without_rebuild_text}
use Rattle.dist_cluster.specs.Relation.{AreClustered, Member}
use Rattle.dist_repo.specs.DecidedLaws.{IsDecided, both-decided, equal-decided, same-as, text-decided}
use Rattle.dist_repo.specs.Order.{IsFlat}
use Rattle.dist_repo.specs.PackageList.{PackageList}
use Rattle.dist_repo.specs.declared.package.Package.{Package}
use Rattle.dist_classes.specs.Answers.{member_of}
use Rattle.dist_classes.specs.NewVersion.{IsNewOf, IsOfNewName}
use Rattle.dist_classes.specs.VersionOrderLaws.{alike-left, equal-back}
use Rattle.dist_space.specs.ClusterLaws.{names-apart}
use Rattle.dist_space.specs.Space.{IsSpace, SpaceView}
use Rattle.dist_future.specs.Future.{IsFuture, IsInClusterOf, IsProvided, IsTaken, Moves, Stays}
use Rattle.dist_future.specs.Outdated.{Challenges, HoldsCluster, IsInstallableIn}
use Rattle.dist_archive.specs.Steps.{BringsName, HasExactly, IsReached, IsUploaded, Lead, Makes, Removes, Uploads}
use Rattle.dist_archive.specs.declared.step.Step.{Step}
use Rattle.dist_archive.specs.declared.step.Step.TheVariants.{Upload, Removal, NewName}

-- ---- clusters

pub clustered-back : (a b : Member) → AreClustered a b → AreClustered b a
clustered-back a b h = record {
  source = sym h.source;
  source_version = equal-back a.source_version b.source_version h.source_version;
  version = equal-back (without_rebuild_text a.version) (without_rebuild_text b.version) h.version;
}

pub clustered-join : (a b c : Member) → AreClustered a b → AreClustered b c → AreClustered a c
clustered-join a b c f g = record {
  source = f.source ∙ g.source;
  source_version = alike-left a.source_version b.source_version c.source_version f.source_version ∙ g.source_version;
  version = alike-left (without_rebuild_text a.version) (without_rebuild_text b.version) (without_rebuild_text c.version) f.version ∙ g.version;
}

pub clustered-decided : (a b : Member) → IsDecided (AreClustered a b)
clustered-decided a b =
    same-as (λ h. record { source = h.0; source_version = h.1.0; version = h.1.1 }) (λ h. (h.source, (h.source_version, h.version)))
    (both-decided (text-decided a.source b.source)
    (both-decided (equal-decided (version_cmp a.source_version b.source_version))
    (equal-decided (version_cmp (without_rebuild_text a.version) (without_rebuild_text b.version)))))

-- a name has one package
pub one-named : (packages : List Package) (p q : Package) → IsFlat packages → Contains packages p → Contains packages q → p.name ≡ q.name
    → p ≡ q
one-named packages p q flat first second same =
    let a = place-of packages p first in
    let b = place-of packages q second in
    let at : a.place ≡ b.place = names-apart packages a.place b.place p q flat a.is b.is same in
    same-at packages b.place p q (subst (λ (n : ℕ). slice_get packages n ≡ Some p) at a.is) b.is

-- in the same cluster
pub in-same : (r : PackageList) (c d q : Package) → AreClustered (member_of c) (member_of d) → IsInClusterOf r d q → IsInClusterOf r c q
in-same r c d q same inside = record {
  there = inside.there;
  clustered = clustered-join (member_of c) (member_of d) (member_of q) same inside.clustered;
}

-- ---- an upload

module _ (r : PackageList) (flat : IsFlat r.packages) (c : Package) (version : List ℕ) (packages old new : List Package)
    (up : Uploads r c version packages old new) where
  -- what is uploaded in the place of q
  uploaded-as : (q n : Package) → Contains r.packages q → Contains packages n → n.name ≡ q.name
      → IsInClusterOf r c q × IsNewOf q n × (version_cmp n.version version ≡ Equal)
  uploaded-as q n there inside name =
      let made = All-contains (IsUploaded r c version) packages n up.uploaded inside in
      let p = made.0.0 in
      let fresh : IsNewOf p n = made.0.2 in
      let same : p ≡ q = one-named r.packages p q flat made.0.1.there there (sym fresh.1.name ∙ name) in
      (subst (λ (x : Package). IsInClusterOf r c x) same made.0.1, subst (λ (x : Package). IsNewOf x n) same fresh, made.1)

  -- its own cluster moves
  own-cluster : (d : Package) → AreClustered (member_of c) (member_of d) → Moves r new d
  own-cluster d same = record {
    version = version;
    above = record {
      is_version = up.above.top.is_version;
      above = λ q inside. up.above.top.above q (in-same r c d q same inside);
    };
    moved = λ q n inside there name. elim ((up.made.exact n).0 there) [
      | inl uploaded ↦ let made = uploaded-as q n inside.there uploaded name in (made.1, made.2)
      | inr held ↦ absurd (held.1 (q, in-same r c d q same inside, sym name))
    ];
  }

  -- and the others are as before
  other-held : (d q n : Package) → ¬ AreClustered (member_of c) (member_of d) → IsInClusterOf r d q → Contains new n → n.name ≡ q.name
      → Contains old n
  other-held d q n apart inside there name = elim ((up.made.exact n).0 there) [
    | inl uploaded ↦
        let made = uploaded-as q n inside.there uploaded name in
        absurd (apart (clustered-join (member_of c) (member_of q) (member_of d) made.0.clustered
        (clustered-back (member_of d) (member_of q) inside.clustered)))
    | inr held ↦ held.0
  ]

  other-cluster : (d : Package) → ¬ AreClustered (member_of c) (member_of d) → Stays r old d ⊎ Moves r old d → Stays r new d ⊎ Moves r new d
  other-cluster d apart (inl stays) = inl (λ q n inside there name. stays q n inside (other-held d q n apart inside there name) name)
  other-cluster d apart (inr moves) = inr (record {
    version = moves.version;
    above = moves.above;
    moved = λ q n inside there name. moves.moved q n inside (other-held d q n apart inside there name) name;
  })

  uploaded-taken : (n : Package) → Contains packages n → IsTaken r n.name
  uploaded-taken n inside =
      let made = All-contains (IsUploaded r c version) packages n up.uploaded inside in
      let fresh : IsNewOf made.0.0 n = made.0.2 in
      any-contained (λ (q : Package). q.name ≡ n.name) r.packages made.0.0 made.0.1.there (sym fresh.1.name)

  pub upload-future : IsFuture r old → IsFuture r new
  upload-future before = record {
    one_of_a_name = up.made.one_of_a_name;
    clusters = λ d there. elim (clustered-decided (member_of c) (member_of d)) [
      | inl same ↦ inr (own-cluster d same)
      | inr apart ↦ other-cluster d apart (before.clusters d there)
    ];
    fresh = λ n there untaken. elim ((up.made.exact n).0 there) [
      | inl uploaded ↦ absurd (untaken (uploaded-taken n uploaded))
      | inr held ↦ before.fresh n held.0 untaken
    ];
  }

-- ---- a removal, and a package of a new name

-- packages of the repository's names are all there before, and the others are those of new names
module _ (r : PackageList) (old new : List Package) (before : IsFuture r old)
    (held : (n : Package) → Contains new n → IsTaken r n.name → Contains old n) where
  taken-by : (d q n : Package) → IsInClusterOf r d q → n.name ≡ q.name → IsTaken r n.name
  taken-by d q n inside name = any-contained (λ (p : Package). p.name ≡ n.name) r.packages q inside.there (sym name)

  fewer-cluster : (d : Package) → Stays r old d ⊎ Moves r old d → Stays r new d ⊎ Moves r new d
  fewer-cluster d (inl stays) = inl (λ q n inside there name. stays q n inside (held n there (taken-by d q n inside name)) name)
  fewer-cluster d (inr moves) = inr (record {
    version = moves.version;
    above = moves.above;
    moved = λ q n inside there name. moves.moved q n inside (held n there (taken-by d q n inside name)) name;
  })

  pub fewer-future : IsFlat new → ((n : Package) → Contains new n → ¬ IsTaken r n.name → IsOfNewName n.name n × (¬ IsProvided r n.name))
      → IsFuture r new
  fewer-future one fresh = record {
    one_of_a_name = one;
    clusters = λ d there. fewer-cluster d (before.clusters d there);
    fresh = fresh;
  }

pub removal-future : (r : PackageList) (name : List ℕ) (old new : List Package) → IsFuture r old → Removes name old new → IsFuture r new
removal-future r name old new before removes =
    fewer-future r old new before (λ n there taken. ((removes.made.exact n).0 there).0) removes.made.one_of_a_name
    (λ n there untaken. before.fresh n ((removes.made.exact n).0 there).0 untaken)

pub name-future : (r : PackageList) (p : Package) (old new : List Package) → IsFuture r old → BringsName r p old new → IsFuture r new
name-future r p old new before brings =
    fewer-future r old new before
    (λ n there taken. elim ((brings.made.exact n).0 there) [
      | inl here ↦ here
      | inr is ↦ absurd (brings.untaken (subst (λ (x : Package). IsTaken r x.name) (sym is) taken))
    ]) brings.made.one_of_a_name
    (λ n there untaken. elim ((brings.made.exact n).0 there) [
      | inl here ↦ before.fresh n here untaken
      | inr is ↦ subst (λ (x : Package). IsOfNewName x.name x × (¬ IsProvided r x.name)) is (brings.of_new_name, brings.unprovided)
    ])

-- ---- steps

pub made-future : (s : SpaceView) (step : Step) (old new : List Package) → IsSpace s → IsFuture s.repository old → Makes s step old new
    → IsFuture s.repository new
made-future s (Upload cluster version block) old new space before makes =
    upload-future s.repository space.frame.flat makes.0 version block.packages old new makes.2 before
made-future s (Removal name) old new space before makes = removal-future s.repository name old new before makes
made-future s (NewName block) old new space before makes = name-future s.repository makes.0 old new before makes.2

-- the repository itself is a future
pub today-future : (s : SpaceView) → IsSpace s → IsFuture s.repository s.repository.packages
today-future s space = record {
  one_of_a_name = space.frame.flat;
  clusters = λ d there. inl (λ q n inside here name. one-named s.repository.packages n q space.frame.flat here inside.there name);
  fresh = λ n there untaken. absurd (untaken (any-contained (λ (q : Package). q.name ≡ n.name) s.repository.packages n there refl));
}

-- another order
same-future : (r : PackageList) (old new : List Package) → IsFuture r old → HasExactly new (Contains old) → IsFuture r new
same-future r old new before same =
    fewer-future r old new before (λ n there taken. (same.exact n).0 there) same.one_of_a_name
    (λ n there untaken. before.fresh n ((same.exact n).0 there) untaken)

pub led-future : (s : SpaceView) (steps : List Step) (old new : List Package) → IsSpace s → IsFuture s.repository old → Lead s steps old new
    → IsFuture s.repository new
led-future s [] old new space before lead = same-future s.repository old new before lead
led-future s (step ∷ steps) old new space before lead =
    led-future s steps lead.0 new space (made-future s step old lead.0 space before lead.1) lead.2

pub reached-future : (s : SpaceView) (archive : List Package) → IsSpace s → IsReached s archive → IsFuture s.repository archive
reached-future s archive space reached =
    led-future s reached.0 s.repository.packages archive space (today-future s space) reached.1

-- what no future allows no list of steps does
pub challenge-holds : (essential : Bool) (s : SpaceView) (c p : Package) (version : List ℕ) (steps : List Step) (old new : List Package) → IsSpace s
    → Challenges essential s.repository c version p → IsFuture s.repository old → Lead s steps old new → HoldsCluster s.repository new c version
    → ¬ IsInstallableIn essential s.repository new p
challenge-holds essential s c p version steps old new space challenges before lead holds installable =
    challenges.never (record {
      future = new;
      is_future = led-future s steps old new space before lead;
      holds = holds;
      installable = installable;
    })
