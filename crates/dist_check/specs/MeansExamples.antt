-- Worked examples of what claims say: of a package that needs nothing, alone in its archive.
use Rattle.std.specs.Prelude.{◌≡◌, ℕ, zero, suc, false, List, [], ◌∷◌, None, Some, All, AllPairs, Any, Contains, codes}
use Rattle.std.specs.Prelude.{refl, slice_get}
use Rattle.std.proofs.Common.{◌≢◌, ◌∙◌, ap, arith, inl, lit<, subst, sym}
use Rattle.std.proofs.lemmas.List.Elements.{All-cons, All-nil}
use Rattle.dist_version.specs.Between.{without_rebuild_text}
use Rattle.dist_cluster.specs.Partition.{IsIn}
use Rattle.dist_cluster.specs.Relation.{AreClustered}
use Rattle.dist_classes.specs.Answers.{member_of}
use Rattle.dist_classes.specs.VersionOrderLaws.{equal-itself}
use Rattle.dist_repo.specs.Conflict.{AreInConflict}
use Rattle.dist_repo.specs.Healthy.{IsMet}
use Rattle.dist_repo.specs.PackageList.{PackageList}
use Rattle.dist_repo.specs.Strong.{IsInstallation}
use Rattle.dist_repo.specs.declared.package.Package.{Package}
use Rattle.dist_space.specs.Space.{SpaceView}
use Rattle.dist_future.specs.Future.{IsFuture}
use Rattle.dist_future.specs.Outdated.{IsInstallableLater}
use Rattle.dist_future.specs.Pairs.{IsOfPair}
use Rattle.dist_cert.specs.declared.records.Claim.{Claim}
use Rattle.dist_cert.specs.declared.records.Claim.TheVariants.{Alive, Challenged, Outdated}
use Rattle.dist_check.specs.Means.{IsPairBeside, MeansChallenged, MeansOutdated, SaysChallenged, SaysOutdated}

abbrev libx : Package
libx = record {
  name = codes "libx";
  version = codes "1";
  source = codes "libx";
  source_version = codes "1";
  depends = [];
  conflicts = [];
  provides = [];
  essential = false;
}

abbrev alone : PackageList
alone = record { architecture = None; packages = libx ∷ [] }

only : (q : Package) → Contains alone.packages q → q ≡ libx
only q (zero, short, is) = sym is
only q (suc k, short, is) = absurd (omega (arith, short))

no-pairs : (R : Package → Package → Type 0) → AllPairs R alone.packages
no-pairs R i j d less short = absurd (omega (arith, less, short))

healthy : IsInstallation false alone (libx ∷ [])
healthy = record {
  chosen = All-cons (Contains (libx ∷ [])) libx [] (0, lit< tt, refl) (All-nil (Contains (libx ∷ [])));
  one_of_a_name = no-pairs (λ p q. p.name ≢ q.name);
  met = All-cons (λ p. All (IsMet None (libx ∷ [])) p.depends) libx [] (All-nil (IsMet None (libx ∷ [])))
      (All-nil (λ p. All (IsMet None (libx ∷ [])) p.depends));
  no_conflict = no-pairs (λ p q. ¬ AreInConflict None p q);
  has_required = All-nil (λ name. Any (λ (p : Package). p.name ≡ name) (libx ∷ []));
}

-- the archive as it is is a future
unchanged : IsFuture alone (libx ∷ [])
unchanged = record {
  one_of_a_name = no-pairs (λ p q. p.name ≢ q.name);
  clusters = λ c there. inl (λ q n in_cluster inside name. only n inside ∙ sym (only q in_cluster.there));
  fresh = λ n inside untaken. absurd
      (untaken (0, libx, lit< tt, refl, ap (λ (x : Package). x.name) (sym (only n inside))));
}

later : IsInstallableLater false alone libx
later = record {
  future = libx ∷ [];
  is_future = unchanged;
  installable = record { members = libx ∷ []; healthy = healthy; holds = (0, lit< tt, refl) };
}

-- ---- kind outdated

-- It is claimed to be alive.
alive : MeansOutdated false alone (Alive ∷ [])
alive = record { one_each = refl; each = λ number q claim is claimed. at number q claim is claimed }
  where
    at : (number : ℕ) (q : Package) (claim : Claim) → slice_get alone.packages number ≡ Some q
        → slice_get (Alive ∷ []) number ≡ Some claim → SaysOutdated false alone q claim
    at zero q claim is claimed =
        let same : libx ≡ q = cc in
        let made : Alive ≡ claim = cc in
        subst (λ (x : Package). SaysOutdated false alone x claim) same
        (subst (λ (c : Claim). SaysOutdated false alone libx c) made later)
    at (suc number) q claim is claimed = cc

-- That it is outdated is no true claim.
not_outdated : ¬ MeansOutdated false alone (Outdated ∷ [])
not_outdated means = (means.each 0 libx Outdated refl refl).never later

-- There is a claim on each package.
one_each : ¬ MeansOutdated false alone []
one_each means = let none = means.one_each in omega (arith, none)

-- ---- kind challenged

-- a space over this archive
abbrev space : SpaceView
space = record {
  repository = alone;
  essential = false;
  clusters = record { members = (0 ∷ []) ∷ []; tops = codes "1" ∷ [] };
  cluster_of = 0 ∷ [];
  classes = [] ∷ [];
  names = [];
  name_classes = [];
  meanings = [];
}

-- No version of another cluster challenges it: there is no other.
none_challenges : MeansChallenged space (Challenged [] [] ∷ [])
none_challenges = record { one_each = refl; each = λ number q claim is claimed. at number q claim is claimed }
  where
    beside : (cluster class : ℕ) (q : Package) (version : List ℕ) → IsOfPair space cluster class q version
        → IsIn space.clusters.members cluster 0
    beside cluster class q version pair = here pair.member pair.is pair.in_cluster
      where
        here : (member : ℕ) → slice_get alone.packages member ≡ Some q → IsIn space.clusters.members cluster member
            → IsIn space.clusters.members cluster 0
        here zero is in_it = in_it
        here (suc member) is in_it = cc

    itself : AreClustered (member_of libx) (member_of libx)
    itself = record {
      source = refl;
      source_version = equal-itself (codes "1");
      version = equal-itself (without_rebuild_text (codes "1"));
    }

    says : SaysChallenged space 0 libx (Challenged [] [])
    says = (
      record { members = libx ∷ []; healthy = healthy; holds = (0, lit< tt, refl) },
      record {
        pairs = All-nil (IsPairBeside space 0);
        listed = λ cluster class q version pair there. absurd (omega (arith, there.1));
        unlisted = λ cluster class q version pair outside not_listed not_undecided challenge.
            outside (beside cluster class q version pair);
        others = λ q version challenges. absurd (challenges.outside
            (subst (λ (x : Package). AreClustered (member_of x) (member_of libx)) (sym (only q challenges.cluster))
            itself));
      },
    )

    at : (number : ℕ) (q : Package) (claim : Claim) → slice_get alone.packages number ≡ Some q
        → slice_get (Challenged [] [] ∷ []) number ≡ Some claim → SaysChallenged space number q claim
    at zero q claim is claimed =
        let same : libx ≡ q = cc in
        let made : Challenged [] [] ≡ claim = cc in
        subst (λ (x : Package). SaysChallenged space 0 x claim) same
        (subst (λ (c : Claim). SaysChallenged space 0 libx c) made says)
    at (suc number) q claim is claimed = cc

-- A claim of kind outdated says nothing of challenges.
other_kind : ¬ MeansChallenged space (Alive ∷ [])
other_kind means = means.each 0 libx Alive refl refl
