use Rattle.std.proofs.Common.{◌≡◌, subst, sym, arith, ◌∙◌}
use Rattle.std.specs.Prelude.{Any, Contains}
use Rattle.std.proofs.lemmas.List.{length-map}
use Rattle.std.proofs.lemmas.Option.{slice_get_within}
use Rattle.dist_base.specs.ListLaws.{contains-at, here-at}
use Rattle.dist_cluster.specs.Partition.{IsIn}
use Rattle.dist_cluster.specs.Top.{ClusterList}
use Rattle.dist_repo.specs.PackageList.{IsPackageAnd, PackageList}
use Rattle.dist_repo.specs.declared.package.Package.{Package}
use Rattle.dist_classes.specs.Answers.{member_of}
use Rattle.dist_future.specs.Future.{IsInClusterOf}
use Rattle.dist_archive.proofs.ClusterLemmas.{in-cluster}
use Rattle.dist_archive.proofs.FutureLemmas.{one-named}
use Rattle.dist_archive.proofs.uploads.member_named.Goals as goal

pub cluster_of-requires : goal.cluster_of-requires
cluster_of-requires c =
    let s = c.args.space.now in
    let named = subst (λ (r : PackageList). IsPackageAnd r.packages c.in_ok-number.number (λ p. p.name ≡ c.args.name.now)) c.repo.ensures.value
    c.in_ok-number.ensures in
    let at = here-at (λ (p : Package). p.name ≡ c.args.name.now) s.repository.packages c.in_ok-number.number named in
    let within = slice_get_within s.repository.packages c.in_ok-number.number at.element at.is in
    subst (λ (l : ClusterList). Any (λ cluster. Contains cluster c.in_ok-number.number) l.members) (sym c.clusters.ensures)
    (c.keeps_invariant.ensures.space.frame.clusters.partition.every c.in_ok-number.number
    (omega (arith, within, length-map s.repository.packages member_of)))

pub returns-then-cluster_of-cluster-clause-member : goal.returns-then-cluster_of-cluster-clause-member
returns-then-cluster_of-cluster-clause-member c =
    let s = c.args.space.now in
    let named = subst (λ (r : PackageList). IsPackageAnd r.packages c.in_ok-number.number (λ p. p.name ≡ c.args.name.now)) c.repo.ensures.value
    c.in_ok-number.ensures in
    let at = here-at (λ (p : Package). p.name ≡ c.args.name.now) s.repository.packages c.in_ok-number.number named in
    let frame = c.keeps_invariant.ensures.space.frame in
    let placed : IsIn s.clusters.members c.args.cluster c.in_ok-number.number → c.args.cluster ≡ c.cluster_of.result =
    subst (λ (l : ClusterList). IsIn l.members c.args.cluster c.in_ok-number.number → c.args.cluster ≡ c.cluster_of.result) c.clusters.ensures
    (c.cluster_of.ensures c.args.cluster).0 in
    λ p of name.
    let same : at.element ≡ name.0 = one-named s.repository.packages at.element name.0 frame.flat
    (contains-at s.repository.packages c.in_ok-number.number at.element at.is) name.1.there (at.holds ∙ sym name.2) in
    let inside = subst (λ (x : Package). IsInClusterOf s.repository p x) (sym same) name.1 in
    c.if-cluster_of-cluster.true (sym (placed ((in-cluster s frame c.args.cluster p of c.in_ok-number.number at.element at.is).1 inside)))

pub returns-clause-member : goal.returns-clause-member
returns-clause-member c =
    let s = c.args.space.now in
    let named = subst (λ (r : PackageList). IsPackageAnd r.packages c.in_ok-number.number (λ p. p.name ≡ c.args.name.now)) c.repo.ensures.value
    c.in_ok-number.ensures in
    let at = here-at (λ (p : Package). p.name ≡ c.args.name.now) s.repository.packages c.in_ok-number.number named in
    let frame = c.keeps_invariant.ensures.space.frame in
    let placed : IsIn s.clusters.members c.args.cluster c.in_ok-number.number =
    subst (λ (l : ClusterList). IsIn l.members c.args.cluster c.in_ok-number.number) c.clusters.ensures
    ((c.cluster_of.ensures c.args.cluster).1 (sym c.if-cluster_of-cluster.false)) in
    λ p of. record {
      member = at.element;
      is = at.is;
      in_cluster = (in-cluster s frame c.args.cluster p of c.in_ok-number.number at.element at.is).0 placed;
      named = at.holds;
      only = λ q inside name. one-named s.repository.packages q at.element frame.flat inside.there
          (contains-at s.repository.packages c.in_ok-number.number at.element at.is) (name ∙ sym at.holds);
    }

pub returns-clause-within : goal.returns-clause-within
returns-clause-within c =
    let s = c.args.space.now in
    let named = subst (λ (r : PackageList). IsPackageAnd r.packages c.in_ok-number.number (λ p. p.name ≡ c.args.name.now)) c.repo.ensures.value
    c.in_ok-number.ensures in
    let at = here-at (λ (p : Package). p.name ≡ c.args.name.now) s.repository.packages c.in_ok-number.number named in
    slice_get_within s.repository.packages c.in_ok-number.number at.element at.is
