use Rattle.std.proofs.Common.{◌≡◌, ℕ, ◌+◌, [], arith, subst, sym}
use Rattle.std.specs.Prelude.{slice_index_or}
use Rattle.dist_repo.specs.PackageList.{PackageList}
use Rattle.dist_classes.specs.Answers.{AreClassesOf}
use Rattle.dist_bench.specs.Packages.{HaveClasses}
use Rattle.dist_bench.proofs.Counting.{have-none, have-more}
use Rattle.dist_bench.proofs.packages.class_count.Goals as goal

pub loop-cluster-init : goal.loop-cluster-init
loop-cluster-init c = record { upto = have-none c.args.repository.now c.args.clusters.now; fits = omega arith }

pub loop-cluster-preserved : goal.loop-cluster-preserved
loop-cluster-preserved c =
    let before = c.loop-cluster.invariant in
    let same : c.in_ok-finder.finder ≡ c.args.repository.now = c.in_ok-finder.ensures in
    let clusters = c.args.clusters.now in
    let here = subst
    (λ (r : PackageList). AreClassesOf r (slice_index_or clusters.members c.loop-cluster.cluster []) (slice_index_or clusters.tops c.loop-cluster.cluster [])
    c.in_ok-found.found) same
    c.in_ok-found.ensures in
    record {
      upto = subst (λ (n : ℕ). HaveClasses c.args.repository.now clusters (c.loop-cluster.cluster + 1) (c.loop-cluster.classes + n)) (sym c.len-count.ensures)
          (have-more _ _ c.loop-cluster.cluster c.loop-cluster.classes c.in_ok-found.found before.upto here);
      fits = omega (arith, before.fits, c.len-count.type_inv);
    }
