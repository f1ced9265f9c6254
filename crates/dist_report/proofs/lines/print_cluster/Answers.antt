use Rattle.std.proofs.Common.{ℕ, List, ◌++◌, ap, ◌∙◌, arith}
use Rattle.std.proofs.lemmas.Result.{on_ok_weaker}
use Rattle.dist_repo.specs.PackageList.{PackageList}
use Rattle.dist_report.specs.ExplainedText.{label_at}
use Rattle.dist_report.proofs.RepairTextLemmas.{cluster-at, no-cluster}
use Rattle.dist_report.proofs.lines.print_cluster.Goals as goal

pub returns-then-cluster-len : goal.returns-then-cluster-len
returns-then-cluster-len c =
    let s = c.args.space.now in
    let old : List ℕ = c.args.out.now.items in
    on_ok_weaker c.write_label_at.result
    (λ is. is ∙ ap (λ (r : PackageList). old ++ label_at r.packages c.least_of.result) c.repo.ensures.value
    ∙ ap (λ (n : ℕ). old ++ label_at s.repository.packages n) c.least_of.ensures
    ∙ ap (λ (t : List ℕ). old ++ t) (cluster-at s c.clusters-clusters.result.now c.clusters-clusters.ensures c.args.cluster c.members.result.now
    c.members.ensures)) c.write_label_at.ensures

pub returns-else-cluster-len : goal.returns-else-cluster-len
returns-else-cluster-len c =
    no-cluster c.args.space.now c.clusters-clusters.result.now c.clusters-clusters.ensures c.args.cluster c.args.out.now.items
    (omega (arith, c.len.ensures, c.if-cluster-len.false))
