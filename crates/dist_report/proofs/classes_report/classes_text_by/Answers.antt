use Rattle.std.proofs.Common.{◌<◌, ◌++◌, append_assoc, ℕ, List, codes, length, ap, subst, sym, ◌∙◌}
use Rattle.dist_classes.specs.Answers.{AreClustersOf}
use Rattle.dist_repo.specs.PackageList.{PackageList}
use Rattle.dist_report.specs.ClassesReport.{AreToldNames, cluster_lines, name_lines, first_lines}
use Rattle.dist_report.specs.Lines.{listed}
use Rattle.dist_report.proofs.classes_report.classes_text_by.Goals as goal

pub repository_clusters-requires : goal.repository_clusters-requires
repository_clusters-requires c = subst (λ (r : PackageList). length r.packages < 4294967295) (sym c.repo-repo.ensures) c.requires

pub write_clusters-requires-clause-of : goal.write_clusters-requires-clause-of
write_clusters-requires-clause-of c = c.in_ok-finder.ensures ∙ c.repo-repo.ensures

pub write_clusters-requires-clause-clusters : goal.write_clusters-requires-clause-clusters
write_clusters-requires-clause-clusters c =
    subst (λ (r : PackageList). AreClustersOf r c.in_ok-clusters.clusters) c.repo-repo.ensures c.in_ok-clusters.ensures

pub returns : goal.returns
returns c =
    let packages = c.args.labels.now.packages in
    let clusters = c.in_ok-write_clusters.ensures in
    let names = c.in_ok-write_names.ensures in
    let first = listed (codes "clusters:") (cluster_lines packages) clusters.clusters in
    let second = listed (codes "names:") name_lines names.names in
    let out = c.in_ok-out.ensures ∙ ap (λ (r : PackageList). first_lines r.packages) c.repo-repo.ensures in
    let Told : PackageList → Type 0 = λ r. AreToldNames r names.names in
    record {
      clusters = clusters.clusters;
      names = names.names;
      are_clusters = clusters.are;
      are_names = subst Told (c.in_ok-finder.ensures ∙ c.repo-repo.ensures) names.are;
      is = names.text ∙ ap (λ (t : List ℕ). t ++ second) (clusters.text ∙ ap (λ (t : List ℕ). t ++ first) out)
          ∙ append_assoc (first_lines packages) first second;
    }
