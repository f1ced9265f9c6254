use Rattle.std.proofs.Common.{◌≡◌, ◌++◌, [], ℕ, List, get_or, sym, ap, subst, ◌∙◌}
use Rattle.std.proofs.lemmas.Option.{get_or_from_slice_get}
use Rattle.dist_repo.specs.PackageList.{PackageList}
use Rattle.dist_classes.specs.Answers.{AreClassesOf}
use Rattle.dist_report.specs.ClassesReport.{cluster_lines}
use Rattle.dist_report.proofs.LineLemmas.{joined-three}
use Rattle.dist_report.proofs.ToldLemmas.{members-within, some-members}
use Rattle.dist_report.proofs.classes_report.write_cluster.Goals as goal

pub write_head-requires : goal.write_head-requires
write_head-requires c =
    let r = c.args.labels.now in
    let members = c.members-members.result.now in
    members-within r c.args.clusters.now c.requires.clusters c.args.cluster members c.members-members.ensures 0 0
    (some-members r c.args.clusters.now c.requires.clusters c.args.cluster members c.members-members.ensures)

pub returns : goal.returns
returns c =
    let r = c.args.labels.now in
    let members = c.args.clusters.now.members in
    let tops = c.args.clusters.now.tops in
    let n = c.args.cluster in
    let old = c.args.out.now.items in
    let classes = c.in_ok-classes.classes in
    let Of : PackageList → Type 0 = λ s. AreClassesOf s (get_or members n []) (get_or tops n []) classes in
    let own_members : get_or members n [] ≡ c.members-members.result.now =
    get_or_from_slice_get members n c.members-members.result.now [] c.members-members.ensures in
    let own_top : get_or tops n [] ≡ c.top.result.now = get_or_from_slice_get tops n c.top.result.now [] c.top.ensures in
    let written = joined-three old _ _ _ _ _ _ c.in_ok-write_head.ensures c.in_ok-write_packages.ensures c.in_ok-write_classes.ensures.text in
    record {
      classes = classes;
      are = subst Of c.requires.of c.in_ok-classes.ensures;
      examples = c.in_ok-write_classes.ensures.there;
      text = written
          ∙ ap (λ (list : List ℕ). old ++ cluster_lines r.packages (record { members = list; top = c.top.result.now; classes = classes })) (sym own_members)
          ∙ ap (λ (top : List ℕ). old ++ cluster_lines r.packages (record { members = get_or members n []; top = top; classes = classes })) (sym own_top);
    }
