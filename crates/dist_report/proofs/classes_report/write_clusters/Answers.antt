use Rattle.std.proofs.Common.{◌++◌, ℕ, append-nil, codes, length, arith, sym, ap, ◌∙◌}
use Rattle.std.specs.Prelude.{◌==◌}
use Rattle.dist_report.specs.Lines.{key_line}
use Rattle.dist_report.proofs.ToldLemmas.{EndsWithLines, lines-all-told, lines-told, told-at, told-more, told-none}
use Rattle.dist_report.proofs.classes_report.write_clusters.Goals as goal

pub loop-cluster-init : goal.loop-cluster-init
loop-cluster-init c =
    let r = c.args.labels.now in
    let clusters = c.args.clusters.now in
    let old = c.args.out.now.items in
    let before = old ++ key_line (codes "clusters:") (length clusters.members == 0) in
    let written = c.in_ok-write_key.ensures ∙ ap (λ (n : ℕ). old ++ key_line (codes "clusters:") (n == 0)) c.len.ensures in
    told-none r clusters (EndsWithLines r before c.write_key.new.out.items) (written ∙ sym (append-nil before))

pub loop-cluster-preserved : goal.loop-cluster-preserved
loop-cluster-preserved c =
    let r = c.args.labels.now in
    let clusters = c.args.clusters.now in
    let k = c.loop-cluster.cluster in
    let before = c.args.out.now.items ++ key_line (codes "clusters:") (length clusters.members == 0) in
    let now = c.loop-cluster.out.items in
    let after = c.write_cluster.new.out.items in
    let told = c.in_ok-write_cluster.ensures in
    told-more r clusters k told.classes (EndsWithLines r before now) (EndsWithLines r before after) (omega arith) c.requires.clusters.tops.aligned
    c.loop-cluster.invariant told.are told.examples (lines-told r before now after (told-at clusters k told.classes) told.text)

pub returns : goal.returns
returns c = lines-all-told c.args.labels.now c.args.clusters.now c.loop-cluster.cluster c.args.out.now.items c.loop-cluster.out.items (omega arith)
    c.requires.clusters c.loop-cluster.invariant
