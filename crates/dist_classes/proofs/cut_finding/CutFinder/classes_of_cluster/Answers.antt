use Rattle.std.proofs.Common.{◌≡◌, ◌<◌, ℕ, List, [], get_or, length, sym, subst}
use Rattle.std.specs.Prelude.{All, IfOk}
use Rattle.std.proofs.lemmas.Option.{get_or_from_slice_get}
use Rattle.dist_classes.specs.Answers.{AreClassesOf}
use Rattle.dist_classes.proofs.ClusterLemmas.{members-within}
use Rattle.dist_classes.proofs.cut_finding.CutFinder.classes_of_cluster.Goals as goal

pub classes_of-requires : goal.classes_of-requires
classes_of-requires c =
    let r = c.args.self.now in
    let at : get_or c.args.clusters.now.members c.args.cluster [] ≡ c.members.result.now =
    get_or_from_slice_get c.args.clusters.now.members c.args.cluster c.members.result.now [] c.members.ensures in
    let Within : List ℕ → Type 0 = λ list. All (λ n. n < length r.packages) list in
    subst Within at (members-within r c.args.clusters.now c.args.cluster c.requires.clusters c.requires.cluster)

pub returns : goal.returns
returns c =
    let r = c.args.self.now in
    let members : get_or c.args.clusters.now.members c.args.cluster [] ≡ c.members.result.now =
    get_or_from_slice_get c.args.clusters.now.members c.args.cluster c.members.result.now [] c.members.ensures in
    let top : get_or c.args.clusters.now.tops c.args.cluster [] ≡ c.top.result.now =
    get_or_from_slice_get c.args.clusters.now.tops c.args.cluster c.top.result.now [] c.top.ensures in
    let Members : List ℕ → Type 0 = λ list. IfOk c.classes_of.result (AreClassesOf r list c.top.result.now) in
    let Top : List ℕ → Type 0 = λ text. IfOk c.classes_of.result (AreClassesOf r (get_or c.args.clusters.now.members c.args.cluster []) text) in
    subst Top (sym top) (subst Members (sym members) c.classes_of.ensures)
