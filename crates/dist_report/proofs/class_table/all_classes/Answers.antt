use Rattle.std.proofs.Common.{List, [], refl, sym, subst, arith}
use Rattle.dist_classes.specs.declared.class_value.Class.{Class}
use Rattle.dist_report.proofs.KeptLemmas.{AreClassesIn, all-kept, classes-told}
use Rattle.dist_report.proofs.ToldLemmas.{AreToldSoFar, told-more, told-none}
use Rattle.dist_report.proofs.class_table.all_classes.Goals as goal

pub loop-cluster-init : goal.loop-cluster-init
loop-cluster-init c =
    let So : List (List Class) → Type 0 = λ classes. AreToldSoFar c.args.finder.now c.args.clusters.now 0 (AreClassesIn classes) in
    subst So (sym c.new-classes.ensures.items) (told-none c.args.finder.now c.args.clusters.now (AreClassesIn []) refl)

pub loop-cluster-preserved : goal.loop-cluster-preserved
loop-cluster-preserved c =
    let clusters = c.args.clusters.now in
    let k = c.loop-cluster.cluster in
    let own = c.in_ok-own_classes.field-0 in
    let classes = c.loop-cluster.classes.items in
    let later = c.push.new.self.items in
    told-more c.args.finder.now clusters k own (AreClassesIn classes) (AreClassesIn later) (omega arith) c.requires.tops.aligned c.loop-cluster.invariant
    c.in_ok-own_classes.ensures.are c.in_ok-own_classes.ensures.examples (classes-told clusters k own classes later c.in_ok-push.ensures.items)

pub returns : goal.returns
returns c = all-kept c.args.finder.now c.args.clusters.now c.loop-cluster.cluster c.loop-cluster.classes.items (omega arith) c.requires c.loop-cluster.invariant
