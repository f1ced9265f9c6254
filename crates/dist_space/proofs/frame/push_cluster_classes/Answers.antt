use Rattle.std.proofs.Common.{◌≡◌, ℕ, [], ◌∷◌, ◌++◌, get_or, arith, subst, sym, List}
use Rattle.dist_classes.specs.Answers.{AreClassesOf}
use Rattle.dist_classes.specs.declared.class_value.Class.{Class}
use Rattle.dist_space.specs.Kept.{AreExampled}
use Rattle.dist_space.proofs.FrameLemmas.{count-pushed, each-past, each-pushed, none-exampled}
use Rattle.dist_space.proofs.frame.push_cluster_classes.Goals as goal

pub loop-cluster-preserved : goal.loop-cluster-preserved
loop-cluster-preserved c =
    let clusters = c.args.clusters.now in
    let items = c.loop-cluster.classes.items in
    let n = c.loop-cluster.cluster in
    let one = c.in_ok-new.field-0 in
    let Are : ℕ → List Class → Type 0 = λ k classes. AreClassesOf c.args.finder.now (get_or clusters.members k []) (get_or clusters.tops k []) classes in
    let are : Are n one = subst (Are n) (sym c.in_ok-new.ensures.value) c.in_ok-classes_of_cluster.ensures in
    let is : c.push.new.self.items ≡ items ++ one ∷ [] = c.in_ok-push.ensures.items in
    record {
      counted = count-pushed items c.push.new.self.items one n is c.loop-cluster.invariant.counted;
      are = each-pushed Are items c.push.new.self.items one [] n is c.loop-cluster.invariant.counted c.loop-cluster.invariant.are are;
      examples = each-pushed (λ k classes. AreExampled classes) items c.push.new.self.items one [] n is c.loop-cluster.invariant.counted
          c.loop-cluster.invariant.examples c.in_ok-new.ensures.each;
    }

pub returns : goal.returns
returns c = record {
  beside = omega arith;
  are = λ k short. c.loop-cluster.invariant.are k (omega arith);
  examples = each-past AreExampled c.loop-cluster.classes.items [] none-exampled (λ k short. c.loop-cluster.invariant.examples k (omega arith));
}
