use Rattle.std.proofs.Common.{◌≡◌, ℕ, [], ◌∷◌, ◌++◌, get_or, arith, subst, sym, List}
use Rattle.std.proofs.lemmas.Option.{get_or_from_slice_get}
use Rattle.dist_classes.specs.Answers.{AreClassesOfName}
use Rattle.dist_classes.specs.declared.class_value.Class.{Class}
use Rattle.dist_space.specs.Kept.{AreExampled}
use Rattle.dist_space.proofs.FrameLemmas.{count-pushed, each-past, each-pushed, none-exampled}
use Rattle.dist_space.proofs.frame.push_name_classes.Goals as goal

pub loop-name-preserved : goal.loop-name-preserved
loop-name-preserved c =
    let names = c.args.names.now in
    let items = c.loop-name.classes.items in
    let n = c.loop-name.name in
    let one = c.in_ok-new.field-0 in
    let Are : ℕ → List Class → Type 0 = λ k classes. AreClassesOfName c.args.finder.now (get_or names k []) classes in
    let own : AreClassesOfName c.args.finder.now c.get.result.now one =
    subst (AreClassesOfName c.args.finder.now c.get.result.now) (sym c.in_ok-new.ensures.value) c.in_ok-classes_of_new_name.ensures in
    let are : Are n one = subst (λ (name : List ℕ). AreClassesOfName c.args.finder.now name one)
    (sym (get_or_from_slice_get names n c.get.result.now [] c.get.ensures)) own in
    let is : c.push.new.self.items ≡ items ++ one ∷ [] = c.in_ok-push.ensures.items in
    record {
      counted = count-pushed items c.push.new.self.items one n is c.loop-name.invariant.counted;
      are = each-pushed Are items c.push.new.self.items one [] n is c.loop-name.invariant.counted c.loop-name.invariant.are are;
      examples = each-pushed (λ k classes. AreExampled classes) items c.push.new.self.items one [] n is c.loop-name.invariant.counted
          c.loop-name.invariant.examples c.in_ok-new.ensures.each;
    }

pub returns : goal.returns
returns c = record {
  beside = omega arith;
  are = λ k short. c.loop-name.invariant.are k (omega arith);
  examples = each-past AreExampled c.loop-name.classes.items [] none-exampled (λ k short. c.loop-name.invariant.examples k (omega arith));
}
