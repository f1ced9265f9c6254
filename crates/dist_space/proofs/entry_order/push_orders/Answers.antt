use Rattle.std.proofs.Common.{◌≡◌, ◌∷◌, ◌++◌, [], sym, subst, arith}
use Rattle.std.proofs.lemmas.Option.{slice_get_within}
use Rattle.dist_repo.specs.declared.package.Package.{Package}
use Rattle.dist_space.specs.EntryOrder.{IsEntryOrder}
use Rattle.dist_space.proofs.EntryLemmas.{order-pushed}
use Rattle.dist_space.proofs.FrameLemmas.{count-pushed}
use Rattle.dist_space.proofs.entry_order.push_orders.Goals as goal

pub loop-number-preserved : goal.loop-number-preserved
loop-number-preserved c =
    let packages = c.args.frame.now.repository.packages in
    let architecture = c.args.frame.now.repository.architecture in
    let p : Package = c.package.result.now in
    let before = c.loop-number.orders in
    let order = c.deref.result.now in
    let n = c.loop-number.number in
    let is : c.push.new.self ≡ before ++ order ∷ [] = c.in_ok-push.ensures.ok in
    let ordered : IsEntryOrder architecture p.provides order = subst (IsEntryOrder architecture p.provides) (sym c.deref.ensures.value)
    c.in_ok-write_order.ensures in
    record {
      counted = count-pushed before c.push.new.self order n is c.loop-number.invariant.counted;
      each = order-pushed architecture packages before c.push.new.self order n p is c.loop-number.invariant.counted c.package.ensures.value ordered
          c.loop-number.invariant.each;
    }

pub returns : goal.returns
returns c = record {
  beside = omega (arith, c.loop-number.invariant.counted, c.loop-number-test.false, c.package_count-number-end.ensures, c.loop-number.auto);
  each = λ n p is.
      let short = slice_get_within c.args.frame.now.repository.packages n p is in
      c.loop-number.invariant.each n (omega (arith, short, c.loop-number-test.false, c.package_count-number-end.ensures)) p is;
}
