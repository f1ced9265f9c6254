use Rattle.std.proofs.Common.{◌≡◌, ◌≤◌, ℕ, List, arith, get_or, length, subst, sym, take}
use Rattle.std.specs.Prelude.{Contains}
use Rattle.std.proofs.lemmas.Option.{slice_get-get_or}
use Rattle.dist_repo.specs.Held.{Held, packages_of}
use Rattle.dist_repo.specs.Order.{IsInOrder}
use Rattle.dist_archive.specs.PlanningPrivate.{AreBrought, HoldsMore}
use Rattle.std.proofs.lemmas.Result.{IfOk-weaker}
use Rattle.dist_repo.specs.declared.package.Package.{Package}
use Rattle.dist_archive.proofs.PlanningLemmas.{brought-all, brought-more, brought-none, places-few}
use Rattle.dist_archive.proofs.planning.block_of.Goals as goal

pub loop-member-init : goal.loop-member-init
loop-member-init c = record {
  few = subst (λ (h : List Held). length h ≤ 0) (sym c.new-builder.ensures) (omega arith);
  brought = subst (λ (h : List Held). AreBrought c.args.space.now.repository c.args.later.now.packages (take 0 c.args.members.now) (packages_of h))
      (sym c.new-builder.ensures) (brought-none c.args.space.now.repository c.args.later.now.packages);
}

pub put_named-requires-clause-few : goal.put_named-requires-clause-few
put_named-requires-clause-few c =
    let few = places-few c.args.space.now.repository c.args.members.now c.loop-member.member-index c.requires.members (omega arith) in
    omega (arith, few, c.loop-member.invariant.few, c.keeps_invariant.ensures.packages)

pub loop-member-preserved : goal.loop-member-preserved
loop-member-preserved c = record {
  few = omega (arith, c.put_named.ensures.few, c.loop-member.invariant.few);
  brought =
      let m : ℕ = get_or c.args.members.now c.loop-member.member-index 0 in
      let q : Package = c.package.result.now in
      brought-more c.args.space.now.repository c.args.later.now.packages c.args.members.now c.loop-member.member-index m q c.loop-member.builder
      c.put_named.new.builder (slice_get-get_or c.args.members.now c.loop-member.member-index 0 (omega arith)) c.package.ensures.value
      c.loop-member.invariant.brought
      (subst (λ name. HoldsMore c.loop-member.builder c.put_named.new.builder (λ n. Contains c.args.later.now.packages n × (n.name ≡ name)))
      c.bytes.ensures.value c.in_ok-put_named.ensures.holds);
}

pub returns-clause-in_order : goal.returns-clause-in_order
returns-clause-in_order c =
    IfOk-weaker c.finish.result (λ b. b.packages ≡ packages_of c.loop-member.builder) (λ b. IsInOrder b.packages)
    (λ b is. subst (λ (l : List Package). IsInOrder l) (sym is) c.finish.ensures.in_order) c.finish.ensures.packages

pub returns-clause-brings : goal.returns-clause-brings
returns-clause-brings c =
    IfOk-weaker c.finish.result (λ b. b.packages ≡ packages_of c.loop-member.builder)
    (λ b. AreBrought c.args.space.now.repository c.args.later.now.packages c.args.members.now b.packages)
    (λ b is. subst (λ (l : List Package). AreBrought c.args.space.now.repository c.args.later.now.packages c.args.members.now l) (sym is)
    (brought-all c.args.space.now.repository c.args.later.now.packages c.args.members.now c.loop-member.member-index c.loop-member.builder (omega arith)
    c.loop-member.invariant.brought)) c.finish.ensures.packages
