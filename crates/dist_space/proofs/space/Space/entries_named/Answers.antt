use Rattle.std.proofs.Common.{◌≡◌, ◌∙◌, Some, List, slice_get, ap, sym, subst}
use Rattle.dist_repo.specs.declared.package.Package.{Package}
use Rattle.dist_space.specs.EntryOrder.{AreInUseOrder, IsEntryOrder}
use Rattle.dist_space.specs.Space.{SpaceView}
use Rattle.dist_space.proofs.EntryLemmas.{named-iff, order-by_name, use-order}
use Rattle.dist_space.proofs.space.Space.entries_named.Goals as goal

pub named-requires : goal.named-requires
named-requires c =
    let architecture = c.self.inside.frame.repository.architecture in
    let p : Package = c.package.result.now in
    order-by_name architecture p.provides c.get.result.now
    (subst (IsEntryOrder architecture p.provides) (sym c.get.ensures) (c.self.invariant.1.each c.args.member p c.package.ensures.value))

pub returns-clause-named : goal.returns-clause-named
returns-clause-named c =
    let architecture = c.self.inside.frame.repository.architecture in
    let p : Package = c.package.result.now in
    let packages : SpaceView → List Package = λ s. s.repository.packages in
    let is : slice_get c.args.self.now.repository.packages c.args.member ≡ Some p =
    ap (λ (s : SpaceView). slice_get (packages s) c.args.member) (sym c.self.view_is) ∙ c.package.ensures.value in
    let ordered : IsEntryOrder architecture p.provides c.get.result.now =
    subst (IsEntryOrder architecture p.provides) (sym c.get.ensures) (c.self.invariant.1.each c.args.member p c.package.ensures.value) in
    named-iff architecture c.args.self.now.repository.packages c.args.member p c.args.name.now c.get.result.now c.named.result.now is ordered
    (λ j. (
      (λ there. let both = (c.named.ensures.named j).0 there in (both.0, both.1 ∙ c.bytes.ensures.value)),
      λ both. (c.named.ensures.named j).1 (both.0, both.1 ∙ sym c.bytes.ensures.value),
    ))

pub returns-clause-in_order : goal.returns-clause-in_order
returns-clause-in_order c =
    let r = c.self.inside.frame.repository in
    let p : Package = c.package.result.now in
    let ordered : IsEntryOrder r.architecture p.provides c.get.result.now =
    subst (IsEntryOrder r.architecture p.provides) (sym c.get.ensures) (c.self.invariant.1.each c.args.member p c.package.ensures.value) in
    subst (λ (s : SpaceView). AreInUseOrder s.repository c.args.member c.named.result.now) c.self.view_is
    (use-order r c.args.member p c.named.result.now c.package.ensures.value (c.named.ensures.in_order r.architecture ordered))
