use Rattle.std.proofs.Common.{◌≡◌, List, subst, sym, ◌∙◌}
use Rattle.std.specs.Prelude.{Contains}
use Rattle.std.proofs.lemmas.Bool.{false≢true}
use Rattle.dist_repo.specs.Held.{Held}
use Rattle.dist_repo.specs.Order.{IsSamePackage}
use Rattle.dist_repo.specs.declared.package.Package.{Package}
use Rattle.dist_repo.proofs.HeldLemmas.{AreStillHeld, left-all, left-head, left-more, left-none, in-order, AreInOrder}
use Rattle.dist_repo.proofs.builder.Builder.held_without_key.Goals as goal

pub loop-key-init : goal.loop-key-init
loop-key-init c =
    let left : c.into_iter-key-iterator.result ≡ c.args.self.now = cc in
    let Left : List Held → Type 0 = λ entries. AreStillHeld c.args.self.now entries c.args.package.now in
    subst Left (sym left) (left-all c.args.self.now c.args.package.now)

pub loop-key-preserved : goal.loop-key-preserved
loop-key-preserved c =
    let h : Held = (c.in-Some.key.now, c.in-Some.line.now) in
    let p : Package = c.args.package.now in
    let Left : List Held → Type 0 = λ entries. AreStillHeld c.args.self.now entries p in
    let Same : Package → Type 0 = λ x. IsSamePackage x p in
    let other : ¬ IsSamePackage h.0 p = λ same. false≢true (sym c.if-are_same.false ∙ c.are_same.ensures.1 (subst Same (sym c.package.ensures) same)) in
    left-more c.args.self.now c.next.new.self h p other (subst Left c.in-Some.ensures.steps c.loop-key.invariant)

pub returns-then-are_same-clause-found : goal.returns-then-are_same-clause-found
returns-then-are_same-clause-found c =
    let q : Package = c.in-Some.key.now in
    let p : Package = c.args.package.now in
    let Left : List Held → Type 0 = λ entries. AreStillHeld c.args.self.now entries p in
    let There : Package → Type 0 = λ x. Contains c.args.self.now (x, c.in-Some.line.now) in
    let Same : Package → Type 0 = λ x. IsSamePackage x p in
    let at_key : c.package-then-are_same.result.now ≡ q = c.package-then-are_same.ensures in (
      subst There (sym at_key) (left-head c.args.self.now c.next.new.self (q, c.in-Some.line.now) p (subst Left c.in-Some.ensures.steps c.loop-key.invariant)),
      subst Same (c.package.ensures ∙ sym at_key) (c.are_same.ensures.0 c.if-are_same.true),
    )

pub returns-then-are_same-clause-in_order : goal.returns-then-are_same-clause-in_order
returns-then-are_same-clause-in_order c = subst AreInOrder c.self.view_is (in-order c.self.inside.packages.entries c.self.invariant.sorted)

pub returns-clause-found : goal.returns-clause-found
returns-clause-found c =
    let Left : List Held → Type 0 = λ entries. AreStillHeld c.args.self.now entries c.args.package.now in
    left-none c.args.self.now c.args.package.now (subst Left c.in-None.ensures.steps.0 c.loop-key.invariant)

pub returns-clause-in_order : goal.returns-clause-in_order
returns-clause-in_order c = subst AreInOrder c.self.view_is (in-order c.self.inside.packages.entries c.self.invariant.sorted)
