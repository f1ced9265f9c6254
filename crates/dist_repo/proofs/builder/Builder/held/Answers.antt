use Rattle.std.proofs.Common.{◌≡◌, List, Some, ap, subst, sym, ◌∙◌}
use Rattle.std.specs.Prelude.{Contains}
use Rattle.std.specs.BTreeMap.{is_at}
use Rattle.dist_repo.specs.Held.{Held, IsFree}
use Rattle.dist_repo.specs.Order.{package_cmp, IsSamePackage}
use Rattle.dist_repo.specs.declared.package.Package.{Package}
use Rattle.dist_repo.proofs.HeldLemmas.{found-entry, free-from_missing, same-from_tied, same-back, in-order, AreInOrder}
use Rattle.dist_repo.proofs.builder.Builder.held.Goals as goal

pub returns-in-Some-clause-found : goal.returns-in-Some-clause-found
returns-in-Some-clause-found c =
    let k : Package = c.package.result.now in
    let at_key : k ≡ c.in-Some.held.now = c.package.ensures in
    let found = found-entry (is_at (package_cmp c.args.key.now)) c.self.inside.packages.entries k c.in-Some.line.now
    (sym c.in-Some.ensures.key ∙ ap (λ (p : Package). Some p) (sym at_key)) (sym c.in-Some.ensures.value) in
    let There : List Held → Type 0 = λ held. Contains held (k, c.in-Some.line.now) in (
      subst There c.self.view_is found,
      subst (λ (x : Package). IsSamePackage x c.args.key.now) (sym at_key)
          (same-back c.args.key.now c.in-Some.held.now (same-from_tied c.args.key.now c.in-Some.held.now c.in-Some.ensures.same_key)),
    )

pub returns-in-Some-clause-in_order : goal.returns-in-Some-clause-in_order
returns-in-Some-clause-in_order c = subst AreInOrder c.self.view_is (in-order c.self.inside.packages.entries c.self.invariant.sorted)

pub returns-in-None-clause-found : goal.returns-in-None-clause-found
returns-in-None-clause-found c =
    let Free : List Held → Type 0 = λ held. IsFree held c.args.key.now in
    subst Free c.self.view_is (free-from_missing c.self.inside.packages.entries c.args.key.now (sym c.in-None.ensures.value))

pub returns-in-None-clause-in_order : goal.returns-in-None-clause-in_order
returns-in-None-clause-in_order c = subst AreInOrder c.self.view_is (in-order c.self.inside.packages.entries c.self.invariant.sorted)
