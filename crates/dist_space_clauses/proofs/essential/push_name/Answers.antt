use Rattle.std.proofs.Common.{◌≡◌, ℕ, ◌+◌, map, sym, subst, ◌∙◌}
use Rattle.std.proofs.lemmas.Result.{IfErr-weaker, on_ok_weaker}
use Rattle.dist_base.specs.declared.TheConstants.{MAX_VARIABLES}
use Rattle.dist_clause.specs.ClauseList.{ClauseList}
use Rattle.dist_clause.specs.DemandLaws.{stops}
use Rattle.dist_clause.specs.Formula.{IsClauseOver}
use Rattle.dist_repo.specs.Order.{IsInOrder}
use Rattle.dist_repo.specs.PackageList.{PackageList}
use Rattle.dist_space_clauses.specs.GatheringPrivate.{IsNamedFront, positive}
use Rattle.dist_space_clauses.specs.SpaceClauses.{Required, IsBearer, IsDemand, space_demands}
use Rattle.dist_space_clauses.proofs.NameFronts.{name-demand, named-before, named-pushed, named-skipped}
use Rattle.dist_space_clauses.proofs.VariableLists.{in-limit, name-clause, over-positive}
use Rattle.dist_space_clauses.proofs.essential.push_name.Goals as goal

pub returns-then-not-package-clause-ok : goal.returns-then-not-package-clause-ok
returns-then-not-package-clause-ok c =
    named-skipped c.args.space.now c.keeps_invariant.ensures.space c.args.set.now c.args.number c.args.package.now c.requires.package c.args.set.now
    c.if-not-package.true c.requires.front

pub write_positive-requires : goal.write_positive-requires
write_positive-requires c =
    let s = c.args.space.now in
    let up = c.keeps_invariant.ensures in
    in-limit s up.space (IsBearer s c.args.package.now.name) c.gather_bearers.new.variables.items MAX_VARIABLES up.variables
    c.in_default.ensures

pub push-requires : goal.push-requires
push-requires c =
    let s = c.args.space.now in
    let space = c.keeps_invariant.ensures.space in
    let p = c.args.package.now in
    let n = c.args.number in
    let vs = c.gather_bearers.new.variables.items in
    let ordered : IsInOrder s.repository.packages = subst (λ (r : PackageList). IsInOrder r.packages) c.repo.ensures.value
    c.keeps_invariant-2.ensures.in_order in
    let written : c.deref.result.now ≡ map positive vs = c.deref.ensures.value ∙ c.in_default-write_positive.ensures in
    let is = name-clause s space p.name vs c.deref.result.now c.in_default.ensures written in
    subst (λ (k : ℕ). IsClauseOver k c.deref.result.now) (sym c.requires.front.variables)
    (subst (IsClauseOver _) (sym written) (over-positive s space (IsBearer s p.name) vs c.in_default.ensures))

pub returns-clause-ok : goal.returns-clause-ok
returns-clause-ok c =
    let s = c.args.space.now in
    let space = c.keeps_invariant.ensures.space in
    let p = c.args.package.now in
    let n = c.args.number in
    let vs = c.gather_bearers.new.variables.items in
    let ordered : IsInOrder s.repository.packages = subst (λ (r : PackageList). IsInOrder r.packages) c.repo.ensures.value
    c.keeps_invariant-2.ensures.in_order in
    let written : c.deref.result.now ≡ map positive vs = c.deref.ensures.value ∙ c.in_default-write_positive.ensures in
    let is = name-clause s space p.name vs c.deref.result.now c.in_default.ensures written in
    on_ok_weaker c.push.result
    (λ pushed. subst (λ (x : ClauseList). IsNamedFront s (n + 1) c.args.set.now x) (sym pushed)
    (named-pushed s space c.args.set.now n p c.requires.package ordered c.requires.essential c.if-not-package.false c.args.set.now c.deref.result.now is
    c.requires.front))
    c.push.ensures.ok

pub returns-clause-err : goal.returns-clause-err
returns-clause-err c =
    let s = c.args.space.now in
    let space = c.keeps_invariant.ensures.space in
    let p = c.args.package.now in
    let n = c.args.number in
    let vs = c.gather_bearers.new.variables.items in
    let ordered : IsInOrder s.repository.packages = subst (λ (r : PackageList). IsInOrder r.packages) c.repo.ensures.value
    c.keeps_invariant-2.ensures.in_order in
    let written : c.deref.result.now ≡ map positive vs = c.deref.ensures.value ∙ c.in_default-write_positive.ensures in
    let is = name-clause s space p.name vs c.deref.result.now c.in_default.ensures written in
    IfErr-weaker c.push.result _ _
    (λ error. stops (space_demands s) (IsDemand s) c.args.set.now c.args.set.now (Required p.name) c.deref.result.now error
    (named-before s space c.args.set.now n p c.requires.package ordered c.requires.essential c.if-not-package.false c.args.set.now c.requires.front)
    (name-demand s space c.args.set.now n p c.requires.package ordered c.requires.essential c.if-not-package.false) is)
    c.push.ensures.cause
