use Rattle.std.proofs.Common.{◌+◌, true, length, map, sym, subst, ◌∙◌, inl, inr, refl}
use Rattle.std.proofs.lemmas.Bool.{false≢true}
use Rattle.dist_clause.specs.DemandLaws.{pushed-err, pushed-ok}
use Rattle.dist_now.specs.GatheringPrivate.{IsNamedBelow, IsNamedFront}
use Rattle.dist_now.specs.PresentClauses.{Required, IsClauseFor, installed, IsDemand, present_demands}
use Rattle.dist_now.proofs.ClauseShape.{installed-clause}
use Rattle.dist_now.proofs.ModelLemmas.{required-from}
use Rattle.dist_now.proofs.NameFronts.{named-before, named-pushed, named-skipped}
use Rattle.dist_now.proofs.PushLemmas.{over-set}
use Rattle.dist_now.proofs.present_clauses.push_name.Goals.{then-not-package-via-then-not-package}
use Rattle.dist_now.proofs.present_clauses.push_name.Goals.{then-not-package-via-else-not-package+then-has_essential_before}
use Rattle.dist_now.proofs.present_clauses.push_name.Goals as goal

pub returns-then-not-package-clause-ok : goal.returns-then-not-package-clause-ok
returns-then-not-package-clause-ok c =
    named-skipped c.args.repo.now c.args.number c.args.package.now c.args.set.now c.args.set.now c.requires.number
    (elim c.then-not-package.branch [
      | then-not-package-via-then-not-package w ↦ inl w.if-not-package.true
      | then-not-package-via-else-not-package+then-has_essential_before w ↦ inr (w.if-has_essential_before.ensures.0 refl)
    ])
    c.requires.front

pub push-requires : goal.push-requires
push-requires c =
    let is = c.in_default.ensures in
    over-set c.args.set.now.variables (length c.args.repo.now.packages) c.deref.result.now (map installed is.0) c.requires.front.variables
    (c.deref.ensures.value ∙ is.2)
    (installed-clause c.args.repo.now _ is.0 is.1)

pub returns-clause-ok : goal.returns-clause-ok
returns-clause-ok c =
    let first : ¬ IsNamedBelow c.args.repo.now c.args.number c.args.package.now.name = λ below. false≢true (c.if-has_essential_before.ensures.1 below) in
    let is : IsClauseFor c.args.repo.now (Required c.args.package.now.name) c.deref.result.now =
    subst (IsClauseFor c.args.repo.now (Required c.args.package.now.name)) (sym c.deref.ensures.value) c.in_default.ensures in
    pushed-ok c.push.result c.args.set.now c.push.new.self c.deref.result.now (IsNamedFront c.args.repo.now (c.args.number + 1) c.args.set.now)
    c.push.ensures.ok
    (named-pushed c.args.repo.now c.args.number c.args.package.now c.args.set.now c.args.set.now c.deref.result.now c.keeps_invariant.ensures.in_order
    c.requires.number c.if-not-package.false first c.requires.front is)

pub returns-clause-err : goal.returns-clause-err
returns-clause-err c =
    let first : ¬ IsNamedBelow c.args.repo.now c.args.number c.args.package.now.name = λ below. false≢true (c.if-has_essential_before.ensures.1 below) in
    let is : IsClauseFor c.args.repo.now (Required c.args.package.now.name) c.deref.result.now =
    subst (IsClauseFor c.args.repo.now (Required c.args.package.now.name)) (sym c.deref.ensures.value) c.in_default.ensures in
    pushed-err (present_demands c.args.repo.now) (IsDemand c.args.repo.now true) c.push.result c.args.set.now c.args.set.now (Required
    c.args.package.now.name) c.deref.result.now
    (named-before c.args.repo.now c.args.number c.args.package.now c.args.set.now.clause_limit c.args.set.now.literal_limit c.args.set.now
    c.keeps_invariant.ensures.in_order c.requires.number first c.requires.front)
    (required-from c.args.repo.now.packages c.args.number c.args.package.now c.requires.number c.if-not-package.false) is c.push.ensures.cause
