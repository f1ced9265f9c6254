use Rattle.std.proofs.Common.{ℕ, arith, subst, sym, ◌∙◌}
use Rattle.std.specs.Option.{ForSome}
use Rattle.dist_cert.specs.Groups.{clause_of}
use Rattle.dist_line_check.specs.Since.{AreLiteralsOver}
use Rattle.dist_line_check.proofs.Growth.{grown}
use Rattle.dist_line_check.proofs.checker.Checker.derive.Goals as goal

pub invariant_of-self : goal.invariant_of-self
invariant_of-self c =
    let is = grown c.self.inside.log c.append.new.log (clause_of c.args.literals.now) c.append.result
    c.keeps_invariant.ensures.inputs c.append.ensures.ok c.append.ensures.stays in (
      c.append.ensures.ready ∙ c.self.invariant.0 ∙ sym is.variables,
      subst (λ (n : ℕ). ForSome c.self.inside.question (λ q. AreLiteralsOver n q.assumptions)) (sym is.variables) c.self.invariant.1,
      λ q there. let low = c.self.invariant.2 q there in omega (arith, low, is.more),
    )
