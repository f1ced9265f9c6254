use Rattle.std.proofs.Common.{take}
use Rattle.std.specs.List.{Contains}
use Rattle.std.proofs.lemmas.List.Elements.{All-weaker}
use Rattle.dist_clause.specs.Formula.{Literal}
use Rattle.dist_derive.specs.Cone.{InCone}
use Rattle.dist_derive.proofs.log.Log.reaches.Goals as goal

pub returns-clause-answer : goal.returns-clause-answer
returns-clause-answer c =
    let inputs = take c.args.inputs c.args.self.now.clauses in
    let assumptions = c.args.assumptions.now in
    let members = c.mark.new.cone.members in (
      λ e. All-weaker (λ (l : Literal). Contains members l.variable) (λ (l : Literal). InCone inputs assumptions l.variable)
          (λ l h. (c.mark.ensures.exact l.variable).0 h) c.args.clause.now (c.has_clause.ensures.0 e),
      λ h. c.has_clause.ensures.1 (All-weaker (λ (l : Literal). InCone inputs assumptions l.variable) (λ (l : Literal). Contains members l.variable)
          (λ l g. (c.mark.ensures.exact l.variable).1 g) c.args.clause.now h),
    )
