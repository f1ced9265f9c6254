use Rattle.std.proofs.Common.{◌↔◌, ℕ, refl, subst, take}
use Rattle.std.specs.List.{Contains}
use Rattle.std.proofs.lemmas.List.Elements.{All-weaker}
use Rattle.dist_clause.specs.ClauseList.{clause_at}
use Rattle.dist_clause.specs.Formula.{Literal}
use Rattle.dist_derive.specs.Cone.{InCone}
use Rattle.dist_derive.specs.ConePrivate.{AreLinesWithin}
use Rattle.dist_derive.proofs.log.Log.reaches_lines.Goals as goal

pub returns-then-finds_lines-clause-answer : goal.returns-then-finds_lines-clause-answer
returns-then-finds_lines-clause-answer c = (
  λ _. subst (λ n. AreLinesWithin (take n c.args.self.now.clauses) c.args.self.now.clauses c.args.assumptions.now c.args.last) c.inputs-inputs.ensures.value
      (c.finds_lines.ensures.found c.if-finds_lines.true),
  λ _. refl,
)

pub returns-clause-answer : goal.returns-clause-answer
returns-clause-answer c =
    let clauses = c.args.self.now.clauses in
    let inputs = take c.args.self.now.inputs clauses in
    let assumptions = c.args.assumptions.now in
    let members = c.mark.new.cone.members in
    let exact = subst (λ n. (v : ℕ) → Contains members v ↔ InCone (take n clauses) assumptions v) c.inputs-inputs.ensures.value c.mark.ensures.exact in (
      λ e number above to. All-weaker (λ (l : Literal). Contains members l.variable) (λ (l : Literal). InCone inputs assumptions l.variable)
          (λ l h. (exact l.variable).0 h) (clause_at clauses number) (c.has_lines.ensures.0 e number above to),
      λ h. c.has_lines.ensures.1 (λ number above to. All-weaker (λ (l : Literal). InCone inputs assumptions l.variable)
          (λ (l : Literal). Contains members l.variable) (λ l g. (exact l.variable).1 g) (clause_at clauses number) (h number above to)),
    )
