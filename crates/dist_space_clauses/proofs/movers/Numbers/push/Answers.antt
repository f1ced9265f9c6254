use Rattle.std.proofs.Common.{◌∙◌, ℕ, List, inl, inr, refl, subst}
use Rattle.std.specs.Prelude.{Contains}
use Rattle.dist_space_clauses.proofs.movers.Numbers.push.Goals as goal

pub returns-then-is_last : goal.returns-then-is_last
returns-then-is_last c = λ x. (
  (λ there. inl there),
  λ either. elim either [
    | inl there ↦ there
    | inr same ↦ subst (λ (y : ℕ). Contains c.args.self.now y) same
        (subst (λ (xs : List ℕ). Contains xs c.args.number) (c.deref.ensures.value ∙ c.self.view_is) (c.if-is_last.ensures refl))
  ],
)
