use Rattle.std.proofs.Common.{◌+◌, ℕ, ap, ap₂, sym, subst, ◌∙◌, arith}
use Rattle.dist_clause.specs.ClauseList.{ClauseList}
use Rattle.dist_explain.specs.SelectedPrivate.{IsFront}
use Rattle.dist_explain.proofs.SelectedLemmas.{all-kept, front-start}
use Rattle.dist_explain.proofs.selected.with_selectors.Goals as goal

pub push_all_selected-requires : goal.push_all_selected-requires
push_all_selected-requires c = record {
  front = subst (IsFront c.args.clauses.now 0) (sym c.new-set.ensures)
      (front-start c.args.clauses.now (c.variables.result + c.len-count.result) c.len-count.result c.args.limits.now.literals
      (ap₂ (λ (a b : ℕ). a + b) c.variables.ensures.value c.len-count.ensures.value) c.len-count.ensures.value);
}

pub returns-in-Ok-clause-exact : goal.returns-in-Ok-clause-exact
returns-in-Ok-clause-exact c = λ what memory. (
  (λ is. cc),
  λ passes.
      let told = c.in-Ok.ensures in
      let limit = told.limit ∙ ap (λ (s : ClauseList). s.literal_limit) c.new-set.ensures in
      let n = told.ok.variables in
      let v = c.variables.ensures.value in
      let sized = c.len-count.ensures.value in
      let kept = c.if-variables-limits.false in
      absurd (all-kept c.args.clauses.now c.push_all_selected.new.set c.args.limits.now what told.ok c.keeps_invariant.ensures.within limit
      (omega (arith, n, v, kept, sized)) passes),
)
