use Rattle.std.proofs.Common.{◌≡◌, ◌+◌, ◌<◌, ◌++◌, ◌∷◌, [], ℕ, List, false, ap, sym, subst, ◌∙◌, arith}
use Rattle.dist_clause.specs.ClauseList.{clause_at}
use Rattle.dist_clause.specs.Formula.{IsClauseOver, Literal, literal}
use Rattle.std.proofs.lemmas.Result.{IfErr-weaker, on_ok_weaker}
use Rattle.dist_clause.specs.Demands.{IsRefused}
use Rattle.dist_explain.specs.SelectedPrivate.{IsFront, IsFullAt}
use Rattle.dist_explain.proofs.SelectedLemmas.{front-next, over-more, over-selected, why-full}
use Rattle.dist_explain.proofs.selected.push_selected.Goals as goal

-- the clause with its selector
written : (n v p : ℕ) (clauses : List (List Literal)) (items clause now : List Literal) → now ≡ items → items ≡ clause ++ literal (n + p + 1) false ∷ []
    → clause ≡ clause_at clauses (p + 1) → n ≡ v → now ≡ clause_at clauses (p + 1) ++ literal (v + p + 1) false ∷ []
written n v p clauses items clause now a b c d = a ∙ b ∙ ap (λ (x : List Literal). x ++ literal (n + p + 1) false ∷ []) c
    ∙ ap (λ (m : ℕ). clause_at clauses (p + 1) ++ literal (m + p + 1) false ∷ []) d

pub overflow_add-selector : goal.overflow_add-selector
overflow_add-selector c = let h = c.variables.ensures.value in let v = c.requires.front.variables in
    let s = c.keeps_invariant.ensures.variables in let p = c.requires.place in omega (arith, h, v, s, p)

pub overflow_add-selector-2 : goal.overflow_add-selector-2
overflow_add-selector-2 c = let h = c.variables.ensures.value in let v = c.requires.front.variables in
    let s = c.keeps_invariant.ensures.variables in let p = c.requires.place in omega (arith, h, v, s, p)

pub overflow_add-place : goal.overflow_add-place
overflow_add-place c = let h = c.variables.ensures.value in let v = c.requires.front.variables in
    let s = c.keeps_invariant.ensures.variables in let p = c.requires.place in omega (arith, h, v, s, p)

pub write_selected-requires-clause-in_range : goal.write_selected-requires-clause-in_range
write_selected-requires-clause-in_range c =
    let h = c.variables.ensures.value in let v = c.requires.front.variables in
    let s = c.keeps_invariant.ensures.variables in let p = c.requires.place in omega (arith, h, v, s, p)

pub push-requires : goal.push-requires
push-requires c =
    let k = c.variables.result + c.args.place + 1 in
    let n = c.variables.ensures.value in
    let v = c.requires.front.variables in
    let p = c.requires.place in
    let less : c.args.clauses.now.variables < k = omega (arith, n) in
    let over = over-selected c.args.clauses.now.variables k c.clause.result.now less c.clause.ensures.over_variables in
    let is : c.deref.result.now ≡ c.clause.result.now ++ literal k false ∷ [] = c.deref.ensures.value ∙ c.in_default.ensures in
    subst (IsClauseOver c.args.set.now.variables) (sym is)
    (over-more k c.args.set.now.variables (c.clause.result.now ++ literal k false ∷ []) (omega (arith, n, v, p)) over)

pub returns-clause-ok : goal.returns-clause-ok
returns-clause-ok c =
    let is = written c.variables.result c.args.clauses.now.variables c.args.place c.args.clauses.now.clauses c.write_selected.new.clause.items
    c.clause.result.now c.deref.result.now c.deref.ensures.value c.in_default.ensures c.clause.ensures.value c.variables.ensures.value in
    on_ok_weaker c.push.result (λ new. subst (IsFront c.args.clauses.now (c.args.place + 1)) (sym new)
    (front-next c.args.clauses.now c.args.set.now c.args.place c.deref.result.now c.requires.place c.requires.front is)) c.push.ensures.ok

pub returns-clause-err : goal.returns-clause-err
returns-clause-err c =
    let is = written c.variables.result c.args.clauses.now.variables c.args.place c.args.clauses.now.clauses c.write_selected.new.clause.items
    c.clause.result.now c.deref.result.now c.deref.ensures.value c.in_default.ensures c.clause.ensures.value c.variables.ensures.value in
    IfErr-weaker c.push.result (IsRefused c.args.set.now c.deref.result.now) (IsFullAt c.args.clauses.now c.args.set.now.literal_limit)
    (λ e refused. why-full c.args.clauses.now c.args.set.now c.args.place c.deref.result.now e c.requires.place c.requires.front is refused)
    c.push.ensures.cause
