use Rattle.std.proofs.Common.{ℕ, ◌-◌, ◌≤◌, [], List, length, inl, inr, ap, sym, subst, ◌∙◌, arith}
use Rattle.std.specs.List.{All, Contains, slice_index}
use Rattle.std.proofs.lemmas.Bool.{cases_lt}
use Rattle.std.proofs.lemmas.List.{get_or_past}
use Rattle.std.proofs.lemmas.List.Elements.{All-contains}
use Rattle.dist_clause.specs.Formula.{Literal, IsClauseOver}
use Rattle.dist_clause.specs.ClauseList.{clause_at}
use Rattle.dist_derive.specs.TrueLiterals.{LiteralList}
use Rattle.dist_derive.specs.Watches.{list_of}
use Rattle.dist_search.proofs.propagation.is_blocked.Goals as goal

-- a literal of a clause is of a variable that there is
in_range : (n : ℕ) (clauses : List (List Literal)) (number : ℕ) (l : Literal) → All (IsClauseOver n) clauses → Contains (clause_at clauses number) l
    → l.variable ≤ n
in_range n clauses number l over has = elim (cases_lt (number - 1) (length clauses)) [
  | inl within ↦
      (All-contains (λ (m : Literal). (1 ≤ m.variable) × (m.variable ≤ n)) (clause_at clauses number) l (over (number - 1) [] within).in_range has).1
  | inr past ↦ absurd (omega (arith, (subst (λ clause. Contains clause l) (get_or_past clauses (number - 1) [] past) has).1))
]

pub is_true-requires : goal.is_true-requires
is_true-requires c =
    let clauses = c.args.log.now.clauses in
    let number = slice_index (list_of c.args.watches.now c.args.literal) c.args.place in
    let has = c.blocker-blocker.ensures.value clauses c.requires.watches in
    subst (λ n. c.blocker-blocker.result.variable ≤ n) (sym (ap (λ (t : LiteralList). t.variables) c.trues.ensures ∙ c.requires.same_variables))
    (in_range c.args.log.now.variables clauses number c.blocker-blocker.result c.keeps_invariant.ensures.within.over_variables has)
