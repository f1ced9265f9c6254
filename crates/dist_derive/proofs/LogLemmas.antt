-- A log made of two clause sets.
use Rattle.std.proofs.Common.{◌≡◌, ℕ, ◌+◌, ◌-◌, ◌≤◌, List, [], ◌∷◌, ◌++◌, length, refl, ap, sym, subst, append_assoc, arith, length-append}
use Rattle.std.specs.List.{All}
use Rattle.std.proofs.lemmas.List.{drop_at, length_push, get_or_push}
use Rattle.std.proofs.lemmas.List.Elements.{All-append}
use Rattle.dist_clause.specs.Formula.{Literal, IsClauseOver}
use Rattle.dist_clause.specs.ClauseList.{ClauseList, clause_at, IsWithinLimits, literal_count}
use Rattle.dist_derive.specs.ClauseLog.{joined, lines_of, IsWithinLineLimits}
use Rattle.dist_derive.specs.OccurrencesPrivate.{OccurrenceLists, IsIndexOf}
use Rattle.dist_derive.specs.LogPrivate.{IsIndexed}
use Rattle.dist_derive.proofs.OccurrenceLemmas.{IsIndexOf-more}

pub lines_of-joined : (inputs lines : ClauseList) → lines_of (joined inputs lines) ≡ lines.clauses
lines_of-joined inputs lines = drop_at inputs.clauses lines.clauses (length inputs.clauses) refl

pub IsWithinLineLimits-joined : (inputs lines : ClauseList) → lines.variables ≡ inputs.variables → IsWithinLimits inputs → IsWithinLimits lines
    → IsWithinLineLimits (joined inputs lines)
IsWithinLineLimits-joined inputs lines same first second = record {
  inputs_within = omega (arith, length-append inputs.clauses lines.clauses);
  lines_within = omega (arith, ap length (lines_of-joined inputs lines), second.clauses_within);
  literals_within = omega (arith, ap literal_count (lines_of-joined inputs lines), second.literals_within);
  over_variables = All-append (IsClauseOver inputs.variables) inputs.clauses lines.clauses first.over_variables
      (subst (λ n. All (IsClauseOver n) lines.clauses) same second.over_variables);
}

-- a line more, and an index that is one of the clauses with it
pub IsIndexed-line : (inputs lines : ClauseList) (index more : OccurrenceLists) (clause : List Literal) (number : ℕ) → IsIndexed inputs lines index
    → number ≡ length inputs.clauses + length lines.clauses + 1
    → ((clauses : List (List Literal)) → IsIndexOf index clauses → number ≤ length clauses → clause ≡ clause_at clauses number → IsIndexOf more clauses)
    → IsIndexed inputs (record lines { clauses = lines.clauses ++ clause ∷ [] }) more
IsIndexed-line inputs lines index more clause number h last step =
    let clauses = inputs.clauses ++ lines.clauses in
    let long : length clauses ≡ number - 1 = omega (arith, length-append inputs.clauses lines.clauses) in
    let index_more = step (clauses ++ clause ∷ []) (IsIndexOf-more index clauses clause h.is_index) (omega (arith, length_push clauses clause))
    (sym (get_or_push clauses clause [] (number - 1) long)) in
    record {
      same_variables = h.same_variables;
      is_index = subst (λ cs. IsIndexOf more cs) (append_assoc inputs.clauses lines.clauses (clause ∷ [])) index_more;
    }
