use Rattle.std.proofs.Common.{◌∙◌, ◌∷◌, ◌++◌, [], List, ap, arith, length, subst}
use Rattle.std.specs.List.{Contains}
use Rattle.std.proofs.lemmas.List.{length_push}
use Rattle.dist_clause.specs.ClauseList.{clause_at}
use Rattle.dist_clause.specs.Formula.{Literal}
use Rattle.dist_derive.proofs.RowLemmas.{rows-more}
use Rattle.dist_derive.proofs.rows.rows_of.Goals as goal

pub loop-place-preserved : goal.loop-place-preserved
loop-place-preserved c =
    let clauses : List (List Literal) = c.args.clauses.now.clauses in
    let rows : List (List Literal) = c.loop-place.rows in
    let row : List Literal = c.write_row.new.row.items in
    let grown = c.in_ok-push.ensures.ok ∙ ap (λ (r : List Literal). rows ++ r ∷ []) c.deref.ensures.value in
    let last = λ (m : Literal) (h : Contains row m). subst (λ (x : List Literal). Contains x m) c.clause.ensures.value (c.in_ok-write_row.ensures m h) in
    record {
      count = let more = ap (λ (xs : List (List Literal)). length xs) grown in
          omega (arith, more, length_push rows row, c.loop-place.invariant.count);
      members = λ number m h. rows-more clauses rows row c.loop-place.place c.loop-place.invariant.count c.loop-place.invariant.members
          last number m (subst (λ (xs : List (List Literal)). Contains (clause_at xs number) m) grown h);
    }
