use Rattle.std.proofs.Common.{◌≡◌, ◌∙◌, ◌<◌, ℕ, ◌+◌, ◌-◌, slice_index_or, List, [], ap, arith, length, take}
use Rattle.std.proofs.lemmas.List.Sums.{sum_by_more}
use Rattle.dist_clause.specs.ClauseList.{clause_at, literal_count}
use Rattle.dist_clause.specs.Formula.{Literal}
use Rattle.dist_bench.proofs.future_clauses.literal_count.Goals as goal

one-more : (clauses : List (List Literal)) (place : ℕ) → place < length clauses →
    literal_count (take (place + 1) clauses) ≡ literal_count (take place clauses) + length (clause_at clauses (place + 1))
one-more clauses place within =
    let same : place ≡ (place + 1) - 1 = omega arith in
    sum_by_more (λ (clause : List Literal). length clause) clauses place [] within
    ∙ ap (λ (k : ℕ). literal_count (take place clauses) + length (slice_index_or clauses k [])) same

pub loop-place-preserved : goal.loop-place-preserved
loop-place-preserved c =
    let before = c.loop-place.invariant in
    let clauses = c.args.set.now.clauses in
    record {
      upto = omega (
        arith,
        before.upto,
        c.clause_len-count.ensures,
        one-more clauses c.loop-place.place (omega (arith, c.loop-place-test.true, c.len-place-end.ensures.value)),
      );
      fits = omega (arith, before.fits, c.clause_len-count.type_inv);
    }
