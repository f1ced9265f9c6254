use Rattle.std.proofs.Common.{ℕ, rules}
use Rattle.std.proofs.lemmas.List.Sorted.{IsNonDecreasingBy-from_sort_by_key}
use Rattle.std.proofs.lemmas.Result.{on_ok_weaker}
use Rattle.dist_derive.proofs.DenialLemmas.{denials-moved}
use Rattle.dist_derive.proofs.denials.put_in_order.Goals as goal

pub returns-clause-rising : goal.returns-clause-rising
returns-clause-rising c = on_ok_weaker c.sort_by_key.result
    (λ sorted. IsNonDecreasingBy-from_sort_by_key (λ (pair : ℕ × ℕ). pair.0) _ sorted (λ a r q k. search rules)) c.sort_by_key.ensures.sorted

pub returns-clause-same : goal.returns-clause-same
returns-clause-same c = λ clauses are. denials-moved clauses c.sort_unstable_by.new.self.items _
    (denials-moved clauses c.args.pairs.now.items _ are c.sort_unstable_by.ensures.permutation) c.sort_by_key.ensures.permutation
