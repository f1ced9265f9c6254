use Rattle.std.proofs.Common.{◌≡◌, ◌≢◌, ℕ, ◌≤◌, List}
use Rattle.std.specs.List.{Contains}
use Rattle.dist_clause.specs.Formula.{Literal}
use Rattle.dist_clause.specs.ClauseList.{clause_at}
use Rattle.dist_derive.specs.Watches.{pair_of, IsPairKept, AreWatchesOf}
use Rattle.dist_derive.proofs.WatchLemmas.{on_ok_both, listed_before, listed_more, watch_watches}
use Rattle.dist_derive.proofs.watches.Watches.move_to.Goals as goal

pub returns-clause-watches : goal.returns-clause-watches
returns-clause-watches c =
    let u = c.args.self.now in
    let b = c.put.new.self in
    let v = c.set_pair.new.self in
    let number = c.args.number in
    let one = c.args.one in
    let other = c.args.other in
    let first = listed_before u one c.requires.found.0 number other c.requires.from_one c.requires.found.1 in
    let second = listed_more u b other number one c.in_ok-put.ensures.same_pairs c.in_ok-put.ensures.other_lists c.in_ok-put.ensures.list in
    on_ok_both (pair_of v number ≡ (one, other)) ((n : ℕ) → 1 ≤ n → n ≢ number → IsPairKept b.pairs v.pairs n)
    ((clauses : List (List Literal)) → Contains (clause_at clauses number) one → Contains (clause_at clauses number) other
    → AreWatchesOf u clauses → AreWatchesOf v clauses) c.set_pair.result
    (λ pair others clauses has_one has_other. watch_watches u u b v one other number c.requires.from_one other first second c.set_pair.ensures.same_lists
    pair others clauses has_one has_other has_other)
    c.set_pair.ensures.pair c.set_pair.ensures.other_pairs
