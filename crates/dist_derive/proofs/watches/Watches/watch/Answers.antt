use Rattle.std.proofs.Common.{◌≡◌, ◌≢◌, ℕ, ◌≤◌, List}
use Rattle.std.specs.List.{Contains}
use Rattle.dist_clause.specs.Formula.{Literal}
use Rattle.dist_clause.specs.ClauseList.{clause_at}
use Rattle.dist_derive.specs.Watches.{pair_of, IsPairKept, AreWatchesOf}
use Rattle.dist_derive.proofs.WatchLemmas.{on_ok_both, watch_watches}
use Rattle.dist_derive.proofs.watches.Watches.watch.Goals as goal

pub returns-clause-watches : goal.returns-clause-watches
returns-clause-watches c =
    let u = c.args.self.now in
    let a = c.list.new.self in
    let b = c.list-2.new.self in
    let v = c.set_pair.new.self in
    let number = c.args.number in
    on_ok_both (pair_of v number ≡ (c.args.one, c.args.other)) ((n : ℕ) → 1 ≤ n → n ≢ number → IsPairKept b.pairs v.pairs n)
    ((clauses : List (List Literal)) → Contains (clause_at clauses number) c.args.one → Contains (clause_at clauses number) c.args.other
    → AreWatchesOf u clauses → AreWatchesOf v clauses) c.set_pair.result
    (λ pair others. λ clauses has_one has_other. watch_watches u a b v c.args.one c.args.other number c.requires.from_one c.args.other c.in_ok-list.ensures
    c.in_ok-list-2.ensures c.set_pair.ensures.same_lists pair others clauses has_one has_other has_other)
    c.set_pair.ensures.pair c.set_pair.ensures.other_pairs
