use Rattle.std.proofs.Common.{◌≡◌, List, ℕ, arith, false, get_or, nat_lt, rules, subst, sym, true}
use Rattle.std.specs.List.Sorted.{IsNonDecreasingBy, IsPartitionPoint}
use Rattle.std.proofs.lemmas.Bool.{ltb-true, ltb-false}
use Rattle.std.proofs.lemmas.List.Sorted.{IsPartitionPoint-from_clause, IsPartitionedBy-ltb}
use Rattle.dist_derive.specs.DenialsPrivate.{StartsAt}
use Rattle.dist_derive.proofs.denials.Denials.start_of.Goals as goal

pub returns : goal.returns
returns c =
    let pairs : List (ℕ × ℕ) = c.self.inside.pairs.items in
    let rising = subst (IsNonDecreasingBy (λ (x : ℕ × ℕ). x.0)) (sym c.deref-2.ensures.value) c.self.invariant in
    let part = subst (λ (xs : List (ℕ × ℕ)). IsPartitionPoint (λ y. nat_lt y.0 c.args.variable ≡ true) (λ y. nat_lt y.0 c.args.variable ≡ false) xs
    c.partition_point.result) c.deref-2.ensures.value
    (IsPartitionPoint-from_clause (λ (x : ℕ × ℕ). nat_lt x.0 c.args.variable) c.deref-2.result.now c.partition_point.result
    c.partition_point.ensures.partitioned
    (IsPartitionedBy-ltb (λ (x : ℕ × ℕ). x.0) c.deref-2.result.now c.args.variable rising) (λ a r f' k. search rules)) in
    subst (λ (ps : List (ℕ × ℕ)). StartsAt ps c.args.variable c.partition_point.result) c.self.view_is (record {
      before = λ k d lower. ltb-true (get_or pairs k d).0 c.args.variable (part.0 k d (omega arith) lower);
      behind = λ k d from upto. ltb-false (get_or pairs k d).0 c.args.variable (part.1 k d from upto);
    })
