use Rattle.std.proofs.Common.{◌≡◌, true, false, get_or, arith, inl, inr, rules, sym, ◌∙◌}
use Rattle.std.specs.List.Sorted.{IsPartitionPoint}
use Rattle.std.proofs.lemmas.Bool.{cases_lt, false≢true}
use Rattle.std.proofs.lemmas.List.Sorted.{IsPartitionPoint-from_clause}
use Rattle.dist_space.specs.EntryOrder.{are_alike}
use Rattle.dist_space.proofs.AlikeLemmas.{alike-itself, parted}
use Rattle.dist_space.proofs.entry_order.alike_count.Goals as goal

point : (c : goal.After-partition_point) → IsPartitionPoint
    (λ y. are_alike c.args.frame.now.repository.architecture c.args.bound.now c.args.package.now.version c.args.package.now.provides
    (get_or c.args.places.now 0 0) y ≡ true)
    (λ y. are_alike c.args.frame.now.repository.architecture c.args.bound.now c.args.package.now.version c.args.package.now.provides
    (get_or c.args.places.now 0 0) y ≡ false)
    c.args.places.now c.partition_point.result
point c =
    let architecture = c.args.frame.now.repository.architecture in
    let p = c.args.package.now in
    let places = c.args.places.now in
    IsPartitionPoint-from_clause (are_alike architecture c.args.bound.now p.version p.provides (get_or places 0 0)) places c.partition_point.result
    c.partition_point.ensures.partitioned (parted architecture c.args.bound.now p.version p.provides places c.requires) (λ a r f' k. search rules)

pub returns-in-len1-up-clause-some : goal.returns-in-len1-up-clause-some
returns-in-len1-up-clause-some c = λ some. elim (cases_lt 0 c.partition_point.result) [
  | inl less ↦ less
  | inr none ↦
      let p = c.args.package.now in
      let first = get_or c.args.places.now 0 0 in
      absurd (false≢true (sym ((point c).1 0 0 none some)
      ∙ alike-itself c.args.frame.now.repository.architecture c.args.bound.now p.version p.provides first))
]

pub returns-in-len1-up-clause-alike : goal.returns-in-len1-up-clause-alike
returns-in-len1-up-clause-alike c = λ k less. (point c).0 k 0 (omega arith) less
