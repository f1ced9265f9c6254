use Rattle.std.proofs.Common.{ℕ, List, length, ap, arith}
use Rattle.std.proofs.lemmas.List.Sums.{sum_by_more, sum_by_more_le}
use Rattle.std.proofs.lemmas.Option.{get_or_from_slice_get, slice_get_within}
use Rattle.dist_relation.specs.declared.atom.Atom.{Atom}
use Rattle.dist_repo.proofs.size.beside_items.Goals as goal

pub returns-then-left-count : goal.returns-then-left-count
returns-then-left-count c =
    let items = c.args.items.now in
    let place = c.loop-place.place in
    let item = c.get.result.now in
    let size : List Atom → ℕ = λ item. length item in
    let count = c.len-count.ensures.value in
    omega (
      arith,
      c.loop-place.invariant,
      c.if-left-count.true,
      count,
      sum_by_more_le size items place item (slice_get_within items place item c.get.ensures),
      ap size (get_or_from_slice_get items place item item c.get.ensures),
    )

pub loop-place-preserved : goal.loop-place-preserved
loop-place-preserved c =
    let items = c.args.items.now in
    let place = c.loop-place.place in
    let item = c.get.result.now in
    let size : List Atom → ℕ = λ item. length item in
    let count = c.len-count.ensures.value in
    omega (
      arith,
      c.loop-place.invariant,
      c.if-left-count.false,
      count,
      sum_by_more size items place item (slice_get_within items place item c.get.ensures),
      ap size (get_or_from_slice_get items place item item c.get.ensures),
    )
