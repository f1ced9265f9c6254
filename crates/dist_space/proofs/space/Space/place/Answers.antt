use Rattle.std.proofs.Common.{◌≡◌, List, Some, slice_get, ap, sym, subst, rules, ◌∙◌}
use Rattle.std.specs.Prelude.{AllPairs, Contains}
use Rattle.std.specs.List.Sorted.{IsPartitionedBy}
use Rattle.std.proofs.lemmas.List.Sorted.{IsPartitionPoint-from_clause}
use Rattle.dist_space.specs.Kept.{IsWhole}
use Rattle.dist_space.specs.Space.{SpaceView, StandsBefore}
use Rattle.dist_space.specs.declared.meaning.Meaning.{Meaning}
use Rattle.dist_space.proofs.Variables.{before_it, meanings-parted, point-is}
use Rattle.dist_space.proofs.space.Space.place.Goals as goal

-- halving finds it
pub returns : goal.returns
returns c =
    let s : SpaceView = c.args.self.now in
    let m : Meaning = c.args.meaning.now in
    let space = (subst IsWhole c.self.view_is c.self.invariant.0).space in
    let same : s.meanings ≡ c.as_slice-meanings.result.now = ap (λ (v : SpaceView). v.meanings) (sym c.self.view_is) ∙ sym c.as_slice-meanings.ensures.value in
    let there : Contains s.meanings m = (space.meanings.exact m).1 (c.requires, tt) in
    let parted = meanings-parted s m s.meanings space.meanings.rising in
    let point = IsPartitionPoint-from_clause (before_it s m) c.as_slice-meanings.result.now c.partition_point.result c.partition_point.ensures.partitioned
    (subst (IsPartitionedBy (before_it s m)) same parted) (λ a r q k. search rules) in
    subst (λ (xs : List Meaning). slice_get xs c.partition_point.result ≡ Some m) (sym same)
    (point-is s m c.as_slice-meanings.result.now c.partition_point.result (subst (AllPairs (StandsBefore s)) same space.meanings.rising)
    (subst (λ (xs : List Meaning). Contains xs m) same there) point)
