use Rattle.std.proofs.Common.{◌≡◌, ◌∷◌, ◌++◌, ◌∙◌, ap, arith, length, map, sym, zero-add, List, [], ℕ}
use Rattle.std.specs.List.{range_with_len}
use Rattle.std.proofs.lemmas.List.FromFn.{map-range_with_len_more}
use Rattle.dist_cluster.specs.Top.{ClusterList}
use Rattle.dist_check.specs.LayoutPrivate.{class_variables}
use Rattle.dist_check.proofs.layout.classes.Goals as goal

pub loop-cluster-preserved : goal.loop-cluster-preserved
loop-cluster-preserved c =
    let s = c.args.space.now in
    let here = c.loop-cluster.cluster in
    c.in_ok-push.ensures.ok ∙ ap (λ (xs : List (List ℕ)). xs ++ c.as_slice.result.now ∷ []) c.loop-cluster.invariant
    ∙ ap (λ (v : List ℕ). map (class_variables s) (range_with_len 0 here) ++ v ∷ []) (c.as_slice.ensures.value ∙ c.in_ok-variables.ensures)
    ∙ sym (map-range_with_len_more (class_variables s) 0 here here (zero-add here))

pub returns : goal.returns
returns c =
    let s = c.args.space.now in
    let count : length c.clusters.result.now.members ≡ length s.clusters.members =
    ap (λ (x : ClusterList). length x.members) c.clusters.ensures in
    let all : c.loop-cluster.cluster ≡ length s.clusters.members = omega (arith, c.len-cluster-end.ensures, count) in
    c.loop-cluster.invariant ∙ ap (λ (n : ℕ). map (class_variables s) (range_with_len 0 n)) all
