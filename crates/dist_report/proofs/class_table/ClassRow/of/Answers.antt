use Rattle.std.proofs.Common.{◌≡◌, ℕ, List, [], ◌∷◌, ◌++◌, Some, length, map, sym, ap, subst, ◌∙◌, arith, slice_get}
use Rattle.std.specs.List.{range_with_len}
use Rattle.std.proofs.lemmas.Option.{slice_get-get_or}
use Rattle.dist_classes.specs.declared.class_value.Class.{Class}
use Rattle.dist_report.proofs.RowLemmas.{IsRowSoFar, row-all, row-more, row-none}
use Rattle.dist_report.proofs.class_table.ClassRow.of.Goals as goal

pub loop-cluster-init : goal.loop-cluster-init
loop-cluster-init c =
    let classes = c.args.classes.now in
    let Starts : List ℕ → Type 0 = λ starts. IsRowSoFar classes 0 starts [] in
    let Pairs : List (ℕ × ℕ) → Type 0 = λ pairs. IsRowSoFar classes 0 c.new-starts.result.items pairs in
    subst Pairs (sym c.new-pairs.ensures.items) (subst Starts (sym c.new-starts.ensures.items) (row-none classes))

pub loop-cluster-preserved : goal.loop-cluster-preserved
loop-cluster-preserved c =
    let classes = c.args.classes.now in
    let k = c.loop-cluster.cluster in
    let starts = c.loop-cluster.starts.items in
    let pairs = c.loop-cluster.pairs.items in
    let count : c.len.result ≡ length pairs = omega (arith, c.loop-cluster.pairs.ok.0) in
    let pushed = c.in_ok-push.ensures.items ∙ ap (λ (n : ℕ). starts ++ n ∷ []) count in
    let own = c.index-classes-cluster.result in
    let here : slice_get classes k ≡ Some own = slice_get-get_or classes k own c.loop-cluster-test.true
    ∙ ap (λ (x : List Class). Some x) (sym c.index-classes-cluster.is)
    in
    let more = c.in_ok-push_pairs.ensures.pairs ∙ ap (λ (n : ℕ). pairs ++ map (λ (j : ℕ). (k, j)) (range_with_len 0 n)) c.len-in-loop-cluster.ensures in
    row-more classes k own starts c.push.new.self.items pairs c.push_pairs.new.pairs.items here c.loop-cluster.invariant pushed more
    c.in_ok-push_pairs.ensures.few

pub returns : goal.returns
returns c = row-all c.args.classes.now c.loop-cluster.cluster c.loop-cluster.starts.items c.loop-cluster.pairs.items (omega arith) c.loop-cluster.invariant
