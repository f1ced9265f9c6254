use Rattle.std.proofs.Common.{◌++◌, ◌∷◌, ◌+◌, [], ℕ, List, arith, sym, ap, subst, ◌∙◌}
use Rattle.dist_cluster.specs.Top.{IsTop}
use Rattle.dist_cluster.proofs.TopLemmas.{AreTopsSoFar, tops-none, tops-more, tops-all}
use Rattle.dist_cluster.proofs.finding.tops_of.Goals as goal

pub loop-numbers-init : goal.loop-numbers-init
loop-numbers-init c =
    let Tops : List (List ℕ) → Type 0 = λ tops. AreTopsSoFar c.args.entries.now c.args.clusters.now tops 0 in
    subst Tops (sym c.new-tops.ensures.items) (tops-none c.args.entries.now c.args.clusters.now)

pub loop-numbers-preserved : goal.loop-numbers-preserved
loop-numbers-preserved c =
    let members = c.args.entries.now in
    let clusters = c.args.clusters.now in
    let cluster = c.numbers-item.result in
    let top = c.top_of.result.now in
    let Of : List ℕ → Type 0 = λ list. IsTop members list top in
    let highest : IsTop members cluster top = subst Of c.as_slice.ensures c.top_of.ensures in
    let Tops : List (List ℕ) → Type 0 = λ tops. AreTopsSoFar members clusters tops (c.loop-numbers.numbers-index + 1) in
    let now = c.in_ok-push.ensures.items ∙ ap (λ (v : List ℕ). c.loop-numbers.tops.items ++ v ∷ []) c.in_ok-try_clone.ensures in
    subst Tops (sym now) (tops-more members clusters c.loop-numbers.tops.items c.loop-numbers.numbers-index cluster top c.loop-numbers-test.true
    c.numbers-item.is highest c.loop-numbers.invariant)

pub returns : goal.returns
returns c = tops-all c.args.entries.now c.args.clusters.now c.loop-numbers.tops.items c.loop-numbers.numbers-index (omega arith) c.loop-numbers.invariant
