use Rattle.std.proofs.Common.{◌≡◌, ◌≢◌, ◌+◌, ◌<◌, ℕ, List, Some, Less, length, get_or, take, slice_get, refl, sym, ap, subst, ◌∙◌}
use Rattle.std.proofs.lemmas.Bool.{false≢true}
use Rattle.std.proofs.lemmas.List.{take_all}
use Rattle.std.proofs.lemmas.Option.{slice_get_read, slice_get-get_or}
use Rattle.dist_cluster.specs.Found.{top_cmp}
use Rattle.dist_cluster.specs.Relation.{Member}
use Rattle.dist_cluster.proofs.TopLemmas.{IsHighest, highest-first, highest-next, highest-still, top-highest}
use Rattle.dist_cluster.proofs.topmost.top_of.Goals as goal
use Rattle.dist_cluster.proofs.topmost.top_of.Goals.{then-is_higher, else-is_higher}

pub loop-place-init : goal.loop-place-init
loop-place-init c =
    let members = c.args.entries.now in
    let cluster = c.args.cluster.now in
    let member : Member = c.index-entries-cluster.result in
    let n = get_or cluster 0 0 in
    let first : slice_get cluster 0 ≡ Some n = slice_get-get_or cluster 0 0 c.requires.some in
    let within : n < length members = c.requires.within 0 0 c.requires.some in
    let at : slice_get members n ≡ Some member = slice_get_read members _ n member refl within c.index-entries-cluster.is in
    let Top : List ℕ → Type 0 = λ v. IsHighest members (take 1 cluster) v in
    subst Top (sym c.version-top.ensures) (highest-first members cluster n member first at)

pub loop-place-preserved : goal.loop-place-preserved
loop-place-preserved c =
    let members = c.args.entries.now in
    let cluster = c.args.cluster.now in
    let place = c.loop-place.place in
    let member : Member = c.index-entries-cluster-in-loop-place.result in
    let n = get_or cluster place 0 in
    let here : slice_get cluster place ≡ Some n = slice_get-get_or cluster place 0 c.loop-place-test.true in
    let within : n < length members = c.requires.within place 0 c.loop-place-test.true in
    let at : slice_get members n ≡ Some member = slice_get_read members _ n member refl within c.index-entries-cluster-in-loop-place.is in
    let Top : List ℕ → Type 0 = λ v. IsHighest members (take (place + 1) cluster) v in
    let version = c.version-version.ensures in
    let top = c.loop-place.top.now in
    elim c.if-is_higher.branch [
      | then-is_higher w ↦
          let above : top_cmp top member.version ≡ Less = ap (top_cmp top) (sym version) ∙ c.is_higher.ensures.0 w.if-is_higher.true in
          let now = ap (λ r. r.now) w.top-is ∙ version in
          subst Top (sym now) (highest-next members cluster place n member top here at c.loop-place.invariant above)
      | else-is_higher w ↦
          let not_above : top_cmp top member.version ≢ Less = λ less. false≢true
          (sym w.if-is_higher.false ∙ c.is_higher.ensures.1 (ap (top_cmp top) version ∙ less)) in
          subst Top (sym (ap (λ r. r.now) w.top-is)) (highest-still members cluster place n member top here at c.loop-place.invariant not_above)
    ]

pub returns : goal.returns
returns c =
    let whole : take c.loop-place.place c.args.cluster.now ≡ c.args.cluster.now = take_all c.loop-place.place c.args.cluster.now c.loop-place-test.false in
    let Of : List ℕ → Type 0 = λ list. IsHighest c.args.entries.now list c.loop-place.top.now in
    top-highest c.args.entries.now c.args.cluster.now c.loop-place.top.now (subst Of whole c.loop-place.invariant)
