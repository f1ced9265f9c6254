use Rattle.std.proofs.Common.{◌≡◌, true, false, subst}
use Rattle.std.specs.List.Sorted.{IsPartitionPoint}
use Rattle.dist_repo.specs.EdgesPrivate.{is_before, standing}
use Rattle.dist_repo.specs.declared.edges.Edge.{Edge}
use Rattle.dist_repo.proofs.EdgeLemmas.{within-iff}
use Rattle.dist_repo.proofs.edges.within.Goals as goal

pub returns : goal.returns
returns c =
    let packages = c.args.packages.now in
    let offers = c.args.offers.now in
    let w = c.args.bound.now.version in
    let start = c.place_of-start.result in
    let end = c.place_of-end.result in
    let First : Edge → Type 0 = λ e. IsPartitionPoint (λ offer. is_before e (standing packages w offer) ≡ true)
    (λ offer. is_before e (standing packages w offer) ≡ false) offers start in
    let Last : Edge → Type 0 = λ e. IsPartitionPoint (λ offer. is_before e (standing packages w offer) ≡ true)
    (λ offer. is_before e (standing packages w offer) ≡ false) offers end in
    within-iff packages offers c.between.result.now c.args.bound.now.op w start end (subst First c.start_of.ensures c.place_of-start.ensures.splits)
    (subst Last c.end_of.ensures c.place_of-end.ensures.splits) c.place_of-end.ensures.within c.between.ensures
