use Rattle.dist_classes.proofs.clusters.add_keys.Goals as goal
use Rattle.std.proofs.Common.{◌≡◌, ◌++◌, ◌∷◌, ◌+◌, [], ℕ, List, Some, map, take, get_or, slice_get, sym, ap, ◌∙◌}
use Rattle.std.proofs.lemmas.List.{map_more}
use Rattle.std.proofs.lemmas.Option.{get_or_from_slice_get, slice_get_within}
use Rattle.dist_cluster.specs.Relation.{Member}
use Rattle.dist_repo.specs.declared.package.Package.{Package}
use Rattle.dist_classes.specs.Answers.{member_of}

pub loop-number-preserved : goal.loop-number-preserved
loop-number-preserved c =
    let packages = c.args.repo.now.packages in
    let n = c.loop-number.number in
    let p : Package = c.package-package.result.now in
    let at : slice_get packages n ≡ Some p = c.package-package.ensures in
    let here : get_or packages n p ≡ p = get_or_from_slice_get packages n p p at in
    let more : map member_of (take (n + 1) packages) ≡ map member_of (take n packages) ++ member_of p ∷ [] =
    map_more member_of packages n p (slice_get_within packages n p at) ∙ ap (λ (q : Package). map member_of (take n packages) ++ member_of q ∷ []) here in
    let member : Member = record { source = c.bytes.result.now; source_version = p.source_version; version = p.version } in
    let is : member ≡ member_of p = ap (λ (s : List ℕ). record { source = s; source_version = p.source_version; version = p.version }) c.bytes.ensures.value in
    c.in_ok-add.ensures.ok ∙ ap (λ (keys : List Member). keys ++ member ∷ []) c.loop-number.invariant
    ∙ ap (λ (m : Member). map member_of (take n packages) ++ m ∷ []) is ∙ sym more
