use Rattle.std.proofs.Common.{◌≡◌, ◌↔◌, ◌∙◌, IsTrue, None, Some, ap, get_or, refl, slice_get, subst}
use Rattle.dist_base.specs.ListLaws.{element-at}
use Rattle.dist_cluster.specs.Top.{ClusterList}
use Rattle.dist_repo.specs.declared.package.Package.{Package}
use Rattle.dist_space.specs.Space.{IsSpace, SpaceView}
use Rattle.dist_future.specs.Future.{IsAboveCluster}
use Rattle.dist_archive.specs.Steps.{IsOfCluster}
use Rattle.dist_archive.proofs.MovedLemmas.{least-held, least-is, least-within, moved-above, moved-equal, moved-names, moved-not, moved-to}
use Rattle.dist_archive.proofs.NameLemmas.{not-so}
use Rattle.dist_archive.proofs.UploadLemmas.{members-within}
use Rattle.dist_archive.proofs.archive.Archive.moved.Goals as goal

pub at-requires : goal.at-requires
at-requires c =
    let space = subst (λ (x : SpaceView). IsSpace x) c.space-space.ensures c.keeps_invariant.ensures.space in
    let clusters = c.clusters.ensures ∙ ap (λ (x : SpaceView). x.clusters) c.space-space.ensures in
    let members = c.members-members.result.now in
    let are = subst (λ (l : ClusterList). slice_get l.members c.args.cluster ≡ Some members) clusters c.members-members.ensures in
    least-within c.args.self.now space.frame c.args.cluster members are

pub returns-in_default-clause-exactly : goal.returns-in_default-clause-exactly
returns-in_default-clause-exactly c = λ version moved.
    let v = c.args.self.now in
    let space = subst (λ (x : SpaceView). IsSpace x) c.space-space.ensures c.keeps_invariant.ensures.space in
    let clusters = c.clusters.ensures ∙ ap (λ (x : SpaceView). x.clusters) c.space-space.ensures in
    let members = c.members-members.result.now in
    let are = subst (λ (l : ClusterList). slice_get l.members c.args.cluster ≡ Some members) clusters c.members-members.ensures in
    let least = get_or members 0 0 in
    let own = element-at v.space.repository.packages least (least-within v space.frame c.args.cluster members are) in
    moved-not v space.frame c.args.cluster members are least (least-is v space.frame c.args.cluster members are) own.element own.is
    (λ n there name. let no : None ≡ Some n = (c.in_default.ensures own.element n own.is).1 (there, name) in cc) version moved

pub returns-then-not-is_above_top-clause-exactly : goal.returns-then-not-is_above_top-clause-exactly
returns-then-not-is_above_top-clause-exactly c = λ version moved.
    let v = c.args.self.now in
    let space = subst (λ (x : SpaceView). IsSpace x) c.space-space.ensures c.keeps_invariant.ensures.space in
    let clusters = c.clusters.ensures ∙ ap (λ (x : SpaceView). x.clusters) c.space-space.ensures in
    let members = c.members-members.result.now in
    let are = subst (λ (l : ClusterList). slice_get l.members c.args.cluster ≡ Some members) clusters c.members-members.ensures in
    let least = get_or members 0 0 in
    let own = element-at v.space.repository.packages least (least-within v space.frame c.args.cluster members are) in
    let n : Package = c.in-Some.least.now in
    let test = subst (λ (x : SpaceView). (p : Package) → IsOfCluster x c.args.cluster p → IsTrue c.is_above_top.result
    ↔ IsAboveCluster x.repository p n.version) c.space-space.ensures c.is_above_top.ensures in
    not-so c.is_above_top.result (test moved.0 moved.1) c.if-not-is_above_top.true
    (moved-above v space.frame c.args.cluster members are least (least-is v space.frame c.args.cluster members are) own.element own.is n
    (λ m there name. let same : Some n ≡ Some m = (c.in-Some.ensures own.element m own.is).1 (there, name) in cc) version moved
    c.keeps_invariant-2.ensures)

pub are_held_at-requires : goal.are_held_at-requires
are_held_at-requires c =
    let s = c.args.self.now.space in
    let space = subst (λ (x : SpaceView). IsSpace x) c.space-space.ensures c.keeps_invariant.ensures.space in
    let clusters = c.clusters.ensures ∙ ap (λ (x : SpaceView). x.clusters) c.space-space.ensures in
    let members = c.members-members.result.now in
    let are = subst (λ (l : ClusterList). slice_get l.members c.args.cluster ≡ Some members) clusters c.members-members.ensures in
    members-within s space.frame c.args.cluster members c.requires are

pub returns-then-not-are_held_at-clause-exactly : goal.returns-then-not-are_held_at-clause-exactly
returns-then-not-are_held_at-clause-exactly c = λ version moved.
    let v = c.args.self.now in
    let space = subst (λ (x : SpaceView). IsSpace x) c.space-space.ensures c.keeps_invariant.ensures.space in
    let clusters = c.clusters.ensures ∙ ap (λ (x : SpaceView). x.clusters) c.space-space.ensures in
    let members = c.members-members.result.now in
    let are = subst (λ (l : ClusterList). slice_get l.members c.args.cluster ≡ Some members) clusters c.members-members.ensures in
    let least = get_or members 0 0 in
    let own = element-at v.space.repository.packages least (least-within v space.frame c.args.cluster members are) in
    let n : Package = c.in-Some.least.now in
    not-so c.are_held_at.result c.are_held_at.ensures c.if-not-are_held_at.true
    (moved-names v space.frame c.args.cluster members are least (least-is v space.frame c.args.cluster members are) own.element own.is n
    (λ m there name. let same : Some n ≡ Some m = (c.in-Some.ensures own.element m own.is).1 (there, name) in cc) version moved)

pub returns-clause-exactly : goal.returns-clause-exactly
returns-clause-exactly c =
    let v = c.args.self.now in
    let space = subst (λ (x : SpaceView). IsSpace x) c.space-space.ensures c.keeps_invariant.ensures.space in
    let clusters = c.clusters.ensures ∙ ap (λ (x : SpaceView). x.clusters) c.space-space.ensures in
    let members = c.members-members.result.now in
    let are = subst (λ (l : ClusterList). slice_get l.members c.args.cluster ≡ Some members) clusters c.members-members.ensures in
    let least = get_or members 0 0 in
    let own = element-at v.space.repository.packages least (least-within v space.frame c.args.cluster members are) in
    let n : Package = c.in-Some.least.now in
    let there = (c.in-Some.ensures own.element n own.is).0 refl in
    let test = subst (λ (x : SpaceView). (p : Package) → IsOfCluster x c.args.cluster p → IsTrue c.is_above_top.result
    ↔ IsAboveCluster x.repository p n.version) c.space-space.ensures c.is_above_top.ensures in (
      moved-to v space.frame c.args.cluster members are c.requires n.version (λ p of. (test p of).0 c.if-not-is_above_top.false)
          (c.are_held_at.ensures.0 c.if-not-are_held_at.false),
      least-held v space.frame c.args.cluster members are least (least-is v space.frame c.args.cluster members are) own.element own.is n there.0 there.1,
    )

pub returns-clause-one : goal.returns-clause-one
returns-clause-one c = λ version moved.
    let v = c.args.self.now in
    let space = subst (λ (x : SpaceView). IsSpace x) c.space-space.ensures c.keeps_invariant.ensures.space in
    let clusters = c.clusters.ensures ∙ ap (λ (x : SpaceView). x.clusters) c.space-space.ensures in
    let members = c.members-members.result.now in
    let are = subst (λ (l : ClusterList). slice_get l.members c.args.cluster ≡ Some members) clusters c.members-members.ensures in
    let least = get_or members 0 0 in
    let own = element-at v.space.repository.packages least (least-within v space.frame c.args.cluster members are) in
    let n : Package = c.in-Some.least.now in
    moved-equal v space.frame c.args.cluster members are least (least-is v space.frame c.args.cluster members are) own.element own.is n
    (λ m there name. let same : Some n ≡ Some m = (c.in-Some.ensures own.element m own.is).1 (there, name) in cc) version moved
