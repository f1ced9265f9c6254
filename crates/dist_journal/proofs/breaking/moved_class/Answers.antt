use Rattle.std.proofs.Common.{◌≡◌, ℕ, List, None, Some, ap, subst, sym, ◌∙◌}
use Rattle.dist_classes.specs.ClassList.{IsOfClassAt}
use Rattle.dist_classes.specs.VersionOrderLaws.{equal-back}
use Rattle.dist_classes.specs.declared.class_value.Class.{Class}
use Rattle.dist_space.specs.Space.{SpaceView, cluster_classes}
use Rattle.dist_journal.proofs.BreakingLemmas.{class-at-like}
use Rattle.dist_journal.proofs.breaking.moved_class.Goals as goal

pub returns-in-Some : goal.returns-in-Some
returns-in-Some c =
    let s = c.args.archive.now.space in
    let cluster = c.args.cluster in
    let version : List ℕ = c.in-Some.version.now in
    let classes : c.classes.result.now ≡ cluster_classes s cluster = c.classes.ensures ∙ ap (λ (x : SpaceView). cluster_classes x cluster) c.space.ensures in
    λ class. (
      (λ is. (version, c.in-Some.ensures.exactly.0, subst (λ (l : List Class). IsOfClassAt l class version) classes ((c.class_of.ensures.one class).0 is))),
      λ into. (c.class_of.ensures.one class).1 (subst (λ (l : List Class). IsOfClassAt l class version) (sym classes)
          (class-at-like (cluster_classes s cluster) class into.0 version (equal-back version into.0 (c.in-Some.ensures.one into.0 into.1)) into.2)),
    )

pub returns-in-None : goal.returns-in-None
returns-in-None c = λ class. (
  (λ no. absurd (let e : None ≡ Some class = no in cc)),
  λ into. absurd (c.in-None.ensures.exactly into.0 into.1),
)
