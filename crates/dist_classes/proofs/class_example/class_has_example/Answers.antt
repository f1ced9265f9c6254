use Rattle.std.proofs.Common.{sym, subst}
use Rattle.dist_classes.specs.ClassList.{HasExample, HasVersions}
use Rattle.dist_classes.specs.declared.class_value.Class.TheVariants.{Point, Between, Above, Below, Any}
use Rattle.dist_classes.proofs.ExampleLemmas.{IsDense, has-example}
use Rattle.dist_classes.proofs.class_example.class_has_example.Goals as goal

pub returns-in-Point : goal.returns-in-Point
returns-in-Point c =
    let dense : IsDense = record {
      above = c.versions_are_dense.ensures.above;
      between = c.versions_are_dense.ensures.between;
      below = c.versions_are_dense.ensures.below;
    } in
    subst HasExample (sym c.in-Point.is) (has-example dense (Point c.in-Point.version) c.keeps_invariant.ensures tt)

pub returns-in-Between : goal.returns-in-Between
returns-in-Between c =
    let dense : IsDense = record {
      above = c.versions_are_dense.ensures.above;
      between = c.versions_are_dense.ensures.between;
      below = c.versions_are_dense.ensures.below;
    } in
    subst HasExample (sym c.in-Between.is) (has-example dense (Between c.in-Between.low c.in-Between.field-1) c.keeps_invariant-in-Between.ensures
    (subst HasVersions c.in-Between.is c.requires))

pub returns-in-Above : goal.returns-in-Above
returns-in-Above c =
    let dense : IsDense = record {
      above = c.versions_are_dense.ensures.above;
      between = c.versions_are_dense.ensures.between;
      below = c.versions_are_dense.ensures.below;
    } in
    subst HasExample (sym c.in-Above.is) (has-example dense (Above c.in-Above.low) c.keeps_invariant-in-Above.ensures tt)

pub returns-in-Below : goal.returns-in-Below
returns-in-Below c =
    let dense : IsDense = record {
      above = c.versions_are_dense.ensures.above;
      between = c.versions_are_dense.ensures.between;
      below = c.versions_are_dense.ensures.below;
    } in
    subst HasExample (sym c.in-Below.is) (has-example dense (Below c.in-Below.field-0) tt tt)

pub returns-in-Any : goal.returns-in-Any
returns-in-Any c =
    let dense : IsDense = record {
      above = c.versions_are_dense.ensures.above;
      between = c.versions_are_dense.ensures.between;
      below = c.versions_are_dense.ensures.below;
    } in
    subst HasExample (sym c.in-Any.is) (has-example dense Any tt tt)
