use Rattle.std.proofs.Common.{List, arith, subst}
use Rattle.std.specs.Prelude.{All}
use Rattle.dist_classes.specs.ClassList.{HasExample}
use Rattle.dist_classes.specs.declared.class_value.Class.{Class}
use Rattle.dist_report.proofs.ToldLemmas.{all-more, take-past}
use Rattle.dist_report.proofs.class_table.have_examples.Goals as goal

pub loop-place-preserved : goal.loop-place-preserved
loop-place-preserved c = all-more HasExample c.args.classes.now c.loop-place.place c.get.result.now c.get.ensures.value c.loop-place.invariant
    c.class_has_example.ensures

pub returns : goal.returns
returns c =
    let Every : List Class → Type 0 = All HasExample in
    subst Every (take-past c.args.classes.now c.loop-place.place (omega arith)) c.loop-place.invariant
