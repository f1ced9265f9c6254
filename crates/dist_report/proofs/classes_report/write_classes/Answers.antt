use Rattle.std.proofs.Common.{◌++◌, List, append_assoc, codes, length, arith, subst, ◌∙◌}
use Rattle.std.specs.Prelude.{◌==◌, All}
use Rattle.std.specs.List.{flat_map}
use Rattle.dist_classes.specs.ClassList.{HasExample}
use Rattle.dist_classes.specs.declared.class_value.Class.{Class}
use Rattle.dist_report.specs.ClassesReport.{class_lines}
use Rattle.dist_report.specs.Lines.{key_line}
use Rattle.dist_report.proofs.LineLemmas.{lines-all, lines-more}
use Rattle.dist_report.proofs.ToldLemmas.{all-more, take-past}
use Rattle.dist_report.proofs.classes_report.write_classes.Goals as goal

pub loop-place-preserved : goal.loop-place-preserved
loop-place-preserved c =
    let classes = c.args.classes.now in
    let before = c.args.out.now.items ++ key_line (codes "    classes:") (length classes == 0) in
    record {
      text = lines-more class_lines classes c.loop-place.place c.get-class.result.now before c.loop-place.out.items c.write_class.new.out.items
          c.get-class.ensures.value
          c.loop-place.invariant.text c.in_ok-write_class.ensures.text;
      there = all-more HasExample classes c.loop-place.place c.get-class.result.now c.get-class.ensures.value c.loop-place.invariant.there
          c.in_ok-write_class.ensures.there;
    }

pub returns-clause-there : goal.returns-clause-there
returns-clause-there c =
    let Every : List Class → Type 0 = All HasExample in
    subst Every (take-past c.args.classes.now c.loop-place.place (omega arith)) c.loop-place.invariant.there

pub returns-clause-text : goal.returns-clause-text
returns-clause-text c =
    let classes = c.args.classes.now in
    let key = key_line (codes "    classes:") (length classes == 0) in
    lines-all class_lines classes c.loop-place.place (c.args.out.now.items ++ key) c.loop-place.out.items (omega arith) c.loop-place.invariant.text
    ∙ append_assoc c.args.out.now.items key (flat_map class_lines classes)
