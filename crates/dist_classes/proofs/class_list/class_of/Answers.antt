use Rattle.std.proofs.Common.{◌<◌, ◌≤◌, List, length, sym, subst, ◌∙◌, arith}
use Rattle.std.proofs.lemmas.Bool.{false≢true}
use Rattle.dist_classes.specs.Answers.{IsClassList}
use Rattle.dist_classes.specs.ClassList.{IsOfClassAt}
use Rattle.dist_classes.specs.declared.class_value.Class.{Class}
use Rattle.dist_classes.proofs.ClassOfLemmas.{HasNoneBelow, found-one, found-above, missing-one, missing-above, missing-all, none-more, holds-at}
use Rattle.dist_classes.proofs.class_list.class_of.Goals as goal

pub loop-number-preserved : goal.loop-number-preserved
loop-number-preserved c =
    let classes = c.classes.inside.classes.items in
    let v = c.args.version.now in
    let short : c.loop-number.number < length classes = omega (arith, c.classes.inside.classes.ok.0) in
    let at = holds-at classes v c.loop-number.number c.index.result.now short c.index.ensures in
    none-more classes v c.loop-number.number (λ here. false≢true (sym c.if-has.false ∙ c.has.ensures.1 (at.0 here))) c.loop-number.invariant

pub returns-then-has-clause-one : goal.returns-then-has-clause-one
returns-then-has-clause-one c =
    let classes = c.classes.inside.classes.items in
    let v = c.args.version.now in
    let n = c.loop-number.number in
    let short : n < length classes = omega (arith, c.classes.inside.classes.ok.0) in
    let At : List Class → Type 0 = λ list. IsOfClassAt list n v in
    let Listed : List Class → Type 0 = IsClassList in
    let here = (holds-at classes v n c.index.result.now short c.index.ensures).1 (c.has.ensures.0 c.if-has.true) in
    found-one c.args.classes.now (subst Listed c.classes.view_is c.classes.invariant) v n (subst At c.classes.view_is here)

pub returns-then-has-clause-above : goal.returns-then-has-clause-above
returns-then-has-clause-above c =
    let classes = c.classes.inside.classes.items in
    let v = c.args.version.now in
    let n = c.loop-number.number in
    let short : n < length classes = omega (arith, c.classes.inside.classes.ok.0) in
    let At : List Class → Type 0 = λ list. IsOfClassAt list n v in
    let here = (holds-at classes v n c.index.result.now short c.index.ensures).1 (c.has.ensures.0 c.if-has.true) in
    found-above c.args.classes.now v n (subst At c.classes.view_is here)

pub returns-clause-one : goal.returns-clause-one
returns-clause-one c =
    let classes = c.classes.inside.classes.items in
    let v = c.args.version.now in
    let n = c.loop-number.number in
    let Past : List Class → Type 0 = λ list. length list ≤ n in
    let None_below : List Class → Type 0 = λ list. HasNoneBelow list v n in
    let past : length classes ≤ n = omega (arith, c.classes.inside.classes.ok.0) in
    missing-one c.args.classes.now v n (subst Past c.classes.view_is past) (subst None_below c.classes.view_is c.loop-number.invariant)

pub returns-clause-above : goal.returns-clause-above
returns-clause-above c =
    let classes = c.classes.inside.classes.items in
    let v = c.args.version.now in
    let n = c.loop-number.number in
    let Past : List Class → Type 0 = λ list. length list ≤ n in
    let None_below : List Class → Type 0 = λ list. HasNoneBelow list v n in
    let past : length classes ≤ n = omega (arith, c.classes.inside.classes.ok.0) in
    missing-above c.args.classes.now v n (subst Past c.classes.view_is past) (subst None_below c.classes.view_is c.loop-number.invariant)

pub returns-clause-all : goal.returns-clause-all
returns-clause-all c = λ cuts rising are.
    let classes = c.classes.inside.classes.items in
    let v = c.args.version.now in
    let n = c.loop-number.number in
    let Past : List Class → Type 0 = λ list. length list ≤ n in
    let None_below : List Class → Type 0 = λ list. HasNoneBelow list v n in
    let past : length classes ≤ n = omega (arith, c.classes.inside.classes.ok.0) in
    absurd (missing-all c.args.classes.now v n (subst Past c.classes.view_is past) (subst None_below c.classes.view_is c.loop-number.invariant) cuts rising are)
