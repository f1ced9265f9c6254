use Rattle.std.proofs.Common.{[], ◌∷◌, ◌++◌, arith}
use Rattle.std.proofs.lemmas.List.{length_push}
use Rattle.dist_control.proofs.FieldLemmas.{field-first, field-more}
use Rattle.dist_control.proofs.field.split_field.Goals as goal

pub loop-after-init : goal.loop-after-init
loop-after-init c = (
  ([], field-first _ _ _ c.split_line.ensures.lines c.split_line.ensures.cut, omega arith),
  omega (arith, c.split_line.ensures.shorter),
  c.split_line.ensures.shorter,
)

pub loop-after-preserved : goal.loop-after-preserved
loop-after-preserved c =
    let so_far = c.loop-after.invariant.0 in
    let next = c.in-Some.ensures.continued in (
      (so_far.0 ++ next.line ∷ [], field-more _ _ _ _ _ so_far.1 next, omega (arith, so_far.2, length_push so_far.0 next.line)),
      omega (arith, next.shorter, c.loop-after.invariant.1),
      omega (arith, next.shorter, c.loop-after.invariant.2),
    )
