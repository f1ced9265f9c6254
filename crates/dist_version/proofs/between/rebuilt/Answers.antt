use Rattle.std.proofs.Common.{sym}
use Rattle.dist_version.proofs.Density.{rebuilt-base, rebuilt-fault, rebuilt-other, rebuilt-none}
use Rattle.dist_version.proofs.between.rebuilt.Goals.{in_default-via-in-Some+else-is_rebuild, in_default-via-in_default}
use Rattle.dist_version.proofs.between.rebuilt.Goals as goal

pub returns-in-Ok : goal.returns-in-Ok
returns-in-Ok c = (
  rebuilt-base c.args.text.now c.in-Some.base.now c.in-Some.suffix.now (sym c.in-Some.ensures) (sym c.if-is_rebuild.ensures)
      c.in-Ok.ensures.sound,
  c.in-Ok.ensures,
)

pub returns-in-Err : goal.returns-in-Err
returns-in-Err c = rebuilt-fault c.args.text.now c.in-Some.base.now c.in-Some.suffix.now c.in-Err.field-0 (sym c.in-Some.ensures) c.in-Err.ensures

pub returns-in_default : goal.returns-in_default
returns-in_default c = elim c.in_default.branch [
  | in_default-via-in-Some+else-is_rebuild w ↦ rebuilt-other c.args.text.now w.in-Some.base.now w.in-Some.suffix.now (sym w.in-Some.ensures)
      (sym w.if-is_rebuild.ensures)
  | in_default-via-in_default w ↦ rebuilt-none c.args.text.now (sym w.in_default.ensures)
]
