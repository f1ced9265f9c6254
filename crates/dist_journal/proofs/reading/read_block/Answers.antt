use Rattle.std.proofs.Common.{inl, inr, refl}
use Rattle.dist_control.specs.Lines.{lines}
use Rattle.dist_journal.proofs.reading.read_block.Goals as goal

pub returns-in-Ok : goal.returns-in-Ok
returns-in-Ok c = (c.args.block.now, refl, c.in-Ok.ensures.answers)

pub returns-in-Err : goal.returns-in-Err
returns-in-Err c = elim c.in-Err.ensures.answers [
  | inl none ↦ inl (c.block_error.ensures.no_memory none)
  | inr refused ↦ c.block_error.ensures.refused c.args.stanzas (lines c.args.block.now) (c.args.block.now, refl, refused)
]
