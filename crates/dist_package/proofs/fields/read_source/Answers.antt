use Rattle.std.proofs.Common.{inr}
use Rattle.dist_package.proofs.FieldLemmas.{field-of}
use Rattle.dist_package.proofs.fields.read_source.Goals as goal

pub returns-in-Ok-written_or_own : goal.returns-in-Ok-written_or_own
returns-in-Ok-written_or_own c =
    inr (
      c.in-Some.field.value.now,
      c.in-Some.field.line,
      field-of _ _ c.in-Some.field c.in-Some.ensures,
      record { written = c.in-Ok.written; spells = c.in-Ok.ensures; version_is = c.in-Ok-written_or_own.ensures },
    )
