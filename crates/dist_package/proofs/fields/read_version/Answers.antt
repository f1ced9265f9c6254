use Rattle.dist_package.proofs.FieldLemmas.{field-of}
use Rattle.dist_package.proofs.fields.read_version.Goals as goal

pub returns-in-Ok : goal.returns-in-Ok
returns-in-Ok c = record {
  value = c.in-Some.field.value.now;
  line = c.in-Some.field.line;
  field = field-of _ _ c.in-Some.field c.in-Some.ensures;
  reads = c.in-Ok.ensures;
}
