use Rattle.std.proofs.Common.{sym, subst}
use Rattle.dist_relation.specs.Bytes.{IsName}
use Rattle.dist_package.proofs.FieldLemmas.{field-is}
use Rattle.dist_package.proofs.fields.read_name.Goals as goal

pub returns-in-Ok : goal.returns-in-Ok
returns-in-Ok c = record {
  line = c.in-Some.field.line;
  field = field-is _ _ _ c.in-Some.field c.in-Some.ensures c.in-Ok.ensures.0;
  is_name = subst IsName (sym c.in-Ok.ensures.0) c.in-Ok.ensures.1;
}
