use Rattle.dist_cert.proofs.OneForm.{one_record, one_header}
use Rattle.dist_cert.proofs.laws.one_form.Goals as goal

pub returns-clause-records : goal.returns-clause-records
returns-clause-records c line step other is also = one_record line step other is also

pub returns-clause-headers : goal.returns-clause-headers
returns-clause-headers c line h other is also = one_header line h other is also
