use Rattle.dist_cert.proofs.OneLine.{clear}
use Rattle.dist_cert.proofs.clear_forms.forms_are_clear.Goals as goal

pub returns : goal.returns
returns c = clear
