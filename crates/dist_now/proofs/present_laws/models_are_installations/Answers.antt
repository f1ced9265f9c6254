use Rattle.dist_now.proofs.ModelLemmas.{models-installations}
use Rattle.dist_now.proofs.present_laws.models_are_installations.Goals as goal

pub returns : goal.returns
returns c = models-installations
