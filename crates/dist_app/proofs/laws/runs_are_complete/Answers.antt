use Rattle.dist_app.proofs.Completes.{run_completes}
use Rattle.dist_app.proofs.laws.runs_are_complete.Goals as goal

pub returns : goal.returns
returns c = run_completes c.laws_hold.ensures
