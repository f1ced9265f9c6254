use Rattle.dist_repo.specs.PackageList.{PackageList}
use Rattle.dist_words.specs.CommandLine.{Sweep}
use Rattle.dist_commands.specs.PackagesStage.{PackagesStage}
use Rattle.dist_commands.specs.Stages.{Goes}
use Rattle.dist_commands.specs.Sweeps.{sweep_writing}
use Rattle.std.proofs.Common.{inr}
use Rattle.dist_commands.proofs.Due.{err_more}
use Rattle.dist_commands.proofs.Writings.{command_stops}
use Rattle.dist_commands.proofs.sweep_command.run_sweep.Goals as goal

pub returns-in-Ok-clause-stops : goal.returns-in-Ok-clause-stops
returns-in-Ok-clause-stops g c =
    let words = c.args.words.now in
    err_more c.sweep-answer.result _ _ (λ why. command_stops
    (Sweep words.kind words.packages.now words.cert.now words.essential words.limit) c.args.limits.now words.cert.now
    (g.D.Desk.view c.args.desk.now) (g.D.Desk.view c.read_repository.new.desk) (g.D.Desk.view c.sweep-answer.new.desk) c.in-Ok.ensures.only_reads
    (λ (r : PackageList). PackagesStage (g.D.Desk.view c.args.desk.now).files c.args.limits.now words.packages.now (Goes r))
    (sweep_writing c.args.limits.now words.kind words.essential words.limit) c.in-Ok.repository c.in-Ok.ensures.goes
    (λ ending rest. inr (c.in-Ok.repository, c.in-Ok.ensures.goes, rest)) (λ why ending given. given) why)
    c.sweep-answer.ensures.stops
