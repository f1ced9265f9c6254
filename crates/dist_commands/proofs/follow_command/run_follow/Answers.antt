use Rattle.dist_commands.specs.PackagesStage.{PackagesStage}
use Rattle.dist_commands.proofs.Chains.{chain-answers, chain-due, chain-unread}
use Rattle.dist_commands.proofs.Due.{ok_more, err_more}
use Rattle.dist_commands.proofs.FollowStages.{AfterPackages}
use Rattle.dist_commands.proofs.follow_command.run_follow.Goals as goal

pub returns-in-Ok-clause-answers : goal.returns-in-Ok-clause-answers
returns-in-Ok-clause-answers g c =
    ok_more c.follow_repository.result _ _ (λ answer. chain-answers (λ files. PackagesStage files c.args.limits.now c.args.files.now.packages.now)
    (AfterPackages c.args.limits.now c.args.files.now.cert.now c.args.files.now.journal.now)
    (g.D.Desk.view c.args.desk.now) (g.D.Desk.view c.read_repository.new.desk) c.in-Ok.ensures.only_reads c.in-Ok.repository c.in-Ok.ensures.goes
    answer.status answer.text.items) c.follow_repository.ensures.answers

pub returns-in-Ok-clause-due : goal.returns-in-Ok-clause-due
returns-in-Ok-clause-due g c =
    err_more c.follow_repository.result _ _ (λ refusal. chain-due (λ files. PackagesStage files c.args.limits.now c.args.files.now.packages.now)
    (AfterPackages c.args.limits.now c.args.files.now.cert.now c.args.files.now.journal.now)
    (g.D.Desk.view c.args.desk.now) (g.D.Desk.view c.read_repository.new.desk) c.in-Ok.ensures.only_reads c.in-Ok.repository c.in-Ok.ensures.goes
    (g.D.Desk.view c.follow_repository.new.desk) refusal c.follow_repository.ensures.only_reads) c.follow_repository.ensures.due

pub returns-in-Err-clause-due : goal.returns-in-Err-clause-due
returns-in-Err-clause-due g c =
    chain-unread (λ files. PackagesStage files c.args.limits.now c.args.files.now.packages.now)
    (AfterPackages c.args.limits.now c.args.files.now.cert.now c.args.files.now.journal.now)
    (g.D.Desk.view c.args.desk.now) (g.D.Desk.view c.read_repository.new.desk) c.in-Err.refusal c.in-Err.ensures.due
