use Rattle.dist_commands.specs.Check.{CheckStages, Reports}
use Rattle.dist_commands.specs.CheckExplain.{CheckExplainStages, TellsExplained}
use Rattle.dist_commands.specs.CheckRepair.{CheckRepairStages, TellsRepair}
use Rattle.dist_commands.specs.Follow.{FollowStages, TellsFollowed}
use Rattle.dist_commands.specs.Health.{HealthStages, Judges}
use Rattle.dist_commands.specs.Steps.{StepsStages, TellsLater}
use Rattle.dist_commands.specs.Try.{Tries, TryStages}
use Rattle.dist_words.specs.CommandLine.{Check, CheckExplain, CheckRepair, Follow, Health, Steps, Try}
use Rattle.dist_outside.specs.DeskView.{DeskView}
use Rattle.dist_commands.proofs.Due.{apart_stops, ok_more, err_more, read_answers, due_stops}
use Rattle.dist_commands.proofs.command.run_command.Goals as goal

pub returns-in-Health-clause-answers : goal.returns-in-Health-clause-answers
returns-in-Health-clause-answers g c =
    rw c.in-Health.is (ok_more c.run_health.result _ _ (λ answer. read_answers (Health c.in-Health.files.packages.now c.in-Health.files.list.now)
    c.args.limits.now (g.D.Desk.view c.args.desk.now)
    _ answer.status answer.text.items c.run_health.ensures.only_reads) c.run_health.ensures.answers)

pub returns-in-Health-clause-stops : goal.returns-in-Health-clause-stops
returns-in-Health-clause-stops g c =
    rw c.in-Health.is (err_more c.run_health.result _ _ (λ why. due_stops (Health c.in-Health.files.packages.now c.in-Health.files.list.now) c.args.limits.now
    (HealthStages (g.D.Desk.view c.args.desk.now).files c.args.limits.now c.in-Health.files.packages.now c.in-Health.files.list.now
    (Judges (g.D.Desk.view c.args.desk.now).files))
    (g.D.Desk.view c.args.desk.now) (g.D.Desk.view c.run_health.new.desk) why (λ ending decides. decides) (λ apart. apart) c.run_health.ensures.only_reads)
    c.run_health.ensures.due)

pub returns-in-Check-clause-stops : goal.returns-in-Check-clause-stops
returns-in-Check-clause-stops g c =
    let desk : DeskView = g.D.Desk.view c.args.desk.now in
    rw c.in-Check.is (err_more c.run_check.result _ _ (λ why. due_stops (Check c.in-Check.files.packages.now c.in-Check.files.cert.now) c.args.limits.now
    (CheckStages desk.files c.args.limits.now c.in-Check.files.packages.now c.in-Check.files.cert.now (Reports desk.files))
    desk (g.D.Desk.view c.run_check.new.desk) why (λ ending decides. decides) (λ apart. apart) c.run_check.ensures.only_reads) c.run_check.ensures.due)

pub returns-in-CheckExplain-clause-stops : goal.returns-in-CheckExplain-clause-stops
returns-in-CheckExplain-clause-stops g c =
    let desk : DeskView = g.D.Desk.view c.args.desk.now in
    let files = c.in-CheckExplain.files in
    rw c.in-CheckExplain.is (err_more c.run_check_explain.result _ _ (λ why. due_stops (CheckExplain files.packages.now files.cert.now) c.args.limits.now
    (CheckExplainStages desk.files c.args.limits.now files.packages.now files.cert.now (TellsExplained desk.files))
    desk (g.D.Desk.view c.run_check_explain.new.desk) why (λ ending decides. decides) (λ apart. apart) c.run_check_explain.ensures.only_reads)
    c.run_check_explain.ensures.due)

pub returns-in-CheckRepair-clause-answers : goal.returns-in-CheckRepair-clause-answers
returns-in-CheckRepair-clause-answers g c =
    rw c.in-CheckRepair.is (ok_more c.run_check_repair.result _ _ (λ answer. read_answers
    (CheckRepair c.in-CheckRepair.files.packages.now c.in-CheckRepair.files.cert.now) c.args.limits.now (g.D.Desk.view c.args.desk.now)
    _ answer.status answer.text.items c.run_check_repair.ensures.only_reads) c.run_check_repair.ensures.answers)

pub returns-in-CheckRepair-clause-stops : goal.returns-in-CheckRepair-clause-stops
returns-in-CheckRepair-clause-stops g c =
    let desk : DeskView = g.D.Desk.view c.args.desk.now in
    let files = c.in-CheckRepair.files in
    rw c.in-CheckRepair.is (err_more c.run_check_repair.result _ _ (λ why. due_stops (CheckRepair files.packages.now files.cert.now) c.args.limits.now
    (CheckRepairStages desk.files c.args.limits.now files.packages.now files.cert.now (TellsRepair desk.files))
    desk (g.D.Desk.view c.run_check_repair.new.desk) why (λ ending decides. decides) (λ apart. apart) c.run_check_repair.ensures.only_reads)
    c.run_check_repair.ensures.due)

pub returns-in-Try-clause-answers : goal.returns-in-Try-clause-answers
returns-in-Try-clause-answers g c =
    rw c.in-Try.is (ok_more c.run_try.result _ _ (λ answer decides. decides (g.D.Desk.view c.args.desk.now).files) c.run_try.ensures.answers)

pub returns-in-Try-clause-stops : goal.returns-in-Try-clause-stops
returns-in-Try-clause-stops g c =
    let desk : DeskView = g.D.Desk.view c.args.desk.now in
    rw c.in-Try.is (err_more c.run_try.result _ _ (λ why given. apart_stops (Try c.in-Try.words.size c.in-Try.words.seed) c.args.limits.now
    (TryStages desk.files c.args.limits.now c.in-Try.words.size c.in-Try.words.seed (Tries desk.files c.args.limits.now c.in-Try.words.size)) desk why
    (λ ending decides. decides)
    (given desk.files)) c.run_try.ensures.stops)

pub returns-in-Steps-clause-answers : goal.returns-in-Steps-clause-answers
returns-in-Steps-clause-answers g c =
    rw c.in-Steps.is (ok_more c.run_steps.result _ _ (λ answer. read_answers (Steps c.in-Steps.files.packages.now c.in-Steps.files.later.now)
    c.args.limits.now (g.D.Desk.view c.args.desk.now)
    _ answer.status answer.text.items c.run_steps.ensures.only_reads) c.run_steps.ensures.answers)

pub returns-in-Steps-clause-stops : goal.returns-in-Steps-clause-stops
returns-in-Steps-clause-stops g c =
    let desk : DeskView = g.D.Desk.view c.args.desk.now in
    rw c.in-Steps.is (err_more c.run_steps.result _ _ (λ why. due_stops (Steps c.in-Steps.files.packages.now c.in-Steps.files.later.now) c.args.limits.now
    (StepsStages desk.files c.args.limits.now c.in-Steps.files.packages.now c.in-Steps.files.later.now (TellsLater desk.files))
    desk (g.D.Desk.view c.run_steps.new.desk) why (λ ending decides. decides) (λ apart. apart) c.run_steps.ensures.only_reads) c.run_steps.ensures.due)

pub returns-in-Follow-clause-answers : goal.returns-in-Follow-clause-answers
returns-in-Follow-clause-answers g c =
    rw c.in-Follow.is (ok_more c.run_follow.result _ _ (λ answer. read_answers
    (Follow c.in-Follow.files.packages.now c.in-Follow.files.cert.now c.in-Follow.files.journal.now) c.args.limits.now (g.D.Desk.view c.args.desk.now)
    _ answer.status answer.text.items c.run_follow.ensures.only_reads) c.run_follow.ensures.answers)

pub returns-in-Follow-clause-stops : goal.returns-in-Follow-clause-stops
returns-in-Follow-clause-stops g c =
    let desk : DeskView = g.D.Desk.view c.args.desk.now in
    rw c.in-Follow.is (err_more c.run_follow.result _ _ (λ why. due_stops
    (Follow c.in-Follow.files.packages.now c.in-Follow.files.cert.now c.in-Follow.files.journal.now) c.args.limits.now
    (FollowStages desk.files c.args.limits.now c.in-Follow.files.packages.now c.in-Follow.files.cert.now c.in-Follow.files.journal.now
    (TellsFollowed desk.files c.args.limits.now.stanzas))
    desk (g.D.Desk.view c.run_follow.new.desk) why (λ ending decides. decides) (λ apart. apart) c.run_follow.ensures.only_reads) c.run_follow.ensures.due)
