use Rattle.dist_commands.specs.OneSpaceLaws.{one-space}
use Rattle.dist_commands.proofs.Due.{ok_more}
use Rattle.std.proofs.Common.{inr}
use Rattle.dist_commands.proofs.FollowStages.{after-due, backed, unmade}
use Rattle.dist_commands.proofs.follow_command.follow_accepted.Goals as goal

pub follow_journal-requires-clause-backed : goal.follow_journal-requires-clause-backed
follow_journal-requires-clause-backed g c =
    backed (one-space c.latest_is_one.ensures.one c.spaces_are_one.ensures) c.args.repository c.args.accepted.now c.in-Ok.space
    (c.in-Ok.ensures.goes (g.D.Desk.view c.args.desk.now).files).0 c.requires.means

pub returns-in-Ok-clause-answers : goal.returns-in-Ok-clause-answers
returns-in-Ok-clause-answers g c =
    let files = (g.D.Desk.view c.args.desk.now).files in
    ok_more c.follow_journal.result _ _ (λ answer decides. inr (c.in-Ok.space, c.in-Ok.ensures.goes files, decides)) c.follow_journal.ensures.answers

pub returns-in-Ok-clause-due : goal.returns-in-Ok-clause-due
returns-in-Ok-clause-due g c =
    after-due (g.D.Desk.view c.args.desk.now) (g.D.Desk.view c.follow_journal.new.desk) c.args.limits.now c.args.journal.now c.args.repository
    c.args.accepted.now c.in-Ok.space (c.in-Ok.ensures.goes (g.D.Desk.view c.args.desk.now).files) c.follow_journal.result c.follow_journal.ensures.due

pub returns-in-Err-clause-due : goal.returns-in-Err-clause-due
returns-in-Err-clause-due g c =
    unmade (g.D.Desk.view c.args.desk.now) (g.D.Desk.view c.args.desk.now) c.args.limits.now c.args.journal.now c.args.repository c.args.accepted.now
    c.in-Err.refusal (c.in-Err.ensures.given_up (g.D.Desk.view c.args.desk.now).files)
