use Rattle.dist_commands.specs.Follow.{JournalStage, TellsFollowed}
use Rattle.dist_commands.specs.FollowPrivate.{pair_of}
use Rattle.dist_commands.specs.Stages.{Then}
use Rattle.dist_commands.specs.TextStage.{TextStage}
use Rattle.dist_commands.proofs.Chains.{chain-unread}
use Rattle.dist_commands.proofs.Due.{ok_more, err_more}
use Rattle.dist_commands.proofs.FollowStages.{few-enough, journal-answers, journal-due}
use Rattle.dist_commands.proofs.follow_command.follow_journal.Goals as goal

pub make_steps-answer-requires-clause-few : goal.make_steps-answer-requires-clause-few
make_steps-answer-requires-clause-few g c =
    few-enough c.args.space.repository c.args.limits.now c.in-Ok.text.items c.deref.result.now c.deref.ensures.value c.requires.within_size
    c.requires.within (g.D.Desk.view c.args.desk.now).files c.args.journal.now c.in-Ok.ensures.goes

pub returns-in-Ok-clause-answers : goal.returns-in-Ok-clause-answers
returns-in-Ok-clause-answers g c =
    ok_more c.make_steps-answer.result _ _ (λ answer told. journal-answers c.args.limits.now c.args.journal.now c.args.space c.args.accepted.now
    c.in-Ok.text.items c.deref.result.now c.deref.ensures.value (g.D.Desk.view c.args.desk.now).files answer.status answer.text.items c.in-Ok.ensures.goes told)
    c.make_steps-answer.ensures.answers

pub returns-in-Ok-clause-due : goal.returns-in-Ok-clause-due
returns-in-Ok-clause-due g c =
    err_more c.make_steps-answer.result _ _ (λ refusal given_up. journal-due c.args.limits.now c.args.journal.now c.args.space c.args.accepted.now
    c.in-Ok.text.items c.deref.result.now c.deref.ensures.value (g.D.Desk.view c.args.desk.now) (g.D.Desk.view c.text_of.new.desk) refusal
    c.in-Ok.ensures.goes given_up) c.make_steps-answer.ensures.given_up

pub returns-in-Err-clause-due : goal.returns-in-Err-clause-due
returns-in-Err-clause-due g c =
    chain-unread (λ files. TextStage files c.args.journal.now c.args.limits.now.bytes)
    (λ files text. Then (JournalStage files c.args.limits.now.stanzas c.args.space text)
    (λ _. TellsFollowed files c.args.limits.now.stanzas c.args.space (pair_of c.args.accepted.now) text))
    (g.D.Desk.view c.args.desk.now) (g.D.Desk.view c.text_of.new.desk) c.in-Err.refusal c.in-Err.ensures.due
