use Rattle.dist_commands.proofs.FollowLemmas.{gives-up, tells}
use Rattle.dist_commands.proofs.followed.make_steps.Goals as goal

pub returns-in-Ok-told-clause-answers : goal.returns-in-Ok-told-clause-answers
returns-in-Ok-told-clause-answers c =
    tells c.clusters_are_whole.ensures c.missing_packages_mend_nothing.ensures.steps c.args.space c.keeps_invariant.ensures.space c.args.accepted.now
    c.requires.backed c.args.stanzas c.args.journal.now c.in-Ok-follow.count c.in-Ok.archive c.follow.new.archive c.in-Ok.ensures
    c.in-Ok-follow.ensures.space c.keeps_invariant-in-Ok-follow.ensures c.in-Ok-follow.ensures.ok c.in-Ok-told.answer.status
    c.in-Ok-told.answer.text.items c.in-Ok-told.ensures.status c.in-Ok-told.ensures.text

pub returns-in-Err-clause-given_up : goal.returns-in-Err-clause-given_up
returns-in-Err-clause-given_up c =
    gives-up c.args.space c.args.stanzas c.args.journal.now c.in-Ok.archive c.follow.new.archive c.in-Ok.ensures c.in-Err.error
    c.refusal_of_journal.result c.in-Err.ensures.err c.refusal_of_journal.ensures
