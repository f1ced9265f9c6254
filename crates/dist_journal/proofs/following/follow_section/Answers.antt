use Rattle.dist_journal.specs.FollowPrivate.{entry_of}
use Rattle.dist_journal.proofs.TakeLemmas.{entry-answer}
use Rattle.dist_journal.proofs.following.follow_section.Goals as goal

pub returns-clause-answers : goal.returns-clause-answers
returns-clause-answers c =
    entry-answer c.args.archive.now.space c.args.stanzas (entry_of c.args.section.now) c.in_ok-step.step c.in_ok-step.ensures.answers
    c.args.archive.now.packages c.take.new.archive.packages c.take.result c.take.ensures.answers
