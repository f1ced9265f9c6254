use Rattle.std.proofs.Common.{inl, inr}
use Rattle.dist_journal.specs.FollowPrivate.{entry_of}
use Rattle.dist_journal.proofs.ReadLemmas.{block-fault, named-taken}
use Rattle.dist_journal.proofs.reading.read_upload_of.Goals as goal

pub returns-in-Ok-clause-answers : goal.returns-in-Ok-clause-answers
returns-in-Ok-clause-answers c = λ s name packages says named. ((name, says, named), c.in-Ok.ensures)

pub returns-in-Err-clause-answers : goal.returns-in-Err-clause-answers
returns-in-Err-clause-answers c = λ s name packages says named. elim c.in-Err.ensures [
  | inl none ↦ inl none
  | inr is ↦ inr (block-fault s c.args.stanzas packages (entry_of c.args.section.now) c.in-Err.error
      (inl (name, c.args.version, says, named-taken s name c.args.cluster named)) is)
]
