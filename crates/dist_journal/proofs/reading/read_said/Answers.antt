use Rattle.std.proofs.Common.{subst}
use Rattle.dist_journal.specs.Journal.{Says, words}
use Rattle.dist_journal.proofs.reading.read_said.Goals as goal

pub read_upload-requires : goal.read_upload-requires
read_upload-requires c = subst (Says (words c.args.section.now.line.now)) c.in-Upload.is c.requires.says

pub read_new_name-requires : goal.read_new_name-requires
read_new_name-requires c = subst (Says (words c.args.section.now.line.now)) c.in-NewName.is c.requires.says

pub returns-in-Removal-clause-answers : goal.returns-in-Removal-clause-answers
returns-in-Removal-clause-answers c =
    c.read_removal.ensures.answers c.args.archive.now.space c.args.stanzas c.args.archive.now.packages

pub returns-in-Removal-clause-in_range : goal.returns-in-Removal-clause-in_range
returns-in-Removal-clause-in_range c = c.read_removal.ensures.in_range c.args.archive.now.space

pub returns-in-NewName-clause-answers : goal.returns-in-NewName-clause-answers
returns-in-NewName-clause-answers c = c.read_new_name.ensures.answers c.args.archive.now.space c.args.archive.now.packages

pub returns-in-NewName-clause-in_range : goal.returns-in-NewName-clause-in_range
returns-in-NewName-clause-in_range c = c.read_new_name.ensures.in_range c.args.archive.now.space
