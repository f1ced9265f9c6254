use Rattle.dist_archive.specs.Refusals.{Refuses}
use Rattle.dist_archive.proofs.RefusalLemmas.{exact-answer}
use Rattle.dist_archive.proofs.archive.Archive.apply.Goals as goal

pub returns-clause-refused : goal.returns-clause-refused
returns-clause-refused c =
    exact-answer (Refuses c.args.self.now.space c.args.self.now.packages c.args.step) c.take-done.result c.take-done.ensures.accepted
    c.take-done.ensures.refused
