use Rattle.std.proofs.Common.{ℕ, List, inr, refl, subst}
use Rattle.dist_future.specs.Future.{IsTaken}
use Rattle.dist_archive.specs.Moved.{IsClusterNamed}
use Rattle.dist_journal.proofs.reading.read_upload.Goals as goal

pub returns-in-Some-clause-answers : goal.returns-in-Some-clause-answers
returns-in-Some-clause-answers c =
    let v = c.args.archive.now in
    c.read_upload_of.ensures.answers v.space c.args.name v.packages c.requires
    (subst (λ (n : List ℕ). IsClusterNamed v.space n c.in-Some.cluster) c.bytes.ensures.value c.in-Some.ensures.named)

pub returns-in-Some-clause-in_range : goal.returns-in-Some-clause-in_range
returns-in-Some-clause-in_range c = c.read_upload_of.ensures.in_range c.args.archive.now.space c.in-Some.ensures.within

pub returns-clause-answers : goal.returns-clause-answers
returns-clause-answers c =
    let s = c.args.archive.now.space in
    inr (refl, (c.args.name, c.args.version, c.requires, subst (λ (n : List ℕ). ¬ IsTaken s.repository n) c.bytes.ensures.value c.in-None.ensures.named))
