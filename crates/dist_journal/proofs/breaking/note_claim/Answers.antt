use Rattle.std.proofs.Common.{subst, sym}
use Rattle.std.specs.Prelude.{OnOk}
use Rattle.dist_cert.specs.declared.records.Claim.{Claim}
use Rattle.dist_journal.specs.BreakingPrivate.{IsNoted}
use Rattle.dist_journal.specs.PairsPrivate.{Adds}
use Rattle.dist_journal.proofs.breaking.note_claim.Goals as goal

pub returns-in-Challenged : goal.returns-in-Challenged
returns-in-Challenged c =
    subst (λ (claim : Claim). OnOk c.note_listed.result (Adds c.args.found.now.keys c.note_listed.new.found.keys
    (IsNoted c.args.archive.now c.args.moved.now c.args.number claim))) (sym c.in-Challenged.is) (c.note_listed.ensures c.in-Challenged.field-1)
