use Rattle.std.proofs.Common.{sym, ◌∙◌}
use Rattle.std.proofs.lemmas.Bool.{false≢true}
use Rattle.dist_now.proofs.HealthyLemmas.{healthy-from}
use Rattle.dist_now.proofs.judging.health.Goals as goal

pub returns-in_default-missing : goal.returns-in_default-missing
returns-in_default-missing c =
    healthy-from c.args.repo.now c.args.members.now c.args.essential c.in_default.ensures c.in_default-unmet.ensures c.in_default-conflict.ensures
    (λ _. c.in_default-missing.ensures)

pub returns-else-essential : goal.returns-else-essential
returns-else-essential c =
    healthy-from c.args.repo.now c.args.members.now c.args.essential c.in_default.ensures c.in_default-unmet.ensures c.in_default-conflict.ensures
    (λ is. absurd (false≢true (sym c.if-essential.false ∙ is)))
