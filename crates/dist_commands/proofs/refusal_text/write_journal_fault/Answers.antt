use Rattle.std.proofs.Common.{ℕ, List, ◌∙◌, subst}
use Rattle.dist_commands.specs.Writes.{Writes}
use Rattle.dist_commands.proofs.KindText.{journal_line}
use Rattle.dist_commands.proofs.refusal_text.write_journal_fault.Goals as goal

pub returns : goal.returns
returns g c =
    subst (λ (t : List ℕ). Writes t c.write_pieces.result (g.E.Sink.view c.args.err.now) (g.E.Sink.view c.write_pieces.new.err))
    (journal_line c.args.line _ _ _ (c.as_bytes-place.ensures.value ∙ c.format.ensures.text) c.journal_fault_text.ensures) c.write_pieces.ensures
