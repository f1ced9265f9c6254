use Rattle.std.proofs.Common.{ℕ, List, ◌++◌, ◌∙◌, Err, subst}
use Rattle.dist_commands.specs.FaultText.{kind_name, carried_text}
use Rattle.dist_commands.specs.Writes.{Writes}
use Rattle.dist_commands.proofs.KindText.{fault_line}
use Rattle.dist_commands.proofs.Writing.{writes_then, writes_cut}
use Rattle.dist_commands.proofs.refusal_text.write_fault.Goals as goal

pub returns-in-Ok : goal.returns-in-Ok
returns-in-Ok g c =
    subst (λ (t : List ℕ). Writes t c.write_kind.result (g.E.Sink.view c.args.err.now) (g.E.Sink.view c.write_kind.new.err))
    (fault_line c.args.fault.line _ _ (c.as_bytes-line.ensures.value ∙ c.format.ensures.text))
    (writes_then _ _ c.write_kind.result (g.E.Sink.view c.args.err.now) (g.E.Sink.view c.write_pieces.new.err) (g.E.Sink.view c.write_kind.new.err)
    c.sink_grows.ensures.twice c.sink_grows.ensures.cut c.in-Ok.ensures c.write_kind.ensures)

pub returns-in-Err : goal.returns-in-Err
returns-in-Err g c =
    subst (λ (t : List ℕ). Writes t (Err c.in-Err.error) (g.E.Sink.view c.args.err.now) (g.E.Sink.view c.write_pieces.new.err))
    (fault_line c.args.fault.line _ _ (c.as_bytes-line.ensures.value ∙ c.format.ensures.text))
    (writes_cut _ (kind_name c.args.fault.kind ++ carried_text c.args.fault.kind) c.in-Err.error (g.E.Sink.view c.args.err.now)
    (g.E.Sink.view c.write_pieces.new.err)
    c.sink_grows.ensures.longer c.in-Err.ensures)
