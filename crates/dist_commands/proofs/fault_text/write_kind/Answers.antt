use Rattle.std.proofs.Common.{ℕ, List, ◌∙◌, ap, decimal, subst}
use Rattle.dist_commands.specs.Writes.{Writes}
use Rattle.dist_commands.proofs.KindText.{two_pieces, clash_carried, relation_carried, nothing_carried}
use Rattle.dist_commands.proofs.fault_text.write_kind.Goals as goal

pub returns-in-Relation : goal.returns-in-Relation
returns-in-Relation g c =
    subst (λ (t : List ℕ). Writes t c.write_pieces.result (g.E.Sink.view c.args.err.now) (g.E.Sink.view c.write_pieces.new.err))
    (two_pieces _ _ _ _ _ c.kind_name.ensures (relation_carried c.args.kind c.in-Relation.field c.in-Relation.error _ _ c.in-Relation.is c.field_text.ensures
    (c.as_bytes-place.ensures.value ∙ (c.format.ensures.text ∙ ap decimal c.place_of.ensures))))
    c.write_pieces.ensures

pub returns-in-Clash : goal.returns-in-Clash
returns-in-Clash g c =
    subst (λ (t : List ℕ). Writes t c.write_pieces-in-Clash.result (g.E.Sink.view c.args.err.now) (g.E.Sink.view c.write_pieces-in-Clash.new.err))
    (two_pieces _ _ _ _ _ c.kind_name.ensures (clash_carried c.args.kind c.in-Clash.line _ c.in-Clash.is
    (c.as_bytes-line.ensures.value ∙ c.format-in-Clash.ensures.text)))
    c.write_pieces-in-Clash.ensures

pub returns-in_default : goal.returns-in_default
returns-in_default g c =
    subst (λ (t : List ℕ). Writes t c.write_pieces-in_default.result (g.E.Sink.view c.args.err.now) (g.E.Sink.view c.write_pieces-in_default.new.err))
    (two_pieces _ _ _ _ _ c.kind_name.ensures (nothing_carried c.args.kind c.in_default.not-Relation c.in_default.not-Clash))
    c.write_pieces-in_default.ensures
