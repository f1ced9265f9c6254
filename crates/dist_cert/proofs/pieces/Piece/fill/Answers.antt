use Rattle.std.proofs.Common.{◌∙◌}
use Rattle.std.proofs.lemmas.List.{with_items_is}
use Rattle.dist_cert.proofs.Filling.{filled}
use Rattle.dist_cert.proofs.pieces.Piece.fill.Goals as goal

pub returns-in-Ok-clause-text : goal.returns-in-Ok-clause-text
returns-in-Ok-clause-text g c =
    filled _ _ c.in-Ok.count c.read.new.buffer _ c.in-Ok.ensures.next c.in-Ok.ensures.only_reads.files_stay
    (with_items_is c.if-is_empty.self-inside.bytes c.read.new.buffer (c.read.auto.buffer ∙ c.deref_mut.ensures.len))
