use Rattle.std.proofs.Common.{arith}
use Rattle.dist_outside.proofs.Newest.{appended_newest}
use Rattle.dist_outside.proofs.named_files.append_to_newest.Goals as goal

pub returns-clause-ok : goal.returns-clause-ok
returns-clause-ok c =
    appended_newest c.args.files.now.items c.index_mut.result.now c.extend_from_slice.new.self c.args.piece.now c.extend_from_slice.result
    (omega (arith, c.args.files.now.ok.0)) c.index_mut.ensures.value c.extend_from_slice.ensures.items
