use Rattle.std.proofs.Common.{length}
use Rattle.dist_control.proofs.StanzaLemmas.{ReadsOn}
use Rattle.dist_control.proofs.reader.read_fields.Given as goal

abbrev pub invariant-loop-alloc : goal.invariant-loop-alloc
invariant-loop-alloc l = ReadsOn l.number l.bytes l.fields l.late l.line l.rest

abbrev pub decreases-loop-alloc : goal.decreases-loop-alloc
decreases-loop-alloc l = length l.rest
