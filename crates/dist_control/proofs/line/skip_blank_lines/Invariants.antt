use Rattle.std.proofs.Common.{◌≡◌, ◌+◌, ◌<◌, ◌^◌, true, length}
use Rattle.dist_control.specs.Lines.{lines}
use Rattle.dist_control.specs.RawStanza.{raw_stanzas_from}
use Rattle.dist_control.proofs.line.skip_blank_lines.Given as goal

abbrev pub invariant-loop-after : goal.invariant-loop-after
invariant-loop-after l =
    (l.line + length l.rest < 2 ^ 64) × (raw_stanzas_from l.line true (lines l.rest) ≡ raw_stanzas_from l.number true (lines l.bytes))

abbrev pub decreases-loop-after : goal.decreases-loop-after
decreases-loop-after l = length l.rest
