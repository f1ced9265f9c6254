use Rattle.dist_outside.specs.Files.{IsReading, IsWriting}
use Rattle.dist_line_tests.proofs.line_texts.copy.Given as goal

-- the one desk is still read, and the other still written
abbrev pub invariant-loop-place : goal.invariant-loop-place
invariant-loop-place g l = IsReading (g.D.Desk.view l.source).mode × IsWriting (g.D.Desk.view l.target).mode
