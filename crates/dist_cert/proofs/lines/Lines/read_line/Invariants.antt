use Rattle.std.proofs.Common.{◌≡◌, ◌-◌, length}
use Rattle.dist_outside.specs.Files.{IsReading}
use Rattle.dist_outside.specs.DeskView.{OnlyReads}
use Rattle.dist_cert.specs.Reading.{WhereTold}
use Rattle.dist_cert.specs.LineReadingPrivate.{text_held}
use Rattle.dist_cert.proofs.lines.Lines.read_line.Given as goal

-- no byte was lost
abbrev pub invariant-loop-reached : goal.invariant-loop-reached
invariant-loop-reached g l = record {
  text : WhereTold (text_held l.fn.self (g.D.Desk.view l.fn.desk)) (text_held l.self (g.D.Desk.view l.desk)) (λ rest more. more ≡ rest);
  reading : IsReading (g.D.Desk.view l.desk).mode;
  desk : OnlyReads (g.D.Desk.view l.fn.desk) (g.D.Desk.view l.desk);
}

abbrev pub decreases-loop-reached : goal.decreases-loop-reached
decreases-loop-reached g l = l.limits.record_line - length l.self.line
