use Rattle.std.proofs.Common.{take}
use Rattle.dist_outside.specs.DeskView.{FileGrew}
use Rattle.dist_outside.specs.Files.{IsWriting}
use Rattle.dist_cert.specs.FileLines.{lines_text}
use Rattle.dist_line_write.specs.Script.{PutFront}
use Rattle.dist_line_write.specs.Words.{derived_lines}
use Rattle.dist_line_write.proofs.putting.put_derived.Given as goal

abbrev pub invariant-loop-place : goal.invariant-loop-place
invariant-loop-place g l = record {
  grew : FileGrew (lines_text (derived_lines l.log.clauses (take l.place l.derived))) (g.D.Desk.view l.fn.desk) (g.D.Desk.view l.desk);
  writing : IsWriting (g.D.Desk.view l.desk).mode;
  more : PutFront l.fn.writer l.writer (derived_lines l.log.clauses l.derived) (derived_lines l.log.clauses (take l.place l.derived));
}
