use Rattle.std.proofs.Common.{◌-◌, ◌^◌, List, Option, ℕ, None}
use Rattle.dist_outside.specs.declared.limits.Limits.{Limits}
use Rattle.dist_outside.specs.DeskView.{OnlyReads}
use Rattle.dist_outside.specs.Files.{IsReading}
use Rattle.dist_cert.specs.Reading.{text_left}
use Rattle.dist_line_check.specs.Checked.{IsChecked}
use Rattle.dist_line_check.proofs.checking.take_lines.Given as goal

abbrev pub invariant-lines : goal.invariant-lines
invariant-lines g l = record {
  some : (limits : Limits) (h : (g.K.Kind.files l.kind).file.Heading)
      → IsChecked (g.K.Kind.files l.kind) limits None h l.fn.reader None l.fn.kept.checker l.fn.kept.notes
      → IsChecked (g.K.Kind.files l.kind) limits None h l.reader None l.kept.checker l.kept.notes;
  told : (limits : Limits) (told : Option (List ℕ)) (h : (g.K.Kind.files l.kind).file.Heading)
      → IsChecked (g.K.Kind.files l.kind) limits told h l.fn.reader (text_left l.fn.reader (g.D.Desk.view l.fn.desk)) l.fn.kept.checker l.fn.kept.notes
      → IsChecked (g.K.Kind.files l.kind) limits told h l.reader (text_left l.reader (g.D.Desk.view l.desk)) l.kept.checker l.kept.notes;
  reading : IsReading (g.D.Desk.view l.desk).mode;
  only_reads : OnlyReads (g.D.Desk.view l.fn.desk) (g.D.Desk.view l.desk);
}

abbrev pub decreases-lines : goal.decreases-lines
decreases-lines g l = 2 ^ 64 - l.reader.lines
