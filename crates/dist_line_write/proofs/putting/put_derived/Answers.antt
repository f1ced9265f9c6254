use Rattle.std.proofs.Common.{◌≡◌, ◌++◌, [], ◌∷◌, ◌∙◌, Result, IfErr, List, ap, sym, subst, append_assoc, take, drop, length, arith, ◌<◌, suc}
use Rattle.dist_outside.specs.DeskView.{DeskView, FileGrew}
use Rattle.dist_outside.specs.Files.{IsWriting}
use Rattle.dist_outside.specs.declared.trouble.WorkError.{WorkError}
use Rattle.dist_solver.specs.Derived.{DerivedLine, line_at}
use Rattle.dist_cert.specs.declared.records.CertRecord.{CertRecord}
use Rattle.dist_cert.specs.Form.{record_text}
use Rattle.dist_cert.specs.FileLines.{lines_text}
use Rattle.dist_cert.specs.Writing.{ended}
use Rattle.dist_line_write.specs.LineLaws.{keeps-front}
use Rattle.dist_line_write.specs.Script.{AllNext, KeepsLines, IsWriter, NoQuestion, PutAllStops}
use Rattle.dist_line_write.specs.ScriptLaws.{none-asked, stops-after, by-exit, two-grow, line-stopped, lines-more}
use Rattle.dist_line_write.specs.ScriptLaws.{next-at, next-front, one-line}
use Rattle.dist_line_write.specs.Words.{derived_line, derived_lines}
use Rattle.dist_line_write.proofs.Answered.{only-derived}
use Rattle.dist_line_write.proofs.Lists.{map-more, map-split}
use Rattle.dist_line_write.proofs.putting.put_derived.Goals as goal

pub returns-in_err-put_derived_at-clause-err : goal.returns-in_err-put_derived_at-clause-err
returns-in_err-put_derived_at-clause-err g c =
    let old : DeskView = g.D.Desk.view c.args.desk.now in
    let mid : DeskView = g.D.Desk.view c.loop-place.desk in
    let new : DeskView = g.D.Desk.view c.put_derived_at.new.desk in
    let clauses = c.args.log.now.clauses in
    let derived : List DerivedLine = c.args.derived.now in
    let place = c.loop-place.place in
    let front : List CertRecord = derived_lines clauses (take place derived) in
    let line : CertRecord = derived_line clauses (line_at derived place) in
    let error : WorkError = c.in_err-put_derived_at.field-0.0 in
    let within : place < length derived = omega arith in
    by-exit (λ (r : Result (Unit {0}) WorkError). IfErr r (PutAllStops c.args.writer.now (derived_lines clauses derived) old new)) c.from_residual.result
    error c.from_residual.ensures.1
    (λ h before writer all kept.
    let rest : List CertRecord = derived_lines clauses (drop (suc place) derived) in
    let split : derived_lines clauses derived ≡ front ++ line ∷ rest =
    map-split (derived_line clauses) derived place (record { line = 0; hints = [] }) within in
    let here = c.loop-place.invariant.more h before writer kept in
    stops-after c.file_grows.ensures.twice h NoQuestion before front old mid new error c.loop-place.invariant.grew
    (none-asked NoQuestion before front (only-derived clauses (take place derived)))
    (next-front h before front (line ∷ rest) (subst (λ (ls : List CertRecord). AllNext h before ls) split all))
    (line-stopped h NoQuestion (before ++ front) line c.loop-place.writer mid new error here
    (next-at h before (derived_lines clauses derived) front line rest split all, tt)
    (c.in_err-put_derived_at.ensures.err h (before ++ front) here)))

pub returns-in_err-put_derived_at-clause-grows : goal.returns-in_err-put_derived_at-clause-grows
returns-in_err-put_derived_at-clause-grows g c =
    two-grow c.file_grows.ensures.twice (lines_text (derived_lines c.args.log.now.clauses (take c.loop-place.place c.args.derived.now)))
    c.put_derived_at.ensures.grows.0
    (g.D.Desk.view c.args.desk.now) (g.D.Desk.view c.loop-place.desk) (g.D.Desk.view c.put_derived_at.new.desk) c.loop-place.invariant.grew
    c.put_derived_at.ensures.grows.1

pub loop-place-preserved : goal.loop-place-preserved
loop-place-preserved g c =
    let old : DeskView = g.D.Desk.view c.args.desk.now in
    let mid : DeskView = g.D.Desk.view c.loop-place.desk in
    let new : DeskView = g.D.Desk.view c.put_derived_at.new.desk in
    let clauses = c.args.log.now.clauses in
    let derived : List DerivedLine = c.args.derived.now in
    let place = c.loop-place.place in
    let front : List CertRecord = derived_lines clauses (take place derived) in
    let line : CertRecord = derived_line clauses (line_at derived place) in
    let within : place < length derived = omega arith in
    let more = map-more (derived_line clauses) derived place (record { line = 0; hints = [] }) within in
    let rest : List CertRecord = derived_lines clauses (drop (suc place) derived) in
    let split : derived_lines clauses derived ≡ front ++ line ∷ rest =
    map-split (derived_line clauses) derived place (record { line = 0; hints = [] }) within in
    record {
      grew = subst (λ bytes. FileGrew bytes old new) (ap (λ bytes. lines_text front ++ bytes) (sym (one-line line)) ∙ sym (lines-more front (line ∷ []))
          ∙ ap (λ (ls : List CertRecord). lines_text ls) (sym more))
          (c.file_grows.ensures.twice (lines_text front) (ended (record_text line)) old mid new c.loop-place.invariant.grew
          c.in_ok-put_derived_at.ensures.grew);
      writing = subst IsWriting (sym c.put_derived_at.ensures.grows.1.mode_stays) c.loop-place.invariant.writing;
      more = λ h before writer kept.
          subst (λ (ls : List CertRecord). IsWriter h ls c.put_derived_at.new.writer)
          (append_assoc before front (line ∷ []) ∙ ap (λ (ls : List CertRecord). before ++ ls) (sym more))
          (c.in_ok-put_derived_at.ensures.ok h (before ++ front) (c.loop-place.invariant.more h before writer kept)
          (keeps-front h.limits ((before ++ front) ++ line ∷ []) rest
          (subst (KeepsLines h.limits) (ap (λ (ls : List CertRecord). before ++ ls) split ∙ sym (append_assoc before front (line ∷ rest))
          ∙ sym (append_assoc (before ++ front) (line ∷ []) rest)) kept)));
    }
