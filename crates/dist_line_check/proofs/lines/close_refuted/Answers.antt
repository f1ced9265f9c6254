use Rattle.std.proofs.Common.{List, sym, ◌∙◌}
use Rattle.dist_cert.specs.Form.{Word}
use Rattle.dist_line_check.specs.Kinds.{NotesRefuted}
use Rattle.dist_line_check.proofs.LineLemmas.{closed-refuted, none-assumed}
use Rattle.dist_line_check.proofs.lines.close_refuted.Goals as goal

pub returns-in-Some-clause-noted : goal.returns-in-Some-clause-noted
returns-in-Some-clause-noted g c =
    closed-refuted (g.K.Kind.files c.args.kind.now) c.args.kept.now.checker.question c.in-Some.question c.args.kept.now.notes c.note_refuted.new.notes
    c.note_refuted.result (sym c.close.ensures.closed ∙ c.in-Some.is) c.note_refuted.ensures

pub returns-in-None-clause-noted : goal.returns-in-None-clause-noted
returns-in-None-clause-noted g c =
    none-assumed (λ (words : List Word). NotesRefuted (g.K.Kind.files c.args.kind.now) words c.args.kept.now.notes c.args.kept.now.notes)
    c.args.kept.now.checker.question (sym c.close.ensures.closed ∙ c.in-None.is)
