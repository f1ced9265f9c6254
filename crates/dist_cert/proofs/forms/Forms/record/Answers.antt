use Rattle.std.proofs.Common.{ap, sym, ◌∙◌, get_or, take, drop, length, ◌-◌}
use Rattle.std.proofs.lemmas.Bool.{false≢true}
use Rattle.dist_cert.specs.DecodedPrivate.{decoded}
use Rattle.dist_cert.proofs.RecordForms.{line_parts, has_form, no_form}
use Rattle.dist_cert.proofs.forms.Forms.record.Goals as goal

pub returns-then-branch : goal.returns-then-branch
returns-then-branch c = has_form c.args.line.now (get_or c.args.line.now 0 0) (take (length c.args.line.now - 1) (drop 1 c.args.line.now))
    c.in_ok-step-in-len1-up.step
    (c.in_ok-step-in-len1-up.ensures ∙ ap (decoded (get_or c.args.line.now 0 0)) c.new.ensures)
    (c.in_ok-is_record-in-len1-up.ensures.0 c.if-branch.true)

pub returns-else-branch : goal.returns-else-branch
returns-else-branch c = no_form c.args.line.now (get_or c.args.line.now 0 0) (take (length c.args.line.now - 1) (drop 1 c.args.line.now))
    c.in_ok-step-in-len1-up.step
    (line_parts c.args.line.now c.in-len1-up.len_at_least)
    (c.in_ok-step-in-len1-up.ensures ∙ ap (decoded (get_or c.args.line.now 0 0)) c.new.ensures)
    (λ kept. false≢true (sym c.if-branch.false ∙ c.in_ok-is_record-in-len1-up.ensures.1 kept))
