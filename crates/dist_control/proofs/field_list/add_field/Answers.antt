use Rattle.std.proofs.Common.{List, not, sym, ap, ◌∙◌, subst, arith}
use Rattle.dist_control.specs.FieldText.{FieldText, field_text}
use Rattle.dist_control.specs.Pieces.{AreLateNames}
use Rattle.dist_control.proofs.NameLemmas.{any-late, late-early, late-more}
use Rattle.dist_control.proofs.field_list.add_field.Goals as goal

pub returns-then-len-lt-EARLY_FIELDS-clause-late : goal.returns-then-len-lt-EARLY_FIELDS-clause-late
returns-then-len-lt-EARLY_FIELDS-clause-late c =
    let P : List FieldText → Type 0 = λ fs. AreLateNames fs c.args.late.now in
    subst P (sym c.in_ok-push.ensures.ok)
    (late-early c.args.fields.now (field_text c.args.field) c.args.late.now c.requires (omega (arith, c.if-len-lt-EARLY_FIELDS.true, c.len.ensures)))

pub returns-then-not-branch-clause-fresh : goal.returns-then-not-branch-clause-fresh
returns-then-not-branch-clause-fresh c =
    sym c.if-not-branch.true ∙ c.in_ok-insert.ensures.added
    ∙ ap not (sym (any-late c.args.field.name.now c.args.fields.now c.args.late.now c.requires (sym c.if-has_early_name.ensures)))

pub returns-clause-fresh : goal.returns-clause-fresh
returns-clause-fresh c =
    sym c.if-not-branch.false ∙ c.in_ok-insert.ensures.added
    ∙ ap not (sym (any-late c.args.field.name.now c.args.fields.now c.args.late.now c.requires (sym c.if-has_early_name.ensures)))

pub returns-clause-late : goal.returns-clause-late
returns-clause-late c =
    let P : List FieldText → Type 0 = λ fs. AreLateNames fs c.insert.new.self in
    subst P (sym c.in_ok-push-2.ensures.ok)
    (late-more c.args.fields.now (field_text c.args.field) c.args.late.now c.insert.new.self c.requires
    (omega (arith, c.if-len-lt-EARLY_FIELDS.false, c.len.ensures)) c.in_ok-insert.ensures.names)
