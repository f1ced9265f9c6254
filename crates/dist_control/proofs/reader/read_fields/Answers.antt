use Rattle.std.proofs.Common.{ℕ, List, sym, ◌∙◌, refl, inr, subst, Result, Bor}
use Rattle.std.proofs.lemmas.Bool.{not-true, not-false, OnTrue_at}
use Rattle.std.proofs.lemmas.Result.{err_from_is_err_and}
use Rattle.dist_base.specs.Answers.{Answers}
use Rattle.dist_control.specs.FieldText.{field_text}
use Rattle.dist_control.specs.Faults.{HasFault}
use Rattle.dist_control.specs.Lines.{lines}
use Rattle.dist_control.specs.Pieces.{ReadsFields, raw_here}
use Rattle.dist_control.specs.declared.error.ControlError.{ControlError}
use Rattle.dist_control.specs.declared.error.ControlError.TheVariants.{NoMemory}
use Rattle.dist_control.proofs.StanzaLemmas.{reads-more, field-fault, double-fault, orphan-fault}
use Rattle.dist_control.proofs.ReaderLemmas.{some-lines}
use Rattle.dist_control.proofs.reader.read_fields.Goals as goal

pub returns-then-not-is_at_field : goal.returns-then-not-is_at_field
returns-then-not-is_at_field c = record {
  answers = inr (orphan-fault c.args.number c.args.bytes.now (lines c.args.bytes.now) refl (some-lines c.args.bytes.now c.requires.some) c.requires.at_stanza
      (c.if-not-is_at_field.ensures.none refl));
}

pub returns-in_err-field : goal.returns-in_err-field
returns-in_err-field c =
    let exit = err_from_is_err_and c.from_residual.result c.from_residual.ensures.1 in
    let raw = raw_here c.args.number c.args.bytes.now in
    let P : Result (Bor (List ℕ) × ℕ) ControlError → Type 0 =
    λ r. Answers (λ read. ReadsFields c.args.number c.args.bytes.now c.loop-alloc.fields read.0.now read.1) (HasFault raw) NoMemory r in
    record {
      answers = subst P (sym exit.1) (inr (subst (HasFault raw) (sym exit.2)
          (field-fault _ _ _ _ _ _ c.loop-alloc.invariant (c.loop-alloc-test.ensures.field refl) _ c.in_err-field.ensures)));
    }

pub returns-then-not-added : goal.returns-then-not-added
returns-then-not-added c = record {
  answers = inr (double-fault _ _ _ _ _ _ c.loop-alloc.invariant (c.loop-alloc-test.ensures.field refl)
      (field_text c.in_ok-field.field) _ _ c.in_ok-field.ensures (not-false _ (sym c.in-Ok.ensures.fresh ∙ c.if-not-added.true)));
}

pub loop-alloc-preserved : goal.loop-alloc-preserved
loop-alloc-preserved c =
    let is = c.if-not-added.false in
    reads-more _ _ _ _ _ _ c.loop-alloc.invariant (c.loop-alloc-test.ensures.field refl)
    (field_text c.in_ok-field.field) _ _ c.in_ok-field.ensures _ _ (not-true _ (sym c.in-Ok.ensures.fresh ∙ is)) (OnTrue_at is c.in-Ok.ensures.added)
    (OnTrue_at is c.in-Ok.ensures.late)
