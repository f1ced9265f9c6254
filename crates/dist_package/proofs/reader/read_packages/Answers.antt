use Rattle.std.proofs.Common.{List, None, inl, inr, sym, subst, refl}
use Rattle.std.proofs.lemmas.Bool.{false≢true}
use Rattle.dist_repo.specs.Held.{Held}
use Rattle.dist_control.specs.RawStanza.{raw_stanzas}
use Rattle.dist_package.specs.StepsPrivate.{IsFaulty, IsClashFault}
use Rattle.dist_package.proofs.SoFar.{IsFileSoFar, file-none, too-many, file-fault, file-clash, file-more, file-all, file-fewer, refused}
use Rattle.dist_package.proofs.reader.read_packages.Goals as goal

pub loop-reader-init : goal.loop-reader-init
loop-reader-init c =
    let P : List Held → Type 0 = λ held. IsFileSoFar c.args.bytes.now c.args.stanzas c.new-reader.result held None 0 in
    subst P (sym c.new-builder.ensures) (file-none _ _ _ c.new-reader.ensures)

pub returns-then-count-stanzas : goal.returns-then-count-stanzas
returns-then-count-stanzas c = record {
  answers = inr (too-many _ _ _ _ _ _ c.loop-reader.invariant (c.loop-reader-test.ensures.0 refl) c.if-count-stanzas.true);
  fewer = tt;
  bounded = tt;
}

pub returns-in-Err : goal.returns-in-Err
returns-in-Err c = record {
  answers = elim c.in-Err.ensures [
    | inl none ↦ inl none
    | inr fault ↦ inr (refused (raw_stanzas c.args.bytes.now) c.args.stanzas (IsFaulty c.loop-reader.architecture c.loop-reader.reader)
        (λ f h. file-fault _ _ _ _ _ _ c.loop-reader.invariant f c.if-count-stanzas.false h) c.in-Err.error fault)
  ];
  fewer = tt;
  bounded = tt;
}

pub returns-in-Err-add_package : goal.returns-in-Err-add_package
returns-in-Err-add_package c =
    let d = c.in-Ok-Some.described in
    let gives = rw c.in-Ok-Some.field-0-is at c.in-Ok-Some.ensures in
    record {
      answers = elim c.in-Err-add_package.ensures [
        | inl none ↦ inl none
        | inr fault ↦ inr (refused (raw_stanzas c.args.bytes.now) c.args.stanzas (IsClashFault c.loop-reader.builder d.package_ d.line)
            (λ f h. file-clash _ _ _ _ _ _ c.loop-reader.invariant _ d gives f c.if-count-stanzas.false h) c.in-Err-add_package.error fault)
      ];
      fewer = tt;
      bounded = tt;
    }

pub loop-reader-preserved : goal.loop-reader-preserved
loop-reader-preserved c =
    let gives = rw c.in-Ok-Some.field-0-is at c.in-Ok-Some.ensures in
    file-more _ _ _ _ _ _ c.loop-reader.invariant _ c.in-Ok-Some.described gives _ _ c.if-count-stanzas.false c.in-Ok.ensures c.first_of-architecture.ensures

pub returns-in-Ok-finish : goal.returns-in-Ok-finish
returns-in-Ok-finish c =
    let is = file-all _ _ _ _ _ _ c.loop-reader.invariant c.in-Ok-finish.repository (λ next. false≢true (c.loop-reader-test.ensures.1 next))
    c.in-Ok-finish.ensures.packages c.in-Ok-finish.ensures.architecture c.in-Ok-finish.ensures.in_order in
    record {
      answers = is;
      fewer = file-fewer _ _ _ _ _ _ c.loop-reader.invariant _ c.in-Ok-finish.ensures.packages;
      bounded = c.relations_take_bytes.ensures c.args.bytes.now c.args.stanzas c.in-Ok-finish.repository is;
    }
