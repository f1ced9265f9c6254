use Rattle.std.proofs.Common.{inl, inr, sym, ◌∙◌, subst, refl}
use Rattle.std.proofs.lemmas.Bool.{both_ways}
use Rattle.dist_relation.specs.Bytes.{IsName}
use Rattle.dist_package.specs.FirstFault.{IsBad}
use Rattle.dist_package.specs.PackageOf.{HasArchitectureFault, all}
use Rattle.dist_package.proofs.FieldLemmas.{field-of, field-is, agreed, disagreed, some-is}
use Rattle.dist_package.proofs.fields.read_architecture.Goals as goal

pub returns-in-Ok-None : goal.returns-in-Ok-None
returns-in-Ok-None c =
    let none = rw c.in-Ok-None.field-0-is at c.in-Ok-None.ensures in
    inr (subst (IsBad (HasArchitectureFault c.args.earlier.now c.args.stanza.now)) (sym c.bad.ensures) (record {
      value = c.in-Some.field.value.now;
      line = c.in-Some.field.line;
      field = field-of _ _ c.in-Some.field c.in-Some.ensures;
      cause = inl (none, refl);
    }))

pub returns-then-is_all : goal.returns-then-is_all
returns-then-is_all c =
    let e = rw c.in-Ok-Some.field-0-is at c.in-Ok-Some.ensures in (
      record {
        given = inr (
          c.in-Some.field.line,
          field-is _ _ all c.in-Some.field c.in-Some.ensures
              (sym (c.is_all.ensures.0 c.if-is_all.true) ∙ c.bytes.ensures.value ∙ e.0),
          refl,
        );
        agrees = inl refl;
      },
      λ is. cc,
    )

pub returns-then-not-agrees : goal.returns-then-not-agrees
returns-then-not-agrees c =
    let e = rw c.in-Ok-Some.field-0-is at c.in-Ok-Some.ensures in
    let d = disagreed c.args.earlier.now c.in-Ok-Some.name c.agrees.result c.agrees.ensures c.if-not-agrees.true in
    inr (subst (IsBad (HasArchitectureFault c.args.earlier.now c.args.stanza.now)) (sym c.bad-then-not-agrees.ensures) (record {
      value = c.in-Some.field.value.now;
      line = c.in-Some.field.line;
      field = field-of _ _ c.in-Some.field c.in-Some.ensures;
      cause = inr (
        e.1,
        (λ is. both_ways c.is_all.result c.if-is_all.false (c.is_all.ensures.1 (c.bytes.ensures.value ∙ e.0 ∙ is))),
        (d.0, d.1, λ is. d.2 (is ∙ sym e.0)),
        refl,
      );
    }))

pub returns : goal.returns
returns c =
    let e = rw c.in-Ok-Some.field-0-is at c.in-Ok-Some.ensures in (
      record {
        given = inr (c.in-Some.field.line, field-is _ _ c.in-Ok-Some.name c.in-Some.field c.in-Some.ensures e.0, subst IsName (sym e.0) e.1);
        agrees = inr (agreed c.args.earlier.now c.in-Ok-Some.name c.agrees.result c.agrees.ensures c.if-not-agrees.false);
      },
      λ is. both_ways c.is_all.result c.if-is_all.false (c.is_all.ensures.1 (c.bytes.ensures.value ∙ some-is _ _ is)),
    )
