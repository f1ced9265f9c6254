use Rattle.std.proofs.Common.{◌≡◌, inl, inr, sym, ap, ◌∙◌, subst, refl}
use Rattle.std.specs.Prelude.{Ok, Err, Result}
use Rattle.dist_repo.specs.declared.builder.Added.{Added}
use Rattle.dist_repo.specs.declared.builder.Added.TheVariants as added
use Rattle.dist_repo.specs.Held.{returned_package}
use Rattle.dist_repo.specs.declared.builder.AddError.{AddError}
use Rattle.dist_repo.specs.declared.builder.AddError.TheVariants as errors
use Rattle.dist_repo.specs.declared.package.Package.{Package}
use Rattle.dist_package.specs.FirstFault.{IsBad}
use Rattle.dist_package.specs.StepsPrivate.{IsClashFault}
use Rattle.dist_package.proofs.reader.add_package.Goals as goal

other-answer : (a : Added) (e : AddError) → (let ok : Result Added AddError = Ok a in let err : Result Added AddError = Err e in ok ≡ err) → ⊥
other-answer a e is = cc

not-new : (a : Added) → a ≡ added.Same → (let ok : Result Added AddError = Ok a in let new : Result Added AddError = Ok added.New in ok ≡ new) → ⊥
not-new a same is = cc

pub returns-in-Err-Clash : goal.returns-in-Err-Clash
returns-in-Err-Clash c =
    let at = c.in-Err-Clash in
    let given : at.field-0-1 ≡ c.args.package = sym (ap returned_package at.field-0-is) ∙ at.ensures.returned in
    let clash : at.field-0 ≡ errors.Clash at.kept c.args.package = at.field-0-is ∙ ap (λ (p : Package). errors.Clash at.kept p) given in
    inr (subst (IsBad (IsClashFault c.args.builder.now c.args.package c.args.line)) (sym c.bad.ensures)
    (at.kept, (at.ensures.clash at.kept).0 (ap (λ (e : AddError). Err e) clash), refl))

pub returns-in-Ok-Same : goal.returns-in-Ok-Same
returns-in-Ok-Same c =
    let at = c.in-Ok-Same in
    let same : at.field-0 ≡ added.Same = at.field-0-is in
    record {
      alone = λ kept clash. other-answer at.field-0 (errors.Clash kept c.args.package) ((at.ensures.clash kept).1 clash);
      held = inl (at.ensures.same.0 (ap (λ (a : Added). Ok a) same), at.ensures.kept (λ is. not-new at.field-0 same is));
    }
