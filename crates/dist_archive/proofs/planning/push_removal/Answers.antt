use Rattle.std.proofs.Common.{ap, inl, inr, refl, subst}
use Rattle.dist_archive.specs.Steps.{IsHeld}
use Rattle.dist_archive.specs.declared.step.Step.TheVariants.{Removal}
use Rattle.dist_archive.proofs.NameLemmas.{not-so}
use Rattle.dist_archive.proofs.planning.push_removal.Goals as goal

pub returns-then-is_named : goal.returns-then-is_named
returns-then-is_named c = inr (
  (λ missing. missing (subst (λ name. IsHeld c.args.later.now.packages name) c.bytes.ensures.value (c.is_named.ensures.0 c.if-is_named.true))),
  refl,
)

pub returns : goal.returns
returns c =
    let missing = subst (λ name. ¬ IsHeld c.args.later.now.packages name) c.bytes.ensures.value
    (not-so c.is_named.result c.is_named.ensures c.if-is_named.false) in
    inl (missing, (Removal c.in_ok-try_clone.field-0, ap (λ name. Removal name) c.in_ok-try_clone.ensures, c.in_ok-push.ensures.items))
