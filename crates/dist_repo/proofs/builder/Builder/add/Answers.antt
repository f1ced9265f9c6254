use Rattle.std.proofs.Common.{◌≡◌, ◌↔◌, ◌⊎◌, Ok, Err, subst, ◌∙◌}
use Rattle.dist_repo.specs.Held.{IsFree}
use Rattle.dist_repo.specs.Order.{IsSamePackage}
use Rattle.dist_repo.specs.declared.builder.AddError.TheVariants.{Clash}
use Rattle.dist_repo.specs.declared.builder.Added.TheVariants.{Same}
use Rattle.dist_repo.specs.declared.package.Package.{Package}
use Rattle.dist_repo.proofs.HeldLemmas.{told-same, told-clash, free-not_held, never-same}
use Rattle.dist_repo.proofs.builder.Builder.add.Goals as goal

pub returns-in-Some-clause-same : goal.returns-in-Some-clause-same
returns-in-Some-clause-same c =
    let q : Package = c.in-Some.held.now in
    let same = subst (λ (x : Package). IsSamePackage q x) c.in-Ok.ensures.made c.in-Some.ensures.found.1 in
    let told = subst (λ (x : Package). (c.told_beside.result ≡ Ok Same) ↔ (q ≡ x)) (c.into_package.ensures ∙ c.in-Ok.ensures.made) c.told_beside.ensures.same in
    told-same c.args.self.now q c.args.package c.in-Some.kept c.told_beside.result c.in-Some.ensures.in_order c.in-Some.ensures.found.0 same told

pub returns-in-Some-clause-clash : goal.returns-in-Some-clause-clash
returns-in-Some-clause-clash c line =
    let q : Package = c.in-Some.held.now in
    let same = subst (λ (x : Package). IsSamePackage q x) c.in-Ok.ensures.made c.in-Some.ensures.found.1 in
    let moved : c.into_package.result ≡ c.args.package = c.into_package.ensures ∙ c.in-Ok.ensures.made in
    let told = subst (λ (x : Package). (c.told_beside.result ≡ Ok Same) ↔ (q ≡ x)) moved c.told_beside.ensures.same in
    let either = subst (λ (x : Package). (c.told_beside.result ≡ Ok Same) ⊎ (c.told_beside.result ≡ Err (Clash c.in-Some.kept x))) moved
    c.told_beside.ensures.either in
    told-clash c.args.self.now q c.args.package c.in-Some.kept line c.told_beside.result c.in-Some.ensures.in_order c.in-Some.ensures.found.0 same told either

pub returns-in-None-clause-same : goal.returns-in-None-clause-same
returns-in-None-clause-same c =
    let Free : Package → Type 0 = λ p. IsFree c.args.self.now p in
    let free = subst Free c.in-Ok.ensures.made c.in-None.ensures.found in
    ((λ e. absurd (never-same _ c.insert.result c.insert.ensures.new e)), λ is. absurd (free-not_held _ _ free is))

pub returns-in-Some-held_without_key-clause-same : goal.returns-in-Some-held_without_key-clause-same
returns-in-Some-held_without_key-clause-same c =
    let q : Package = c.in-Some-held_without_key.held.now in
    let returned : c.in-Err.refused.value ≡ c.args.package = c.in-Err.ensures.returned in
    let same = subst (λ (x : Package). IsSamePackage q x) returned c.in-Some-held_without_key.ensures.found.1 in
    let told = subst (λ (x : Package). (c.told_beside-in-Some-held_without_key.result ≡ Ok Same) ↔ (q ≡ x)) returned
    c.told_beside-in-Some-held_without_key.ensures.same in
    told-same c.args.self.now q c.args.package c.in-Some-held_without_key.kept c.told_beside-in-Some-held_without_key.result
    c.in-Some-held_without_key.ensures.in_order c.in-Some-held_without_key.ensures.found.0 same told

pub returns-in-Some-held_without_key-clause-clash : goal.returns-in-Some-held_without_key-clause-clash
returns-in-Some-held_without_key-clause-clash c line =
    let q : Package = c.in-Some-held_without_key.held.now in
    let r = c.told_beside-in-Some-held_without_key.result in
    let kept = c.in-Some-held_without_key.kept in
    let returned : c.in-Err.refused.value ≡ c.args.package = c.in-Err.ensures.returned in
    let same = subst (λ (x : Package). IsSamePackage q x) returned c.in-Some-held_without_key.ensures.found.1 in
    let told = subst (λ (x : Package). (r ≡ Ok Same) ↔ (q ≡ x)) returned c.told_beside-in-Some-held_without_key.ensures.same in
    let either = subst (λ (x : Package). (r ≡ Ok Same) ⊎ (r ≡ Err (Clash kept x))) returned c.told_beside-in-Some-held_without_key.ensures.either in
    told-clash c.args.self.now q c.args.package kept line r c.in-Some-held_without_key.ensures.in_order c.in-Some-held_without_key.ensures.found.0 same told
    either

pub returns-in-None-held_without_key-clause-same : goal.returns-in-None-held_without_key-clause-same
returns-in-None-held_without_key-clause-same c =
    let Free : Package → Type 0 = λ p. IsFree c.args.self.now p in
    let free = subst Free c.in-Err.ensures.returned c.in-None-held_without_key.ensures.found in
    ((λ e. cc), λ is. absurd (free-not_held _ _ free is))
