use Rattle.std.proofs.Common.{◌≡◌, ◌↔◌, List, None, Some, map, subst, sym}
use Rattle.dist_repo.specs.Order.{IsFlat}
use Rattle.dist_repo.specs.declared.package.Package.{Package}
use Rattle.dist_archive.specs.Archive.{IsHeldAs}
use Rattle.dist_archive.proofs.EntryLemmas.{none-found, only-found}
use Rattle.dist_archive.proofs.new_names.NewNames.get.Goals as goal

pub returns-in-Some : goal.returns-in-Some
returns-in-Some c =
    let Flat : List Package → Type 0 = IsFlat in
    let Only : Package → List Package → Type 0 = λ x packages. (p : Package) → (Some x ≡ Some p) ↔ IsHeldAs packages c.args.name.now p in
    subst (Only c.deref.result.now) c.self.view_is (subst (λ (x : Package). Only x (map (λ e. e.1.value) c.self.inside.packages.entries)) (sym c.deref.ensures)
    (only-found (λ k. k.items) (λ x. x.value) c.self.inside.packages.entries c.args.name.now c.in-Some.package.now c.self.invariant
    (subst Flat (sym c.self.view_is) c.keeps_invariant.ensures) (sym c.in-Some.ensures.value)))

pub returns-in-None : goal.returns-in-None
returns-in-None c =
    let No : List Package → Type 0 = λ packages. (p : Package) → (None ≡ Some p) ↔ IsHeldAs packages c.args.name.now p in
    subst No c.self.view_is (none-found (λ k. k.items) (λ x. x.value) c.self.inside.packages.entries c.args.name.now c.self.invariant
    (sym c.in-None.ensures.value))
