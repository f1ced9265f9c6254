use Rattle.std.proofs.Common.{◌≢◌, ◌↔◌, Bool, List, ap, map, subst, sym, ◌∙◌}
use Rattle.std.specs.Prelude.{Contains, IsTrue, is_some}
use Rattle.dist_repo.specs.declared.package.Package.{Package}
use Rattle.dist_archive.specs.Steps.{HasExactly, IsHeld}
use Rattle.dist_archive.proofs.EntryLemmas.{held-where-found, removed}
use Rattle.dist_archive.proofs.new_names.NewNames.remove.Goals as goal

pub invariant_of-self : goal.invariant_of-self
invariant_of-self c =
    (removed (λ k. k.items) (λ x. x.value) c.self.inside.packages.entries c.remove.new.self.entries c.args.name.now c.self.invariant
    c.remove.ensures.entries c.remove.ensures.updates.1 c.remove.ensures.ordered).named

pub returns-clause-there : goal.returns-clause-there
returns-clause-there c =
    let There : Bool → List Package → Type 0 = λ b packages. IsTrue b ↔ IsHeld packages c.args.name.now in
    subst (There c.is_some.result) c.self.view_is
    (subst (λ (b : Bool). There b (map (λ e. e.1.value) c.self.inside.packages.entries)) (sym (c.is_some.ensures ∙ ap is_some c.remove.ensures.value))
    (held-where-found (λ k. k.items) (λ x. x.value) c.self.inside.packages.entries c.args.name.now c.self.invariant))

pub returns-clause-made : goal.returns-clause-made
returns-clause-made c =
    let Left : List Package → Type 0 = λ old. HasExactly (map (λ e. e.1.value) c.remove.new.self.entries)
    (λ n. Contains old n × (n.name ≢ c.args.name.now)) in
    subst Left c.self.view_is (removed (λ k. k.items) (λ x. x.value) c.self.inside.packages.entries c.remove.new.self.entries c.args.name.now
    c.self.invariant c.remove.ensures.entries c.remove.ensures.updates.1 c.remove.ensures.ordered).exactly
