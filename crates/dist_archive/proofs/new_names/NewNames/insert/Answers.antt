use Rattle.std.proofs.Common.{◌≡◌, ◌⊎◌, List, None, ap, arith, length, map, subst, sym, ◌∙◌}
use Rattle.std.specs.Prelude.{Contains}
use Rattle.std.proofs.lemmas.List.{length-map}
use Rattle.dist_repo.specs.declared.package.Package.{Package}
use Rattle.dist_archive.specs.Steps.{HasExactly, IsHeld}
use Rattle.dist_archive.proofs.EntryLemmas.{absent-key, inserted}
use Rattle.dist_archive.proofs.new_names.NewNames.insert.Goals as goal

pub invariant_of-self-2 : goal.invariant_of-self-2
invariant_of-self-2 c =
    (inserted (λ k. k.items) (λ x. x.value) c.self.inside.packages.entries c.insert.new.self.entries c.in_ok-name.name c.in_ok-copy.copy
    c.args.package.now c.self.invariant (c.in_ok-name.ensures.items ∙ c.bytes.ensures.value) (c.in_ok-copy.ensures.ok ∙ c.in_ok-try_clone.ensures)
    (subst (λ (x : List Package). ¬ IsHeld x c.args.package.now.name) (sym c.self.view_is) c.requires) c.in_ok-insert.ensures.entries
    c.insert.ensures.ordered).named

pub returns-clause-ok : goal.returns-clause-ok
returns-clause-ok c =
    let Left : List Package → Type 0 = λ old. HasExactly (map (λ e. e.1.value) c.insert.new.self.entries) (λ n. Contains old n ⊎ (c.args.package.now ≡ n)) in
    subst Left c.self.view_is (inserted (λ k. k.items) (λ x. x.value) c.self.inside.packages.entries c.insert.new.self.entries c.in_ok-name.name
    c.in_ok-copy.copy c.args.package.now c.self.invariant (c.in_ok-name.ensures.items ∙ c.bytes.ensures.value)
    (c.in_ok-copy.ensures.ok ∙ c.in_ok-try_clone.ensures)
    (subst (λ (x : List Package). ¬ IsHeld x c.args.package.now.name) (sym c.self.view_is) c.requires) c.in_ok-insert.ensures.entries
    c.insert.ensures.ordered).exactly

pub returns-clause-one_more : goal.returns-clause-one_more
returns-clause-one_more c =
    let absent = absent-key (λ k. k.items) (λ x. x.value) c.self.inside.packages.entries c.in_ok-name.name c.args.package.now c.self.invariant
    (c.in_ok-name.ensures.items ∙ c.bytes.ensures.value)
    (subst (λ (x : List Package). ¬ IsHeld x c.args.package.now.name) (sym c.self.view_is) c.requires) in
    let new_one : c.in_ok-insert.field-0 ≡ None = c.in_ok-insert.ensures.old ∙ absent in
    let more = rw new_one at c.in_ok-insert.ensures.len in
    let first = length-map c.insert.new.self.entries (λ e. e.1.value) in
    let second = length-map c.self.inside.packages.entries (λ e. e.1.value) in
    let was = ap (λ (x : List Package). length x) c.self.view_is in
    omega (arith, more, first, second, was)
