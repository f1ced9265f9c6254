use Rattle.std.proofs.Common.{List, ℕ, refl, subst}
use Rattle.dist_repo.specs.Providers.{AreProviders}
use Rattle.dist_classes.proofs.FreshLemmas.{unprovided, empty-iff}
use Rattle.dist_classes.proofs.fresh_names.is_fresh.Goals as goal

pub returns-then-usable : goal.returns-then-usable
returns-then-usable c =
    let r = c.args.repo.now in
    let name = c.args.atom.now.name in
    let numbers = c.providers.result.now in
    let Of : List ℕ → Type 0 = λ n. AreProviders r n numbers in
    let none = unprovided r name numbers (subst Of c.bytes.ensures.value c.providers.ensures) in
    let empty = empty-iff c.is_empty.result numbers c.is_empty.ensures in
    ((λ holds. (c.usable.ensures.0 c.if-usable.true, refl, none.0 (empty.0 holds))), λ fresh. empty.1 (none.1 fresh.2))
