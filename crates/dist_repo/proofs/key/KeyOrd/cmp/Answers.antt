use Rattle.std.proofs.Common.{◌≡◌, ap, sym, ◌∙◌, true}
use Rattle.std.specs.Ordering.{is_ne, ordering_then}
use Rattle.dist_version.specs.Order.{version_cmp}
use Rattle.dist_repo.specs.Order.{package_cmp}
use Rattle.dist_repo.specs.declared.package.Package.{Package}
use Rattle.dist_repo.proofs.PrefixLemmas.{prefixes-decide, then-decided}
use Rattle.dist_repo.proofs.key.KeyOrd.cmp.Goals as goal

pub returns-then-is_ne : goal.returns-then-is_ne
returns-then-is_ne c =
    let p : Package = c.self.inside.package.value in
    let q : Package = c.other.inside.package.value in
    let o = c.cmp-by_prefix.result in
    let rest = version_cmp p.version q.version in
    let decided : is_ne o ≡ true = sym c.is_ne.ensures ∙ c.if-is_ne.true in
    let by_name = prefixes-decide c.self.inside.prefix c.other.inside.prefix p.name q.name o c.self.invariant c.other.invariant c.cmp-by_prefix.ensures
    decided in
    sym (then-decided o rest decided) ∙ ap (λ x. ordering_then x rest) by_name ∙ ap (λ x. package_cmp x q) c.self.view_is
    ∙ ap (package_cmp c.args.self.now) c.other.view_is
