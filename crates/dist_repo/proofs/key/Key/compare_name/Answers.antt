use Rattle.std.proofs.Common.{ap, sym, ◌∙◌, nat_cmp}
use Rattle.std.specs.Cmp.Lexicographic.{slice_cmp}
use Rattle.dist_repo.specs.declared.package.Package.{Package}
use Rattle.dist_repo.proofs.PrefixLemmas.{prefixes-decide}
use Rattle.dist_repo.proofs.key.Key.compare_name.Goals as goal

pub returns-then-is_ne : goal.returns-then-is_ne
returns-then-is_ne c =
    prefixes-decide c.self.inside.prefix c.args.prefix c.self.inside.package.value.name c.args.name.now c.cmp-by_prefix.result c.self.invariant c.requires
    c.cmp-by_prefix.ensures (sym c.is_ne.ensures ∙ c.if-is_ne.true)
    ∙ ap (λ (p : Package). slice_cmp nat_cmp p.name c.args.name.now) c.self.view_is
