use Rattle.std.proofs.Common.{ap, sym, ◌∙◌, nat_cmp}
use Rattle.std.specs.Cmp.Lexicographic.{slice_cmp}
use Rattle.dist_repo.proofs.PrefixLemmas.{prefixes-decide}
use Rattle.dist_repo.proofs.name_key.NameKeyOrd.cmp.Goals as goal

pub returns-then-is_ne : goal.returns-then-is_ne
returns-then-is_ne c =
    let a = c.self.inside.name.now in
    let b = c.other.inside.name.now in
    prefixes-decide c.self.inside.prefix c.other.inside.prefix a b c.cmp-by_prefix.result c.self.invariant c.other.invariant c.cmp-by_prefix.ensures
    (sym c.is_ne.ensures ∙ c.if-is_ne.true)
    ∙ ap (λ x. slice_cmp nat_cmp x b) c.self.view_is ∙ ap (slice_cmp nat_cmp c.args.self.now) c.other.view_is
