use Rattle.std.proofs.Common.{sym, subst, ◌∙◌}
use Rattle.dist_version.specs.Order.{version_cmp}
use Rattle.dist_relation.specs.Satisfies.{AllowsOrder}
use Rattle.dist_relation.specs.declared.atom.Op.{Op}
use Rattle.dist_asked.proofs.WithinLemmas.{carried}
use Rattle.dist_asked.proofs.within.meets_too.Goals as goal

pub returns-then-eq : goal.returns-then-eq
returns-then-eq c = λ carries version meets.
    let bound = c.args.bound.now in
    let other = c.args.other.now in
    subst (λ (op : Op). AllowsOrder op (version_cmp version other.version)) (c.eq.ensures.same.0 c.if-eq.true)
    (carried bound.op c.compare.result version bound.version other.version (sym c.compare.ensures) (sym c.carries_over.ensures ∙ carries) meets)
