use Rattle.std.proofs.Common.{get_or, ap, ◌∙◌}
use Rattle.dist_derive.specs.OccurrencesPrivate.{OccurrenceLists}
use Rattle.dist_derive.proofs.occurrences.Occurrences.latest.Goals as goal

pub returns : goal.returns
returns c = c.head.ensures ∙ (ap (λ xs. get_or xs c.args.code 0) c.deref.ensures.value
    ∙ ap (λ (o : OccurrenceLists). get_or o.heads c.args.code 0) c.self.view_is)
