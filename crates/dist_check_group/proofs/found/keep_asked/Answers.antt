use Rattle.std.proofs.Common.{rules}
use Rattle.std.proofs.lemmas.Fn.{filter_same}
use Rattle.dist_check_group.specs.FoundPrivate.{is_asked}
use Rattle.dist_check_group.proofs.found.keep_asked.Goals as goal

pub returns : goal.returns
returns c = filter_same _ (is_asked c.args.layout.now c.args.found.now c.args.variable) _ (λ x b f' k. search rules) _ _ c.retain.ensures.filtered
