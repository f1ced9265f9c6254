use Rattle.std.proofs.Common.{rules}
use Rattle.std.proofs.lemmas.Fn.{filter_same}
use Rattle.dist_cert.specs.Rising.{is_among}
use Rattle.dist_check_group.proofs.numbers.keep_common.Goals as goal

pub returns : goal.returns
returns c = filter_same _ (is_among c.args.others.now) _ (λ x b f' k. search rules) _ _ c.retain.ensures.filtered
