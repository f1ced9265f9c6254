use Rattle.std.proofs.Common.{◌<◌, rules, subst, sym}
use Rattle.std.proofs.lemmas.Fn.{filter_same}
use Rattle.std.proofs.lemmas.List.Kept.{AllPairs-filter}
use Rattle.dist_cert.specs.Rising.{AreRising, is_among}
use Rattle.dist_check_group.proofs.kept.keep_those_of.Goals as goal

pub returns-clause-kept : goal.returns-clause-kept
returns-clause-kept c = filter_same _ (is_among c.args.others.now) _ (λ x b f' k. search rules) _ _ c.retain.ensures.filtered

pub returns-clause-rising : goal.returns-clause-rising
returns-clause-rising c = λ rising.
    subst AreRising (sym (filter_same _ (is_among c.args.others.now) _ (λ x b f' k. search rules) _ _ c.retain.ensures.filtered))
    (AllPairs-filter (λ a b. a < b) (is_among c.args.others.now) c.args.numbers.now.items rising)
