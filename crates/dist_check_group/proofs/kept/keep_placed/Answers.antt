use Rattle.std.proofs.Common.{◌<◌, rules, subst, sym}
use Rattle.std.proofs.lemmas.Fn.{filter_same}
use Rattle.std.proofs.lemmas.List.Kept.{AllPairs-filter}
use Rattle.dist_cert.specs.Rising.{AreRising, is_among}
use Rattle.dist_check_group.specs.KeptPrivate.{true_places}
use Rattle.dist_check_group.proofs.kept.keep_placed.Goals as goal

pub returns-clause-kept : goal.returns-clause-kept
returns-clause-kept c = filter_same _ (is_among (true_places c.args.row.now)) _ (λ x b f' k. search rules) _ _ c.retain.ensures.filtered

pub returns-clause-rising : goal.returns-clause-rising
returns-clause-rising c =
    subst AreRising (sym (filter_same _ (is_among (true_places c.args.row.now)) _ (λ x b f' k. search rules) _ _ c.retain.ensures.filtered))
    (AllPairs-filter (λ a b. a < b) (is_among (true_places c.args.row.now)) c.args.numbers.now.items c.requires)
