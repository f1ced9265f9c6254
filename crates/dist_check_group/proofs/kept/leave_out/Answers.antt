use Rattle.std.proofs.Common.{◌<◌, rules, subst, sym}
use Rattle.std.proofs.lemmas.Fn.{filter_same}
use Rattle.std.proofs.lemmas.List.Kept.{AllPairs-filter}
use Rattle.dist_check_group.proofs.RuleLemmas.{is_left}
use Rattle.dist_cert.specs.Rising.{AreRising}
use Rattle.dist_check_group.proofs.kept.leave_out.Goals as goal

pub returns-clause-left : goal.returns-clause-left
returns-clause-left c = filter_same _ (is_left c.args.own c.args.others.now) _ (λ x b f' k. search rules) _ _ c.retain.ensures.filtered

pub returns-clause-rising : goal.returns-clause-rising
returns-clause-rising c =
    subst AreRising (sym (filter_same _ (is_left c.args.own c.args.others.now) _ (λ x b f' k. search rules) _ _ c.retain.ensures.filtered))
    (AllPairs-filter (λ a b. a < b) (is_left c.args.own c.args.others.now) c.args.numbers.now.items c.requires.numbers)
