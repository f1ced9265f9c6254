use Rattle.std.proofs.Common.{◌<◌, ◌∙◌, List, ℕ, ap, filter, subst, sym}
use Rattle.std.proofs.lemmas.List.Kept.{AllPairs-filter}
use Rattle.dist_cert.specs.Rising.{AreRising, is_among}
use Rattle.dist_check_group.proofs.numbers.narrow.Goals as goal

pub returns-in-Some-clause-rising : goal.returns-in-Some-clause-rising
returns-in-Some-clause-rising c =
    let test = is_among c.args.others.now in
    let kept = c.from_vec-in-Some.ensures ∙ c.keep_common.ensures ∙ ap (λ (xs : List ℕ). filter test xs) c.into_vec-kept.ensures in
    subst AreRising (sym kept) (AllPairs-filter (λ a b. a < b) test c.in-Some.common (c.requires.common c.in-Some.common c.in-Some.is))
