use Rattle.std.proofs.Common.{◌∙◌, ◌==◌, Bool, List, ℕ, ap, filter, not}
use Rattle.dist_cert.specs.Rising.{is_among}
use Rattle.dist_check_group.specs.KeptPrivate.{true_places}
use Rattle.dist_check_group.proofs.RuleLemmas.{filter-twice}
use Rattle.dist_check_group.proofs.kept.clear_places.Goals as goal

pub returns-clause-cleared : goal.returns-clause-cleared
returns-clause-cleared c =
    let others : ℕ → Bool = λ q. not (is_among c.args.others.now q) in
    c.clear_all.ensures.cleared ∙ ap (λ (ns : List ℕ). filter others ns) c.clear_place.ensures.cleared
    ∙ filter-twice (λ q. not (q == c.args.own)) others (true_places c.args.row.now)
