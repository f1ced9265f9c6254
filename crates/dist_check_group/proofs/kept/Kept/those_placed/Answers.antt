use Rattle.std.proofs.Common.{◌∙◌, List, ℕ, ap, filter}
use Rattle.dist_cert.specs.Rising.{is_among}
use Rattle.dist_check_group.specs.KeptPrivate.{true_places}
use Rattle.dist_check_group.proofs.KeptLemmas.{places-common}
use Rattle.dist_check_group.proofs.kept.Kept.those_placed.Goals as goal

pub returns-clause-value : goal.returns-clause-value
returns-clause-value c =
    let row = c.args.row.now in
    c.keep_placed.ensures.kept ∙ places-common row c.in_ok-common.common.items c.in_ok-common.ensures.rising
    ∙ ap (λ (ns : List ℕ). filter (is_among ns) (true_places row)) c.in_ok-common.ensures.value
