use Rattle.std.proofs.Common.{◌∙◌, List, ℕ, ap}
use Rattle.dist_cert.specs.Rising.{is_among}
use Rattle.dist_check_group.proofs.KeptLemmas.{places-listed}
use Rattle.dist_check_group.proofs.kept.Kept.new.Goals as goal

pub returns : goal.returns
returns c = places-listed c.in_ok-row.row c.args.numbers.items c.requires
    (λ q. c.in_ok-row.ensures.each q ∙ ap (λ (ns : List ℕ). is_among ns q) c.deref-2.ensures.value)
