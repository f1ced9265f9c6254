use Rattle.std.proofs.Common.{◌∙◌, List, ℕ, ap}
use Rattle.dist_cert.specs.Rising.{is_among}
use Rattle.dist_check_group.proofs.found.variables_of.Goals as goal

pub returns-clause-value : goal.returns-clause-value
returns-clause-value c = λ v. c.put_in_order.ensures.same v ∙ ap (λ (xs : List ℕ). is_among xs v) c.in_ok-found.ensures
