use Rattle.std.proofs.Common.{◌==◌, ◌||◌, ap, ◌∙◌, List, ℕ}
use Rattle.dist_cert.specs.Rising.{is_among}
use Rattle.dist_check_group.proofs.SetLemmas.{among-insert}
use Rattle.dist_check_group.proofs.number_set.NumberSet.add.Goals as goal

pub returns : goal.returns
returns c = λ q. ap (λ (ks : List ℕ). is_among ks q) c.in_ok-insert.ensures.keys ∙ among-insert c.args.number c.self.inside.numbers.keys q
    ∙ ap (λ (ks : List ℕ). (q == c.args.number) || is_among ks q) c.self.view_is
