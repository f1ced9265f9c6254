use Rattle.dist_derive.proofs.SettledLaws.{true_settles, two_settle, unit_stays}
use Rattle.dist_derive.proofs.SweepLemmas.{open_propagated}
use Rattle.dist_derive.proofs.laws.what_settles_a_clause.Goals as goal

pub returns : goal.returns
returns c = record {
  true_literal = true_settles;
  two_literals = two_settle;
  neither = λ trues clause not_false not_unit. open_propagated trues clause (not_false, not_unit);
  unit_stays = unit_stays;
}
