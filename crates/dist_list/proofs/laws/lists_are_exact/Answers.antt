use Rattle.dist_list.proofs.Lists.{NamesSet-one, NamesSet-not_bad, IsBadAt-one}
use Rattle.dist_list.proofs.laws.lists_are_exact.Goals as goal

pub returns : goal.returns
returns c = λ packages text. record {
  one_set = NamesSet-one packages text;
  one_bad_line = IsBadAt-one packages text;
  never_both = NamesSet-not_bad packages text;
}
