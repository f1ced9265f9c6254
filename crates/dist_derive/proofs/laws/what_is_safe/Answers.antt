use Rattle.dist_derive.proofs.SafeLaws.{resolvent_safe, same_safe, each_safe, line_safe}
use Rattle.dist_derive.proofs.laws.what_is_safe.Goals as goal

pub returns : goal.returns
returns c = record {
  inputs = λ inputs has closed. closed;
  resolvent = resolvent_safe;
  any_order = same_safe;
  each = each_safe;
  line = line_safe;
}
