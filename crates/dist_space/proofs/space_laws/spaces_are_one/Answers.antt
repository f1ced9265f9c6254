use Rattle.dist_space.proofs.OneSpace.{one-space}
use Rattle.dist_space.proofs.space_laws.spaces_are_one.Goals as goal

pub returns : goal.returns
returns c = λ r essential s other is_s is_other. one-space (record {
  partition = c.partitions_are_one.ensures.one;
  top = c.tops_are_one.ensures.one;
  cuts = c.cuts_are_one.ensures.cluster;
  name_cuts = c.cuts_are_one.ensures.name;
  names = c.new_names_are_one.ensures.one;
}) r essential s other is_s is_other
