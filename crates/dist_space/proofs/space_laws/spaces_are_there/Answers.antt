use Rattle.dist_space.proofs.SomeSpace.{some-space}
use Rattle.dist_space.proofs.space_laws.spaces_are_there.Goals as goal

pub returns : goal.returns
returns c = λ r essential flat bounds versions. some-space (record {
  partition = c.partitions_are_one.ensures.there;
  one_cluster = c.partitions_are_one.ensures.one_cluster;
  tops = c.tops_are_one.ensures.there;
  classes = c.classes_are_there.ensures.cluster;
  name_classes = c.classes_are_there.ensures.name;
  names = c.new_names_are_one.ensures.there;
  some_examples = c.no_class_is_empty.ensures.cluster;
  some_name_examples = c.no_class_is_empty.ensures.name;
}) r bounds versions essential flat
