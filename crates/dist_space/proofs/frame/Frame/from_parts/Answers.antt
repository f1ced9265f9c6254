use Rattle.std.proofs.Common.{refl}
use Rattle.dist_space.proofs.FrameLemmas.{framed}
use Rattle.dist_space.proofs.frame.Frame.from_parts.Goals as goal

pub invariant_of-result : goal.invariant_of-result
invariant_of-result c =
    let parts = c.args.parts in
    let clustered = parts.clustered in
    let found = c.in-Ok.found in
    record {
      frame = framed c.args.repo c.args.essential clustered.clusters clustered.cluster_of.items found.of_clusters.items parts.names found.of_names.items
          c.requires.flat c.requires.clusters c.requires.numbers c.in-Ok.ensures.clusters c.requires.names c.in-Ok.ensures.names;
      size = c.requires.within_size;
      few_names = c.requires.few;
    }

pub returns-in-Ok : goal.returns-in-Ok
returns-in-Ok c =
    let parts = c.args.parts in
    let clustered = parts.clustered in
    let found = c.in-Ok.found in
    record {
      frame = framed c.args.repo c.args.essential clustered.clusters clustered.cluster_of.items found.of_clusters.items parts.names found.of_names.items
          c.requires.flat c.requires.clusters c.requires.numbers c.in-Ok.ensures.clusters c.requires.names c.in-Ok.ensures.names;
      repository = refl;
      essential_is = refl;
    }
