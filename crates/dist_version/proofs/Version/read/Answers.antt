use Rattle.std.proofs.Common.{◌∙◌}
use Rattle.dist_version.specs.TextLaws.{version_from_no_fault}
use Rattle.dist_version.proofs.Version.read.Goals as goal

pub returns : goal.returns
returns c = (c.in_ok-keep.ensures ∙ c.in_ok-text.ensures.ok, version_from_no_fault c.args.bytes.now c.in_ok-places.ensures.sound)
