use Rattle.std.proofs.Common.{◌∙◌, ap, arith}
use Rattle.std.specs.List.{flat_map}
use Rattle.std.proofs.lemmas.List.{take_all}
use Rattle.dist_bench.specs.Versions.{version_line}
use Rattle.dist_bench.proofs.versions.text_of.Goals as goal

pub returns : goal.returns
returns c = c.loop-version.invariant ∙ ap (λ list. flat_map version_line list) (take_all c.loop-version.version-index c.args.versions.now (omega arith))
