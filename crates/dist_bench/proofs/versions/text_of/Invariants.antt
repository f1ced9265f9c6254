use Rattle.std.proofs.Common.{◌≡◌, take}
use Rattle.std.specs.List.{flat_map}
use Rattle.dist_bench.specs.Versions.{version_line}
use Rattle.dist_bench.proofs.versions.text_of.Given as goal

abbrev pub invariant-loop-version : goal.invariant-loop-version
invariant-loop-version l = l.text.items ≡ flat_map version_line (take l.version-index l.versions)
