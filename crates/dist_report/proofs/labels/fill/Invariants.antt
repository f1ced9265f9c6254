use Rattle.std.proofs.Common.{◌≡◌, map, take}
use Rattle.dist_report.specs.PackageText.{label}
use Rattle.dist_report.proofs.labels.fill.Given as goal

abbrev pub invariant-loop-number : goal.invariant-loop-number
invariant-loop-number l = l.texts ≡ map label (take l.number l.repo.packages)
