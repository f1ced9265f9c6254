use Rattle.std.proofs.Common.{sym}
use Rattle.std.proofs.lemmas.Slice.Eq.{bytes_eq-Decides}
use Rattle.dist_version.specs.OrderLaws.{version_cmp-same}
use Rattle.dist_version.proofs.Version.compare.Goals as goal

pub returns-then-eq : goal.returns-then-eq
returns-then-eq c =
    let same = (bytes_eq-Decides c.text.result.now c.text-2.result.now).0 (sym c.if-eq.ensures) in
    version_cmp-same c.args.self.now c.args.other.now cc
