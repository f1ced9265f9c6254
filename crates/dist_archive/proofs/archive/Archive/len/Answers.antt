use Rattle.std.proofs.Common.{ap, arith, length}
use Rattle.dist_archive.specs.Archive.{ArchiveView}
use Rattle.dist_archive.proofs.KeptLemmas.{held-length}
use Rattle.dist_archive.proofs.archive.Archive.len.Goals as goal

pub overflow_add-result : goal.overflow_add-result
overflow_add-result c =
    let all = held-length c.self.inside.space c.self.inside.slots c.self.inside.names c.self.invariant.kept in
    omega (arith, all, c.self.invariant.kept.few, c.filled.ensures, c.len.ensures.value)

pub returns-clause-value : goal.returns-clause-value
returns-clause-value c =
    let all = held-length c.self.inside.space c.self.inside.slots c.self.inside.names c.self.invariant.kept in
    let seen = ap (λ (v : ArchiveView). length v.packages) c.self.view_is in
    omega (arith, all, seen, c.filled.ensures, c.len.ensures.value)
