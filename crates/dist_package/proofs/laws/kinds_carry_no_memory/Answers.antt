use Rattle.dist_package.proofs.Memory.{version-free, carries-none}
use Rattle.dist_package.proofs.laws.kinds_carry_no_memory.Goals as goal

pub returns : goal.returns
returns c raws limit fault first =
    carries-none c.texts_are_exact.ensures.memory
    (λ value error has. version-free _ error (c.faults_come.ensures.depends value error has))
    (λ value error has. version-free _ error (c.faults_come.ensures.atoms value error has))
    (λ value error has. version-free _ error (c.faults_come.ensures.provides value error has)) raws limit fault first
