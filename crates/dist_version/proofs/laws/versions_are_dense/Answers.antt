use Rattle.dist_version.specs.Between.{above_text, below_text}
use Rattle.dist_version.specs.TextLaws.{no_fault_from_version, version_from_no_fault}
use Rattle.dist_version.proofs.Density.{above, above_sound, below_greater, below_is_below, below_sound}
use Rattle.dist_version.proofs.laws.versions_are_dense.Goals as goal

pub returns-clause-above : goal.returns-clause-above
returns-clause-above c = λ text tildes version.
    let sound = no_fault_from_version text version in
    (version_from_no_fault (above_text text tildes) (above_sound text tildes sound), above text tildes sound)

pub returns-clause-between : goal.returns-clause-between
returns-clause-between c = λ text other tildes version. below_greater text other tildes (no_fault_from_version text version)

pub returns-clause-below : goal.returns-clause-below
returns-clause-below c = λ text. (version_from_no_fault (below_text text) (below_sound text), below_is_below text)
