-- The commands, with what their words say.
use Rattle.std.specs.Prelude.{ℕ, List, Bool}
use Rattle.dist_cert.specs.declared.records.CertKind.{CertKind}

-- A command with the names of its files and its options: what a sweep is for, how many derived lines leave a question
-- undecided, whether every installation has the essential names, the text that names a package, to how many clusters is
-- counted, and the size and the seed of an archive that is made.
pub data CommandLine : Type 0 where
  Health : (packages list : List ℕ) → CommandLine
  Classes : (packages : List ℕ) → CommandLine
  Sweep : (kind : CertKind) → (packages cert : List ℕ) → (essential : Bool) → (limit : ℕ) → CommandLine
  Check : (packages cert : List ℕ) → CommandLine
  CheckExplain : (packages cert : List ℕ) → CommandLine
  Explain : (packages cert named : List ℕ) → (limit : ℕ) → CommandLine
  CheckRepair : (packages cert : List ℕ) → CommandLine
  Repair : (packages cert named : List ℕ) → (most limit : ℕ) → CommandLine
  Try : (size seed : ℕ) → CommandLine
  Steps : (packages later : List ℕ) → CommandLine
  Follow : (packages cert journal : List ℕ) → CommandLine
