-- What the lines behind a first line find, one after another.
use Rattle.std.specs.Prelude.{◌<◌, List, [], ◌∷◌, ◌++◌, Option, Some, None, AllPairs}
use Rattle.dist_cert.specs.declared.records.CertRecord.{CertRecord}
use Rattle.dist_cert.specs.declared.records.CertRecord.TheVariants.{Question, Derived, Refuted, Installation, Undecided}
use Rattle.dist_cert.specs.Form.{Word, AreFromOne, AreLiterals}
use Rattle.dist_findings.specs.declared.finding.Finding.{Finding}
use Rattle.dist_findings.specs.declared.finding.Finding.TheVariants as finding

-- the question that is open behind a line
abbrev pub open_behind : Option (List Word) → CertRecord → Option (List Word)
open_behind asked (Question literals) = Some literals
open_behind asked (Derived literals hints) = asked
open_behind asked (Installation variables) = asked
open_behind asked step = None

-- What the line finds: an installation, or that the open question is refuted or left undecided.
abbrev pub found_at : Option (List Word) → CertRecord → List Finding
found_at (Some question) (Refuted hints) = finding.Refuted question ∷ []
found_at (Some question) Undecided = finding.LeftUndecided question ∷ []
found_at asked (Installation variables) = finding.Installed variables ∷ []
found_at asked step = []

-- what lines find where this question, or none, is open before them
unfoldable pub findings_behind : Option (List Word) → List CertRecord → List Finding
findings_behind asked [] = []
findings_behind asked (step ∷ steps) = found_at asked step ++ findings_behind (open_behind asked step) steps

-- what the lines behind a first line find
abbrev pub findings : List CertRecord → List Finding
findings steps = findings_behind None steps

-- A question names no variable twice, and the variables of an installation rise.
abbrev pub IsFormed : Finding → Type 0
IsFormed (finding.Refuted question) = AreLiterals question
IsFormed (finding.LeftUndecided question) = AreLiterals question
IsFormed (finding.Installed variables) = AreFromOne variables × AllPairs (λ v w. v < w) variables
