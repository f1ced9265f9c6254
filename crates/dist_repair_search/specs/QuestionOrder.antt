-- Which questions the search for a repair asks.
use Rattle.std.specs.Prelude.{◌⊎◌, ℕ, ◌≤◌, List, Contains}
use Rattle.dist_cert.specs.Form.{Word}
use Rattle.dist_cert.specs.declared.records.CertRecord.{CertRecord}
use Rattle.dist_cert.specs.declared.records.CertRecord.TheVariants.{Question}
use Rattle.dist_line_write.specs.Script.{Asks}
use Rattle.dist_repair.specs.Answered.{Asked, AsksAlone, AsksAt}
use Rattle.dist_repair.specs.RepairFiles.{asked_by}
use Rattle.dist_space.specs.Space.{SpaceView}

-- no question of which this holds was opened
abbrev pub WasNotAsked : (List Word → Type 0) → (before : List CertRecord) → Type 0
WasNotAsked IsSuch before = (question : List Word) → Contains before (Question question) → ¬ IsSuch question

-- It is the question of the package alone, or the one at j, for a j up to the most; and it was not opened before, the
-- one at j in neither order.
abbrev pub IsRepairQuestion : SpaceView → Asked → (before : List CertRecord) → (question : List Word) → Type 0
IsRepairQuestion s asked before question = (AsksAlone s asked question × WasNotAsked (AsksAlone s asked) before)
    ⊎ ((j : ℕ) × (j ≤ asked.most) × AsksAt s asked j question × WasNotAsked (AsksAt s asked j) before)

-- the questions of a file with a first line of these numbers
abbrev pub repair_asks : SpaceView → (numbers : List ℕ) → Asks
repair_asks s numbers = IsRepairQuestion s (asked_by numbers)
