-- The stage that reads a file.
use Rattle.std.specs.Prelude.{◌≡◌, ℕ, List, Option}
use Rattle.dist_outside.specs.Files.{Files, IsLonger}
use Rattle.dist_outside.specs.Reading.{IsWhole}
use Rattle.dist_outside.specs.declared.trouble.What.TheVariants.{Bytes}
use Rattle.dist_commands.specs.Stages.{Step, Goes, Ends, refused}
use Rattle.dist_commands.specs.declared.refusal.Refusal.TheVariants.{TooLarge}

-- The bytes of a file, within the limit. Where the desk does not tell its files, they are some bytes.
abbrev pub TextStage : Option Files → (name : List ℕ) → (limit : ℕ) → Step (List ℕ) → Type 0
TextStage files name limit (Goes text) = IsWhole files name limit text
TextStage files name limit (Ends ending) = IsLonger files name limit × (ending ≡ refused files (TooLarge Bytes))
