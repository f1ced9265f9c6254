-- What the code keeps of the words, as the definitions see it.
use Rattle.std.specs.Prelude.{◌≤◌, ℕ, List, map, option_map}
use Rattle.std.specs.Borrow.{Bor}
use Rattle.dist_base.specs.declared.TheConstants.{MAX_LIMIT, MAX_SIZE}
use Rattle.dist_words.specs.Clap.{Options as Chosen}
use Rattle.dist_words.specs.CommandLine.{CommandLine, Health, Classes, Sweep, Check, CheckExplain, Explain}
use Rattle.dist_words.specs.CommandLine.{CheckRepair, Repair, Try, Steps, Follow}
use Rattle.dist_words.specs.declared.command.Command.{Command}
use Rattle.dist_words.specs.declared.command.Command.TheVariants as command
use Rattle.dist_base.specs.declared.TheConstants.{MAX_MOST}
use Rattle.dist_words.specs.declared.taken.Options.{Options}

-- a command
abbrev pub line_of : Command → CommandLine
line_of (command.Health files) = Health files.packages.now files.list.now
line_of (command.Classes packages) = Classes packages.now
line_of (command.Sweep words) = Sweep words.kind words.packages.now words.cert.now words.essential words.limit
line_of (command.Check files) = Check files.packages.now files.cert.now
line_of (command.CheckExplain files) = CheckExplain files.packages.now files.cert.now
line_of (command.Explain words) = Explain words.packages.now words.cert.now words.named.now words.limit
line_of (command.CheckRepair files) = CheckRepair files.packages.now files.cert.now
line_of (command.Repair words) = Repair words.packages.now words.cert.now words.named.now words.most words.limit
line_of (command.Try words) = Try words.size words.seed
line_of (command.Steps files) = Steps files.packages.now files.later.now
line_of (command.Follow files) = Follow files.packages.now files.cert.now files.journal.now

-- a limit of derived lines that may stand
pub record IsLimit (limit : ℕ) : Type 0 where
  pub least : 1 ≤ limit
  pub greatest : limit ≤ MAX_LIMIT

-- a size of an archive that may stand
pub record IsSize (size : ℕ) : Type 0 where
  pub least : 1 ≤ size
  pub greatest : size ≤ MAX_SIZE

-- a command's limit, its size, and the most that it counts to, may stand
abbrev pub HasLimit : Command → Type 0
HasLimit (command.Sweep words) = IsLimit words.limit
HasLimit (command.Explain words) = IsLimit words.limit
HasLimit (command.Repair words) = IsLimit words.limit × (words.most ≤ MAX_MOST)
HasLimit (command.Try words) = IsSize words.size
HasLimit line = Unit {0}

-- the names of files
abbrev pub names : List (Bor (List ℕ)) → List (List ℕ)
names files = map (λ file. file.now) files

-- the options as they were taken
abbrev pub seen : Options → Chosen
seen options = record {
  limit = options.limit;
  size = options.size;
  seed = options.seed;
  named = option_map (λ text. text.now) options.named;
  most = options.most;
  essential = options.essential;
}
