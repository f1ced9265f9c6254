-- The table of the commands: for each word the number of files and the options that may stand with it.
--
--   command          files                    options
--   health           PACKAGES LIST            none
--   classes          PACKAGES                 none
--   strong           PACKAGES CERT            --limit, --essential
--   outdated         PACKAGES CERT            --limit, --essential
--   challenged       PACKAGES CERT            --limit, --essential
--   check            PACKAGES CERT            none
--   check-explain    PACKAGES CERT            none
--   explain          PACKAGES CERT            --package, needed, and --limit
--   check-repair     PACKAGES CERT            none
--   repair           PACKAGES CERT            --package, needed, --most and --limit
--   try              none                     --size and --seed, both needed
--   steps            PACKAGES LATER           none
--   follow           PACKAGES CERT JOURNAL    none
use Rattle.std.specs.Prelude.{◌≡◌, ℕ, ◌&&◌, Bool, not, List, [], ◌∷◌, Option, Some, None, is_some, if◌then◌else◌, codes}
use Rattle.std.specs.Prelude.{option_and_then, unwrap_or}
use Rattle.std.specs.Str.{bytes_eq}
use Rattle.dist_base.specs.declared.TheConstants.{DEFAULT_LIMIT}
use Rattle.dist_cert.specs.Form.{kind_text}
use Rattle.dist_cert.specs.declared.records.CertKind.{CertKind}
use Rattle.dist_cert.specs.declared.records.CertKind.TheVariants.{Strong, Outdated, Challenged}
use Rattle.clap.specs.Walk.{Text, is_empty}
use Rattle.clap.specs.Faults.{fault_of}
use Rattle.dist_words.specs.declared.TheConstants.{DEFAULT_MOST}
use Rattle.dist_words.specs.Clap.{Options, Taken, simple_command, taken}
use Rattle.dist_words.specs.CommandLine.{CommandLine, Health, Classes, Sweep, Check, CheckExplain, Explain}
use Rattle.dist_words.specs.CommandLine.{CheckRepair, Repair, Try, Steps, Follow}

-- ---- options

-- neither a size nor a seed stands
abbrev pub has_no_seed : Options → Bool
has_no_seed options = not (is_some options.size) && not (is_some options.seed)

-- neither a limit nor the flag stands
abbrev pub has_no_limit : Options → Bool
has_no_limit options = not (is_some options.limit) && not options.essential

-- no package is named, and nothing is counted
abbrev pub names_none : Options → Bool
names_none options = not (is_some options.named) && not (is_some options.most)

-- no option stands
abbrev pub has_no_option : Options → Bool
has_no_option options = has_no_seed options && (has_no_limit options && names_none options)

-- ---- files

-- a command of one file
abbrev pub with_one : (Text → CommandLine) → List Text → Option CommandLine
with_one command (first ∷ []) = Some (command first)
with_one command files = None

-- a command of two files
abbrev pub with_two : (Text → Text → CommandLine) → List Text → Option CommandLine
with_two command (first ∷ second ∷ []) = Some (command first second)
with_two command files = None

-- a command of three files
abbrev pub with_three : (Text → Text → Text → CommandLine) → List Text → Option CommandLine
with_three command (first ∷ second ∷ third ∷ []) = Some (command first second third)
with_three command files = None

-- a command of no file
abbrev pub with_none : Option CommandLine → List Text → Option CommandLine
with_none command [] = command
with_none command files = None

-- ---- the table

-- a line of the table, where its options allow it
abbrev pub where_allowed : Bool → Option CommandLine → Option CommandLine
where_allowed allowed line = if allowed then line else None

-- a row of the table: the command's word, which options may stand with it, and the command of its files and options
pub record Row : Type 0 where
  pub word : Text
  pub allows : Options → Bool
  pub command : List Text → Options → Option CommandLine

-- a command that takes no option
abbrev pub plain_row : Text → (List Text → Option CommandLine) → Row
plain_row word command = record { word = word; allows = has_no_option; command = λ files options. command files }

-- a sweep of a kind by the kind's word, with the limit of a question that its options give, or where they give none
abbrev pub sweep_row : CertKind → Row
sweep_row kind = record {
  word = kind_text kind;
  allows = λ options. has_no_seed options && names_none options;
  command = λ files options. with_two (λ packages cert.
      Sweep kind packages cert options.essential (unwrap_or options.limit DEFAULT_LIMIT)) files;
}

-- a command on the package that its options name, if they name one
abbrev pub explain_row : Row
explain_row = record {
  word = codes "explain";
  allows = λ options. has_no_seed options && (not options.essential && not (is_some options.most));
  command = λ files options. option_and_then (λ named. with_two (λ packages cert.
      Explain packages cert named (unwrap_or options.limit DEFAULT_LIMIT)) files) options.named;
}

-- and one that counts clusters, up to 8 where no option says it
abbrev pub repair_row : Row
repair_row = record {
  word = codes "repair";
  allows = λ options. has_no_seed options && not options.essential;
  command = λ files options. option_and_then (λ named. with_two (λ packages cert.
      Repair packages cert named (unwrap_or options.most DEFAULT_MOST) (unwrap_or options.limit DEFAULT_LIMIT))
      files) options.named;
}

-- with a size and a seed
abbrev pub seeded : Option ℕ → Option ℕ → Option CommandLine
seeded (Some size) (Some seed) = Some (Try size seed)
seeded size seed = None

abbrev pub try_row : Row
try_row = record {
  word = codes "try";
  allows = λ options. has_no_limit options && names_none options;
  command = λ files options. with_none (seeded options.size options.seed) files;
}

abbrev pub table : List Row
table =
    plain_row (codes "health") (with_two Health)
    ∷ plain_row (codes "classes") (with_one Classes)
    ∷ sweep_row Strong
    ∷ sweep_row Outdated
    ∷ sweep_row Challenged
    ∷ plain_row (codes "check") (with_two Check)
    ∷ plain_row (codes "check-explain") (with_two CheckExplain)
    ∷ explain_row
    ∷ plain_row (codes "check-repair") (with_two CheckRepair)
    ∷ repair_row
    ∷ try_row
    ∷ plain_row (codes "steps") (with_two Steps)
    ∷ plain_row (codes "follow") (with_three Follow)
    ∷ []

-- a row's command, where the options may stand with it
abbrev pub row_command : Row → List Text → Options → Option CommandLine
row_command row files options = where_allowed (row.allows options) (row.command files options)

-- the command of the first row with a word
abbrev pub looked_up : List Row → Text → List Text → Options → Option CommandLine
looked_up [] word files options = None
looked_up (row ∷ rows) word files options =
    if bytes_eq word row.word then row_command row files options else looked_up rows word files options

-- the command of the words, by its name
abbrev pub in_table : Text → List Text → Options → Option CommandLine
in_table word files options = looked_up table word files options

-- the command that the table has for what was taken
abbrev pub accepted : Taken → Option CommandLine
accepted t = in_table (unwrap_or t.command []) t.files t.options

-- The command of the words: what `clap` states that it matches, accepted by the table. There is none where `clap`
-- states that it refuses the words, or the table has none.
unfoldable pub command_of : List Text → Option CommandLine
command_of words = if is_empty (fault_of simple_command words) then accepted (taken words) else None

-- the words are of no command
abbrev pub IsBadWords : List Text → Type 0
IsBadWords words = command_of words ≡ None
