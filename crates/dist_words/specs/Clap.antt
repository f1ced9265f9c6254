-- What `clap` makes of the words: one simple command, with a positional `command`, a last positional `files` of several
-- values, four options that take a number, one that takes a text, and a flag. It has neither a help nor a version flag.
use Rattle.std.specs.Prelude.{ℕ, Bool, true, List, [], ◌∷◌, Option, Some, codes, option_map, unwrap_or, pos}
use Rattle.std.specs.Str.{bytes_eq}
use Rattle.std.specs.Str.Parse.{digits_value, without_leading_plus}
use Rattle.clap.specs.Simple.{App, matches_of, new_rule, new_shape}
use Rattle.clap.specs.Walk.{Row, Rule, Text, all_of, first_of, one_of}
use Rattle.clap.specs.declared.builder.action.ArgAction.TheVariants.{Set, Append, SetTrue}
use Rattle.clap.specs.declared.builder.value_parser.ValueParser.TheVariants as values
use Rattle.dist_base.specs.declared.TheConstants.{MAX_LIMIT, MAX_SIZE}
use Rattle.dist_base.specs.declared.TheConstants.{MAX_MOST}

-- an option that takes a number within bounds
abbrev pub number_option : Text → (least greatest : ℕ) → Rule
number_option name least greatest = record (new_rule name) {
  long = Some name;
  action = Some Set;
  parser = Some (values.Signed (pos least) (pos greatest));
}

abbrev pub command_rule : Rule
command_rule = record (new_rule (codes "command")) { required = true; action = Some Set }

abbrev pub files_rule : Rule
files_rule = record (new_rule (codes "files")) { action = Some Append }

abbrev pub essential_rule : Rule
essential_rule = record (new_rule (codes "essential")) {
  long = Some (codes "essential");
  action = Some SetTrue;
  parser = Some values.Bool;
}

abbrev pub package_rule : Rule
package_rule = record (new_rule (codes "package")) { long = Some (codes "package"); action = Some Set }

-- the simple command. Its words stand after the program's name.
abbrev pub simple_command : App
simple_command = record {
  top = record (new_shape (codes "distfuture")) {
    rules = command_rule ∷ files_rule ∷ number_option (codes "limit") 1 MAX_LIMIT
        ∷ number_option (codes "size") 1 MAX_SIZE
        ∷ number_option (codes "seed") 0 4294967295 ∷ essential_rule ∷ package_rule
        ∷ number_option (codes "most") 0 MAX_MOST ∷ [];
    no_binary_name = true;
    disable_help_flag = true;
    disable_version_flag = true;
  };
  subs = [];
}

-- ---- the words as they were taken

-- the numbers of the options that stand, the text that names a package, and whether the flag stands
pub record Options : Type 0 where
  pub limit : Option ℕ
  pub size : Option ℕ
  pub seed : Option ℕ
  pub named : Option Text
  pub most : Option ℕ
  pub essential : Bool

-- a command's word, the names of files, and the options
pub record Taken : Type 0 where
  pub command : Option Text
  pub files : List Text
  pub options : Options

-- the number of an option that stands
abbrev pub option_number : Text → List Row → Option ℕ
option_number name rows = option_map (λ text. digits_value 10 (without_leading_plus text)) (one_of name rows)

abbrev pub options_of : List Row → Options
options_of rows = record {
  limit = option_number (codes "limit") rows;
  size = option_number (codes "size") rows;
  seed = option_number (codes "seed") rows;
  named = first_of (codes "package") rows;
  most = option_number (codes "most") rows;
  essential = bytes_eq (unwrap_or (one_of (codes "essential") rows) []) (codes "true");
}

abbrev pub taken_of : List Row → Taken
taken_of rows = record {
  command = first_of (codes "command") rows;
  files = unwrap_or (all_of (codes "files") rows) [];
  options = options_of rows;
}

-- the words as `clap` states that it matches them, where it takes them
abbrev pub taken : List Text → Taken
taken words = taken_of (matches_of simple_command words)
