-- The simple command as `clap` holds it. No public clause cites it.
use Rattle.std.specs.Prelude.{◌≡◌, List, [], true, false, codes, map}
use Rattle.std.specs.List.{All}
use Rattle.clap.specs.Built.{AddsArg, AddsInTurn, FitsChain, IsPlainArg}
use Rattle.clap.specs.Facts.{args_of, groups_of}
use Rattle.clap.specs.Simple.{app_of, new_app}
use Rattle.clap.specs.Walk.{Rule, rule_of}
use Rattle.clap.specs.declared.builder.arg.Arg.{Arg}
use Rattle.clap.specs.declared.builder.command.Command.{Command}
use Rattle.clap.specs.declared.builder.command.Command.TheViews.{out-Command}
use Rattle.clap.specs.Built.{IsParsedFrom}
use Rattle.clap.specs.declared.parser.matches.ArgMatches.{ArgMatches}
use Rattle.dist_words.specs.Clap.{simple_command}

-- the argument of a rule, plain and not global
pub record IsArg (a : Arg) (rule : Rule) : Type 0 where
  pub rule_is : rule_of a ≡ rule
  pub plain : IsPlainArg a
  pub not_global : a.global ≡ false

-- a command without arguments, whose words stand after the program's name, and which has neither a help nor a version
-- flag
pub record IsStart (start : Command) : Type 0 where
  pub app : app_of start ≡ record {
    top = record (new_app (codes "distfuture")).top {
      no_binary_name = true;
      disable_help_flag = true;
      disable_version_flag = true;
    };
    subs = [];
  }
  pub no_arguments : args_of start ≡ []
  pub no_groups : groups_of start ≡ []
  pub no_globals : (out-Command start).has_globals ≡ false
  pub no_negation : (out-Command start).subcommand_negates_reqs ≡ false

-- the command has the arguments of the simple command, added one after another to a command without any
pub record IsSimpleCommand (command : Command) : Type 0 where
  pub app : app_of command ≡ simple_command
  pub start : Command
  pub arguments : List Arg
  pub chain : AddsInTurn AddsArg start arguments command
  pub no_arguments : args_of start ≡ []
  pub no_groups : groups_of start ≡ []
  pub no_globals : (out-Command start).has_globals ≡ false
  pub no_negation : (out-Command start).subcommand_negates_reqs ≡ false
  pub fit : All FitsChain arguments
  pub rules : map rule_of arguments ≡ simple_command.top.rules

-- the matches are of a parse by the simple command
pub record IsMatched (matches : ArgMatches) : Type 0 where
  pub command : Command
  pub simple : IsSimpleCommand command
  pub parsed : IsParsedFrom command matches
