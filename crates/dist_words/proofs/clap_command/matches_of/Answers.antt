use Rattle.std.proofs.Common.{◌≡◌, ◌∙◌, List, [], refl, subst, inl, inr, true, Ok, Err}
use Rattle.clap.specs.Faults.{fault_of, is_simple_and_free}
use Rattle.clap.specs.Kinds.{FailsBy, IsAmong}
use Rattle.clap.specs.Matches.{found_of}
use Rattle.clap.specs.Simple.{App, HasMatchesOf, matches_of}
use Rattle.clap.specs.Values.{kind_of}
use Rattle.clap.specs.Walk.{Text, rows_of}
use Rattle.clap.specs.declared.error.Error.{Error}
use Rattle.clap.specs.declared.error.kind.ErrorKind.TheVariants.{OutOfMemory}
use Rattle.clap.specs.declared.parser.matches.ArgMatches.{ArgMatches}
use Rattle.dist_words.specs.Clap.{simple_command}
use Rattle.dist_words.proofs.clap_command.matches_of.Goals as goal

-- the rows of the matches
rows_are : (app : App) (words : List Text) (m : ArgMatches) → app ≡ simple_command → HasMatchesOf app words m
    → rows_of (found_of m) ≡ matches_of simple_command words
rows_are app words m is has = (subst (λ (a : App). HasMatchesOf a words m) is has refl).0

-- where there are matches, nothing fails
none_fails : (app : App) (words : List Text) (m : ArgMatches) → app ≡ simple_command
    → (is_simple_and_free app ≡ true → FailsBy (fault_of app words) (Ok m)) → fault_of simple_command words ≡ []
none_fails app words m is kinds = subst (λ (a : App). is_simple_and_free a ≡ true → FailsBy (fault_of a words) (Ok m)) is kinds refl

-- where there are none, and memory is there, something fails
some_fails : (app : App) (words : List Text) (e : Error) → app ≡ simple_command
    → (is_simple_and_free app ≡ true → FailsBy {T = ArgMatches} (fault_of app words) (Err e)) → ¬ (kind_of e ≡ OutOfMemory)
    → ¬ (fault_of simple_command words ≡ [])
some_fails app words e is kinds memory none =
    elim (subst (λ (a : App). is_simple_and_free a ≡ true → FailsBy {T = ArgMatches} (fault_of a words) (Err e)) is kinds refl) [
      | inl gone ↦ memory gone
      | inr among ↦ subst (IsAmong (kind_of e)) none among
    ]

pub returns-in-Ok-clause-rows : goal.returns-in-Ok-clause-rows
returns-in-Ok-clause-rows c = rows_are _ _ c.in-Ok.matches c.in_ok-command.ensures.app c.in-Ok.ensures.matches

pub returns-in-Ok-clause-taken : goal.returns-in-Ok-clause-taken
returns-in-Ok-clause-taken c = none_fails _ _ c.in-Ok.matches c.in_ok-command.ensures.app c.in-Ok.ensures.kinds

pub returns-clause-refused : goal.returns-clause-refused
returns-clause-refused c = λ _. some_fails _ _ c.in-Err.error c.in_ok-command.ensures.app c.in-Err.ensures.kinds
    (λ memory. c.in_default.not-OutOfMemory (c.kind.ensures ∙ memory))
