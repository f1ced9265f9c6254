-- How a journal is cut, part by part. No public clause cites it.
use Rattle.std.specs.Prelude.{◌≡◌, ◌≢◌, ◌⊎◌, ℕ, ◌+◌, ◌<◌, true, false, List, [], ◌∷◌, ◌++◌, Option, None, Some, All}
use Rattle.std.specs.Prelude.{MatchOption, length}
use Rattle.std.specs.Borrow.{Bor}
use Rattle.dist_control.specs.Lines.{lines, IsCutAtLine}
use Rattle.dist_journal.specs.Journal.{AreBlank, IsFirstStray, Says, SayNothing, front, is_step_line, words}
use Rattle.dist_journal.specs.declared.step_line.StepLine.{StepLine}
use Rattle.dist_journal.specs.declared.step_line.Words.{Words}
use Rattle.dist_journal.specs.declared.step_line.Words.TheVariants as words_of

-- the next of these lines, if there is one, is a step line
abbrev pub IsAtStep : List (List ℕ) → Type 0
IsAtStep [] = Unit {0}
IsAtStep (line ∷ rest) = is_step_line line ≡ true

-- a text begins with a line that is no step line, and this comes after it
pub record IsLineInFront (text after : List ℕ) : Type 0 where
  pub line : List ℕ
  pub no_step : is_step_line line ≡ false
  pub pieces : lines text ≡ line ∷ lines after
  pub cut : IsCutAtLine text line after
  pub shorter : length after < length text

-- a text ends where its last line does, whatever comes after it
abbrev pub EndsLine : (text : List ℕ) → Type 0
EndsLine text = (more : List ℕ) → lines (text ++ more) ≡ lines text ++ lines more

-- lines are cut into the front of those that are no step lines, and the rest
pub record IsCutAfter (all block rest : List (List ℕ)) : Type 0 where
  pub pieces : all ≡ block ++ rest
  pub is_front : front all ≡ block
  pub at_step : IsAtStep rest

-- where the front of lines that are no step lines is found so far, with this many lines
pub record IsCutTo (text rest : List ℕ) (count : ℕ) : Type 0 where
  pub done : List ℕ
  pub split : text ≡ done ++ rest
  pub no_steps : All (λ line. is_step_line line ≡ false) (lines done)
  pub count_is : count ≡ length (lines done)
  pub whole : (rest ≡ []) ⊎ EndsLine done

-- what is found of the first of some lines that is not blank, where the first of all has this number
abbrev pub IsStrayAt : (number : ℕ) → List (List ℕ) → Option ℕ → Type 0
IsStrayAt number block found = MatchOption found (AreBlank block) (IsFirstStray number block)

-- where all lines so far are blank
pub record IsBlankTo (number : ℕ) (block rest : List (List ℕ)) (place : ℕ) : Type 0 where
  pub before : List (List ℕ)
  pub pieces : block ≡ before ++ rest
  pub blank : AreBlank before
  pub place_is : place ≡ number + length before

-- ---- words

-- the words of a text with this one first, and after a space those of what comes then
abbrev pub with_more : (first : List ℕ) → Option (Bor (List ℕ)) → List (List ℕ)
with_more first None = first ∷ []
with_more first (Some rest) = first ∷ words rest.now

-- the words of a line are two, three or four, or of another number
abbrev pub AreWords : List (List ℕ) → Words → Type 0
AreWords list (words_of.Two first second) = list ≡ first.now ∷ second.now ∷ []
AreWords list (words_of.Three first second third) = list ≡ first.now ∷ second.now ∷ third.now ∷ []
AreWords list (words_of.Four first second third fourth) =
    list ≡ first.now ∷ second.now ∷ third.now ∷ fourth.now ∷ []
AreWords list words_of.Other = (length list ≢ 2) × (length list ≢ 3) × (length list ≢ 4)

-- what is read of words
abbrev pub IsSaid : (words : List (List ℕ)) → Option StepLine → Type 0
IsSaid words said = MatchOption said (SayNothing words) (Says words)
