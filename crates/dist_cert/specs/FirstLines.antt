-- First lines of files: a front, and numbers.
use Rattle.std.specs.Prelude.{◌≢◌, ℕ, List, ◌++◌, All}
use Rattle.dist_cert.specs.Form.{IsSmall, plains, words_text}

-- the front, and the numbers, each behind one space
abbrev pub first_line : (front : List ℕ) → (numbers : List ℕ) → List ℕ
first_line front numbers = front ++ words_text (plains numbers)

-- the line has not this front, or no numbers behind it
abbrev pub HasNoNumbers : (front : List ℕ) → (line : List ℕ) → Type 0
HasNoNumbers front line = (numbers : List ℕ) → All IsSmall numbers → line ≢ first_line front numbers
