-- The texts that tell how many there are of a thing, and the number of a text's lines.
use Rattle.std.specs.Prelude.{ℕ, List, ◌++◌, ◌==◌, codes, decimal, filter, length}

-- so many of these
abbrev pub counted : ℕ → List ℕ → List ℕ
counted number things = decimal number ++ things

-- the line feeds of a text
abbrev pub line_feeds : List ℕ → ℕ
line_feeds text = length (filter (λ byte. byte == 10) text)

abbrev pub lines_text : List ℕ → List ℕ
lines_text text = counted (line_feeds text) (codes " lines\n")
