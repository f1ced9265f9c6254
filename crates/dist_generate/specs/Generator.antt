-- The archive of a size and a seed: so many packages, and what is drawn of each.
use Rattle.std.specs.Prelude.{ℕ, suc, ◌/◌, ◌==◌, List, [], ◌∷◌, ◌++◌, Option, None, Some, if◌then◌else◌, codes, decimal}
use Rattle.std.specs.List.{flat_map, join_by}
use Rattle.dist_generate.specs.Draws.{Drawing, draw, give, ◌>>=◌, many}

-- ---- what is drawn

-- an alternative: a package by its number, and which bound it has
pub record Alternative : Type 0 where
  pub target : ℕ
  pub bound : ℕ

-- a package: the last digit of its version, the items that it depends on, and the package that it conflicts with
pub record Drawn : Type 0 where
  pub number : ℕ
  pub digit : ℕ
  pub items : List (List Alternative)
  pub conflict : Option ℕ

-- one of the packages before this one, and one of four bounds
abbrev pub alternative : ℕ → Drawing Alternative
alternative number = do
  target ← draw number
  bound ← draw 4
  give (record { target = target; bound = bound })

-- one alternative or two
abbrev pub item : ℕ → Drawing (List Alternative)
item number = do
  more ← draw 2
  many (λ _. alternative number) (suc more)

-- none to two items
abbrev pub items : ℕ → Drawing (List (List Alternative))
items number = do
  count ← draw 3
  many (λ _. item number) count

-- in one of eight cases one of the packages before this one
abbrev pub conflict : ℕ → Drawing (Option ℕ)
conflict number = do
  chance ← draw 8
  if chance == 0 then (draw number >>= λ other. give (Some other)) else give None

-- the package of a number; the first one has no relations
abbrev pub drawn : ℕ → Drawing Drawn
drawn number = do
  digit ← draw 3
  items ← (if number == 0 then give [] else items number)
  conflict ← (if number == 0 then give None else conflict number)
  give (record { number = number; digit = digit; items = items; conflict = conflict })

-- ---- what is written

-- version 1 or later, or below version 2, or none
abbrev pub drawn_bound : ℕ → List ℕ
drawn_bound bound = if bound == 2 then codes " (>= 1)" else if bound == 3 then codes " (<< 2)" else []

-- the names of packages are g and their numbers
abbrev pub alternative_text : Alternative → List ℕ
alternative_text alternative = codes "g" ++ (decimal alternative.target ++ drawn_bound alternative.bound)

-- alternatives with bars in between
abbrev pub item_text : List Alternative → List ℕ
item_text item = join_by alternative_text (codes " | ") item

-- the line of the items, with commas in between, where there is one
abbrev pub depends_lines : List (List Alternative) → List (List ℕ)
depends_lines [] = []
depends_lines (item ∷ items) = (codes "Depends: " ++ join_by item_text (codes ", ") (item ∷ items)) ∷ []

-- the line of the conflict, where there is one
abbrev pub conflicts_lines : Option ℕ → List (List ℕ)
conflicts_lines None = []
conflicts_lines (Some other) = (codes "Conflicts: g" ++ decimal other) ∷ []

-- the lines that each stanza has; packages two and two have one source
abbrev pub stanza_head : Drawn → List (List ℕ)
stanza_head drawn =
    (codes "Package: g" ++ decimal drawn.number)
    ∷ (codes "Version: 1." ++ decimal drawn.digit)
    ∷ codes "Architecture: all"
    ∷ (codes "Source: s" ++ decimal (drawn.number / 2))
    ∷ []

-- the lines of a stanza
abbrev pub field_lines : Drawn → List (List ℕ)
field_lines drawn = stanza_head drawn ++ (depends_lines drawn.items ++ conflicts_lines drawn.conflict)

-- and the empty line after it
abbrev pub stanza_lines : Drawn → List (List ℕ)
stanza_lines drawn = field_lines drawn ++ [] ∷ []

-- lines with a line feed after each
abbrev pub text_of_lines : List (List ℕ) → List ℕ
text_of_lines lines = flat_map (λ line. line ++ 10 ∷ []) lines

-- the text of a stanza
abbrev pub stanza_text : Drawn → List ℕ
stanza_text drawn = text_of_lines (stanza_lines drawn)

-- the packages of a size and a seed
abbrev pub generated_packages : (size seed : ℕ) → List Drawn
generated_packages size seed = (many drawn size seed).0

-- the text of the archive
abbrev pub generated : (size seed : ℕ) → List ℕ
generated size seed = flat_map stanza_text (generated_packages size seed)
