-- One list within another.
use Rattle.std.specs.Prelude.{List, All, Contains}

-- each element of the second list is an element of the first
abbrev pub ContainsAll : {X : Type 0} → List X → List X → Type 0
ContainsAll xs ys = All (Contains xs) ys
