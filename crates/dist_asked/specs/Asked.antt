-- A list to which elements are added, in some order.
use Rattle.std.specs.Prelude.{◌⊎◌, ◌↔◌, List, Contains}

-- those with a property are added
abbrev pub Adds : {X : Type 0} → (old new : List X) → (X → Type 0) → Type 0
Adds {X} old new P = (x : X) → Contains new x ↔ (Contains old x ⊎ P x)
