-- Draws from a linear congruential generator, whose state is a number of 32 bits.
use Rattle.std.specs.Prelude.{ℕ, zero, suc, ◌+◌, ◌*◌, ◌/◌, ◌%◌, List, [], ◌∷◌, ◌++◌}

-- what is drawn from a state, and the state after it
abbrev pub Drawing : Type 0 → Type 0
Drawing X = ℕ → X × ℕ

-- the state after one draw
unfoldable pub next_state : ℕ → ℕ
next_state state = (state * 1664525 + 1013904223) % 4294967296

-- a number below another, from the upper half of the next state
abbrev pub draw : (below : ℕ) → Drawing ℕ
draw below state = (next_state state / 65536 % below, next_state state)

-- a value without a draw
abbrev pub give : {X : Type 0} → X → Drawing X
give x state = (x, state)

infixl 10 ◌>>=◌
-- first this, and then what follows from its value
abbrev pub ◌>>=◌ : {X Y : Type 0} → Drawing X → (X → Drawing Y) → Drawing Y
(first >>= follows) state = follows (first state).0 (first state).1

-- what is drawn for each number below a count, in order
abbrev pub many : {X : Type 0} → (ℕ → Drawing X) → (count : ℕ) → Drawing (List X)
many each zero = give []
many each (suc count) = do
  before ← many each count
  last ← each count
  give (before ++ last ∷ [])
