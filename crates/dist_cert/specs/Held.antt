-- Serves private contracts: what is held of a text that comes in pieces.
use Rattle.std.specs.Prelude.{ℕ, List}

-- the front of the line that is being read, without a line feed, and what came behind it
pub record Held : Type 0 where
  pub line : List ℕ
  pub behind : List ℕ
