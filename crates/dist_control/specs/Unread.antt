-- The state of a reader of stanzas: the raw stanzas that are left, and whether an earlier call refused for good.
use Rattle.std.specs.Prelude.{Bool, List}
use Rattle.dist_control.specs.RawStanza.{RawStanza}

-- what a reader of control text has left: the raw stanzas, and whether an earlier call refused for good
pub record Unread : Type 0 where
  pub left : List RawStanza
  pub refused : Bool
