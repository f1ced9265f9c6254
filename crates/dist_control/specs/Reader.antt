-- What a contract sees of a reader of stanzas, and what one step of it does.
use Rattle.std.specs.Prelude.{◌≡◌, ◌≢◌, true, false, List, [], ◌∷◌, Option, Some, None}
use Rattle.dist_control.specs.ControlText.{IsReading}
use Rattle.dist_control.specs.Faults.{HasFault}
use Rattle.dist_control.specs.RawStanza.{RawStanza}
use Rattle.dist_control.specs.Unread.{Unread}
use Rattle.dist_control.specs.declared.error.ControlError.{ControlError}
use Rattle.dist_control.specs.declared.field_list.Stanza.{Stanza}

-- a stanza is left, and no earlier call refused for good
pub record HasNext (reader : Unread) : Type 0 where
  pub left : reader.left ≢ []
  pub going : reader.refused ≡ false

-- The first raw stanza that was left is taken off, and this is its reading.
pub record Takes (old new : Unread) (stanza : Stanza) : Type 0 where
  pub raw : RawStanza
  pub left : old.left ≡ raw ∷ new.left
  pub was_going : old.refused ≡ false
  pub going : new.refused ≡ false
  pub reading : IsReading raw stanza

-- what a reader gives: the next stanza, or none where there is none, and then it stays as it is
abbrev pub Gives : (old new : Unread) → Option Stanza → Type 0
Gives old new None = (¬ HasNext old) × (new ≡ old)
Gives old new (Some stanza) = Takes old new stanza

-- The first raw stanza that was left has this first fault, and the reader refuses from now on.
pub record Refuses (old new : Unread) (error : ControlError) : Type 0 where
  pub raw : RawStanza
  pub rest : List RawStanza
  pub left : old.left ≡ raw ∷ rest
  pub going : old.refused ≡ false
  pub fault : HasFault raw error
  pub stops : new ≡ record old { refused = true }
