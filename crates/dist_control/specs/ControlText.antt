-- Control text (Debian Policy 5.1): a text and its stanzas, each a list of fields.
use Rattle.std.specs.Prelude.{◌≡◌, ◌⊎◌, ℕ, List, [], ◌∷◌}
use Rattle.dist_base.specs.Answers.{IsExact}
use Rattle.dist_control.specs.declared.error.ControlError.{ControlError}
use Rattle.dist_control.specs.declared.field_list.Stanza.{Stanza}
use Rattle.dist_control.specs.Faults.{IsSound, HasFault}
use Rattle.dist_control.specs.Fields.{fields_from}
use Rattle.dist_control.specs.RawStanza.{RawStanza, raw_stanzas}

-- a stanza is what a raw one without faults reads as
pub record IsReading (raw : RawStanza) (stanza : Stanza) : Type 0 where
  pub sound : IsSound raw
  pub line : stanza.line ≡ raw.line
  pub fields : stanza.fields ≡ fields_from raw.line raw.lines

-- each raw stanza has its reading, in order
abbrev pub AreReadings : List RawStanza → List Stanza → Type 0
AreReadings [] [] = Unit {0}
AreReadings [] (stanza ∷ stanzas) = ⊥
AreReadings (raw ∷ raws) [] = ⊥
AreReadings (raw ∷ raws) (stanza ∷ stanzas) = IsReading raw stanza × AreReadings raws stanzas

-- these are the stanzas of the text
abbrev pub ControlText : List ℕ → List Stanza → Type 0
ControlText text stanzas = AreReadings (raw_stanzas text) stanzas

-- each raw stanza has exactly one reading, or exactly one first fault
abbrev pub IsExactStanza : RawStanza → Type 0
IsExactStanza raw = IsExact (IsReading raw) (HasFault raw)

-- this is the first fault of the first stanza that has one
abbrev pub HasFirstTextFault : List RawStanza → ControlError → Type 0
HasFirstTextFault [] error = ⊥
HasFirstTextFault (raw ∷ raws) error = HasFault raw error ⊎ (IsSound raw × HasFirstTextFault raws error)

-- a text has exactly one list of stanzas, or exactly one first fault
abbrev pub IsExactText : List ℕ → Type 0
IsExactText text = IsExact (ControlText text) (HasFirstTextFault (raw_stanzas text))
