-- What a reader of texts answers, in one word: the value that the text reads as, or its first fault.
use Rattle.std.specs.Prelude.{◌≡◌, ◌≢◌, ◌⊎◌, ◌↔◌, Result, Ok, Err}

-- A reader answers with what the text reads as, or with a fault of it. Want of memory may come in place of either.
abbrev pub Answers : {X E : Type 0} → (X → Type 0) → (E → Type 0) → E → Result X E → Type 0
Answers Reads HasFault no_memory (Ok value) = Reads value
Answers Reads HasFault no_memory (Err error) = (error ≡ no_memory) ⊎ HasFault error

-- There is exactly one answer: one reading or one first fault, and never both.
pub record IsExact {X E : Type 0} (Reads : X → Type 0) (HasFault : E → Type 0) : Type 0 where
  pub some : ((value : X) × Reads value) ⊎ ((error : E) × HasFault error)
  pub one_reading : (value other : X) → Reads value → Reads other → value ≡ other
  pub one_fault : (error other : E) → HasFault error → HasFault other → error ≡ other
  pub never_both : (value : X) (error : E) → Reads value → ¬ HasFault error

-- Want of memory apart, this error is the answer exactly where its cause holds.
abbrev pub IsExactly : {X E : Type 0} → E → Result X E → E → Type 0 → Type 0
IsExactly no_memory result error cause = result ≢ Err no_memory → ((result ≡ Err error) ↔ cause)
