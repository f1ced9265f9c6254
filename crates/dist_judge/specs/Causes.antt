-- Why a file was not judged, whatever the desk tells.
use Rattle.std.specs.Prelude.{Result, Ok, Err}
use Rattle.dist_outside.specs.Counts.{Rose}
use Rattle.dist_outside.specs.DeskView.{DeskView}
use Rattle.dist_outside.specs.declared.trouble.What.{What}
use Rattle.dist_outside.specs.declared.trouble.What.TheVariants.{Variables, Clauses, Literals, Lines, LineLiterals}
use Rattle.dist_outside.specs.declared.trouble.What.TheVariants.{Certificate}
use Rattle.dist_outside.specs.declared.trouble.WorkError.{WorkError}
use Rattle.dist_outside.specs.declared.trouble.WorkError.TheVariants.{ReadFault, TooLarge, NoMemory}
use Rattle.dist_cert.specs.declared.faults.ReadCertError.{ReadCertError}
use Rattle.dist_cert.specs.declared.faults.ReadCertError.TheVariants.{Bad, Work}

-- The desk failed where it is said to have failed, and no other error of work than these comes.
abbrev pub TextCause : DeskView → DeskView → ReadCertError → Type 0
TextCause old new (Bad fault) = Unit {0}
TextCause old new (Work ReadFault) = Rose old.read_faults new.read_faults
TextCause old new (Work NoMemory) = Unit {0}
TextCause old new (Work (TooLarge Variables)) = Unit {0}
TextCause old new (Work (TooLarge Clauses)) = Unit {0}
TextCause old new (Work (TooLarge Literals)) = Unit {0}
TextCause old new (Work (TooLarge Lines)) = Unit {0}
TextCause old new (Work (TooLarge LineLiterals)) = Unit {0}
TextCause old new (Work (TooLarge Certificate)) = Unit {0}
TextCause old new (Work error) = ⊥

-- a number is passed, or there is no memory
abbrev pub IsLarge : (What → Type 0) → WorkError → Type 0
IsLarge Passes (TooLarge what) = Passes what
IsLarge Passes NoMemory = Unit {0}
IsLarge Passes error = ⊥

-- an answer that the text decides: neither a fault of reading nor want of memory
abbrev pub IsOfText : {X : Type 0} → Result X WorkError → Type 0
IsOfText (Err ReadFault) = ⊥
IsOfText (Err NoMemory) = ⊥
IsOfText result = Unit {0}

-- what holds of each answer but a fault of reading and want of memory
abbrev pub OnceRead : {X : Type 0} → Result X WorkError → Type 0 → Type 0
OnceRead (Ok x) Holds = Holds
OnceRead (Err ReadFault) Holds = Unit {0}
OnceRead (Err NoMemory) Holds = Unit {0}
OnceRead (Err error) Holds = Holds
