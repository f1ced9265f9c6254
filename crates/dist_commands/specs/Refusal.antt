-- What a run that was given up tells: its status, and one line on `err`.
use Rattle.std.specs.Prelude.{ℕ, List, ◌++◌, codes, decimal}
use Rattle.dist_outside.specs.declared.trouble.What.{What}
use Rattle.dist_outside.specs.declared.trouble.What.TheVariants as what
use Rattle.dist_outside.specs.declared.trouble.WorkError.{WorkError}
use Rattle.dist_outside.specs.declared.trouble.WorkError.TheVariants as work
use Rattle.dist_commands.specs.CauseText.{cause_text}
use Rattle.dist_commands.specs.FaultText.{kind_name, carried_text}
use Rattle.dist_commands.specs.JournalText.{journal_fault_text}
use Rattle.dist_commands.specs.declared.status.Status.{Status}
use Rattle.dist_commands.specs.declared.status.Status.TheVariants as status
use Rattle.dist_commands.specs.declared.refusal.Refusal.{Refusal}
use Rattle.dist_commands.specs.declared.refusal.Refusal.TheVariants.{BadWords, BadPackages, CertificateRefused}
use Rattle.dist_commands.specs.declared.refusal.Refusal.TheVariants.{ReadFault, WriteFault, NoMemory, TooLarge}
use Rattle.dist_commands.specs.declared.refusal.Refusal.TheVariants.{BadList, BadJournal, NoSuchPackage}

-- the status of a run that was given up for this
abbrev pub status_of : Refusal → Status
status_of BadWords = status.BadWords
status_of (BadPackages fault) = status.BadPackages
status_of (CertificateRefused fault) = status.CertificateRefused
status_of ReadFault = status.ReadFault
status_of WriteFault = status.WriteFault
status_of NoMemory = status.NoMemory
status_of (TooLarge limit) = status.TooLarge
status_of (BadList line) = status.BadList
status_of (BadJournal line fault) = status.BadJournal
status_of NoSuchPackage = status.NoSuchPackage

-- the name of a limit
abbrev pub limit_text : What → List ℕ
limit_text what.Bytes = codes "Bytes"
limit_text what.Stanzas = codes "Stanzas"
limit_text what.Variables = codes "Variables"
limit_text what.Clauses = codes "Clauses"
limit_text what.Literals = codes "Literals"
limit_text what.Lines = codes "Lines"
limit_text what.LineLiterals = codes "LineLiterals"
limit_text what.Certificate = codes "Certificate"
limit_text what.RecordLine = codes "RecordLine"

-- what the line says after the program's name
abbrev pub reason_text : Refusal → List ℕ
reason_text BadWords = codes "bad command line"
reason_text (BadPackages fault) = codes "bad packages at line "
    ++ (decimal fault.line ++ (codes ": " ++ (kind_name fault.kind ++ carried_text fault.kind)))
reason_text (CertificateRefused fault) = codes "certificate refused at line "
    ++ (decimal fault.line ++ (codes ": " ++ cause_text fault.cause))
reason_text ReadFault = codes "read fault"
reason_text WriteFault = codes "write fault"
reason_text NoMemory = codes "no memory"
reason_text (TooLarge limit) = codes "too large: " ++ limit_text limit
reason_text (BadList line) = codes "bad list at line " ++ decimal line
reason_text (BadJournal line fault) = codes "bad journal at line "
    ++ (decimal line ++ (codes ": " ++ journal_fault_text fault))
reason_text NoSuchPackage = codes "no such package"

-- the line on `err`
abbrev pub refusal_text : Refusal → List ℕ
refusal_text refusal = codes "distfuture: " ++ (reason_text refusal ++ codes "\n")

-- what an error of reading or writing comes to
abbrev pub refusal_of : WorkError → Refusal
refusal_of work.ReadFault = ReadFault
refusal_of work.WriteFault = WriteFault
refusal_of (work.TooLarge limit) = TooLarge limit
refusal_of work.NoMemory = NoMemory
