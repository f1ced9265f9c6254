-- How a fault of a certificate is told.
use Rattle.std.specs.Prelude.{ℕ, List, codes}
use Rattle.dist_cert.specs.declared.faults.CertCause.{CertCause}
use Rattle.dist_cert.specs.declared.faults.CertCause.TheVariants as cause

-- the name of a cause
abbrev pub cause_text : CertCause → List ℕ
cause_text cause.BadHeader = codes "BadHeader"
cause_text cause.BadRecord = codes "BadRecord"
cause_text cause.Truncated = codes "Truncated"
cause_text cause.LineTooLong = codes "LineTooLong"
cause_text cause.OutOfRange = codes "OutOfRange"
cause_text cause.UnknownLine = codes "UnknownLine"
cause_text cause.BadLine = codes "BadLine"
cause_text cause.NotAnInstallation = codes "NotAnInstallation"
cause_text cause.NotAFuture = codes "NotAFuture"
cause_text cause.WrongClaim = codes "WrongClaim"
cause_text cause.Incomplete = codes "Incomplete"
cause_text cause.LimitNotReached = codes "LimitNotReached"
cause_text cause.NotNew = codes "NotNew"
cause_text cause.OutOfOrder = codes "OutOfOrder"
