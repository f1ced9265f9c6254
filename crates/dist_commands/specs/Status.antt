-- The number of each status.
use Rattle.std.specs.Prelude.{ℕ}
use Rattle.dist_commands.specs.declared.status.Status.{Status}
use Rattle.dist_commands.specs.declared.status.Status.TheVariants.{Done, DoneWithUndecided, BadWords, BadPackages}
use Rattle.dist_commands.specs.declared.status.Status.TheVariants.{CertificateRefused, ReadFault, WriteFault, NoMemory}
use Rattle.dist_commands.specs.declared.status.Status.TheVariants.{TooLarge, NotHealthy, BadList, BadJournal}
use Rattle.dist_commands.specs.declared.status.Status.TheVariants.{NotAFuture, NoSuchPackage}

-- the number of a status
abbrev pub number_of : Status → ℕ
number_of Done = 0
number_of DoneWithUndecided = 1
number_of BadWords = 2
number_of BadPackages = 3
number_of CertificateRefused = 4
number_of ReadFault = 5
number_of WriteFault = 6
number_of NoMemory = 7
number_of TooLarge = 8
number_of NotHealthy = 9
number_of BadList = 10
number_of BadJournal = 11
number_of NotAFuture = 12
number_of NoSuchPackage = 13
