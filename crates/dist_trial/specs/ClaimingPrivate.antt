-- What a desk in memory that is not made to fail can lack. No public clause cites it.
use Rattle.dist_outside.specs.declared.trouble.WorkError.{WorkError}
use Rattle.dist_outside.specs.declared.trouble.WorkError.TheVariants.{ReadFault, WriteFault, TooLarge, NoMemory}

abbrev pub in_memory : WorkError → WorkError
in_memory ReadFault = NoMemory
in_memory WriteFault = NoMemory
in_memory (TooLarge what) = TooLarge what
in_memory NoMemory = NoMemory
