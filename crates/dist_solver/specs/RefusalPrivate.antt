-- Why a line was not appended, as the cause of an answer.
use Rattle.dist_derive.specs.declared.log.AppendError.{AppendError}
use Rattle.dist_derive.specs.declared.log.AppendError.TheVariants.{TooManyLines as Lines, TooManyLiterals as Literals}
use Rattle.dist_derive.specs.declared.log.AppendError.TheVariants.{NoMemory as Memory}
use Rattle.dist_solver.specs.declared.answers.AskError.{AskError}
use Rattle.dist_solver.specs.declared.answers.AskError.TheVariants.{TooManyLines, TooManyLiterals, NoMemory}

abbrev pub refusal_of : AppendError → AskError
refusal_of Lines = TooManyLines
refusal_of Literals = TooManyLiterals
refusal_of Memory = NoMemory
