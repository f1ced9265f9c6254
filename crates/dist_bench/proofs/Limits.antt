-- What an answer that is no error says of the limits.
use Rattle.std.proofs.Common.{◌≢◌, Ok, Err}
use Rattle.dist_base.specs.Answers.{IsExactly}

no-error : {X E : Type 0} (x : X) (error : E) → Ok x ≢ Err error
no-error x error e = cc

-- where an error comes exactly at its cause, an answer comes without the cause
pub without-cause : {X E : Type 0} (x : X) (no_memory error : E) (Cause : Type 0) → IsExactly no_memory (Ok x) error Cause → ¬ Cause
without-cause x no_memory error Cause exact cause = no-error x error ((exact (no-error x no_memory)).1 cause)
