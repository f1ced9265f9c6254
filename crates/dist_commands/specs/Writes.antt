-- What writing a text to a sink comes to.
use Rattle.std.specs.Prelude.{ℕ, List, Result, Ok, Err}
use Rattle.dist_outside.specs.SinkView.{SinkView, Grew, GrewByFront, WriteCause}
use Rattle.dist_outside.specs.declared.trouble.WorkError.{WorkError}

-- All of it was written, or a front of it and the cause.
abbrev pub Writes : List ℕ → Result (Unit {0}) WorkError → SinkView → SinkView → Type 0
Writes text (Ok value) old new = Grew text old new
Writes text (Err error) old new = GrewByFront text old new × WriteCause error old new
