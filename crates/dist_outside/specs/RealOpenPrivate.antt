-- What a desk over the file system does, and what std says of its open file.
use Rattle.std.specs.Prelude.{ℕ, List, Option, None}
use Rattle.std.specs.Io.Buffered.{reader_remaining, writer_contents}
use Rattle.dist_outside.specs.Files.{Mode, Idle, Reading, Writing}
use Rattle.dist_outside.specs.declared.real_desk.Open.{Open}
use Rattle.dist_outside.specs.declared.real_desk.Open.TheVariants as kept

abbrev pub real_mode : {F : Type 0} → Open F → Mode
real_mode kept.Nothing = Idle
real_mode (kept.Reading reader) = Reading None
real_mode (kept.Writing writer) = Writing None

-- the bytes that the file has left to read, buffered ones included
abbrev pub real_remaining : {F : Type 0} → (F → Option (List ℕ)) → Open F → Option (List ℕ)
real_remaining remaining kept.Nothing = None
real_remaining remaining (kept.Reading reader) = reader_remaining remaining reader
real_remaining remaining (kept.Writing writer) = None

-- the bytes that the file holds, buffered ones included
abbrev pub real_contents : {F : Type 0} → (F → Option (List ℕ)) → Open F → Option (List ℕ)
real_contents contents kept.Nothing = None
real_contents contents (kept.Reading reader) = None
real_contents contents (kept.Writing writer) = writer_contents contents writer
