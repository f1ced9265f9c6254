-- Counts of what went wrong outside. They are kept in 64 bits, and a count at the type's end stands still.
use Rattle.std.specs.Prelude.{ℕ, ◌+◌, ◌-◌, ◌^◌, ◌<◌, ◌≤◌, ◌⊎◌, min, Result, Ok, Err}
use Rattle.dist_outside.specs.declared.trouble.Trouble.{Trouble}
use Rattle.dist_outside.specs.declared.trouble.Trouble.TheVariants.{Failed, NoMemory}

-- The count rose in a call: it is greater at the call's end, or stood at the type's end already.
-- "This answer only where the count rose" is said by this word everywhere.
abbrev pub Rose : ℕ → ℕ → Type 0
Rose old new = (old < new) ⊎ (2 ^ 64 ≤ old + 1)

-- a count that is one higher, and stands still at its type's end
abbrev pub counted : ℕ → ℕ
counted count = min (count + 1) (2 ^ 64 - 1)

-- a count of faults after this trouble, and a count of wants of memory
abbrev pub faults_by : Trouble → ℕ → ℕ
faults_by Failed count = counted count
faults_by NoMemory count = count

-- how many wants of memory there are after a trouble
abbrev pub wants_by : Trouble → ℕ → ℕ
wants_by Failed count = count
wants_by NoMemory count = counted count

-- a count of faults after a call: one higher where the call failed, and else as before; and the same of wants of memory
abbrev pub faults_after : {A : Type 0} → Result A Trouble → ℕ → ℕ
faults_after (Ok value) count = count
faults_after (Err trouble) count = faults_by trouble count

-- the same after an answer
abbrev pub wants_after : {A : Type 0} → Result A Trouble → ℕ → ℕ
wants_after (Ok value) count = count
wants_after (Err trouble) count = wants_by trouble count
