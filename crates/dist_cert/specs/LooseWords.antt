-- Serves private contracts: the words of a line as they are read first, whatever its bytes are.
use Rattle.std.specs.Prelude.{◌≡◌, ℕ, ◌+◌, ◌-◌, ◌*◌, ◌%◌, ◌^◌, ◌≤◌, true, false, List, [], ◌∷◌, length, drop, nat_eq}
use Rattle.std.specs.Prelude.{Option, Some, None, if◌then◌else◌}
use Rattle.dist_cert.specs.Form.{Word}
use Rattle.dist_cert.specs.DecodedPrivate.{before, after}

-- a number with one digit more, as it fits into 32 bits
abbrev pub with_digit : ℕ → ℕ → ℕ
with_digit number byte = (number * 10 % 2 ^ 32 + (byte + (2 ^ 8 - 48)) % 2 ^ 8) % 2 ^ 32

-- a word with one byte more: a sign, or else a digit
abbrev pub with_byte : Word → ℕ → Word
with_byte word byte = if nat_eq byte 45 then (word.0, false) else (with_digit word.0 byte, word.1)

-- a word that was begun, and those behind it, each behind one space
abbrev pub words_from : Word → List ℕ → List Word
words_from word [] = word ∷ []
words_from word (byte ∷ bytes) = if nat_eq byte 32 then (word ∷ words_from (0, true) bytes)
    else (words_from (with_byte word byte) bytes)

-- the words of a text, each behind one byte
abbrev pub loose_words : List ℕ → List Word
loose_words [] = []
loose_words (byte ∷ bytes) = words_from (0, true) bytes

-- the first word of these bytes, and how many bytes it has: behind it are those of the other words
abbrev pub IsWord : List ℕ → Word × ℕ → Type 0
IsWord bytes read = (read.1 ≤ length bytes) × (words_from (0, true) bytes ≡ read.0 ∷ loose_words (drop read.1 bytes))

-- the next word, where one is left
abbrev pub Gives : List Word → List Word → Option Word → Type 0
Gives old new None = (old ≡ []) × (new ≡ [])
Gives old new (Some word) = old ≡ word ∷ new

-- the next word before the first 0, where one is left
abbrev pub GivesListed : List Word → List Word → Option Word → Type 0
GivesListed old new None = (before old ≡ []) × (new ≡ after old)
GivesListed old new (Some word) = (old ≡ word ∷ new) × (before old ≡ word ∷ before new) × (after old ≡ after new)
