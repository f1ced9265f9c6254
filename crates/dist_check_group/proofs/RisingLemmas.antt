-- Rising lists, what they have, and tests of them.
use Rattle.std.proofs.Common.{◌≡◌, ℕ, ◌+◌, ◌<◌, ◌↔◌, List, length, get_or}
use Rattle.std.specs.List.{Contains}
use Rattle.std.proofs.lemmas.List.Kept.{AllPairs-from_increasing}
use Rattle.dist_cert.specs.Rising.{AreRising, is_among}
use Rattle.dist_cert.specs.ListLaws.{any-from, both-flags, from-any}

-- each number is below the next one
pub rising-from : (numbers : List ℕ) → ((k : ℕ) → k + 1 < length numbers → get_or numbers k 0 < get_or numbers (k + 1) 0) → AreRising numbers
rising-from numbers next = AllPairs-from_increasing numbers next

-- ---- tests

-- the same numbers, as a test
pub same-among : (xs ys : List ℕ) (q : ℕ) → Contains xs q ↔ Contains ys q → is_among xs q ≡ is_among ys q
same-among xs ys q same = both-flags (is_among xs q) (is_among ys q) (λ e. any-from q ys (same.0 (from-any q xs e)))
    (λ e. any-from q xs (same.1 (from-any q ys e)))
