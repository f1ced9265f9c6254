-- The words of a line by the place of its first space.
use Rattle.std.proofs.Common.{◌≡◌, ◌≢◌, ℕ, zero, suc, ◌+◌, ◌<◌, Option, Some, List, [], ◌∷◌, length, get_or, take, drop, refl, ap, ◌∙◌, arith}
use Rattle.std.specs.Borrow.{Bor}
use Rattle.std.specs.List.{onto_first}
use Rattle.std.proofs.lemmas.List.Splits.{length-slice_split}
use Rattle.dist_journal.specs.CutPrivate.{with_more}
use Rattle.dist_journal.specs.Journal.{is_space, words}

words-end : (byte : ℕ) (bytes : List ℕ) → byte ≡ 32 → words (byte ∷ bytes) ≡ [] ∷ words bytes
words-end byte bytes is = rw is refl

words-within : (byte : ℕ) (bytes : List ℕ) → byte ≢ 32 → words (byte ∷ bytes) ≡ onto_first byte (words bytes)
words-within byte bytes other = grind (arith, other)

-- the first space ends the first word
pub words-at : (bytes : List ℕ) (k : ℕ) → k < length bytes → get_or bytes k 0 ≡ 32 →
    ((j : ℕ) → j < k → get_or bytes j 0 ≢ 32) → words bytes ≡ take k bytes ∷ words (drop (suc k) bytes)
words-at [] k short is before = absurd (omega arith)
words-at (byte ∷ bytes) zero short is before = words-end byte bytes is
words-at (byte ∷ bytes) (suc k) short is before =
    words-within byte bytes (before 0 (omega arith)) ∙ ap (onto_first byte) (words-at bytes k (omega arith) is (λ j h. before (suc j) (omega arith)))

-- with no space there is one word
pub words-alone : (bytes : List ℕ) → ((j : ℕ) → j < length bytes → get_or bytes j 0 ≢ 32) → words bytes ≡ bytes ∷ []
words-alone [] none = refl
words-alone (byte ∷ bytes) none =
    words-within byte bytes (none 0 (omega arith)) ∙ ap (onto_first byte) (words-alone bytes (λ j h. none (suc j) (omega arith)))

-- ---- five words

more-length : (word : List ℕ) (all : List (List ℕ)) (more : Option (Bor (List ℕ))) (rest : Bor (List ℕ)) → all ≡ with_more word more → more ≡ Some rest
    → length all ≡ length (words rest.now) + 1
more-length word all more rest is some = ap length is ∙ rw some (omega arith)

pub some-word : (line : List ℕ) → 0 < length (words line)
some-word line = omega (arith, length-slice_split is_space line)

pub record HasMore (text next : List ℕ) : Type 0 where
  pub longer : length (words text) ≡ length (words next) + 1

pub has-more : (text word : List ℕ) (more : Option (Bor (List ℕ))) (rest : Bor (List ℕ)) → words text ≡ with_more word more → more ≡ Some rest
    → HasMore text rest.now
has-more text word more rest is some = record { longer = more-length word (words text) more rest is some }
