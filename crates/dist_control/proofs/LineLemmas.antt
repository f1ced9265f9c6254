-- The lines of a text by the place of its first LF.
use Rattle.std.proofs.Common.{◌≡◌, ◌≢◌, ℕ, zero, suc, ◌<◌, List, [], ◌∷◌, length, get_or, take, drop, refl, ap, ◌∙◌, arith}
use Rattle.dist_control.specs.Lines.{lines, in_front}

pub lines-end : (byte : ℕ) (bytes : List ℕ) → byte ≡ 10 → lines (byte ∷ bytes) ≡ [] ∷ lines bytes
lines-end byte bytes is = rw is refl

pub lines-within : (byte : ℕ) (bytes : List ℕ) → byte ≢ 10 → lines (byte ∷ bytes) ≡ in_front byte (lines bytes)
lines-within byte bytes other = grind (arith, other)

-- the first LF ends the first line
pub lines-at : (bytes : List ℕ) (k : ℕ) → k < length bytes → get_or bytes k 0 ≡ 10 →
    ((j : ℕ) → j < k → get_or bytes j 0 ≢ 10) → lines bytes ≡ take k bytes ∷ lines (drop (suc k) bytes)
lines-at [] k short is before = absurd (omega arith)
lines-at (byte ∷ bytes) zero short is before = lines-end byte bytes is
lines-at (byte ∷ bytes) (suc k) short is before =
    lines-within byte bytes (before 0 (omega arith)) ∙ ap (in_front byte) (lines-at bytes k (omega arith) is (λ j h. before (suc j) (omega arith)))

-- with no LF there is one line
pub lines-alone : (bytes : List ℕ) → 0 < length bytes → ((j : ℕ) → j < length bytes → get_or bytes j 0 ≢ 10) → lines bytes ≡ bytes ∷ []
lines-alone [] some none = absurd (omega arith)
lines-alone (byte ∷ []) some none = lines-within byte [] (none 0 (omega arith))
lines-alone (byte ∷ next ∷ bytes) some none =
    lines-within byte (next ∷ bytes) (none 0 (omega arith)) ∙ ap (in_front byte) (lines-alone (next ∷ bytes) (omega arith) (λ j h. none (suc j) (omega arith)))
