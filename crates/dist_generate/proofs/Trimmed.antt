-- Texts without white space at their ends, which stay as they are when white space is cut off.
use Rattle.std.proofs.Common.{◌≡◌, ℕ, ◌+◌, ◌%◌, ◌<◌, ◌^◌, false, not, List, [], ◌∷◌, ◌++◌, append_assoc, reverse, refl, ap, sym, ◌∙◌, arith}
use Rattle.std.specs.Prelude.{decimal}
use Rattle.std.proofs.lemmas.Bool.{cond-false, not-true}
use Rattle.std.proofs.lemmas.List.{reverse-append, reverse-reverse}
use Rattle.std.proofs.lemmas.Fmt.{decimal_by_steps}
use Rattle.dist_base.specs.Ascii.{is_white}
use Rattle.dist_control.specs.Fields.{trim_start, trim}
use Rattle.dist_generate.proofs.Digits.{digit-passes}

-- the text ends with a byte that is not white
pub record Ends (text : List ℕ) : Type 0 where
  pub front : List ℕ
  pub last : ℕ
  pub whole : text ≡ front ++ last ∷ []
  pub dark : is_white last ≡ false

pub ends-append : (a b : List ℕ) → Ends b → Ends (a ++ b)
ends-append a b e = record { front = a ++ e.front; last = e.last; whole = ap (λ t. a ++ t) e.whole ∙ sym (append_assoc a e.front (e.last ∷ [])); dark = e.dark }

digit-dark : (d : ℕ) → d < 10 → is_white (48 + d) ≡ false
digit-dark d h = not-true (is_white (48 + d)) (digit-passes (λ b. not (is_white b)) refl d h)

pub ends-decimal : (n : ℕ) → n < 2 ^ 64 → Ends (decimal n)
ends-decimal n small =
    decimal_by_steps (λ (n : ℕ) (ds : List ℕ). Ends ds)
    (λ n h. record { front = []; last = 48 + n; whole = refl; dark = digit-dark n h })
    (λ n ds h before. record { front = ds; last = 48 + n % 10; whole = refl; dark = digit-dark (n % 10) (omega arith) })
    n small

-- the byte in front is not white, and neither is the last one
pub trimmed : (first : ℕ) (text : List ℕ) → is_white first ≡ false → Ends (first ∷ text) → trim (first ∷ text) ≡ first ∷ text
trimmed first text dark e =
    ap (λ (t : List ℕ). reverse (trim_start (reverse t))) (cond-false (is_white first) (trim_start text) (first ∷ text) dark)
    ∙ ap (λ (t : List ℕ). reverse (trim_start (reverse t))) e.whole
    ∙ ap (λ (t : List ℕ). reverse (trim_start t)) (reverse-append e.front (e.last ∷ []))
    ∙ ap reverse (cond-false (is_white e.last) (trim_start (reverse e.front)) (e.last ∷ reverse e.front) e.dark)
    ∙ ap reverse (sym (reverse-append e.front (e.last ∷ [])))
    ∙ reverse-reverse (e.front ++ e.last ∷ [])
    ∙ sym e.whole
