-- Questions of two words.
use Rattle.std.proofs.Common.{◌≡◌, ◌≢◌, inl, inr, ℕ, ◌+◌, ◌≤◌, List, [], ◌∷◌, Option, Some, None, MatchOption, length, get_or, refl, sym, ap, ap₂, ◌∙◌, arith}
use Rattle.std.proofs.lemmas.Bool.{true≢false}
use Rattle.dist_cert.specs.ClaimRules.{no, yes}
use Rattle.dist_cert.specs.Form.{Word}
use Rattle.dist_repair.specs.NotesPrivate.{IsAt, IsAtNone, WordsView}

abbrev pub word_at : List Word → ℕ → Word
word_at question place = get_or question place (no 0)

two : (question : List Word) → length question ≡ 2 → question ≡ word_at question 0 ∷ word_at question 1 ∷ []
two [] size = absurd (omega (arith, size))
two (a ∷ []) size = absurd (omega (arith, size))
two (a ∷ b ∷ []) size = refl
two (a ∷ b ∷ c ∷ rest) size = absurd (omega (arith, size))

-- the number of a word, or none
abbrev pub IsNumberIn : WordsView → Word → Option ℕ → Type 0
IsNumberIn w word result = MatchOption result ((j : ℕ) → j ≤ w.most → word ≢ no (w.first + j)) (λ j. (j ≤ w.most) × (word ≡ no (w.first + j)))

pub front-number : (w : WordsView) (question : List Word) → length question ≡ 2 → word_at question 0 ≡ yes w.own → (result : Option ℕ)
    → IsNumberIn w (word_at question 1) result → MatchOption result (IsAtNone w question) (IsAt w question)
front-number w question size own None none = λ j at. elim at.1 [
  | inl is ↦ none j at.0 (ap (λ (q : List Word). word_at q 1) is)
  | inr is ↦ true≢false (ap (λ (x : Word). x.1) (sym own ∙ ap (λ (q : List Word). word_at q 0) is))
]
front-number w question size own (Some j) (upto, is) = (upto, inl (two question size ∙ ap₂ (λ (a b : Word). a ∷ b ∷ []) own is))

pub back-number : (w : WordsView) (question : List Word) → length question ≡ 2 → word_at question 1 ≡ yes w.own → (result : Option ℕ)
    → IsNumberIn w (word_at question 0) result → MatchOption result (IsAtNone w question) (IsAt w question)
back-number w question size own None none = λ j at. elim at.1 [
  | inl is ↦ true≢false (ap (λ (x : Word). x.1) (sym own ∙ ap (λ (q : List Word). word_at q 1) is))
  | inr is ↦ none j at.0 (ap (λ (q : List Word). word_at q 0) is)
]
back-number w question size own (Some j) (upto, is) = (upto, inr (two question size ∙ ap₂ (λ (a b : Word). a ∷ b ∷ []) is own))
