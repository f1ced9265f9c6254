-- A question of a repair's file is one of these alone. Proofs cite these laws, those of the crates above too.
use Rattle.std.proofs.Common.{◌≡◌, inl, inr, ℕ, List, length, get_or, sym, ap, ◌∙◌, arith}
use Rattle.std.proofs.lemmas.Bool.{false≢true, true≢false}
use Rattle.dist_cert.specs.ClaimRules.{no}
use Rattle.dist_cert.specs.Form.{Word}
use Rattle.dist_space.specs.Space.{SpaceView}
use Rattle.dist_repair.specs.Answered.{Asked, AsksAlone, AsksAt, beyond}

abbrev second_word : List Word → Word
second_word question = get_or question 1 (no 0)

abbrev first_word : List Word → Word
first_word question = get_or question 0 (no 0)

-- it is at one number
pub one-number : (s : SpaceView) (asked : Asked) (i j : ℕ) (question : List Word) → AsksAt s asked i question
    → AsksAt s asked j question → i ≡ j
one-number s asked i j question (inl first) (inl second) =
    let same : beyond s asked i ≡ beyond s asked j = ap (λ (q : List Word). (second_word q).0) (sym first ∙ second) in
    omega (arith, same)
one-number s asked i j question (inl first) (inr second) =
    absurd (true≢false (ap (λ (q : List Word). (first_word q).1) (sym first ∙ second)))
one-number s asked i j question (inr first) (inl second) =
    absurd (false≢true (ap (λ (q : List Word). (first_word q).1) (sym first ∙ second)))
one-number s asked i j question (inr first) (inr second) =
    let same : beyond s asked i ≡ beyond s asked j = ap (λ (q : List Word). (first_word q).0) (sym first ∙ second) in
    omega (arith, same)

-- and not that of the package alone
pub not-both : (s : SpaceView) (asked : Asked) (j : ℕ) (question : List Word) → AsksAlone s asked question
    → ¬ AsksAt s asked j question
not-both s asked j question alone (inl at) =
    let size = ap (λ (q : List Word). length q) (sym alone ∙ at) in omega (arith, size)
not-both s asked j question alone (inr at) =
    let size = ap (λ (q : List Word). length q) (sym alone ∙ at) in omega (arith, size)
