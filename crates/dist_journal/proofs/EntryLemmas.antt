-- The entries of lines, one after another.
use Rattle.std.proofs.Common.{◌≡◌, ℕ, ◌+◌, Bool, true, false, List, [], ◌∷◌, ◌++◌, length, refl, sym, ap, ◌∙◌, subst, arith}
use Rattle.std.specs.Prelude.{All}
use Rattle.std.proofs.lemmas.List.Elements.{All-cons, All-head, All-nil, All-tail}
use Rattle.dist_journal.specs.CutPrivate.{IsCutAfter}
use Rattle.dist_journal.specs.Journal.{Entry, entries_from, front, is_step_line}

front-line : (line : List ℕ) (rest : List (List ℕ)) → is_step_line line ≡ false → front (line ∷ rest) ≡ line ∷ front rest
front-line line rest is = rw is refl

front-step : (line : List ℕ) (rest : List (List ℕ)) → is_step_line line ≡ true → front (line ∷ rest) ≡ []
front-step line rest is = rw is refl

-- the front of lines has no step line
pub front-none : (list : List (List ℕ)) → All (λ line. is_step_line line ≡ false) (front list)
front-none [] = All-nil (λ line. is_step_line line ≡ false)
front-none (line ∷ rest) = by (is_step_line line) refl (front-none rest)
  where
    by : (b : Bool) → is_step_line line ≡ b → All (λ x. is_step_line x ≡ false) (front rest) → All (λ x. is_step_line x ≡ false) (front (line ∷ rest))
    by true is more = subst (λ (l : List (List ℕ)). All (λ x. is_step_line x ≡ false) l) (sym (front-step line rest is))
        (All-nil (λ x. is_step_line x ≡ false))
    by false is more = subst (λ (l : List (List ℕ)). All (λ x. is_step_line x ≡ false) l) (sym (front-line line rest is))
        (All-cons (λ x. is_step_line x ≡ false) line (front rest) is more)

pub entries-at : (number : ℕ) (line : List ℕ) (rest : List (List ℕ)) → is_step_line line ≡ true
    → entries_from number (line ∷ rest) ≡ record { number = number; line = line; block = front rest } ∷ entries_from (number + 1) rest
entries-at number line rest is = rw is refl

entries-past : (number : ℕ) (line : List ℕ) (rest : List (List ℕ)) → is_step_line line ≡ false
    → entries_from number (line ∷ rest) ≡ entries_from (number + 1) rest
entries-past number line rest is = rw is refl

entries-skip : (number : ℕ) (block rest : List (List ℕ)) → All (λ line. is_step_line line ≡ false) block
    → entries_from number (block ++ rest) ≡ entries_from (number + length block) rest
entries-skip number [] rest none = ap (λ (n : ℕ). entries_from n rest) (omega arith)
entries-skip number (line ∷ block) rest none =
    entries-past number line (block ++ rest) (All-head (λ x. is_step_line x ≡ false) line block none)
    ∙ entries-skip (number + 1) block rest (All-tail (λ x. is_step_line x ≡ false) line block none)
    ∙ ap (λ (n : ℕ). entries_from n rest) (omega arith)

-- lines that are no step lines have no entries
pub entries-cut : (number : ℕ) (all block rest : List (List ℕ)) → IsCutAfter all block rest
    → entries_from number all ≡ entries_from (number + length block) rest
entries-cut number all block rest cut =
    ap (entries_from number) cut.pieces
    ∙ entries-skip number block rest (subst (λ (l : List (List ℕ)). All (λ x. is_step_line x ≡ false) l) cut.is_front (front-none all))

-- a step line is followed by its block, and then by what comes next
pub entries-next : (number : ℕ) (line : List ℕ) (all after block rest : List (List ℕ)) → all ≡ line ∷ after → is_step_line line ≡ true
    → IsCutAfter after block rest
    → entries_from number all ≡ record { number = number; line = line; block = block } ∷ entries_from (number + (length block + 1)) rest
entries-next number line all after block rest is step cut =
    ap (entries_from number) is ∙ entries-at number line after step
    ∙ ap (λ (b : List (List ℕ)). record { number = number; line = line; block = b } ∷ entries_from (number + 1) after) cut.is_front
    ∙ ap (λ (l : List Entry). record { number = number; line = line; block = block } ∷ l)
    (entries-cut (number + 1) after block rest cut ∙ ap (λ (n : ℕ). entries_from n rest) (omega arith))
