-- Serves private contracts: what is left of a text behind a front.
use Rattle.std.specs.Prelude.{◌≡◌, ◌≢◌, ℕ, Bool, true, false, List, [], ◌∷◌, ◌++◌, Option, MatchOption}
use Rattle.std.specs.Borrow.{Bor}
use Rattle.std.specs.List.{flat_map}
use Rattle.dist_cert.specs.Form.{Word, pair_words, plain, plains}
use Rattle.dist_cert.specs.declared.spelling.Part.{Part}
use Rattle.dist_cert.specs.declared.spelling.Part.TheVariants as parts

-- what is left behind a front, or nothing where the text does not begin with it
abbrev pub Leaves : (text front : List ℕ) → Option (Bor (List ℕ)) → Type 0
Leaves text front result =
    MatchOption result ((rest : List ℕ) → text ≢ front ++ rest) (λ rest. text ≡ front ++ rest.now)

-- the space before a word, with the word's sign
abbrev pub sign_text : Bool → List ℕ
sign_text true = 32 ∷ []
sign_text false = 32 ∷ 45 ∷ []

-- the words of a part, and of parts
abbrev pub part_words : Part → List Word
part_words (parts.Number number) = plain number ∷ []
part_words (parts.Numbers numbers) = plains numbers.now
part_words (parts.Literals literals) = literals.now
part_words (parts.Pairs pairs) = pair_words pairs.now

abbrev pub parts_words : List Part → List Word
parts_words list = flat_map part_words list
