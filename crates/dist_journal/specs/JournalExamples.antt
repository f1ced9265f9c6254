-- Worked examples of journals: their words and their entries.
use Rattle.std.specs.Prelude.{◌≡◌, [], ◌∷◌, codes, refl}
use Rattle.dist_journal.specs.Journal.{entries, words}

-- An upload has four words.
upload_words : words (codes "= upload libx 2") ≡ codes "=" ∷ codes "upload" ∷ codes "libx" ∷ codes "2" ∷ []
upload_words = refl

-- A space at the end has an empty word behind it.
word_behind_a_space : words (codes "= new ") ≡ codes "=" ∷ codes "new" ∷ [] ∷ []
word_behind_a_space = refl

-- A blank line, a removal with a blank line behind it, and a new name with the field of its block. The last line lacks
-- its end.
two_entries : entries (codes "\n= removal p\n\n= new\nPackage: foo")
    ≡ record { number = 2; line = codes "= removal p"; block = [] ∷ [] }
    ∷ record { number = 4; line = codes "= new"; block = codes "Package: foo" ∷ [] } ∷ []
two_entries = refl

-- An equals sign without a space behind it begins no step line.
no_entry : entries (codes "=\n=new") ≡ []
no_entry = refl
