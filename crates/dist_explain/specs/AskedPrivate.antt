-- Serves private contracts: which relations a question selects.
use Rattle.std.specs.Prelude.{◌==◌, ◌&&◌, ◌||◌, if◌then◌else◌, ℕ, ◌-◌, Bool, List, Option, Some, None, is_some, nat_le}
use Rattle.std.specs.Prelude.{nat_lt}
use Rattle.dist_cert.specs.Form.{Word}
use Rattle.dist_explain.specs.Answered.{Selects}
use Rattle.dist_explain.specs.declared.asked.Asked.{Asked}

-- the word is the package
abbrev pub is_package : Asked → Word → Bool
is_package asked word = word.1 && (word.0 == asked.number)

-- the word is a selector
abbrev pub is_selector : Asked → Word → Bool
is_selector asked word =
    word.1 && (nat_lt asked.packages word.0 && nat_le (word.0 - asked.packages) asked.relations)

-- the relation whose selector the word is
abbrev pub relation_of : Asked → Word → Option ℕ
relation_of asked word = if is_selector asked word then Some (word.0 - asked.packages) else None

-- the word is the package, or a selector
abbrev pub is_on : Asked → Word → Bool
is_on asked word = is_package asked word || is_some (relation_of asked word)

-- the question is not on the package and selectors alone
abbrev pub SelectsNone : Asked → List Word → Type 0
SelectsNone asked question = (numbers : List ℕ) → ¬ Selects asked question numbers
