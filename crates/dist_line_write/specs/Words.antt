-- Clauses and models as the words of lines.
use Rattle.std.specs.Prelude.{◌≡◌, ℕ, ◌≤◌, Bool, true, false, List, [], ◌∷◌, All, filter, length, map, refl}
use Rattle.std.specs.List.{range_with_len}
use Rattle.dist_clause.specs.Formula.{Literal, value_of}
use Rattle.dist_clause.specs.ClauseList.{clause_at}
use Rattle.dist_solver.specs.Derived.{DerivedLine}
use Rattle.dist_cert.specs.declared.records.CertRecord.{CertRecord}
use Rattle.dist_cert.specs.declared.records.CertRecord.TheVariants.{Derived, Installation}
use Rattle.dist_cert.specs.declared.records.CertRecord.TheVariants as lines
use Rattle.dist_solver.specs.declared.answers.Answer.{Answer}
use Rattle.dist_solver.specs.declared.answers.Answer.TheVariants.{Found, Refuted, Undecided}
use Rattle.dist_cert.specs.Form.{Word, AreFromOne}

-- the words of a clause
abbrev pub words_of : List Literal → List Word
words_of clause = map (λ l. (l.variable, l.positive)) clause

-- the true variables of some values, which rise
abbrev pub true_variables : List Bool → List ℕ
true_variables values = filter (λ v. value_of values v) (range_with_len 1 (length values))

-- the line of a derived clause of these clauses
abbrev pub derived_line : List (List Literal) → DerivedLine → CertRecord
derived_line clauses d = Derived (words_of (clause_at clauses d.line)) d.hints

abbrev pub derived_lines : List (List Literal) → List DerivedLine → List CertRecord
derived_lines clauses lines = map (derived_line clauses) lines

-- each line has the number of a clause, and hints from 1 on
abbrev pub AreDerived : List (List Literal) → List DerivedLine → Type 0
AreDerived clauses lines = All (λ d. (1 ≤ d.line) × (d.line ≤ length clauses) × AreFromOne d.hints) lines

-- the line that a question's answer writes
abbrev pub closing_line : Answer → CertRecord
closing_line (Found values) = Installation (true_variables values)
closing_line (Refuted hints) = lines.Refuted hints
closing_line Undecided = lines.Undecided

-- an answer over n variables, of which hints are numbers from 1 on
abbrev pub IsAnswerOver : ℕ → Answer → Type 0
IsAnswerOver n (Found values) = length values ≡ n
IsAnswerOver n (Refuted hints) = AreFromOne hints
IsAnswerOver n Undecided = Unit {0}

-- Worked example: the second and the third variable are true.
two_true : true_variables (false ∷ true ∷ true ∷ []) ≡ 2 ∷ 3 ∷ []
two_true = refl
