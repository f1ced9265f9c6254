-- What is kept of the installations before a line.
use Rattle.std.specs.Prelude.{◌≡◌, ℕ, ◌+◌, ◌-◌, Bool, true, List, [], ◌∷◌, ◌++◌, All, filter, length, map}
use Rattle.std.specs.Prelude.{slice_index_or}
use Rattle.std.specs.List.{range_with_len}
use Rattle.circular_buffer.specs.Buffer.{keep_last}
use Rattle.dist_clause.specs.Formula.{value_of}
use Rattle.dist_cert.specs.declared.TheConstants.{REACH}
use Rattle.dist_cert.specs.declared.records.CertRecord.{CertRecord}
use Rattle.dist_cert.specs.Groups.{installations}
use Rattle.dist_line_write.specs.Words.{true_variables}

-- the latest installations by their truth values, how many there were, and over how many variables
pub record WindowView : Type 0 where
  pub kept : List (List Bool)
  pub count : ℕ
  pub variables : ℕ

-- the installation of a number, where it is kept
abbrev pub kept_at : WindowView → ℕ → List Bool
kept_at w number = slice_index_or w.kept (number - (w.count - length w.kept + 1)) []

-- the numbers of the kept installations with a variable
abbrev pub numbers_of : WindowView → ℕ → List ℕ
numbers_of w p = filter (λ number. value_of (kept_at w number) p)
    (range_with_len (w.count - length w.kept + 1) (length w.kept))

-- each kept installation with the first variable has the second one
abbrev pub HasEach : WindowView → ℕ → ℕ → Type 0
HasEach w p q = All (λ v. value_of v p ≡ true → value_of v q ≡ true) w.kept

-- one installation more, as the latest one
abbrev pub added : WindowView → List Bool → WindowView
added w values = record w { kept = keep_last REACH (w.kept ++ values ∷ []); count = w.count + 1 }

-- What is kept are the latest installations of these lines.
pub record IsWindowAt (before : List CertRecord) (w : WindowView) : Type 0 where
  pub kept : map true_variables w.kept ≡ keep_last REACH (installations before)
  pub count : w.count ≡ length (installations before)
  pub sizes : All (λ values. length values ≡ w.variables) w.kept
