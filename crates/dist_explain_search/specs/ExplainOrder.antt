-- Which questions the search for an explanation asks, and in which order.
use Rattle.std.specs.Prelude.{◌≡◌, ◌⊎◌, ℕ, ◌<◌, List, [], ◌∷◌, ◌++◌, All, Contains, length}
use Rattle.dist_cert.specs.Form.{Word}
use Rattle.dist_cert.specs.declared.records.CertRecord.{CertRecord}
use Rattle.dist_cert.specs.declared.records.CertRecord.TheVariants.{Question, Refuted}
use Rattle.dist_explain.specs.Answered.{AreAllBut, AreLast, IsOfRelation, Selects}
use Rattle.dist_explain.specs.declared.asked.Asked.{Asked}
use Rattle.dist_findings.specs.Findings.{findings}
use Rattle.dist_findings.specs.declared.finding.Finding.{Finding}

-- The first question is on all relations.
pub record IsFirstQuestion (asked : Asked) (before : List CertRecord) (numbers : List ℕ) : Type 0 where
  pub none_before : (question : List Word) → ¬ Contains before (Question question)
  pub all : (number : ℕ) → IsOfRelation asked number → Contains numbers number

-- Right behind the line that refutes the last question of relations: fewer of these.
pub record IsCoreQuestion (asked : Asked) (before : List CertRecord) (numbers : List ℕ) : Type 0 where
  pub earlier : List CertRecord
  pub hints : List ℕ
  pub right_behind : before ≡ earlier ++ Refuted hints ∷ []
  pub last : List ℕ
  pub are_last : AreLast asked (findings before) last []
  pub some_of_them : All (Contains last) numbers
  pub fewer : length numbers < length last

-- Behind the last question of relations that is refuted: all of these but one.
pub record IsOneLess (asked : Asked) (before : List CertRecord) (numbers : List ℕ) : Type 0 where
  pub last : List ℕ
  pub later : List Finding
  pub are_last : AreLast asked (findings before) last later
  pub one : ℕ
  pub all_but_one : AreAllBut last one numbers

-- The question is the first, or one of fewer relations right behind the last that is refuted, or leaves out one of
-- these; and no question before is on the same relations.
pub record IsNextQuestion (asked : Asked) (before : List CertRecord) (question : List Word) : Type 0 where
  pub numbers : List ℕ
  pub selects : Selects asked question numbers
  pub place : IsFirstQuestion asked before numbers
      ⊎ (IsCoreQuestion asked before numbers ⊎ IsOneLess asked before numbers)
  pub once : (other : List Word) → Contains before (Question other) → ¬ Selects asked other numbers
