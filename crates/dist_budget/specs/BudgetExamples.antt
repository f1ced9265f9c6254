-- Worked examples of the numbers that are enough, with at most 10,000 derived lines a question.
use Rattle.std.specs.Prelude.{◌≡◌, ◌+◌, List, [], ◌∷◌, None, refl}
use Rattle.dist_clause.specs.Formula.{Literal}
use Rattle.dist_repo.specs.declared.package.Package.{Package}
use Rattle.dist_cert.specs.Subject.{Matter}
use Rattle.dist_cert.specs.declared.records.CertKind.TheVariants.{Strong, Outdated, Challenged}
use Rattle.dist_budget.specs.Budget.{FileSize, certificate_budget, line_budget, literal_budget, pair_count}
use Rattle.dist_budget.specs.Budget.{question_budget, record_budget, sweep_size}
use Rattle.dist_budget.specs.SearchBudget.{explanation_questions, explanation_size, repair_questions}

-- two packages as they are
abbrev two : Matter
two = record {
  packages = 2;
  variables = 2;
  inputs = [];
  clusters = [];
  present = λ p. p;
  new = λ p class. 0;
  at = λ cluster class. 0;
  IsFuture = λ members. Unit {0};
  IsHealthy = λ members. Unit {0};
}

-- the futures of two packages: each is a cluster, one with three classes and one with one
abbrev futures : Matter
futures = record {
  packages = 2;
  variables = 11;
  inputs = [];
  clusters = record { members = 1 ∷ []; classes = 3 } ∷ record { members = 2 ∷ []; classes = 1 } ∷ [];
  present = λ p. p + 1;
  new = λ p class. 0;
  at = λ cluster class. 0;
  IsFuture = λ members. Unit {0};
  IsHealthy = λ members. Unit {0};
}

-- each of the two alone, and without the other one
strong_questions : question_budget Strong two ≡ 4
strong_questions = refl

strong_lines : line_budget (sweep_size Strong two 10000) ≡ 40000
strong_lines = refl

strong_literals : literal_budget (sweep_size Strong two 10000) ≡ 80000
strong_literals = refl

strong_bytes : record_budget two.variables ≡ 13248
strong_bytes = refl

strong_file : certificate_budget (sweep_size Strong two 10000) ≡ 530078976
strong_file = refl

-- three pairs and one
pairs : pair_count futures ≡ 4
pairs = refl

-- one of each package
outdated_questions : question_budget Outdated futures ≡ 2
outdated_questions = refl

-- each package today, and at each of the four pairs
challenged_questions : question_budget Challenged futures ≡ 10
challenged_questions = refl

challenged_lines : line_budget (sweep_size Challenged futures 10000) ≡ 100000
challenged_lines = refl

challenged_literals : literal_budget (sweep_size Challenged futures 10000) ≡ 1100000
challenged_literals = refl

challenged_bytes : record_budget futures.variables ≡ 13464
challenged_bytes = refl

challenged_file : certificate_budget (sweep_size Challenged futures 10000) ≡ 1346723136
challenged_file = refl

-- the explanation of a package of two, which have two relations
abbrev explained : FileSize
explained = record { packages = 2; variables = 4; questions = 7; limit = 10000 }

explained_size : (p q : Package) (first second : List Literal)
    → explanation_size (record { architecture = None; packages = p ∷ q ∷ [] }) (first ∷ second ∷ []) 10000 ≡ explained
explained_size p q first second = refl

explained_lines : line_budget explained ≡ 70000
explained_lines = refl

explained_literals : literal_budget explained ≡ 280000
explained_literals = refl

explained_bytes : record_budget explained.variables ≡ 13296
explained_bytes = refl

explained_file : certificate_budget explained ≡ 930959328
explained_file = refl

-- with no relations there is one question
explained_alone : explanation_questions 0 ≡ 1
explained_alone = refl

-- the package alone, and where at most 0, 1 and 2 clusters have moved
repair_up_to_two : repair_questions 2 ≡ 4
repair_up_to_two = refl
