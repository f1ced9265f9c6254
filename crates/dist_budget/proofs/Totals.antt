-- What is counted of the lines of a file comes to no more than its budgets.
use Rattle.std.proofs.Common.{ℕ, ◌+◌, ◌*◌, ◌<◌, ◌≤◌, List, ◌∷◌, [], length, subst, arith, length-append, mul-add, mul-one, mul_comm, mul-le-mul_left}
use Rattle.std.specs.List.{All, Any}
use Rattle.std.proofs.lemmas.List.Sums.{sum_by-le}
use Rattle.dist_clause.specs.ClauseList.{literal_count}
use Rattle.dist_clause.specs.Formula.{Literal}
use Rattle.dist_cert.specs.declared.records.CertRecord.{CertRecord}
use Rattle.dist_cert.specs.FileLines.{file_text, lines_text}
use Rattle.dist_cert.specs.Form.{record_text}
use Rattle.dist_cert.specs.Groups.{claim_count, derived}
use Rattle.dist_cert.specs.Writing.{ended}
use Rattle.dist_budget.specs.Budget.{FileSize, certificate_budget, line_budget, literal_budget, record_budget}
use Rattle.dist_budget.proofs.Counts.{all-sorts, answers, asked, ends}
use Rattle.dist_budget.proofs.Widths.{lines-width}

-- The lines behind a first one, by their sorts, and how long each is.
pub record AreCounted (size : FileSize) (first : List ℕ) (steps : List CertRecord) : Type 0 where
  pub questions : length (asked steps) ≤ size.questions
  pub lines : length (derived steps) ≤ size.limit * length (asked steps)
  pub closings : length (answers steps) ≤ length (asked steps)
  pub claims : claim_count steps ≤ size.packages
  pub endings : length (ends steps) ≤ 1
  pub literals : All (λ clause. length clause ≤ size.variables) (derived steps)
  pub narrow : All (λ step. length (ended (record_text step)) ≤ record_budget size.variables) steps
  pub first_narrow : length (ended first) ≤ record_budget size.variables

count-within : (n : ℕ) (clauses : List (List Literal)) → All (λ c. length c ≤ n) clauses → literal_count clauses ≤ n * length clauses
count-within n clauses all = let most = sum_by-le (λ (c : List Literal). length c) n clauses all in omega (arith, most, mul_comm n (length clauses))

sum-within : (n q limit a d c claims e l : ℕ) → l ≤ a + d + c + claims + e → a ≤ q → d ≤ limit * a → c ≤ a → claims ≤ n → e ≤ 1
    → l + 1 ≤ n + 2 + q * (limit + 2)
sum-within n q limit a d c claims e l all few lines answered claimed ended =
    let wide = mul-le-mul_left limit few in
    let both = mul-add q limit 2 in
    let turned = mul_comm q limit in
    omega (arith, all, few, lines, answered, claimed, ended, wide, both, turned)

module _ (size : FileSize) (first : List ℕ) (steps : List CertRecord) (counted : AreCounted size first steps) where
  pub derived-within : length (derived steps) ≤ line_budget size
  derived-within = let wide = mul-le-mul_left size.limit counted.questions in let few = counted.lines in omega (arith, few, wide)

  pub literals-within : literal_count (derived steps) ≤ literal_budget size
  literals-within =
      let count = count-within size.variables (derived steps) counted.literals in
      let wide = mul-le-mul_left size.variables derived-within in
      omega (arith, count, wide)

  pub line-above : (n : ℕ) → Any (λ step. n < length (ended (record_text step))) steps → n < record_budget size.variables
  line-above n some =
      let width : length (ended (record_text some.1)) ≤ record_budget size.variables =
      subst (λ (s : CertRecord). length (ended (record_text s)) ≤ record_budget size.variables) some.3 (counted.narrow some.0 some.1 some.2) in
      omega (arith, width, some.4)

  pub bytes-within : length (file_text first steps) ≤ certificate_budget size
  bytes-within =
      let budget = record_budget size.variables in
      let lines = lines-width budget steps counted.narrow in
      let many = sum-within size.packages size.questions size.limit (length (asked steps)) (length (derived steps)) (length (answers steps))
      (claim_count steps) (length (ends steps)) (length steps)
      (all-sorts steps) counted.questions counted.lines counted.closings counted.claims counted.endings in
      let wide = mul-le-mul_left budget many in
      let one = mul-add budget (length steps) 1 in
      let start = counted.first_narrow in
      omega (arith, lines, wide, one, mul-one budget, start, length-append first (10 ∷ lines_text steps), length-append first (10 ∷ []))
