-- What a checker begins with behind a first line.
use Rattle.std.proofs.Common.{◌≡◌, ℕ, List, None, length, sym, ap, ◌∙◌}
use Rattle.dist_outside.specs.declared.limits.Limits.{Limits}
use Rattle.dist_clause.specs.ClauseList.{ClauseList}
use Rattle.dist_derive.specs.ClauseLog.{ClauseLog, IsWithinLineLimits}
use Rattle.dist_findings.specs.AnswerFiles.{AnswerFile, HasHeading, limit_of}
use Rattle.dist_line_check.specs.Checker.{CheckerView}
use Rattle.dist_findings.specs.AnswerLines.{any_future}
use Rattle.dist_findings.specs.BegunPrivate.{IsBegun}
use Rattle.dist_findings.specs.Start.{AreRightInputs}

-- the log of a set, within limits
abbrev pub log_of : Limits → ClauseList → ClauseLog
log_of limits set = record {
  clauses = set.clauses;
  inputs = length set.clauses;
  variables = set.variables;
  line_limit = limits.lines;
  line_literal_limit = limits.line_literals;
}

pub begun : (file : AnswerFile) (limits : Limits) (line numbers : List ℕ) (set : ClauseList) (limit : ℕ) (log : ClauseLog) (a : CheckerView)
    → HasHeading file line numbers → AreRightInputs file numbers limits set → log ≡ log_of limits set → limit ≡ limit_of numbers
    → a ≡ record { limit = limit; future = any_future; log = log; question = None } → IsWithinLineLimits a.log → IsBegun file limits line numbers a
begun file limits line numbers set limit log a heading right log_is limit_is is within = record {
  heading = heading;
  basis = right.basis;
  is_basis = right.is_basis;
  limited = right.within;
  fits = right.fits;
  variables = ap (λ (b : CheckerView). b.log.variables) is ∙ ap (λ (l : ClauseLog). l.variables) log_is ∙ right.variables;
  clauses = ap (λ (b : CheckerView). b.log.clauses) is ∙ ap (λ (l : ClauseLog). l.clauses) log_is ∙ right.clauses;
  counted = ap (λ (b : CheckerView). b.log.inputs) is ∙ ap (λ (l : ClauseLog). l.inputs) log_is
      ∙ ap (λ (l : ClauseLog). length l.clauses) (sym log_is) ∙ ap (λ (b : CheckerView). length b.log.clauses) (sym is);
  future = ap (λ (b : CheckerView). b.future) is;
  question = ap (λ (b : CheckerView). b.question) is;
  limit = ap (λ (b : CheckerView). b.limit) is ∙ limit_is;
  line_limit = ap (λ (b : CheckerView). b.log.line_limit) is ∙ ap (λ (l : ClauseLog). l.line_limit) log_is;
  line_literal_limit = ap (λ (b : CheckerView). b.log.line_literal_limit) is ∙ ap (λ (l : ClauseLog). l.line_literal_limit) log_is;
  within = within;
}
