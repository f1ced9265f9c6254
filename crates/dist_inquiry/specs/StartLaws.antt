-- Laws of what is kept before a question is asked. No public clause cites them; proofs of the crates above do.
use Rattle.std.proofs.Common.{◌≡◌, ℕ, ◌≤◌, List, [], length, refl, sym, arith, append-nil}
use Rattle.std.specs.List.{All}
use Rattle.dist_base.specs.declared.TheConstants.{MAX_LIMIT}
use Rattle.dist_clause.specs.ClauseList.{ClauseList}
use Rattle.dist_clause.specs.Formula.{Literal, IsClauseOver, value_of}
use Rattle.dist_cert.specs.FirstLines.{first_line}
use Rattle.dist_cert.specs.Form.{IsSmall}
use Rattle.dist_cert.specs.ListLaws.{any-from, both-flags, from-any}
use Rattle.dist_cert.specs.Rising.{is_among}
use Rattle.dist_findings.specs.AnswerFiles.{AnswerFile, HasHeading, limit_of}
use Rattle.dist_findings.specs.Unclaimed.{clauses_alone}
use Rattle.dist_outside.specs.declared.limits.Limits.{Limits}
use Rattle.dist_subject.specs.Installed.{ModelsStand}
use Rattle.dist_subject.specs.MemberLaws.{model-alike}
use Rattle.dist_line_write.specs.Asking.{AskerView, IsLogAt}
use Rattle.dist_line_write.specs.Script.{new_writer}
use Rattle.dist_inquiry.specs.AnswerText.{setting_of}

-- A model makes clauses over its variables true, as the set of its true variables does.
pub alone-stand : (n : ℕ) (clauses : List (List Literal)) → All (IsClauseOver n) clauses
    → ModelsStand (clauses_alone n clauses)
alone-stand n clauses over values variables size model are = (
  tt,
  model-alike (value_of values) (is_among variables) n (λ v from upto.
      let same = are v from (omega (arith, upto, size)) in
      both-flags (value_of values v) (is_among variables v) (λ holds. any-from v variables (same.1 holds))
      (λ among. same.0 (from-any v variables among))) clauses over model,
)

-- the view of a new inquirer
abbrev pub new_asker : ClauseList → (limit : ℕ) → Limits → AskerView
new_asker set limit limits = record {
  log = record {
    clauses = set.clauses;
    inputs = length set.clauses;
    variables = set.variables;
    line_limit = limits.lines;
    line_literal_limit = limits.line_literals;
  };
  writer = new_writer limits;
  limit = limit;
}

-- its log holds no lines
pub log-at-start : (file : AnswerFile) (limits : Limits) (numbers : List ℕ) (set : ClauseList) (limit : ℕ)
    → limit ≡ limit_of numbers
    → IsLogAt (setting_of file limits (record { variables = set.variables; clauses = set.clauses }) numbers) []
    (new_asker set limit limits).log limit
log-at-start file limits numbers set limit is = record {
  limit_is = is;
  clauses = sym (append-nil set.clauses);
  inputs = refl;
  variables = refl;
  line_limit = refl;
  line_literal_limit = refl;
  not_ended = refl;
}

-- numbers of a first line
pub heading-by : (file : AnswerFile) (numbers : List ℕ) → length numbers ≡ file.count → 1 ≤ limit_of numbers
    → limit_of numbers ≤ MAX_LIMIT → All IsSmall numbers → HasHeading file (first_line file.front numbers) numbers
heading-by file numbers count from upto small = record { text = refl; counted = (count, from, upto); small = small }
