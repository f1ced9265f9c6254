-- Files whose lines answer one question, as a kind of file that is checked line by line.
use Rattle.std.specs.Prelude.{◌≡◌, ℕ, Bool, true, false, List, Option, Some, None}
use Rattle.dist_cert.specs.declared.faults.CertCause.{CertCause}
use Rattle.dist_cert.specs.declared.faults.CertCause.TheVariants.{Incomplete}
use Rattle.dist_line_check.specs.Kinds.{LineKind}
use Rattle.dist_line_check.specs.declared.future.FutureClauses.{FutureClauses}
use Rattle.dist_findings.specs.AnswerFiles.{AnswerFile, files_of, limit_of}
use Rattle.dist_findings.specs.Findings.{findings}
use Rattle.dist_findings.specs.Unclaimed.{clauses_alone, limit_alone}
use Rattle.dist_findings.specs.declared.finding.Finding.{Finding}

-- what is noted of lines is noted of what they find
abbrev pub answer_lines : {N : Type 0} → AnswerFile → (List ℕ → List Finding → N → Type 0) → LineKind N
answer_lines file noted = record {
  file = files_of file;
  matter = λ basis. clauses_alone basis.variables basis.clauses;
  header = λ numbers. limit_alone (limit_of numbers);
  Noted = λ basis numbers before notes. noted numbers (findings before) notes;
}

-- no clauses say what a future is
abbrev pub any_future : FutureClauses
any_future = record { upto = 0; behind = 0; last = 0 }

-- of the end, where the answer is decided or not
abbrev pub TellsDecided : Bool → Option CertCause → Type 0
TellsDecided true found = found ≡ None
TellsDecided false found = found ≡ Some Incomplete
