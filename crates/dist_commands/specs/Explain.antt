-- What `explain PACKAGES CERT` comes to.
use Rattle.std.specs.Prelude.{ℕ, List, Option}
use Rattle.dist_outside.specs.Files.{Files}
use Rattle.dist_outside.specs.declared.limits.Limits.{Limits}
use Rattle.dist_repo.specs.PackageList.{PackageList}
use Rattle.dist_inquiry.specs.Written.{IsCutText, IsFull, IsWholeText}
use Rattle.dist_explain.specs.ExplanationFiles.{PassesFirst}
use Rattle.dist_explain.specs.Verdicts.{IsExplanation}
use Rattle.dist_explain.specs.declared.explained.Explained.{Explained}
use Rattle.dist_explain.specs.declared.verdict.ExplainHeader.{ExplainHeader}
use Rattle.dist_explain_search.specs.ExplainAnswers.{OfExplain}
use Rattle.dist_report.specs.ExplainedText.{IsExplainedText}
use Rattle.dist_commands.specs.CheckExplain.{explained_status}
use Rattle.dist_commands.specs.NamedStage.{NamedStage}
use Rattle.dist_commands.specs.PackagesStage.{PackagesStage}
use Rattle.dist_commands.specs.Stages.{Ending, Goes, Then}
use Rattle.dist_commands.specs.WrittenFile.{IsGivenUp, NumbersStage, Writes, Writing}
use Rattle.dist_commands.specs.declared.refusal.Refusal.{Refusal}

-- the header of a file on the package of a number, from 0, with a limit of derived lines
abbrev pub header_on : (number limit : ℕ) → ExplainHeader
header_on number limit = record { limit = limit; «package» = number }

-- The file of an explanation of the package of a number: it is accepted with its answer, and asks its questions in the
-- order of the search. What is answered is told.
abbrev pub explain_writing : Limits → (limit : ℕ) → PackageList → (number : ℕ) → Writing Explained
explain_writing limits limit r number = record {
  PassesFirst = PassesFirst r limits;
  IsWhole = λ explained text. IsExplanation r limits text (header_on number limit) explained
      × OfExplain r number limit limits (λ g course. IsWholeText g course text);
  IsFull = λ what text. OfExplain r number limit limits (λ g course. IsFull g course what text);
  IsCut = λ text. OfExplain r number limit limits (λ g course. IsCutText g course text);
  status = explained_status;
  IsTold = λ explained out. IsExplainedText r number explained out;
}

-- the end of the writing
abbrev pub Explains : Option Files → Limits → (cert : List ℕ) → (limit : ℕ) → PackageList → (number : ℕ) → Ending
    → Type 0
Explains files limits cert limit r number ending = Writes (explain_writing limits limit r number) files cert ending

-- PACKAGES is read and taken apart, then the package is found, then the clauses with selectors are made. The first
-- stage that is refused decides.
abbrev pub ExplainStages : Option Files → Limits → (packages named : List ℕ)
    → (PackageList → (number : ℕ) → Ending → Type 0) → Ending → Type 0
ExplainStages files limits packages named Last =
    Then (PackagesStage files limits packages) (λ r.
    Then (NamedStage files r.packages named) (λ number.
    Then (NumbersStage (PassesFirst r limits) files) (λ _.
    Last r number)))

-- what the stages before the writing gave: a repository, and the number of a package
abbrev pub IsExplainReached : Option Files → Limits → (packages named : List ℕ) → PackageList × ℕ → Type 0
IsExplainReached files limits packages named at =
    PackagesStage files limits packages (Goes at.0) × NamedStage files at.0.packages named (Goes at.1)

-- the writing was given up
abbrev pub IsExplainGivenUp : Option Files → Limits → (packages cert named : List ℕ) → (limit : ℕ) → Refusal → Ending
    → Type 0
IsExplainGivenUp files limits packages cert named limit =
    IsGivenUp (IsExplainReached files limits packages named) (λ at. explain_writing limits limit at.0 at.1) files cert
