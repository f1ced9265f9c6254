-- The jobs by their words, and what each answers.
use Rattle.std.specs.Prelude.{◌≡◌, ℕ, true, false, List, codes}
use Rattle.dist_bench.specs.Counted.{lines_text}
use Rattle.dist_bench.specs.Explained.{IsExplainedText}
use Rattle.dist_bench.specs.Filled.{HasNoCount, IsFilledText}
use Rattle.dist_bench.specs.FutureClauses.{HasNoFutureClauses, IsFutureClausesText}
use Rattle.dist_bench.specs.Futures.{HasNoSpace, IsVariablesText}
use Rattle.dist_bench.specs.Packages.{HasNoClauses, HasNoPackages, IsClassesText, IsClausesText, IsPackagesText}
use Rattle.dist_bench.specs.Packages.{OfNewest}
use Rattle.dist_bench.specs.Questions.{HasNoQuestions, IsAskedText, IsLastText}
use Rattle.dist_bench.specs.Relations.{HasNoRelations, IsCountsText}
use Rattle.dist_bench.specs.Versions.{HasNoVersion, IsSortedText}
use Rattle.dist_bench.specs.declared.error.JobError.{JobError}
use Rattle.dist_bench.specs.declared.job.Job.{Job}
use Rattle.dist_bench.specs.declared.job.Job.TheVariants.{AskEssentialPackages, AskLastPackage, AskPackages}
use Rattle.dist_bench.specs.declared.job.Job.TheVariants.{CountLines, CountClasses, CountClauses, CountFutureClauses}
use Rattle.dist_bench.specs.declared.job.Job.TheVariants.{CountFutureVariables, CountPackages, ExplainPackages}
use Rattle.dist_bench.specs.declared.job.Job.TheVariants.{FillClauses, ReadRelations, SortVersions}

abbrev pub word_of : Job → List ℕ
word_of AskEssentialPackages = codes "ask-essential-packages"
word_of AskLastPackage = codes "ask-last-package"
word_of AskPackages = codes "ask-packages"
word_of CountLines = codes "count-lines"
word_of CountClasses = codes "count-classes"
word_of CountClauses = codes "count-clauses"
word_of CountFutureClauses = codes "count-future-clauses"
word_of CountFutureVariables = codes "count-future-variables"
word_of CountPackages = codes "count-packages"
word_of ExplainPackages = codes "explain-packages"
word_of FillClauses = codes "fill-clauses"
word_of ReadRelations = codes "read-relations"
word_of SortVersions = codes "sort-versions"

-- what a job answers on a text
abbrev pub IsAnswer : Job → (text answer : List ℕ) → Type 0
IsAnswer AskEssentialPackages text answer = OfNewest text (λ r. IsAskedText r answer)
IsAnswer AskLastPackage text answer = OfNewest text (λ r. IsLastText r answer)
IsAnswer AskPackages text answer = OfNewest text (λ r. IsAskedText r answer)
IsAnswer CountLines text answer = answer ≡ lines_text text
IsAnswer CountClasses text answer = OfNewest text (λ r. IsClassesText r answer)
IsAnswer CountClauses text answer = IsClausesText text answer
IsAnswer CountFutureClauses text answer = IsFutureClausesText text answer
IsAnswer CountFutureVariables text answer = IsVariablesText text answer
IsAnswer CountPackages text answer = IsPackagesText text answer
IsAnswer ExplainPackages text answer = OfNewest text (λ r. IsExplainedText r answer)
IsAnswer FillClauses text answer = IsFilledText text answer
IsAnswer ReadRelations text answer = IsCountsText text answer
IsAnswer SortVersions text answer = IsSortedText text answer

-- why it has no answer
abbrev pub HasNoAnswer : Job → (text : List ℕ) → JobError → Type 0
HasNoAnswer AskEssentialPackages text error = HasNoQuestions true text error
HasNoAnswer AskLastPackage text error = HasNoQuestions false text error
HasNoAnswer AskPackages text error = HasNoQuestions false text error
HasNoAnswer CountLines text error = ⊥
HasNoAnswer CountClasses text error = HasNoPackages text error
HasNoAnswer CountClauses text error = HasNoClauses text error
HasNoAnswer CountFutureClauses text error = HasNoFutureClauses text error
HasNoAnswer CountFutureVariables text error = HasNoSpace text error
HasNoAnswer CountPackages text error = HasNoPackages text error
HasNoAnswer ExplainPackages text error = HasNoQuestions false text error
HasNoAnswer FillClauses text error = HasNoCount text error
HasNoAnswer ReadRelations text error = HasNoRelations text error
HasNoAnswer SortVersions text error = HasNoVersion text error
