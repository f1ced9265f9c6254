-- What an answer says of the input clauses, and what is said of the last package by it.
use Rattle.std.proofs.Common.{◌≡◌, ◌∙◌, inl, inr, ℕ, ◌≤◌, Bool, true, false, List, [], ◌∷◌, length, Ok, ap, sym, subst, refl, arith, ◌++◌, codes}
use Rattle.std.proofs.lemmas.List.{take_all, take-append-le}
use Rattle.std.proofs.lemmas.List.Elements.{All-cons, All-head, All-nil}
use Rattle.dist_clause.specs.Formula.{Literal, IsModel, IsTrueLiteral, value_of}
use Rattle.dist_derive.specs.ClauseLog.{ClauseLog, inputs_of}
use Rattle.dist_repo.specs.PackageList.{PackageList}
use Rattle.dist_solver.specs.Ask.{IsAnswer}
use Rattle.dist_solver.specs.Derived.{DerivedLine}
use Rattle.dist_solver.specs.Evidence.{Adds}
use Rattle.dist_solver.specs.declared.answers.Answer.{Answer}
use Rattle.dist_solver.specs.declared.answers.Answer.TheVariants.{Found, Refuted, Undecided}
use Rattle.dist_bench.specs.Counted.{counted}
use Rattle.dist_bench.specs.Packages.{ArePresentWithin}
use Rattle.dist_bench.specs.Questions.{IsLogOf, IsRight, IsVerdict, asked_text, said}
use Rattle.dist_bench.specs.declared.questions.QuestionCounts.{QuestionCounts}

-- a question leaves the input clauses as they are
pub inputs-stay : (old new : ClauseLog) (derived : List DerivedLine) (assumptions : List Literal) (limit : ℕ) → old.inputs ≤ length old.clauses
    → Adds old new derived assumptions limit → inputs_of new ≡ inputs_of old
inputs-stay old new derived assumptions limit within adds = ap inputs_of adds.log ∙ take-append-le old.inputs old.clauses adds.lines within

pub right-of : (old new : ClauseLog) (assumptions : List Literal) (limit : ℕ) (answer : Answer) → inputs_of new ≡ inputs_of old
    → IsAnswer old new assumptions limit (Ok answer) → IsRight old assumptions answer
right-of old new assumptions limit (Found values) stay is = (is.variables, (value_of values, is.model, is.assumed))
right-of old new assumptions limit (Refuted hints) stay is = λ value model. is.no_model value (subst (λ cs. IsModel value cs) (sym stay) model)
right-of old new assumptions limit Undecided stay is = tt

-- the log of a new solver
pub log-of : (r : PackageList) (essential : Bool) (clauses : List (List Literal)) (variables lines line_literals : ℕ) (log : ClauseLog)
    → log ≡ record { clauses = clauses; inputs = length clauses; variables = variables; line_limit = lines; line_literal_limit = line_literals }
    → ArePresentWithin r essential clauses → variables ≡ length r.packages → IsLogOf r essential log
log-of r essential clauses variables lines line_literals log is are fits =
    subst (λ (l : ClauseLog). IsLogOf r essential l) (sym is) (record {
      are = subst (λ cs. ArePresentWithin r essential cs) (sym (take_all (length clauses) clauses (omega arith))) are;
      variables = fits;
    })

-- an answer on the last package is its verdict
pub verdict : (r : PackageList) (log : ClauseLog) (literal : Literal) (answer : Answer) → IsLogOf r false log → literal.variable ≡ length r.packages
    → literal.positive ≡ true → 1 ≤ length r.packages → IsRight log (literal ∷ []) answer → IsVerdict r (said answer)
verdict r log literal (Found values) of last positive some right = (
  inputs_of log,
  of.are,
  inl (refl, (some, (right.1.0, right.1.1, subst (λ v. right.1.0 v ≡ true) last (All-head (IsTrueLiteral right.1.0) literal [] right.1.2 ∙ positive)))),
)
verdict r log literal (Refuted hints) of last positive some right = (
  inputs_of log,
  of.are,
  inr (inl (
    refl,
    λ has. right has.1.0 has.1.1
        (All-cons (IsTrueLiteral has.1.0) literal [] (subst (λ v. has.1.0 v ≡ literal.positive) (sym last) (has.1.2 ∙ sym positive))
        (All-nil (IsTrueLiteral has.1.0))),
  )),
)
verdict r log literal Undecided of last positive some right = (inputs_of log, of.are, inr (inr refl))

-- of no package there is nothing to say
pub none-last : (r : PackageList) (log : ClauseLog) → IsLogOf r false log → length r.packages ≡ 0 → IsVerdict r (said (Refuted []))
none-last r log of none = (inputs_of log, of.are, inr (inl (refl, λ has. omega (arith, has.0, none))))

-- the counts in words, of the same numbers
pub counts-told : (counts : QuestionCounts) (lines failed models refutations undecided derived thrown : ℕ) → models ≡ counts.models
    → refutations ≡ counts.refutations → undecided ≡ counts.undecided → derived ≡ lines → thrown ≡ failed
    → (((counted models (codes " models, ") ++ counted refutations (codes " refutations, ")) ++ counted undecided (codes " undecided, "))
    ++ counted derived (codes " derived lines, ")) ++ counted thrown (codes " failed guesses\n") ≡ asked_text counts lines failed
counts-told counts lines failed models refutations undecided derived thrown a b c d e = cc
