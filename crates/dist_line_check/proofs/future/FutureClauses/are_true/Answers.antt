use Rattle.std.proofs.Common.{◌≡◌, ◌≤◌, ◌∙◌, List, ℕ, ap, arith, length, min, subst, sym}
use Rattle.std.proofs.lemmas.Bool.{false≢true}
use Rattle.dist_clause.specs.Formula.{Literal}
use Rattle.dist_line_check.proofs.FutureLemmas.{AreTrueIn, from-future, future-from}
use Rattle.dist_line_check.proofs.future.FutureClauses.are_true.Goals as goal

pub returns-then-not-are_true : goal.returns-then-not-are_true
returns-then-not-are_true c = λ value gives.
    let clauses : List (List Literal) = c.args.log.now.clauses in
    let n : ℕ = c.args.log.now.inputs in
    let within : n ≤ length clauses = omega (arith, c.inputs-inputs.ensures.value, c.inputs-inputs.ensures.within) in
    let front : c.min-front.result ≡ min c.args.self.upto n = c.min-front.ensures ∙ ap (λ (k : ℕ). min c.args.self.upto k) c.inputs-inputs.ensures.value in (
      (λ no. absurd (false≢true no)),
      λ stands. absurd (false≢true (sym c.if-not-are_true.true
          ∙ (c.are_true.ensures value gives).1 (subst (AreTrueIn value clauses 0) (sym front) (from-future value clauses n c.args.self within stands).0))),
    )

pub returns : goal.returns
returns c = λ value gives.
    let clauses : List (List Literal) = c.args.log.now.clauses in
    let n : ℕ = c.args.log.now.inputs in
    let within : n ≤ length clauses = omega (arith, c.inputs-inputs.ensures.value, c.inputs-inputs.ensures.within) in
    let front : c.min-front.result ≡ min c.args.self.upto n = c.min-front.ensures ∙ ap (λ (k : ℕ). min c.args.self.upto k) c.inputs-inputs.ensures.value in
    let last : c.min-last.result ≡ min c.args.self.last n = c.min-last.ensures ∙ ap (λ (k : ℕ). min c.args.self.last k) c.inputs-inputs.ensures.value in (
      (λ yes. future-from value clauses n c.args.self within
          (subst (AreTrueIn value clauses 0) front ((c.are_true.ensures value gives).0 c.if-not-are_true.false))
          (subst (AreTrueIn value clauses c.args.self.behind) last ((c.are_true-2.ensures value gives).0 yes))),
      λ stands. (c.are_true-2.ensures value gives).1
          (subst (AreTrueIn value clauses c.args.self.behind) (sym last) (from-future value clauses n c.args.self within stands).1),
    )
