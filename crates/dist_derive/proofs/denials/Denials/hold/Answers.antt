use Rattle.std.proofs.Common.{◌∙◌, List, ℕ, ap, arith, get_or, length, refl, subst, sym}
use Rattle.std.proofs.lemmas.Bool.{false≢true}
use Rattle.std.proofs.lemmas.List.{get_or_default}
use borrow.Author.Count.{below_more}
use Rattle.dist_clause.specs.Formula.{Literal}
use Rattle.dist_derive.proofs.DenialLemmas.{AreTrue, from-model, model-from}
use Rattle.dist_derive.proofs.denials.Denials.hold.Goals as goal

pub returns-then-not-are_true : goal.returns-then-not-are_true
returns-then-not-are_true c = λ value gives. (
  (λ no. absurd (false≢true no)),
  λ model. absurd (false≢true (sym c.if-not-are_true.true
      ∙ (c.are_true.ensures value gives).1 (from-model value c.args.clauses.now.clauses c.args.self.now 0 c.requires.denials model))),
)

pub returns-then-not-are_true-2 : goal.returns-then-not-are_true-2
returns-then-not-are_true-2 c = λ value gives. (
  (λ no. absurd (false≢true no)),
  λ model. absurd (false≢true (sym c.if-not-are_true-2.true
      ∙ (c.are_true-in-loop-variable.ensures value gives).1 (from-model value c.args.clauses.now.clauses c.args.self.now _ c.requires.denials model))),
)

pub loop-variable-preserved : goal.loop-variable-preserved
loop-variable-preserved c = λ value gives.
    let P : ℕ → Type 0 = λ k. AreTrue value c.args.clauses.now.clauses c.args.self.now (get_or c.args.trues.now.members k 0) in
    below_more P c.loop-variable.variable-index (c.loop-variable.invariant value gives)
    (subst (λ (vs : List ℕ). AreTrue value c.args.clauses.now.clauses c.args.self.now (get_or vs c.loop-variable.variable-index 0))
    c.members-variable-items.ensures.value ((c.are_true-in-loop-variable.ensures value gives).0 c.if-not-are_true-2.false))

pub returns : goal.returns
returns c = λ value gives.
    let members : List ℕ = c.args.trues.now.members in
    let clauses : List (List Literal) = c.args.clauses.now.clauses in (
      (λ yes. model-from clauses c.args.self.now members value gives c.requires.denials ((c.are_true.ensures value gives).0 c.if-not-are_true.false)
          (λ v there. subst (AreTrue value clauses c.args.self.now) (get_or_default members there.0 0 v there.1 ∙ there.2)
          (c.loop-variable.invariant value gives there.0 (let low = there.1 in omega (
            arith,
            low,
            c.loop-variable-test.false,
            ap length c.members-variable-items.ensures.value,
          ))))),
      λ model. refl,
    )
