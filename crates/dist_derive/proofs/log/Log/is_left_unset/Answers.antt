use Rattle.std.proofs.Common.{◌≤◌, take, sym, subst}
use Rattle.std.specs.List.{All}
use Rattle.std.proofs.lemmas.Bool.{false≢true}
use Rattle.std.proofs.lemmas.List.Elements.{All-tail, All-weaker}
use Rattle.dist_clause.specs.Formula.{Literal, IsClauseOver}
use Rattle.dist_derive.specs.New.{LeavesFirstUnset}
use Rattle.dist_derive.proofs.SweepLemmas.{unset_refused, unset_refuted, unset_at_end, leaves_unset_end}
use Rattle.dist_derive.proofs.log.Log.is_left_unset.Goals as goal

pub deny_all-requires : goal.deny_all-requires
deny_all-requires c =
    let n = c.args.self.now.variables in
    let over = subst (λ clause. IsClauseOver n clause) c.in-Some.ensures.cases.0 c.requires.clause in
    let rest = All-tail (λ (l : Literal). (1 ≤ l.variable) × (l.variable ≤ n)) c.in-Some.first.now c.in-Some.rest.now over.in_range in
    subst (λ m. All (λ (l : Literal). l.variable ≤ m) c.in-Some.rest.now) (sym c.requires.same_variables)
    (All-weaker (λ (l : Literal). (1 ≤ l.variable) × (l.variable ≤ n)) (λ (l : Literal). l.variable ≤ n) (λ l r. r.1) c.in-Some.rest.now rest)

pub returns-then-not-deny_all-clause-answer : goal.returns-then-not-deny_all-clause-answer
returns-then-not-deny_all-clause-answer c =
    let clauses = take c.args.last c.args.self.now.clauses in
    let start = c.args.literals.now.literals in (
      λ e. absurd (false≢true e),
      λ h.
          let t = subst (λ clause. LeavesFirstUnset clauses start clause) c.in-Some.ensures.cases.0 h in
          absurd (unset_refused clauses start c.in-Some.first.now c.in-Some.rest.now c.deny_all.new.self.literals c.deny_all.new.self.literals
          (c.deny_all.ensures.refused c.if-not-deny_all.true) t.0 t.1),
    )

pub returns-then-not-propagate-clause-answer : goal.returns-then-not-propagate-clause-answer
returns-then-not-propagate-clause-answer c =
    let clauses = take c.args.last c.args.self.now.clauses in
    let start = c.args.literals.now.literals in (
      λ e. absurd (false≢true e),
      λ h.
          let t = subst (λ clause. LeavesFirstUnset clauses start clause) c.in-Some.ensures.cases.0 h in
          absurd (unset_refuted clauses start c.in-Some.first.now c.in-Some.rest.now c.deny_all.new.self.literals c.propagate.new.literals.literals
          c.deny_all.ensures.least (c.propagate.ensures.refuted c.if-not-propagate.true) t.0 t.1),
    )

pub returns-clause-answer : goal.returns-clause-answer
returns-clause-answer c =
    let clauses = take c.args.last c.args.self.now.clauses in
    let start = c.args.literals.now.literals in
    let assumes = c.deny_all.ensures in (
      λ e.
          let trues = leaves_unset_end clauses start c.in-Some.first.now c.in-Some.rest.now c.deny_all.new.self.literals
          c.propagate.new.literals.literals assumes.kept (assumes.assumed c.if-not-deny_all.false) c.propagate.ensures.grows.kept
          (c.propagate.ensures.settled c.if-not-propagate.false) c.is_unset.ensures.consistent (c.is_unset.ensures.answer.0 e) in
          subst (λ clause. LeavesFirstUnset clauses start clause) (sym c.in-Some.ensures.cases.0) (c.propagate.new.literals.literals, trues),
      λ h.
          let t = subst (λ clause. LeavesFirstUnset clauses start clause) c.in-Some.ensures.cases.0 h in
          c.is_unset.ensures.answer.1 (unset_at_end clauses start c.in-Some.first.now c.in-Some.rest.now c.deny_all.new.self.literals
          c.propagate.new.literals.literals assumes.least c.propagate.ensures.grows.forced t.0 t.1),
    )
