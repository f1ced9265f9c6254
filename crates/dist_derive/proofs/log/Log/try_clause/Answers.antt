use Rattle.std.proofs.Common.{◌≤◌, map, take, sym, subst}
use Rattle.std.specs.List.{All}
use Rattle.std.proofs.lemmas.Bool.{false≢true}
use Rattle.std.proofs.lemmas.List.Elements.{All-tail, All-weaker}
use Rattle.dist_clause.specs.Formula.{Literal, negation, IsClauseOver}
use Rattle.dist_derive.specs.New.{LeavesFirstUnset}
use Rattle.dist_derive.specs.WatchesPrivate.{AllGuarded}
use Rattle.dist_derive.proofs.GuardLemmas.{all_guarded_open}
use Rattle.dist_derive.proofs.SweepLemmas.{unset_refused, unset_refuted, unset_at_end, leaves_unset_end}
use Rattle.dist_derive.proofs.StandingLemmas.{tries_none, tries_assume, tries_both, assumed_guards}
use Rattle.dist_derive.proofs.log.Log.try_clause.Goals as goal

pub deny_all-requires : goal.deny_all-requires
deny_all-requires c =
    let n = c.args.self.now.variables in
    let over = subst (λ clause. IsClauseOver n clause) c.in-Some.ensures.cases.0 c.requires.clause in
    let rest = All-tail (λ (l : Literal). (1 ≤ l.variable) × (l.variable ≤ n)) c.in-Some.first.now c.in-Some.rest.now over.in_range in
    subst (λ m. All (λ (l : Literal). l.variable ≤ m) c.in-Some.rest.now) (sym c.requires.same_variables)
    (All-weaker (λ (l : Literal). (1 ≤ l.variable) × (l.variable ≤ n)) (λ (l : Literal). l.variable ≤ n) (λ l r. r.1) c.in-Some.rest.now rest)

pub advance-requires-clause-guarded : goal.advance-requires-clause-guarded
advance-requires-clause-guarded c =
    let trues = c.deny_all.new.self.literals in
    subst (λ k. AllGuarded c.args.watches.now c.args.self.now.clauses c.args.last trues (take k trues)) (sym c.len-done.ensures.value)
    (assumed_guards c.args.self.now.clauses c.args.watches.now c.args.literals.now c.deny_all.new.self (map negation c.in-Some.rest.now)
    c.deny_all.result c.requires.watches c.deny_all.ensures c.args.last c.requires.guarded)

pub returns-in_default-clause-tries : goal.returns-in_default-clause-tries
returns-in_default-clause-tries c = tries_none c.args.self.now.clauses c.args.watches.now c.args.literals.now c.requires.watches

pub returns-then-not-deny_all-clause-answer : goal.returns-then-not-deny_all-clause-answer
returns-then-not-deny_all-clause-answer c =
    let clauses = take c.args.last c.args.self.now.clauses in
    let start = c.args.literals.now.literals in (
      λ e. absurd (false≢true e),
      λ h.
          let t = subst (λ clause. LeavesFirstUnset clauses start clause) c.in-Some.ensures.cases.0 h in
          absurd (unset_refused clauses start c.in-Some.first.now c.in-Some.rest.now c.deny_all.new.self.literals c.deny_all.new.self.literals
          (c.deny_all.ensures.refused c.if-not-deny_all.true) t.0 t.1),
    )

pub returns-then-not-deny_all-clause-tries : goal.returns-then-not-deny_all-clause-tries
returns-then-not-deny_all-clause-tries c = tries_assume c.args.self.now.clauses c.args.watches.now c.args.literals.now c.deny_all.new.self
    (map negation c.in-Some.rest.now) c.deny_all.result c.requires.watches c.deny_all.ensures

pub returns-then-not-branch : goal.returns-then-not-branch
returns-then-not-branch c =
    let clauses = take c.args.last c.args.self.now.clauses in
    let start = c.args.literals.now.literals in
    record {
      answer = (
        λ e. absurd (false≢true e),
        λ h.
            let t = subst (λ clause. LeavesFirstUnset clauses start clause) c.in-Some.ensures.cases.0 h in
            absurd (unset_refuted clauses start c.in-Some.first.now c.in-Some.rest.now c.deny_all.new.self.literals c.advance.new.literals.literals
            c.deny_all.ensures.least (c.in_ok-advance.ensures.refuted c.if-not-branch.true) t.0 t.1),
      );
      tries = tries_both c.args.self.now.clauses c.args.watches.now c.args.literals.now c.deny_all.new.self (map negation c.in-Some.rest.now)
          c.deny_all.result c.requires.watches c.deny_all.ensures c.args.last c.advance.new.watches c.advance.new.literals
          c.in_ok-advance.ensures.advances;
    }

pub returns : goal.returns
returns c =
    let clauses = take c.args.last c.args.self.now.clauses in
    let start = c.args.literals.now.literals in
    let assumes = c.deny_all.ensures in
    let step = c.in_ok-advance.ensures.advances in
    record {
      answer = (
        λ e.
            let trues = leaves_unset_end clauses start c.in-Some.first.now c.in-Some.rest.now c.deny_all.new.self.literals
            c.advance.new.literals.literals assumes.kept (assumes.assumed c.if-not-deny_all.false) step.grows.kept
            (all_guarded_open c.advance.new.watches c.args.self.now.clauses c.args.last c.advance.new.literals.literals c.is_unset.ensures.consistent
            (step.watches c.requires.watches) (c.in_ok-advance.ensures.guarded c.if-not-branch.false))
            c.is_unset.ensures.consistent (c.is_unset.ensures.answer.0 e) in
            subst (λ clause. LeavesFirstUnset clauses start clause) (sym c.in-Some.ensures.cases.0) (c.advance.new.literals.literals, trues),
        λ h.
            let t = subst (λ clause. LeavesFirstUnset clauses start clause) c.in-Some.ensures.cases.0 h in
            c.is_unset.ensures.answer.1 (unset_at_end clauses start c.in-Some.first.now c.in-Some.rest.now c.deny_all.new.self.literals
            c.advance.new.literals.literals assumes.least step.grows.forced t.0 t.1),
      );
      tries = tries_both c.args.self.now.clauses c.args.watches.now c.args.literals.now c.deny_all.new.self (map negation c.in-Some.rest.now)
          c.deny_all.result c.requires.watches assumes c.args.last c.advance.new.watches c.advance.new.literals step;
    }
