use Rattle.std.proofs.Common.{List, Bool, ◌++◌, IsTrue, subst}
use Rattle.dist_clause.specs.Formula.{Literal}
use Rattle.dist_derive.specs.ContainmentPrivate.{ContainsAll}
use Rattle.dist_derive.specs.WatchesPrivate.{WatchingState, StandsFor}
use Rattle.dist_derive.proofs.AssumeLemmas.{ContainsAll-second}
use Rattle.dist_derive.proofs.ResultLemmas.{if_ok_map}
use Rattle.dist_derive.proofs.log.Log.stand_above.Goals as goal

pub returns-then-are_true-clause-above : goal.returns-then-are_true-clause-above
returns-then-are_true-clause-above c = λ _. subst (λ (w : WatchingState). ContainsAll w.literals.literals c.args.assumptions.now) c.watching.view_is
    (c.are_true.ensures c.if-are_true.true)

pub returns-clause-above : goal.returns-clause-above
returns-clause-above c =
    let log = c.args.self.now in
    let assumed = c.args.assumptions.now in
    let before : List Literal = c.take_more.new.watching.assumptions in
    let new : WatchingState = c.stand_on.new.watching in
    if_ok_map c.stand_on.result
    (λ (fine : Bool). StandsFor log.clauses log.variables (before ++ assumed) c.args.last new fine)
    (λ (fine : Bool). IsTrue fine → ContainsAll new.literals.literals assumed)
    (λ fine h e. ContainsAll-second before assumed new.literals.literals
    (subst (λ (ls : List Literal). ContainsAll new.literals.literals ls) (h.under e).0 h.standing.under.assumed)) c.stand_on.ensures
