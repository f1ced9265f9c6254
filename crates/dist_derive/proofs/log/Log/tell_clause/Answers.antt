use Rattle.std.proofs.Common.{◌≡◌, ◌≤◌, ◌↔◌, IsTrue, length, take, refl, ap, sym, subst, ◌∙◌}
use Rattle.dist_derive.specs.New.{LeavesFirstUnset}
use Rattle.dist_derive.specs.WatchesPrivate.{WatchingState, AllGuarded, IsStanding}
use Rattle.dist_derive.proofs.StandingLemmas.{standing_after}
use Rattle.dist_derive.proofs.log.Log.tell_clause.Goals as goal
use Rattle.dist_derive.proofs.log.Log.tell_clause.Goals.{After-len-len}

-- what is kept before
abbrev was : After-len-len → WatchingState
was c = record {
  is_made = c.watching.inside.is_made;
  watches = c.watching.inside.watches;
  literals = c.watching.inside.literals;
  ground = c.watching.inside.ground;
  grounded = c.watching.inside.grounded;
  assumptions = c.watching.inside.assumptions.items;
  taken = c.watching.inside.taken;
}

stood : (c : After-len-len) → IsStanding c.args.self.now.clauses c.args.self.now.variables (was c)
stood c = subst (λ (w : WatchingState). IsStanding c.args.self.now.clauses c.args.self.now.variables w) (sym c.watching.view_is) c.requires.standing

taken : (c : After-len-len) → (was c).taken ≡ c.args.last
taken c = ap (λ (w : WatchingState). w.taken) c.watching.view_is ∙ c.requires.taken

pub try_clause-requires-clause-same_variables : goal.try_clause-requires-clause-same_variables
try_clause-requires-clause-same_variables c =
    let start = (goal.at.try_clause-requires-clause-same_variables c).After-len-len in
    (stood start).is_grounded.same_variables

pub try_clause-requires-clause-watches : goal.try_clause-requires-clause-watches
try_clause-requires-clause-watches c =
    let start = (goal.at.try_clause-requires-clause-watches c).After-len-len in
    (stood start).is_grounded.watched

pub try_clause-requires-clause-last : goal.try_clause-requires-clause-last
try_clause-requires-clause-last c =
    let clauses = c.args.self.now.clauses in
    let start = (goal.at.try_clause-requires-clause-last c).After-len-len in
    subst (λ k. k ≤ length clauses) (taken start) (stood start).under.within

pub try_clause-requires-clause-guarded : goal.try_clause-requires-clause-guarded
try_clause-requires-clause-guarded c =
    let clauses = c.args.self.now.clauses in
    let start = (goal.at.try_clause-requires-clause-guarded c).After-len-len in
    let old = was start in
    subst (λ k. AllGuarded old.watches clauses k old.literals.literals old.literals.literals) (taken start) (stood start).under.guarded

pub returns-clause-answer : goal.returns-clause-answer
returns-clause-answer c = subst (λ (w : WatchingState). IsTrue c.in_ok-answer.answer
    ↔ LeavesFirstUnset (take c.args.last c.args.self.now.clauses) w.literals.literals c.args.clause.now) c.watching.view_is c.in_ok-answer.ensures.answer

pub returns-clause-standing : goal.returns-clause-standing
returns-clause-standing c =
    let clauses = c.args.self.now.clauses in
    let n = c.args.self.now.variables in
    let start = (goal.at.returns-clause-standing c).After-len-len in
    let old = was start in
    let new : WatchingState = record old { watches = c.try_clause.new.watches; literals = c.truncate.new.self } in
    standing_after clauses n old new c.try_clause.new.watches c.try_clause.new.literals (stood start) c.in_ok-answer.ensures.tries refl
    (c.truncate.ensures ∙ ap (λ k. record c.try_clause.new.literals { literals = take k c.try_clause.new.literals.literals })
    c.len-len.ensures.value) refl refl refl refl
