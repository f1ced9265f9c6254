use Rattle.std.proofs.Common.{◌≤◌, List, false, true, refl, ap, sym, subst, arith}
use Rattle.std.proofs.lemmas.List.{take_all}
use Rattle.dist_clause.specs.Formula.{Literal}
use Rattle.dist_derive.specs.WatchesPrivate.{WatchingState, AllGuarded, IsStanding, StandsFor}
use Rattle.dist_derive.proofs.StandingLemmas.{grounded_more, stands_more, stands_refuted}
use Rattle.dist_derive.proofs.log.Log.take_more.Goals as goal
use Rattle.dist_derive.proofs.log.Log.take_more.Goals.{After-len-done}

-- what is kept before
abbrev was : After-len-done → WatchingState
was c = record {
  is_made = c.watching.inside.is_made;
  watches = c.watching.inside.watches;
  literals = c.watching.inside.literals;
  ground = c.watching.inside.ground;
  grounded = c.watching.inside.grounded;
  assumptions = c.watching.inside.assumptions.items;
  taken = c.watching.inside.taken;
}

stood : (c : After-len-done) → IsStanding c.args.self.now.clauses c.args.self.now.variables (was c)
stood c = subst (λ (w : WatchingState). IsStanding c.args.self.now.clauses c.args.self.now.variables w) (sym c.watching.view_is) c.requires.standing

less : (c : After-len-done) → (was c).taken ≤ c.args.last
less c = subst (λ (w : WatchingState). w.taken ≤ c.args.last) (sym c.watching.view_is) c.requires.more

pub advance-requires-clause-same_variables : goal.advance-requires-clause-same_variables
advance-requires-clause-same_variables c = (stood (goal.at.advance-requires-clause-same_variables c).After-len-done).is_grounded.same_variables

pub advance-requires-clause-watches : goal.advance-requires-clause-watches
advance-requires-clause-watches c = (stood (goal.at.advance-requires-clause-watches c).After-len-done).is_grounded.watched

pub advance-requires-clause-guarded : goal.advance-requires-clause-guarded
advance-requires-clause-guarded c =
    let trues = c.watching.inside.literals.literals in
    subst (λ seen. AllGuarded c.watching.inside.watches c.args.self.now.clauses c.watching.inside.taken trues seen)
    (sym (take_all c.len-done.result trues (omega (arith, c.len-done.ensures.value))))
    (stood (goal.at.advance-requires-clause-guarded c).After-len-done).under.guarded

pub returns-then-not-branch : goal.returns-then-not-branch
returns-then-not-branch c =
    let clauses = c.args.self.now.clauses in
    let n = c.args.self.now.variables in
    let last = c.args.last in
    let start = (goal.at.returns-then-not-branch c).After-len-done in
    let old = was start in
    let mid : WatchingState = record old { watches = c.advance.new.watches; literals = c.advance.new.literals } in
    let standing = c.to_ground.ensures.standing clauses n
    (grounded_more clauses n last old mid (stood start) (stood start).is_grounded.watched c.in_ok-advance.ensures.advances refl refl) in
    subst (λ (ls : List Literal). StandsFor clauses n ls last c.to_ground.new.self false) (ap (λ (w : WatchingState). w.assumptions) c.watching.view_is)
    (stands_refuted clauses n last old c.to_ground.new.self (stood start) (less start) c.requires.last
    (c.in_ok-advance.ensures.refuted c.if-not-branch.true) standing)

pub returns : goal.returns
returns c =
    let clauses = c.args.self.now.clauses in
    let n = c.args.self.now.variables in
    let last = c.args.last in
    let start = (goal.at.returns c).After-len-done in
    let old = was start in
    let new : WatchingState = record old { watches = c.advance.new.watches; literals = c.advance.new.literals; taken = last } in
    subst (λ (ls : List Literal). StandsFor clauses n ls last new true) (ap (λ (w : WatchingState). w.assumptions) c.watching.view_is)
    (stands_more clauses n last old new (stood start) (less start) c.requires.last c.in_ok-advance.ensures.advances
    (c.in_ok-advance.ensures.guarded c.if-not-branch.false) refl refl refl refl)
