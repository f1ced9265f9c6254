use Rattle.std.proofs.Common.{◌≡◌, ◌≤◌, Bool, List, ◌++◌, false, true, take, refl, ap, sym, subst, ◌∙◌}
use Rattle.std.specs.List.{All}
use Rattle.dist_clause.specs.Formula.{Literal}
use Rattle.dist_derive.specs.AssumePrivate.{AssumesAll}
use Rattle.dist_derive.specs.WatchesPrivate.{WatchingState, AllGuarded, IsStanding, StandsFor}
use Rattle.dist_derive.proofs.StandingLemmas.{assumed_guards, grounded_early, grounded_under, stands_under, stands_refuted_under, stands_refused}
use Rattle.dist_derive.proofs.log.Log.stand_on.Goals as goal
use Rattle.dist_derive.proofs.log.Log.stand_on.Goals.{After-len-done}

-- what is kept before
abbrev was : After-len-done → WatchingState
was c = record {
  is_made = c.watching.inside.is_made;
  watches = c.watching.inside.watches;
  literals = c.watching.inside.literals;
  ground = c.watching.inside.ground;
  grounded = c.watching.inside.grounded;
  assumptions = c.watching.inside.assumptions.items;
  taken = c.watching.inside.taken;
}

stood : (c : After-len-done) → IsStanding c.args.self.now.clauses c.args.self.now.variables (was c)
stood c = subst (λ (w : WatchingState). IsStanding c.args.self.now.clauses c.args.self.now.variables w) (sym c.watching.view_is) c.requires.standing

taken : (c : After-len-done) → (was c).taken ≡ c.args.last
taken c = ap (λ (w : WatchingState). w.taken) c.watching.view_is ∙ c.requires.taken

pub assume_all-requires : goal.assume_all-requires
assume_all-requires c =
    let start = (goal.at.assume_all-requires c).After-len-done in
    subst (λ m. All (λ (l : Literal). l.variable ≤ m) c.args.assumptions.now) (sym (stood start).is_grounded.same_variables) c.requires.assumptions

pub returns-then-not-assume_all : goal.returns-then-not-assume_all
returns-then-not-assume_all c =
    let clauses = c.args.self.now.clauses in
    let n = c.args.self.now.variables in
    let last = c.args.last in
    let start = (goal.at.returns-then-not-assume_all c).After-len-done in
    let old = was start in
    let assumes = subst (λ (fine : Bool). AssumesAll old.literals c.assume_all.new.self c.args.assumptions.now fine) c.if-not-assume_all.true
    c.assume_all.ensures in
    let mid : WatchingState = record old { literals = c.assume_all.new.self } in
    let standing = c.to_ground.ensures.standing clauses n
    (grounded_early clauses n last old mid (stood start) c.args.assumptions.now c.assume_all.new.self (taken start) false
    assumes refl refl refl refl) in
    subst (λ (ls : List Literal). StandsFor clauses n (ls ++ c.args.assumptions.now) last c.to_ground.new.self false)
    (ap (λ (w : WatchingState). w.assumptions) c.watching.view_is)
    (stands_refused clauses n last old c.to_ground.new.self (stood start) c.args.assumptions.now c.assume_all.new.self (taken start)
    assumes standing)

pub advance-requires-clause-same_variables : goal.advance-requires-clause-same_variables
advance-requires-clause-same_variables c =
    let start = (goal.at.advance-requires-clause-same_variables c).After-len-done in
    let old = was start in
    let assumes = subst (λ (fine : Bool). AssumesAll old.literals c.assume_all.new.self c.args.assumptions.now fine) c.if-not-assume_all.false
    c.assume_all.ensures in
    assumes.same_variables ∙ (stood start).is_grounded.same_variables

pub advance-requires-clause-watches : goal.advance-requires-clause-watches
advance-requires-clause-watches c =
    let start = (goal.at.advance-requires-clause-watches c).After-len-done in
    (stood start).is_grounded.watched

pub advance-requires-clause-guarded : goal.advance-requires-clause-guarded
advance-requires-clause-guarded c =
    let clauses = c.args.self.now.clauses in
    let last = c.args.last in
    let start = (goal.at.advance-requires-clause-guarded c).After-len-done in
    let old = was start in
    let assumes = subst (λ (fine : Bool). AssumesAll old.literals c.assume_all.new.self c.args.assumptions.now fine) c.if-not-assume_all.false
    c.assume_all.ensures in
    let trues = c.assume_all.new.self.literals in
    subst (λ k. AllGuarded old.watches clauses last trues (take k trues)) (sym c.len-done.ensures.value)
    (assumed_guards clauses old.watches old.literals c.assume_all.new.self c.args.assumptions.now true (stood start).is_grounded.watched assumes last
    (subst (λ k. AllGuarded old.watches clauses k old.literals.literals old.literals.literals) (taken start) (stood start).under.guarded))

pub returns-then-not-branch : goal.returns-then-not-branch
returns-then-not-branch c =
    let clauses = c.args.self.now.clauses in
    let n = c.args.self.now.variables in
    let last = c.args.last in
    let start = (goal.at.returns-then-not-branch c).After-len-done in
    let old = was start in
    let assumes = subst (λ (fine : Bool). AssumesAll old.literals c.assume_all.new.self c.args.assumptions.now fine) c.if-not-assume_all.false
    c.assume_all.ensures in
    let mid : WatchingState = record old { watches = c.advance.new.watches; literals = c.advance.new.literals } in
    let standing = c.to_ground-then-not-branch.ensures.standing clauses n
    (grounded_under clauses n last old mid (stood start) c.args.assumptions.now c.assume_all.new.self (taken start) true assumes
    c.in_ok-advance.ensures.advances refl refl) in
    subst (λ (ls : List Literal). StandsFor clauses n (ls ++ c.args.assumptions.now) last c.to_ground-then-not-branch.new.self false)
    (ap (λ (w : WatchingState). w.assumptions) c.watching.view_is)
    (stands_refuted_under clauses n last old c.to_ground-then-not-branch.new.self (stood start) c.args.assumptions.now c.assume_all.new.self
    (taken start) assumes (c.in_ok-advance.ensures.refuted c.if-not-branch.true) standing)

pub returns : goal.returns
returns c =
    let clauses = c.args.self.now.clauses in
    let n = c.args.self.now.variables in
    let last = c.args.last in
    let start = (goal.at.returns c).After-len-done in
    let old = was start in
    let assumes = subst (λ (fine : Bool). AssumesAll old.literals c.assume_all.new.self c.args.assumptions.now fine) c.if-not-assume_all.false
    c.assume_all.ensures in
    let new : WatchingState = record old {
      watches = c.advance.new.watches;
      literals = c.advance.new.literals;
      assumptions = c.extend_from_slice.new.self.items;
    } in
    subst (λ (ls : List Literal). StandsFor clauses n (ls ++ c.args.assumptions.now) last new true)
    (ap (λ (w : WatchingState). w.assumptions) c.watching.view_is)
    (stands_under clauses n last old new (stood start) c.args.assumptions.now c.assume_all.new.self (taken start) assumes
    c.in_ok-advance.ensures.advances (c.in_ok-advance.ensures.guarded c.if-not-branch.false) refl refl
    c.in_ok-extend_from_slice.ensures.items (taken start))
