use Rattle.std.proofs.Common.{◌≡◌, ℕ, List, length, rules, subst, sym}
use Rattle.std.specs.Prelude.{Contains}
use Rattle.std.proofs.lemmas.List.Elements.{Contains-append_left}
use Rattle.dist_space_clauses.proofs.MatchLemmas.{run-all, run-more, run-named, run-none}
use Rattle.dist_space_clauses.proofs.matched.add_kept.Goals as goal

pub loop-rest-init : goal.loop-rest-init
loop-rest-init c =
    let places = c.entries_named-rest.result.now in (
      places,
      c.entries_named-rest.ensures.named,
      run-none c.args.space.now c.args.atom.now c.args.member places c.args.variables.now.items c.entries_named-rest.ensures.in_order,
    )

pub alike_count-requires-clause-named : goal.alike_count-requires-clause-named
alike_count-requires-clause-named c =
    run-named c.args.space.now c.args.atom.now c.args.member c.loop-rest.invariant.0 c.loop-rest.rest.now c.args.variables.now.items
    c.loop-rest.variables.items c.loop-rest.invariant.2 c.loop-rest.invariant.1

pub add_run-requires-clause-places : goal.add_run-requires-clause-places
add_run-requires-clause-places c = λ j there.
    run-named c.args.space.now c.args.atom.now c.args.member c.loop-rest.invariant.0 c.loop-rest.rest.now c.args.variables.now.items
    c.loop-rest.variables.items c.loop-rest.invariant.2 c.loop-rest.invariant.1 j
    (subst (λ (xs : List ℕ). Contains xs j) (sym c.split_at.ensures.by_index.0)
    (Contains-append_left c.split_at.result.0.now c.split_at.result.1.now j there))

pub loop-rest-preserved : goal.loop-rest-preserved
loop-rest-preserved c = (
  c.loop-rest.invariant.0,
  c.loop-rest.invariant.1,
  run-more c.args.space.now c.args.atom.now c.args.member c.loop-rest.invariant.0 c.loop-rest.rest.now c.split_at.result.0.now c.split_at.result.1.now
      c.args.variables.now.items c.loop-rest.variables.items c.add_run.new.variables.items c.split_at.ensures.by_index.0 c.loop-rest.invariant.2
      c.in_ok-add_run.ensures,
)

pub returns : goal.returns
returns c =
    let none : length c.loop-rest.rest.now ≡ 0 = search rules in
    run-all c.args.space.now c.args.atom.now c.args.member c.loop-rest.invariant.0 c.loop-rest.rest.now c.args.variables.now.items
    c.loop-rest.variables.items c.loop-rest.invariant.1 none c.loop-rest.invariant.2
