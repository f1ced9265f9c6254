use Rattle.std.proofs.Common.{◌+◌, ◌∙◌, arith, refl}
use Rattle.std.proofs.lemmas.Result.{err_from_is_err_and}
use Rattle.dist_clause.specs.DemandLaws.{cause-chain, set-chain, set-own}
use Rattle.dist_space_clauses.specs.GatheringPrivate.{IsBelow}
use Rattle.dist_space_clauses.specs.SpaceClauses.{IsDemand, space_demands}
use Rattle.dist_space_clauses.specs.GroupsPrivate.{number_of}
use Rattle.dist_space_clauses.proofs.GroupFronts.{few-groups, groups-close, groups-open}
use Rattle.dist_space_clauses.proofs.groups.push_group.Goals as goal

pub loop-variable-init : goal.loop-variable-init
loop-variable-init c = record {
  same = refl;
  front = groups-open c.args.space.now c.variables-variable-end.ensures.space c.args.set.now (number_of c.args.group) c.args.set.now
      (few-groups c.args.group) c.requires.front;
}

pub push_led-requires-clause-partners : goal.push_led-requires-clause-partners
push_led-requires-clause-partners c = c.loop-variable.invariant.same ∙ c.requires.partners

pub push_led-requires-clause-in_range : goal.push_led-requires-clause-in_range
push_led-requires-clause-in_range c = omega (arith, c.variables-variable-end.ensures.value)

pub push_led-requires-clause-front : goal.push_led-requires-clause-front
push_led-requires-clause-front c =
    let s = c.args.space.now in
    set-own (space_demands s) (IsBelow s (number_of c.args.group) c.loop-variable.variable 0) c.args.set.now.clause_limit c.args.set.now.literal_limit
    c.loop-variable.set c.loop-variable.invariant.front

pub returns-in_err-push_led-clause-err : goal.returns-in_err-push_led-clause-err
returns-in_err-push_led-clause-err c =
    let s = c.args.space.now in
    let p = err_from_is_err_and c.from_residual.result c.from_residual.ensures.1 in
    rw (p.1, p.2) (cause-chain (space_demands s) (IsBelow s (number_of c.args.group) c.loop-variable.variable 0) (IsDemand s) c.args.set.now.clause_limit
    c.args.set.now.literal_limit c.loop-variable.set _ c.loop-variable.invariant.front c.in_err-push_led.ensures.err)

pub loop-variable-preserved : goal.loop-variable-preserved
loop-variable-preserved c =
    let s = c.args.space.now in
    let g = number_of c.args.group in
    record {
      same = c.push_led.ensures.partners ∙ c.loop-variable.invariant.same;
      front = set-chain (space_demands s) (IsBelow s g c.loop-variable.variable 0) (IsBelow s g (c.loop-variable.variable + 1) 0)
          c.args.set.now.clause_limit c.args.set.now.literal_limit c.loop-variable.set c.push_led.new.set c.loop-variable.invariant.front
          c.in_ok-push_led.ensures.ok;
    }

pub returns-clause-ok : goal.returns-clause-ok
returns-clause-ok c =
    groups-close c.args.space.now c.variables-variable-end.ensures.space c.args.set.now (number_of c.args.group) c.loop-variable.variable c.loop-variable.set
    (omega (arith, c.variables-variable-end.ensures.value, c.loop-variable-test.false)) c.loop-variable.invariant.front
