use Rattle.std.proofs.Common.{take, sym, subst, arith}
use Rattle.std.specs.List.{All, Contains}
use Rattle.dist_derive.specs.FarPrivate.{FarView, IsFar}
use Rattle.dist_derive.proofs.FarLemmas.{far_lines, far_more}
use Rattle.dist_derive.proofs.log.Log.finds_behind.Goals as goal

pub loop-far-init : goal.loop-far-init
loop-far-init c = subst (λ (f : FarView). IsFar (take c.args.inputs c.args.self.now.clauses) c.args.self.now.variables f
    × All (Contains c.args.cone.now.members) f.starts) (sym c.far.view_is) (c.requires.far, c.requires.within)

pub are_in_either-requires-clause-far_variables : goal.are_in_either-requires-clause-far_variables
are_in_either-requires-clause-far_variables c = c.loop-far.invariant.0.same_variables

pub returns-then-are_in_either-clause-found : goal.returns-then-are_in_either-clause-found
returns-then-are_in_either-clause-found c = λ _. far_lines (take c.args.inputs c.args.self.now.clauses) c.args.self.now.clauses c.args.last
    c.args.self.now.variables
    (record { is_made = c.loop-far.far-inside.is_made; starts = c.loop-far.far-inside.starts.items; set = c.loop-far.far-inside.set })
    c.args.cone.now.members c.loop-far.invariant.0 c.loop-far.invariant.1 (c.are_in_either.ensures c.if-are_in_either.true)

pub returns-then-are_in_either-clause-far : goal.returns-then-are_in_either-clause-far
returns-then-are_in_either-clause-far c = c.loop-far.invariant.0

pub returns-then-far-len-clause-far : goal.returns-then-far-len-clause-far
returns-then-far-len-clause-far c = c.loop-far.invariant.0

pub take_some-requires-clause-same_variables : goal.take_some-requires-clause-same_variables
take_some-requires-clause-same_variables c = c.loop-far.invariant.0.same_variables

pub loop-far-smaller : goal.loop-far-smaller
loop-far-smaller c = omega (
  arith,
  c.saturating_mul.ensures,
  c.saturating_add-most.ensures,
  c.len.ensures.value,
  c.len.ensures.few,
  c.if-far-len.false,
  c.loop-far.invariant.0.same_variables,
)

pub loop-far-preserved : goal.loop-far-preserved
loop-far-preserved c = (
  far_more (take c.args.inputs c.args.self.now.clauses) c.args.self.now.variables
      (record { is_made = c.loop-far.far-inside.is_made; starts = c.loop-far.far-inside.starts.items; set = c.loop-far.far-inside.set })
      c.take_some.new.cone c.loop-far.invariant.0 c.take_some.ensures.reaches,
  c.loop-far.invariant.1,
)
