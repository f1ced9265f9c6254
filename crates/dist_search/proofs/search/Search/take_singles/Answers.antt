use Rattle.std.proofs.Common.{subst}
use Rattle.dist_clause.specs.Formula.{Literal}
use Rattle.dist_search.proofs.SinglesLemmas.{TakesOne, takes_none, both_goes, both_begun, takes_more}
use Rattle.dist_search.proofs.search.Search.take_singles.Goals as goal

pub loop-variable-init : goal.loop-variable-init
loop-variable-init c = takes_none c.args.cone.now.members c.args.self.now

pub returns-then-self-ne0-clause-goes : goal.returns-then-self-ne0-clause-goes
returns-then-self-ne0-clause-goes c =
    let i = c.loop-variable.variable-index in
    let items = c.members-variable-items.result.now in
    let cone = c.args.cone.now.members in
    let one : TakesOne c.new.result c.loop-variable.self c.take_single.new.self = record {
      goes = c.take_single.ensures.goes;
      begun = c.take_single.ensures.begun;
      taken = c.take_single.ensures.taken;
    } in
    let other : TakesOne c.new-in-loop-variable.result c.take_single.new.self c.take_single-in-loop-variable.new.self = record {
      goes = c.take_single-in-loop-variable.ensures.goes;
      begun = c.take_single-in-loop-variable.ensures.begun;
      taken = c.take_single-in-loop-variable.ensures.taken;
    } in
    let first = subst (λ (l : Literal). TakesOne l c.loop-variable.self c.take_single.new.self) c.new.ensures one in
    let second = subst (λ (l : Literal). TakesOne l c.take_single.new.self c.take_single-in-loop-variable.new.self) c.new-in-loop-variable.ensures other in
    both_goes cone items c.args.self.now c.loop-variable.self c.take_single.new.self c.take_single-in-loop-variable.new.self i c.loop-variable-test.true
    c.members-variable-items.ensures.value c.loop-variable.invariant first second

pub returns-then-self-ne0-clause-begun : goal.returns-then-self-ne0-clause-begun
returns-then-self-ne0-clause-begun c =
    let i = c.loop-variable.variable-index in
    let items = c.members-variable-items.result.now in
    let cone = c.args.cone.now.members in
    let one : TakesOne c.new.result c.loop-variable.self c.take_single.new.self = record {
      goes = c.take_single.ensures.goes;
      begun = c.take_single.ensures.begun;
      taken = c.take_single.ensures.taken;
    } in
    let other : TakesOne c.new-in-loop-variable.result c.take_single.new.self c.take_single-in-loop-variable.new.self = record {
      goes = c.take_single-in-loop-variable.ensures.goes;
      begun = c.take_single-in-loop-variable.ensures.begun;
      taken = c.take_single-in-loop-variable.ensures.taken;
    } in
    let first = subst (λ (l : Literal). TakesOne l c.loop-variable.self c.take_single.new.self) c.new.ensures one in
    let second = subst (λ (l : Literal). TakesOne l c.take_single.new.self c.take_single-in-loop-variable.new.self) c.new-in-loop-variable.ensures other in
    both_begun cone items c.args.self.now c.loop-variable.self c.take_single.new.self c.take_single-in-loop-variable.new.self i c.loop-variable-test.true
    c.members-variable-items.ensures.value c.loop-variable.invariant first second

pub loop-variable-preserved : goal.loop-variable-preserved
loop-variable-preserved c =
    let i = c.loop-variable.variable-index in
    let items = c.members-variable-items.result.now in
    let cone = c.args.cone.now.members in
    let one : TakesOne c.new.result c.loop-variable.self c.take_single.new.self = record {
      goes = c.take_single.ensures.goes;
      begun = c.take_single.ensures.begun;
      taken = c.take_single.ensures.taken;
    } in
    let other : TakesOne c.new-in-loop-variable.result c.take_single.new.self c.take_single-in-loop-variable.new.self = record {
      goes = c.take_single-in-loop-variable.ensures.goes;
      begun = c.take_single-in-loop-variable.ensures.begun;
      taken = c.take_single-in-loop-variable.ensures.taken;
    } in
    let first = subst (λ (l : Literal). TakesOne l c.loop-variable.self c.take_single.new.self) c.new.ensures one in
    let second = subst (λ (l : Literal). TakesOne l c.take_single.new.self c.take_single-in-loop-variable.new.self) c.new-in-loop-variable.ensures other in
    takes_more cone items c.args.self.now c.loop-variable.self c.take_single.new.self c.take_single-in-loop-variable.new.self i c.loop-variable-test.true
    c.members-variable-items.ensures.value c.loop-variable.invariant first second
