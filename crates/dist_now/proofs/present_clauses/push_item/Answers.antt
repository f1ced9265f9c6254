use Rattle.std.proofs.Common.{ℕ, ◌+◌, false, List, ◌∷◌, length, map, arith, subst, ◌∙◌}
use Rattle.std.specs.Prelude.{Contains}
use Rattle.dist_base.specs.declared.TheConstants.{MAX_VARIABLES}
use Rattle.dist_clause.specs.DemandLaws.{pushed-err, pushed-ok}
use Rattle.dist_now.specs.GatheringPrivate.{IsFront}
use Rattle.dist_now.specs.PresentClauses.{Item, IsMetBy, installed, not_installed, IsDemand, present_demands}
use Rattle.dist_now.proofs.ClauseShape.{below-more, item-clause, numbers-below}
use Rattle.dist_now.proofs.FrontLemmas.{item-pushed, item-skipped}
use Rattle.dist_now.proofs.PushLemmas.{contains-false, contains-true, item-demand, item-is-clause, item-within, itself-meets, over-set}
use Rattle.dist_now.proofs.present_clauses.push_item.Goals as goal

pub returns-then-contains-clause-ok : goal.returns-then-contains-clause-ok
returns-then-contains-clause-ok c =
    let there : Contains c.gather_meeting.new.numbers.items c.args.number =
    subst (λ (xs : List ℕ). Contains xs c.args.number) c.as_slice.ensures.value (contains-true c.as_slice.result.now c.args.number c.if-contains.ensures.cases)
    in
    item-skipped c.args.repo.now c.args.number c.args.place c.args.set.now c.args.set.now c.requires.front
    (itself-meets c.args.repo.now c.args.number c.args.place c.args.alternatives.now c.requires.item ((c.in_default.ensures.exact c.args.number).0 there))

pub write_item-requires-clause-number : goal.write_item-requires-clause-number
write_item-requires-clause-number c =
    let short = item-within c.args.repo.now c.args.number c.args.place c.args.alternatives.now c.requires.item in omega (arith, short, c.requires.packages)

pub write_item-requires-clause-numbers : goal.write_item-requires-clause-numbers
write_item-requires-clause-numbers c =
    below-more (length c.args.repo.now.packages) MAX_VARIABLES c.gather_meeting.new.numbers.items (omega (arith, c.requires.packages))
    (numbers-below c.args.repo.now (IsMetBy c.args.repo.now.architecture c.args.alternatives.now) c.gather_meeting.new.numbers.items c.in_default.ensures)

pub push-requires : goal.push-requires
push-requires c =
    let numbers = c.gather_meeting.new.numbers.items in
    let absent : ¬ Contains numbers c.args.number =
    subst (λ (xs : List ℕ). ¬ Contains xs c.args.number) c.as_slice.ensures.value
    (contains-false c.as_slice.result.now c.args.number c.if-contains.ensures.cases) in
    over-set c.args.set.now.variables (length c.args.repo.now.packages) c.deref.result.now (not_installed c.args.number ∷ map installed numbers)
    c.requires.front.variables (c.deref.ensures.value ∙ c.in_default-write_item.ensures)
    (item-clause c.args.repo.now (IsMetBy c.args.repo.now.architecture c.args.alternatives.now) c.args.number numbers
    (item-within c.args.repo.now c.args.number c.args.place c.args.alternatives.now c.requires.item) c.in_default.ensures absent)

pub returns-clause-ok : goal.returns-clause-ok
returns-clause-ok c =
    let numbers = c.gather_meeting.new.numbers.items in
    let absent : ¬ Contains numbers c.args.number =
    subst (λ (xs : List ℕ). ¬ Contains xs c.args.number) c.as_slice.ensures.value
    (contains-false c.as_slice.result.now c.args.number c.if-contains.ensures.cases) in
    let demand = item-demand c.args.repo.now c.args.number c.args.place c.args.alternatives.now c.requires.item
    (λ here. absent ((c.in_default.ensures.exact c.args.number).1 here)) in
    let is = item-is-clause c.args.repo.now c.args.number c.args.place c.args.alternatives.now numbers c.deref.result.now c.requires.item c.in_default.ensures
    (c.deref.ensures.value ∙ c.in_default-write_item.ensures) in
    pushed-ok c.push.result c.args.set.now c.push.new.self c.deref.result.now
    (IsFront c.args.repo.now (Item c.args.number (c.args.place + 1)) c.args.set.now) c.push.ensures.ok
    (item-pushed c.args.repo.now c.args.number c.args.place c.args.set.now c.args.set.now c.deref.result.now c.requires.front demand is)

pub returns-clause-err : goal.returns-clause-err
returns-clause-err c =
    let numbers = c.gather_meeting.new.numbers.items in
    let absent : ¬ Contains numbers c.args.number =
    subst (λ (xs : List ℕ). ¬ Contains xs c.args.number) c.as_slice.ensures.value
    (contains-false c.as_slice.result.now c.args.number c.if-contains.ensures.cases) in
    let demand = item-demand c.args.repo.now c.args.number c.args.place c.args.alternatives.now c.requires.item
    (λ here. absent ((c.in_default.ensures.exact c.args.number).1 here)) in
    let is = item-is-clause c.args.repo.now c.args.number c.args.place c.args.alternatives.now numbers c.deref.result.now c.requires.item c.in_default.ensures
    (c.deref.ensures.value ∙ c.in_default-write_item.ensures) in
    pushed-err (present_demands c.args.repo.now) (IsDemand c.args.repo.now false) c.push.result c.args.set.now c.args.set.now (Item c.args.number
    c.args.place) c.deref.result.now c.requires.front
    demand is c.push.ensures.cause
