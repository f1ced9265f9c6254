use Rattle.std.proofs.Common.{◌∙◌}
use Rattle.std.proofs.lemmas.Option.{slice_get_within}
use Rattle.std.proofs.lemmas.Result.{IfErr-weaker, on_ok_weaker}
use Rattle.dist_base.specs.declared.TheConstants.{MAX_VARIABLES}
use Rattle.dist_space.specs.Space.{IsMetBy, variable_of}
use Rattle.dist_space.specs.declared.meaning.Meaning.TheVariants.{Present}
use Rattle.dist_space_clauses.proofs.GroupFronts.{item-skipped, item-steps}
use Rattle.dist_space_clauses.proofs.FoundIn.{found}
use Rattle.dist_space_clauses.proofs.VariableLists.{in-limit, item-itself}
use Rattle.dist_space_clauses.proofs.items.push_item.Goals as goal

pub returns-then-contains-clause-ok : goal.returns-then-contains-clause-ok
returns-then-contains-clause-ok c =
    let s = c.args.space.now in
    let n = c.args.number in
    let vs = c.gather_meeting.new.variables.items in
    let is_meaning = slice_get_within s.repository.packages n c.requires.item.holder c.requires.item.is_holder in
    let there = found vs c.as_slice.result.now c.variable-variable.result (variable_of s (Present n)) c.as_slice.ensures.value c.variable-variable.ensures.value
    c.if-contains.ensures.cases in
    item-skipped s c.keeps_invariant.ensures.space c.args.set.now n is_meaning c.args.place c.args.set.now
    (item-itself s c.keeps_invariant.ensures.space n c.args.place c.args.alternatives.now vs c.requires.item c.in_default.ensures is_meaning there)
    c.requires.front

pub write_implied-requires-clause-variables : goal.write_implied-requires-clause-variables
write_implied-requires-clause-variables c =
    let s = c.args.space.now in
    let up = c.keeps_invariant.ensures in
    in-limit s up.space (IsMetBy s c.args.alternatives.now) c.gather_meeting.new.variables.items MAX_VARIABLES up.variables
    c.in_default.ensures

pub push-requires : goal.push-requires
push-requires c =
    (item-steps c.args.space.now c.keeps_invariant.ensures.space c.args.set.now c.args.number c.args.place c.variable-variable.result
    c.args.alternatives.now c.gather_meeting.new.variables.items c.as_slice.result.now c.deref.result.now c.args.set.now c.requires.item c.in_default.ensures
    c.as_slice.ensures.value c.variable-variable.ensures.value c.if-contains.ensures.cases (c.deref.ensures.value ∙ c.in_default-write_implied.ensures)
    c.requires.front).over

pub returns-clause-ok : goal.returns-clause-ok
returns-clause-ok c =
    on_ok_weaker c.push.result
    ((item-steps c.args.space.now c.keeps_invariant.ensures.space c.args.set.now c.args.number c.args.place c.variable-variable.result
    c.args.alternatives.now c.gather_meeting.new.variables.items c.as_slice.result.now c.deref.result.now c.args.set.now c.requires.item c.in_default.ensures
    c.as_slice.ensures.value c.variable-variable.ensures.value c.if-contains.ensures.cases (c.deref.ensures.value ∙ c.in_default-write_implied.ensures)
    c.requires.front).more c.push.new.self) c.push.ensures.ok

pub returns-clause-err : goal.returns-clause-err
returns-clause-err c =
    IfErr-weaker c.push.result _ _
    (item-steps c.args.space.now c.keeps_invariant.ensures.space c.args.set.now c.args.number c.args.place c.variable-variable.result
    c.args.alternatives.now c.gather_meeting.new.variables.items c.as_slice.result.now c.deref.result.now c.args.set.now c.requires.item c.in_default.ensures
    c.as_slice.ensures.value c.variable-variable.ensures.value c.if-contains.ensures.cases (c.deref.ensures.value ∙ c.in_default-write_implied.ensures)
    c.requires.front).stops c.push.ensures.cause
