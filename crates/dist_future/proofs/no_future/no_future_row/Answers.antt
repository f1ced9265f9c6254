use Rattle.std.proofs.Common.{◌+◌, ℕ, subst, refl, sym, arith}
use Rattle.std.specs.Prelude.{slice_index}
use Rattle.dist_base.specs.Least.{IsLeastIfAny}
use Rattle.dist_future.specs.MatchingPrivate.{IsChangeAt, IsHeldFrom, IsLacking}
use Rattle.dist_space.specs.declared.meaning.Meaning.{Meaning}
use Rattle.dist_space.specs.declared.meaning.Meaning.TheVariants.{Now, Present, At, New, Kept, Fresh}
use Rattle.dist_future.proofs.FoundLemmas.{holds-from}
use Rattle.dist_future.proofs.NoFutureLemmas.{at-apart, at-needs, fresh-apart, fresh-needs, held-from, held-to, kept-apart, kept-needs, lacking-from}
use Rattle.dist_future.proofs.NoFutureLemmas.{lacking-to, new-apart, new-needs, new-of, no-row, now-from, now-to, present-apart, present-needs, row-is}
use Rattle.dist_future.proofs.no_future.no_future_row.Goals as goal

pub returns-then-not-value : goal.returns-then-not-value
returns-then-not-value c = no-row c.args.space.now c.args.members.now c.args.variable c.value.result c.value.ensures c.if-not-value.true

pub returns-in-Now : goal.returns-in-Now
returns-in-Now c =
    let s = c.args.space.now in
    let values = c.args.members.now in
    let m : Meaning = Now in
    row-is s values c.args.variable m c.in-Now.ensures.of (holds-from s values m c.args.variable c.value.result c.in-Now.ensures.is_meaning
    (sym c.in-Now.ensures.back) c.value.ensures c.if-not-value.false)
    (IsChangeAt s values) c.change_held.result
    (now-to s values)
    (now-from s values)
    c.change_held.ensures

pub returns-in-Present : goal.returns-in-Present
returns-in-Present c =
    let s = c.args.space.now in
    let values = c.args.members.now in
    let m : Meaning = (Present c.in-Present.number) in
    row-is s values c.args.variable m c.in-Present.ensures.of
    (holds-from s values m c.args.variable c.value.result c.in-Present.ensures.is_meaning (sym c.in-Present.ensures.back) c.value.ensures
    c.if-not-value.false)
    (IsHeldFrom s values (At (slice_index s.cluster_of c.in-Present.number)) 0) c.class_held.result
    (held-to s values m (At (slice_index s.cluster_of c.in-Present.number)) 0 (λ k from. refl))
    (held-from s values m (At (slice_index s.cluster_of c.in-Present.number)) 0 (present-needs s values c.in-Present.number)
    (present-apart s values c.in-Present.number))
    (let Of : ℕ → Type 0 = λ d. IsLeastIfAny (IsHeldFrom s values (At d) 0) c.class_held.result in subst Of c.cluster_of-cluster.ensures c.class_held.ensures)

pub returns-in-At : goal.returns-in-At
returns-in-At c =
    let s = c.args.space.now in
    let values = c.args.members.now in
    let m : Meaning = (At c.in-At.cluster c.in-At.class) in
    row-is s values c.args.variable m c.in-At.ensures.of (holds-from s values m c.args.variable c.value.result c.in-At.ensures.is_meaning
    (sym c.in-At.ensures.back) c.value.ensures c.if-not-value.false)
    (IsHeldFrom s values (At c.in-At.cluster) (c.in-At.class + 1)) c.class_held-in-At.result
    (held-to s values m (At c.in-At.cluster) (c.in-At.class + 1) (λ k from. (refl, omega (arith, from))))
    (held-from s values m (At c.in-At.cluster) (c.in-At.class + 1) (at-needs s values c.in-At.cluster c.in-At.class)
    (at-apart s values c.in-At.cluster c.in-At.class))
    c.class_held-in-At.ensures

pub returns-in-New : goal.returns-in-New
returns-in-New c =
    let s = c.args.space.now in
    let values = c.args.members.now in
    let m : Meaning = (New c.in-New.member c.in-New.class) in
    row-is s values c.args.variable m c.in-New.ensures.of (holds-from s values m c.args.variable c.value.result c.in-New.ensures.is_meaning
    (sym c.in-New.ensures.back) c.value.ensures c.if-not-value.false)
    (IsLacking s values (At (slice_index s.cluster_of c.in-New.member) c.in-New.class)) c.lacking.result
    (lacking-to s values m (At (slice_index s.cluster_of c.in-New.member) c.in-New.class) c.in-New.ensures.is_meaning.1 (refl, refl))
    (lacking-from s values m (At (slice_index s.cluster_of c.in-New.member) c.in-New.class) (new-apart s values c.in-New.member c.in-New.class)
    (new-needs s values c.in-New.member c.in-New.class))
    (let Of : ℕ → Type 0 = λ d. IsLeastIfAny (IsLacking s values (At d c.in-New.class)) c.lacking.result in subst Of c.cluster_of.ensures c.lacking.ensures)

pub returns-in-Kept : goal.returns-in-Kept
returns-in-Kept c =
    let s = c.args.space.now in
    let values = c.args.members.now in
    let m : Meaning = (Kept c.in-Kept.member c.in-Kept.class c.in-Kept.field-2) in
    row-is s values c.args.variable m c.in-Kept.ensures.of (holds-from s values m c.args.variable c.value.result c.in-Kept.ensures.is_meaning
    (sym c.in-Kept.ensures.back) c.value.ensures c.if-not-value.false)
    (IsLacking s values (New c.in-Kept.member c.in-Kept.class)) c.lacking-in-Kept.result
    (lacking-to s values m (New c.in-Kept.member c.in-Kept.class) (new-of s c.in-Kept.member c.in-Kept.class c.in-Kept.field-2 c.in-Kept.ensures.is_meaning)
    (refl, refl))
    (lacking-from s values m (New c.in-Kept.member c.in-Kept.class) (kept-apart s values c.in-Kept.member c.in-Kept.class c.in-Kept.field-2)
    (kept-needs s values c.in-Kept.member c.in-Kept.class c.in-Kept.field-2))
    c.lacking-in-Kept.ensures

pub returns-in-Fresh : goal.returns-in-Fresh
returns-in-Fresh c =
    let s = c.args.space.now in
    let values = c.args.members.now in
    let m : Meaning = (Fresh c.in-Fresh.name c.in-Fresh.class) in
    row-is s values c.args.variable m c.in-Fresh.ensures.of
    (holds-from s values m c.args.variable c.value.result c.in-Fresh.ensures.is_meaning (sym c.in-Fresh.ensures.back) c.value.ensures c.if-not-value.false)
    (IsHeldFrom s values (Fresh c.in-Fresh.name) (c.in-Fresh.class + 1)) c.fresh_held.result
    (held-to s values m (Fresh c.in-Fresh.name) (c.in-Fresh.class + 1) (λ k from. (refl, omega (arith, from))))
    (held-from s values m (Fresh c.in-Fresh.name) (c.in-Fresh.class + 1) (fresh-needs s values c.in-Fresh.name c.in-Fresh.class)
    (fresh-apart s values c.in-Fresh.name c.in-Fresh.class))
    c.fresh_held.ensures
