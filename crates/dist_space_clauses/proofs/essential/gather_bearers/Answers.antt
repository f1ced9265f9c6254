use Rattle.std.proofs.Common.{◌≡◌, ◌⊎◌, ◌+◌, ℕ, List, [], length, arith, inl, inr, ap, subst, ◌∙◌}
use Rattle.std.proofs.lemmas.Option.{slice_get_within}
use Rattle.dist_space_clauses.specs.GatheringPrivate.{Gathers}
use Rattle.dist_space.specs.Space.{cluster_classes}
use Rattle.dist_space_clauses.specs.SpaceClauses.{IsBearer}
use Rattle.dist_space.specs.declared.meaning.Meaning.{Meaning}
use Rattle.dist_space.specs.declared.meaning.Meaning.TheVariants.{New, Present}
use Rattle.dist_space_clauses.proofs.Bearers.{bearer-cases, bearer-more, bearer-new, bearer-present}
use Rattle.dist_space_clauses.proofs.Gathered.{UpTo, gathers-both, gathers-weaker, in-order}
use Rattle.dist_space_clauses.proofs.essential.gather_bearers.Goals as goal

pub add_variable-requires : goal.add_variable-requires
add_variable-requires c = slice_get_within c.args.space.now.repository.packages c.args.number c.args.package.now c.requires.package

pub loop-class-init : goal.loop-class-init
loop-class-init c =
    let s = c.args.space.now in
    let n = c.args.number in
    let p = c.args.package.now in
    let One : Meaning → Type 0 = λ m. m ≡ Present n in
    let first = c.add_variable.new.variables.items in
    gathers-weaker s [] first One (IsBearer s p.name) One (λ m. (m ≡ Present n) ⊎ UpTo s (λ class x. x ≡ New n class) 0 m)
    (λ m is same. bearer-present s n p m c.requires.package same) (λ m is either. elim either [
      | inl same ↦ same
      | inr up ↦ absurd (omega (arith, up.1))
    ])
    (subst (λ (xs : List ℕ). Gathers s xs first One One) c.clear.ensures.items c.in_ok-add_variable.ensures)

pub add_variable-requires-in-loop-class : goal.add_variable-requires-in-loop-class
add_variable-requires-in-loop-class c =
    let s = c.args.space.now in
    let e = c.class_count-class-end.ensures ∙ ap (λ (i : ℕ). length (cluster_classes s i)) c.cluster_of.ensures in
    (slice_get_within s.repository.packages c.args.number c.args.package.now c.requires.package, omega (arith, e, c.loop-class-test.true))

pub loop-class-preserved : goal.loop-class-preserved
loop-class-preserved c =
    let s = c.args.space.now in
    let n = c.args.number in
    let p = c.args.package.now in
    let class = c.loop-class.class in
    let One : Meaning → Type 0 = λ m. m ≡ New n class in
    gathers-both s [] c.loop-class.variables.items c.add_variable-in-loop-class.new.variables.items (IsBearer s p.name)
    (λ m. (m ≡ Present n) ⊎ UpTo s (λ k x. x ≡ New n k) class m) One (λ m. (m ≡ Present n) ⊎ UpTo s (λ k x. x ≡ New n k) (class + 1) m)
    c.loop-class.invariant
    (gathers-weaker s c.loop-class.variables.items c.add_variable-in-loop-class.new.variables.items One (IsBearer s p.name) One One
    (λ m is same. bearer-new s n p class m c.requires.package same) (λ m is same. same) c.in_ok-add_variable-2.ensures)
    (λ m is either. bearer-more s n class m either)

pub returns : goal.returns
returns c =
    let s = c.args.space.now in
    let n = c.args.number in
    let p = c.args.package.now in
    let Bearer = IsBearer s p.name in
    let e = c.class_count-class-end.ensures ∙ ap (λ (i : ℕ). length (cluster_classes s i)) c.cluster_of.ensures in
    in-order s c.loop-class.variables.items c.put_in_order.new.variables.items Bearer Bearer (λ m is bearer. bearer)
    (gathers-weaker s [] c.loop-class.variables.items Bearer Bearer (λ m. (m ≡ Present n) ⊎ UpTo s (λ k x. x ≡ New n k) c.loop-class.class m) Bearer
    (λ m is bearer. bearer)
    (λ m is bearer. bearer-cases s c.keeps_invariant.ensures.space n p c.loop-class.class m c.requires.package (omega (arith, e, c.loop-class-test.false))
    is bearer) c.loop-class.invariant)
    c.put_in_order.ensures.rising c.put_in_order.ensures.same
