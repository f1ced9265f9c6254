use Rattle.std.proofs.Common.{◌≡◌, ◌∙◌, ℕ, ap, length, arith}
use Rattle.std.specs.Prelude.{Any}
use Rattle.dist_space.specs.Space.{cluster_classes}
use Rattle.dist_space.specs.declared.meaning.Meaning.{Meaning}
use Rattle.dist_space.specs.declared.meaning.Meaning.TheVariants.{Kept}
use Rattle.dist_space_clauses.specs.GatheringPrivate.{IsKeptAt, IsLaterOf}
use Rattle.dist_space_clauses.proofs.Gathered.{UpTo, count-more, count-none, gathers-weaker}
use Rattle.dist_space_clauses.proofs.MatchLemmas.{MatchedAnd, kept-of_classes}
use Rattle.dist_space_clauses.proofs.matched.add_run.Goals as goal

pub loop-class-init : goal.loop-class-init
loop-class-init c =
    let s = c.args.space.now in
    let atom = c.args.atom.now in
    let One : ℕ → Meaning → Type 0 = λ class m. Any (λ place. MatchedAnd s atom (λ x. x ≡ Kept c.args.member class place) m) c.args.places.now in
    count-none s c.args.variables.now.items (MatchedAnd s atom (IsLaterOf c.args.member)) One

pub add_alike-requires-clause-class : goal.add_alike-requires-clause-class
add_alike-requires-clause-class c =
    let e = c.class_count-class-end.ensures ∙ ap (λ (n : ℕ). length (cluster_classes c.args.space.now n)) c.cluster_of.ensures in
    omega (arith, e, c.loop-class-test.true)

pub loop-class-preserved : goal.loop-class-preserved
loop-class-preserved c =
    let s = c.args.space.now in
    let atom = c.args.atom.now in
    let One : ℕ → Meaning → Type 0 = λ class m. Any (λ place. MatchedAnd s atom (λ x. x ≡ Kept c.args.member class place) m) c.args.places.now in
    count-more s c.args.variables.now.items c.loop-class.variables.items c.add_alike.new.variables.items (MatchedAnd s atom (IsLaterOf c.args.member)) One
    c.loop-class.class c.loop-class.invariant c.in_ok-add_alike.ensures

pub returns : goal.returns
returns c =
    let s = c.args.space.now in
    let atom = c.args.atom.now in
    let P = MatchedAnd s atom (IsLaterOf c.args.member) in
    let One : ℕ → Meaning → Type 0 = λ class m. Any (λ place. MatchedAnd s atom (λ x. x ≡ Kept c.args.member class place) m) c.args.places.now in
    let e = c.class_count-class-end.ensures ∙ ap (λ (n : ℕ). length (cluster_classes s n)) c.cluster_of.ensures in
    gathers-weaker s c.args.variables.now.items c.loop-class.variables.items P P (UpTo s One c.loop-class.class)
    (λ m. Any (λ place. MatchedAnd s atom (IsKeptAt c.args.member place) m) c.args.places.now) (λ m is both. both)
    (λ m is any.
    let one = kept-of_classes s atom c.args.member c.args.places.now m is any in
    (one.0, omega (arith, one.1, e, c.loop-class-test.false), one.2))
    c.loop-class.invariant
