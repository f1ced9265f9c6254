use Rattle.std.proofs.Common.{◌≡◌, ◌∙◌, ℕ, ap, length, arith}
use Rattle.dist_space.specs.Space.{cluster_classes}
use Rattle.dist_space.specs.declared.meaning.Meaning.{Meaning}
use Rattle.dist_space.specs.declared.meaning.Meaning.TheVariants.{New}
use Rattle.dist_space_clauses.specs.GatheringPrivate.{IsLaterOf, IsNewOf}
use Rattle.dist_space_clauses.proofs.Gathered.{UpTo, count-more, count-none, gathers-weaker}
use Rattle.dist_space_clauses.proofs.MatchLemmas.{MatchedAnd, new-later, new-of_class}
use Rattle.dist_space_clauses.proofs.matched.add_versions.Goals as goal

pub loop-class-init : goal.loop-class-init
loop-class-init c =
    let s = c.args.space.now in
    let atom = c.args.atom.now in
    let One : ℕ → Meaning → Type 0 = λ class. MatchedAnd s atom (λ x. x ≡ New c.args.member class) in
    count-none s c.args.variables.now.items (MatchedAnd s atom (IsLaterOf c.args.member)) One

pub add_new-requires-clause-class : goal.add_new-requires-clause-class
add_new-requires-clause-class c =
    let e = c.class_count-class-end.ensures ∙ ap (λ (n : ℕ). length (cluster_classes c.args.space.now n)) c.cluster_of.ensures in
    omega (arith, e, c.loop-class-test.true)

pub loop-class-preserved : goal.loop-class-preserved
loop-class-preserved c =
    let s = c.args.space.now in
    let atom = c.args.atom.now in
    let P = MatchedAnd s atom (IsLaterOf c.args.member) in
    let One : ℕ → Meaning → Type 0 = λ class. MatchedAnd s atom (λ x. x ≡ New c.args.member class) in
    let class = c.loop-class.class in
    count-more s c.args.variables.now.items c.loop-class.variables.items c.add_new.new.variables.items P One class c.loop-class.invariant
    (gathers-weaker s c.loop-class.variables.items c.add_new.new.variables.items (One class) P (One class) (One class)
    (λ m is both. new-later s atom c.args.member class m both) (λ m is both. both) c.in_ok-add_new.ensures)

pub returns : goal.returns
returns c =
    let s = c.args.space.now in
    let atom = c.args.atom.now in
    let P = MatchedAnd s atom (IsLaterOf c.args.member) in
    let One : ℕ → Meaning → Type 0 = λ class. MatchedAnd s atom (λ x. x ≡ New c.args.member class) in
    let e = c.class_count-class-end.ensures ∙ ap (λ (n : ℕ). length (cluster_classes s n)) c.cluster_of.ensures in
    gathers-weaker s c.args.variables.now.items c.loop-class.variables.items P P (UpTo s One c.loop-class.class)
    (MatchedAnd s atom (IsNewOf c.args.member)) (λ m is both. both)
    (λ m is both.
    let one = new-of_class s atom c.args.member m is both in
    (one.0, omega (arith, one.1, e, c.loop-class-test.false), one.2))
    c.loop-class.invariant
