use Rattle.std.proofs.Common.{◌≡◌, arith, sym}
use Rattle.dist_space_clauses.specs.GatheringPrivate.{IsFresh}
use Rattle.dist_space.specs.declared.meaning.Meaning.TheVariants.{Fresh}
use Rattle.dist_space_clauses.proofs.Gathered.{UpTo, count-more, count-none, gathers-weaker}
use Rattle.dist_space_clauses.proofs.MatchLemmas.{MatchedAnd, fresh-among, fresh-one}
use Rattle.dist_space_clauses.proofs.matched.add_fresh.Goals as goal

pub loop-class-init : goal.loop-class-init
loop-class-init c =
    let s = c.args.space.now in
    let atom = c.args.atom.now in
    count-none s c.args.variables.now.items (MatchedAnd s atom IsFresh) (λ class. MatchedAnd s atom (λ m. m ≡ Fresh c.in-Some.name class))

pub loop-class-preserved : goal.loop-class-preserved
loop-class-preserved c =
    let s = c.args.space.now in
    let atom = c.args.atom.now in
    let P = MatchedAnd s atom IsFresh in
    let One = MatchedAnd s atom (λ m. m ≡ Fresh c.in-Some.name c.loop-class.class) in
    count-more s c.args.variables.now.items c.loop-class.variables.items c.add_fresh_class.new.variables.items P
    (λ class. MatchedAnd s atom (λ m. m ≡ Fresh c.in-Some.name class)) c.loop-class.class c.loop-class.invariant
    (gathers-weaker s c.loop-class.variables.items c.add_fresh_class.new.variables.items One P One One
    (λ m is both. fresh-among s atom c.in-Some.name c.loop-class.class m both) (λ m is both. both) c.in_ok-add_fresh_class.ensures)

pub returns : goal.returns
returns c =
    let s = c.args.space.now in
    let atom = c.args.atom.now in
    let P = MatchedAnd s atom IsFresh in
    gathers-weaker s c.args.variables.now.items c.loop-class.variables.items P P
    (UpTo s (λ class. MatchedAnd s atom (λ m. m ≡ Fresh c.in-Some.name class)) c.loop-class.class) P (λ m is both. both)
    (λ m is both.
    let one = fresh-one s atom c.in-Some.name m (λ y there. sym ((c.in-Some.ensures y).1 there)) is both in
    (one.0, omega (arith, one.1, c.name_class_count-class-end.ensures, c.loop-class-test.false), one.2))
    c.loop-class.invariant
