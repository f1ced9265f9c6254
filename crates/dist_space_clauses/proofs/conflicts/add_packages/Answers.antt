use Rattle.std.proofs.Common.{ℕ, get_or, arith}
use Rattle.std.proofs.lemmas.Option.{slice_get-get_or}
use Rattle.dist_space_clauses.specs.GatheringPrivate.{IsLaterOf}
use Rattle.dist_space.specs.Space.{IsMatchedBy}
use Rattle.dist_space_clauses.specs.SpaceClauses.{Excludes}
use Rattle.dist_space.specs.declared.meaning.Meaning.{Meaning}
use Rattle.dist_space_clauses.proofs.Gathered.{each-more, each-none, each-whole}
use Rattle.dist_space_clauses.proofs.conflicts.add_packages.Goals as goal

pub add_rejected-requires-clause-other : goal.add_rejected-requires-clause-other
add_rejected-requires-clause-other c = c.requires.candidates.within c.loop-other.other-index 0 c.loop-other-test.true

pub loop-other-init : goal.loop-other-init
loop-other-init c =
    let s = c.args.space.now in
    let Excluded = Excludes s c.args.number c.args.package.now in
    let Of : ℕ → Meaning → Type 0 = λ other m. (IsLaterOf other m × IsMatchedBy s c.args.atom.now m) × Excluded m in
    each-none s Excluded Of c.args.numbers.now c.args.variables.now.items

pub loop-other-preserved : goal.loop-other-preserved
loop-other-preserved c =
    let s = c.args.space.now in
    let Excluded = Excludes s c.args.number c.args.package.now in
    let Of : ℕ → Meaning → Type 0 = λ other m. (IsLaterOf other m × IsMatchedBy s c.args.atom.now m) × Excluded m in
    each-more s Excluded Of c.args.numbers.now c.args.variables.now.items c.loop-other.variables.items c.add_rejected.new.variables.items
    c.loop-other.other-index (get_or c.args.numbers.now c.loop-other.other-index 0)
    (slice_get-get_or c.args.numbers.now c.loop-other.other-index 0 c.loop-other-test.true) c.loop-other.invariant c.in_ok-add_rejected.ensures

pub returns : goal.returns
returns c =
    let s = c.args.space.now in
    let Excluded = Excludes s c.args.number c.args.package.now in
    let Of : ℕ → Meaning → Type 0 = λ other m. (IsLaterOf other m × IsMatchedBy s c.args.atom.now m) × Excluded m in
    each-whole s Excluded Of c.args.numbers.now c.args.variables.now.items c.loop-other.variables.items c.loop-other.other-index
    (omega (arith, c.loop-other-test.false)) c.loop-other.invariant
