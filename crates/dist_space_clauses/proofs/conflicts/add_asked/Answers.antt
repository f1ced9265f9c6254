use Rattle.std.proofs.Common.{arith, sym, ◌∙◌}
use Rattle.std.proofs.lemmas.Bool.{false≢true}
use Rattle.dist_base.specs.ListLaws.{contains-at}
use Rattle.dist_asked.specs.AskedLaws.{GivesAt, IsAskedAnd, IsByWidth}
use Rattle.dist_relation.specs.declared.atom.Atom.{Atom}
use Rattle.dist_space_clauses.specs.GatheringPrivate.{IsLater}
use Rattle.dist_space.specs.Space.{IsMatched}
use Rattle.dist_space_clauses.specs.SpaceClauses.{Excludes}
use Rattle.dist_space.specs.declared.meaning.Meaning.{Meaning}
use Rattle.dist_space_clauses.proofs.Gathered.{asked-more, asked-passed, asked-whole, count-none}
use Rattle.dist_space_clauses.specs.WithinLaws.{matched-wider}
use Rattle.dist_space_clauses.proofs.conflicts.add_asked.Goals.{then-has+in_ok-add_atom, else-has}
use Rattle.dist_space_clauses.proofs.conflicts.add_asked.Goals as goal

pub add_atom-requires : goal.add_atom-requires
add_atom-requires c = record {
  atom = contains-at c.args.package.now.conflicts c.loop-place.place c.get-atom.result.now c.get-atom.ensures;
  movers = c.requires.movers;
}

pub loop-place-init : goal.loop-place-init
loop-place-init c =
    let s = c.args.space.now in
    let Excluded = Excludes s c.args.number c.args.package.now in
    let Of : Atom → Meaning → Type 0 = λ atom m. IsLater m × IsMatched s atom m × Excluded m in
    count-none s c.args.variables.now.items Excluded (IsAskedAnd c.args.asked.now (GivesAt Of c.args.package.now.conflicts))

pub loop-place-preserved : goal.loop-place-preserved
loop-place-preserved c =
    let s = c.args.space.now in
    let Excluded = Excludes s c.args.number c.args.package.now in
    let Of : Atom → Meaning → Type 0 = λ atom m. IsLater m × IsMatched s atom m × Excluded m in
    let atoms = c.args.package.now.conflicts in
    let first = c.args.variables.now.items in
    let old = c.loop-place.variables.items in
    let place = c.loop-place.place in
    let atom = c.get-atom.result.now in
    let marks = c.args.asked.now in
    elim c.if-has.branch [
      | then-has+in_ok-add_atom w ↦
          rw w.variables-is
          (asked-more s Excluded Of atoms marks first old w.add_atom.new.variables.items place atom c.get-atom.ensures (c.has.ensures.0 w.if-has.true)
          c.loop-place.invariant w.in_ok-add_atom.ensures)
      | else-has w ↦
          rw w.variables-is
          (asked-passed s Excluded Of atoms marks first old place (λ is. false≢true (sym w.if-has.false ∙ c.has.ensures.1 is)) c.loop-place.invariant)
    ]

pub returns : goal.returns
returns c =
    let s = c.args.space.now in
    let Excluded = Excludes s c.args.number c.args.package.now in
    let Of : Atom → Meaning → Type 0 = λ atom m. IsLater m × IsMatched s atom m × Excluded m in
    let wide : IsByWidth Of = λ atom other m within has. (has.0, matched-wider s atom other m within has.1, has.2) in
    asked-whole s Excluded Of c.args.package.now.conflicts c.args.asked.now c.args.variables.now.items c.loop-place.variables.items c.loop-place.place
    (let e = c.len-place-end.ensures in omega (arith, e, c.loop-place-test.false)) wide c.requires.enough c.loop-place.invariant
