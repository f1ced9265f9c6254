use Rattle.std.proofs.Common.{arith, sym, ◌∙◌}
use Rattle.std.proofs.lemmas.Bool.{false≢true}
use Rattle.dist_base.specs.ListLaws.{any-at}
use Rattle.dist_asked.specs.AskedLaws.{GivesAt, IsAskedAnd}
use Rattle.dist_space.specs.Space.{IsMatched, IsMetBy}
use Rattle.dist_space_clauses.proofs.Gathered.{asked-more, asked-passed, asked-whole, count-none, gathers-weaker}
use Rattle.dist_space_clauses.specs.WithinLaws.{matched-wider}
use Rattle.dist_space_clauses.proofs.items.add_asked.Goals.{then-has+in_ok-add_matched, else-has}
use Rattle.dist_space_clauses.proofs.items.add_asked.Goals as goal

pub loop-place-init : goal.loop-place-init
loop-place-init c =
    let s = c.args.space.now in
    let item = c.args.alternatives.now in
    count-none s c.args.variables.now.items (IsMetBy s item) (IsAskedAnd c.args.asked.now (GivesAt (IsMatched s) item))

pub loop-place-preserved : goal.loop-place-preserved
loop-place-preserved c =
    let s = c.args.space.now in
    let item = c.args.alternatives.now in
    let place = c.loop-place.place in
    let first = c.args.variables.now.items in
    let old = c.loop-place.variables.items in
    let atom = c.get-atom.result.now in
    let marks = c.args.asked.now in
    elim c.if-has.branch [
      | then-has+in_ok-add_matched w ↦
          rw w.variables-is
          (asked-more s (IsMetBy s item) (IsMatched s) item marks first old w.add_matched.new.variables.items place atom c.get-atom.ensures
          (c.has.ensures.0 w.if-has.true) c.loop-place.invariant
          (gathers-weaker s old w.add_matched.new.variables.items (IsMatched s atom) (IsMetBy s item) (IsMatched s atom) (IsMatched s atom)
          (λ m is matched. any-at (λ a. IsMatched s a m) item place atom c.get-atom.ensures matched) (λ m is matched. matched) w.in_ok-add_matched.ensures))
      | else-has w ↦
          rw w.variables-is
          (asked-passed s (IsMetBy s item) (IsMatched s) item marks first old place (λ is. false≢true (sym w.if-has.false ∙ c.has.ensures.1 is))
          c.loop-place.invariant)
    ]

pub returns : goal.returns
returns c =
    let s = c.args.space.now in
    let item = c.args.alternatives.now in
    let e = c.len-place-end.ensures.value in
    asked-whole s (IsMetBy s item) (IsMatched s) item c.args.asked.now c.args.variables.now.items c.loop-place.variables.items c.loop-place.place
    (omega (arith, e, c.loop-place-test.false)) (matched-wider s) c.requires.enough c.loop-place.invariant
