use Rattle.std.proofs.Common.{ℕ, arith, sym, ◌∙◌}
use Rattle.std.proofs.lemmas.Bool.{false≢true}
use Rattle.dist_relation.specs.declared.atom.Atom.{Atom}
use Rattle.dist_repo.specs.Match.{Matches}
use Rattle.dist_asked.specs.AskedLaws.{IsAskedAnd}
use Rattle.dist_now.proofs.AddsLemmas.{adds-asked, adds-enough, adds-none, adds-passed}
use Rattle.dist_now.proofs.PairLemmas.{IsRejectedAt, IsWith, rejected-all, rejected-at, with-wider}
use Rattle.dist_now.proofs.rejections.add_asked.Goals.{else-has, then-has+in_ok-add_matched}
use Rattle.dist_now.proofs.rejections.add_asked.Goals as goal

pub loop-place-init : goal.loop-place-init
loop-place-init c =
    adds-none c.args.pairs.now.items
    (IsAskedAnd c.args.asked.now (IsRejectedAt c.args.repo.now c.args.span.start c.args.span.end c.args.number c.args.package.now.conflicts)) 0
    (λ i x less here. omega (arith, less))

pub loop-place-preserved : goal.loop-place-preserved
loop-place-preserved c =
    let atoms = c.args.package.now.conflicts in
    let place = c.loop-place.place in
    let old = c.loop-place.pairs.items in
    let first = c.args.pairs.now.items in
    let marks = c.args.asked.now in
    let P = IsRejectedAt c.args.repo.now c.args.span.start c.args.span.end c.args.number atoms in
    elim c.if-has.branch [
      | then-has+in_ok-add_matched w ↦
          rw w.pairs-is
          (adds-asked first old w.add_matched.new.pairs.items marks P place (c.has.ensures.0 w.if-has.true) c.loop-place.invariant
          (rejected-at c.args.repo.now c.args.span.start c.args.span.end c.args.number atoms place c.get-atom.result.now old
          w.add_matched.new.pairs.items c.get-atom.ensures w.in_ok-add_matched.ensures))
      | else-has w ↦
          rw w.pairs-is (adds-passed first old marks P place (λ is. false≢true (sym w.if-has.false ∙ c.has.ensures.1 is)) c.loop-place.invariant)
    ]

pub returns-clause-whole : goal.returns-clause-whole
returns-clause-whole c = λ _.
    let r = c.args.repo.now in
    let start = c.args.span.start in
    let end = c.args.span.end in
    let number = c.args.number in
    rejected-all r start end number c.args.package.now c.loop-place.place c.args.pairs.now.items
    c.loop-place.pairs.items (let e = c.len-place-end.ensures in omega (arith, e, c.loop-place-test.false))
    (adds-enough c.args.pairs.now.items c.loop-place.pairs.items
    (λ (atom : Atom) (pair : ℕ × ℕ). IsWith r start end number (Matches r.architecture atom) pair) c.args.package.now.conflicts
    c.args.asked.now c.loop-place.place (let e = c.len-place-end.ensures in omega (arith, e, c.loop-place-test.false))
    (with-wider r start end number) c.requires c.loop-place.invariant)
