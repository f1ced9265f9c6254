use Rattle.std.proofs.Common.{◌+◌, ℕ, arith, sym, ◌∙◌}
use Rattle.std.proofs.lemmas.Bool.{false≢true}
use Rattle.dist_asked.specs.AskedLaws.{IsAskedAnd}
use Rattle.dist_relation.specs.declared.atom.Atom.{Atom}
use Rattle.dist_repo.specs.Match.{Matches}
use Rattle.dist_repo.specs.PackageList.{IsPackageAnd}
use Rattle.dist_now.specs.GatheringPrivate.{IsMatchedAt}
use Rattle.dist_now.proofs.AddsLemmas.{UpTo, adds-asked, adds-enough, adds-moved, adds-none, adds-passed}
use Rattle.dist_now.proofs.NumberLemmas.{matched-at, matched-wider, meeting-all}
use Rattle.dist_now.proofs.numbers.add_asked.Goals.{then-has+in_ok-add_matched, else-has}
use Rattle.dist_now.proofs.numbers.add_asked.Goals as goal

pub loop-place-init : goal.loop-place-init
loop-place-init c =
    adds-none c.args.numbers.now.items (IsAskedAnd c.args.asked.now (IsMatchedAt c.args.repo.now c.args.alternatives.now)) 0
    (λ i x less here. omega (arith, less))

pub loop-place-preserved : goal.loop-place-preserved
loop-place-preserved c =
    let item = c.args.alternatives.now in
    let P = IsMatchedAt c.args.repo.now item in
    let place = c.loop-place.place in
    let first = c.args.numbers.now.items in
    let old = c.loop-place.numbers.items in
    let marks = c.args.asked.now in
    elim c.if-has.branch [
      | then-has+in_ok-add_matched w ↦
          rw w.numbers-is
          (adds-moved first w.add_matched.new.numbers.items w.thin-limit.new.numbers.items (UpTo (IsAskedAnd marks P) (place + 1)) w.thin-limit.ensures
          (adds-asked first old w.add_matched.new.numbers.items marks P place (c.has.ensures.0 w.if-has.true) c.loop-place.invariant
          (matched-at c.args.repo.now item place c.get-atom.result.now old w.add_matched.new.numbers.items c.get-atom.ensures w.in_ok-add_matched.ensures)))
      | else-has w ↦
          rw w.numbers-is (adds-passed first old marks P place (λ is. false≢true (sym w.if-has.false ∙ c.has.ensures.1 is)) c.loop-place.invariant)
    ]

pub returns : goal.returns
returns c =
    let r = c.args.repo.now in
    let item = c.args.alternatives.now in
    let first = c.args.numbers.now.items in
    let e = c.len-place-end.ensures.value in
    meeting-all r item c.loop-place.place first c.loop-place.numbers.items (omega (arith, e, c.loop-place-test.false))
    (adds-enough first c.loop-place.numbers.items (λ (atom : Atom) (k : ℕ). IsPackageAnd r.packages k (Matches r.architecture atom)) item
    c.args.asked.now c.loop-place.place (omega (arith, e, c.loop-place-test.false)) (matched-wider r) c.requires c.loop-place.invariant)
