use Rattle.std.proofs.Common.{ℕ, List, arith, sym, subst, refl}
use Rattle.std.proofs.lemmas.Option.{slice_get_read}
use Rattle.dist_repo.specs.TallyPrivate.{NotesEach}
use Rattle.dist_repo.specs.declared.offers.Offer.{Offer}
use Rattle.dist_repo.specs.declared.package.Package.{Package}
use Rattle.dist_repo.proofs.NotedLemmas.{IsEntryAt, IsTallyBelow, tally-none, tally-more, tally-all}
use Rattle.dist_repo.proofs.tally.Tally.note_packages.Goals as goal

pub loop-number-init : goal.loop-number-init
loop-number-init c =
    let Below : List (List ℕ × List Offer) → Type 0 = λ tally. IsTallyBelow c.args.architecture.now c.args.packages.now 0 tally in
    subst Below (sym c.requires.none) (tally-none c.args.architecture.now c.args.packages.now)

pub loop-number-preserved : goal.loop-number-preserved
loop-number-preserved c =
    let p : Package = c.index-packages-number.result in
    let Noted : Package → Type 0 = λ x. NotesEach c.loop-number.self c.note_package.new.self (IsEntryAt c.args.architecture.now x)
    c.loop-number.number in
    tally-more c.args.architecture.now c.args.packages.now c.loop-number.number p c.loop-number.self c.note_package.new.self
    (slice_get_read c.args.packages.now _ c.loop-number.number p refl c.loop-number-test.true c.index-packages-number.is) c.loop-number.invariant
    (subst Noted c.package.ensures c.in_ok-note_package.ensures)

pub returns : goal.returns
returns c = tally-all c.args.architecture.now c.args.packages.now c.loop-number.number c.loop-number.self (omega arith) c.loop-number.invariant
