use Rattle.std.proofs.Common.{◌+◌, ℕ, List, arith, sym, subst, ◌∙◌}
use Rattle.std.proofs.lemmas.Bool.{false≢true}
use Rattle.dist_repo.specs.TallyPrivate.{NotesEach}
use Rattle.dist_repo.specs.declared.offers.Offer.{Offer}
use Rattle.dist_repo.proofs.NotedLemmas.{IsOfferBy, each-all, each-none, each-unusable, each-usable}
use Rattle.dist_repo.proofs.tally.Tally.note_package.Goals as goal
use Rattle.dist_repo.proofs.tally.Tally.note_package.Goals.{then-is_usable+in_ok-note, else-is_usable}

pub loop-place-init : goal.loop-place-init
loop-place-init c = each-none c.args.self.now c.args.architecture.now c.args.package.now c.args.number

pub loop-place-preserved : goal.loop-place-preserved
loop-place-preserved c =
    let Noted : List (List ℕ × List Offer) → Type 0 = λ tally. NotesEach c.args.self.now tally
    (IsOfferBy c.args.architecture.now c.args.package.now (c.loop-place.place + 1)) c.args.number in
    elim c.if-is_usable.branch [
      | then-is_usable+in_ok-note w ↦ subst Noted (sym w.self-is)
          (each-usable c.args.self.now c.loop-place.self w.note.new.self c.args.architecture.now c.args.package.now c.loop-place.place
          c.get-entry.result.now c.args.number c.get-entry.ensures (c.is_usable.ensures.0 w.if-is_usable.true) c.loop-place.invariant
          w.in_ok-note.ensures)
      | else-is_usable w ↦ subst Noted (sym w.self-is)
          (each-unusable c.args.self.now c.loop-place.self c.args.architecture.now c.args.package.now c.loop-place.place c.get-entry.result.now c.args.number
          c.get-entry.ensures
          (λ usable. false≢true (sym w.if-is_usable.false ∙ c.is_usable.ensures.1 usable)) c.loop-place.invariant)
    ]

pub returns : goal.returns
returns c = each-all c.args.self.now c.loop-place.self c.args.architecture.now c.args.package.now c.loop-place.place c.args.number (omega arith)
    c.loop-place.invariant
