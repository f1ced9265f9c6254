use Rattle.dist_repo.specs.TallyPrivate.{NotesEach}
use Rattle.dist_repo.proofs.NotedLemmas.{IsOfferBy}
use Rattle.dist_repo.proofs.tally.Tally.note_package.Given as goal

-- the name and the entries so far are noted
abbrev pub invariant-loop-place : goal.invariant-loop-place
invariant-loop-place l = NotesEach l.fn.self l.self (IsOfferBy l.architecture l.package l.place) l.number
