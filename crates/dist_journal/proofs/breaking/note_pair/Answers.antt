use Rattle.std.proofs.Common.{◌∙◌, sym}
use Rattle.std.proofs.lemmas.Bool.{false≢true}
use Rattle.dist_journal.proofs.BreakingLemmas.{pair-noted, pair-passed}
use Rattle.dist_journal.proofs.breaking.note_pair.Goals as goal

pub returns-in_ok-note : goal.returns-in_ok-note
returns-in_ok-note c =
    pair-noted c.args.moved.now c.args.number c.args.found.now.keys c.note.new.found.keys c.args.pair (c.has_moved.ensures.0 c.if-has_moved.true)
    c.in_ok-note.ensures

pub returns-else-has_moved : goal.returns-else-has_moved
returns-else-has_moved c =
    pair-passed c.args.moved.now c.args.number c.args.found.now.keys c.args.pair
    (λ is. false≢true (sym c.if-has_moved.false ∙ c.has_moved.ensures.1 is))
