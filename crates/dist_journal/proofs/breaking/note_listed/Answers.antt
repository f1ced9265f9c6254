use Rattle.std.proofs.Common.{◌∙◌, sym}
use Rattle.std.proofs.lemmas.Bool.{false≢true}
use Rattle.dist_cert.specs.declared.records.Claim.TheVariants.{Challenged}
use Rattle.dist_journal.proofs.BreakingLemmas.{claim-noted, claim-passed}
use Rattle.dist_journal.proofs.breaking.note_listed.Goals as goal

pub returns-in_ok-note_pairs : goal.returns-in_ok-note_pairs
returns-in_ok-note_pairs c = λ undecided.
    claim-noted c.args.archive.now c.args.moved.now c.args.number c.args.found.now.keys c.note_pairs.new.found.keys c.args.by.now undecided
    (c.is_held.ensures.0 c.if-is_held.true) c.in_ok-note_pairs.ensures

pub returns-else-is_held : goal.returns-else-is_held
returns-else-is_held c = λ undecided.
    claim-passed c.args.archive.now c.args.moved.now c.args.number c.args.found.now.keys (Challenged c.args.by.now undecided)
    (λ is. false≢true (sym c.if-is_held.false ∙ c.is_held.ensures.1 is))
