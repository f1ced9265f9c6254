use Rattle.std.proofs.Common.{◌+◌, ◌∷◌, [], ap, ◌∙◌, inl}
use Rattle.dist_cert.specs.ClaimRules.{no, yes}
use Rattle.dist_repair.specs.NotesPrivate.{WordsView}
use Rattle.dist_repair.proofs.NoteLemmas.{front-same}
use Rattle.dist_repair.proofs.words.Words.at.Goals as goal

pub returns-clause-asks : goal.returns-clause-asks
returns-clause-asks c = λ s asked are. inl (ap (λ (w : WordsView). yes w.own ∷ no (w.first + c.args.number) ∷ []) c.self.view_is
    ∙ front-same s asked c.args.self.now are c.args.number)
