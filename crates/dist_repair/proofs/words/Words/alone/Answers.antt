use Rattle.std.proofs.Common.{ℕ, ◌∷◌, [], ap, ◌∙◌}
use Rattle.dist_cert.specs.ClaimRules.{yes}
use Rattle.dist_repair.specs.NotesPrivate.{WordsView}
use Rattle.dist_repair.proofs.words.Words.alone.Goals as goal

pub returns-clause-asks : goal.returns-clause-asks
returns-clause-asks c = λ s asked are. ap (λ (v : ℕ). yes v ∷ []) (ap (λ (w : WordsView). w.own) c.self.view_is ∙ are.own_is)
