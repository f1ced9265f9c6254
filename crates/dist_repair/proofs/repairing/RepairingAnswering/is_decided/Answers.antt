use Rattle.std.proofs.Common.{◌≡◌, ◌↔◌, Bool, true, sym, subst}
use Rattle.dist_repair.specs.RepairFiles.{IsDecided, asked_by}
use Rattle.dist_repair.proofs.AnswerLemmas.{answer-decides}
use Rattle.dist_repair.proofs.repairing.RepairingAnswering.is_decided.Goals as goal

pub returns : goal.returns
returns c = λ numbers found are.
    subst (λ (b : Bool). (b ≡ true) ↔ IsDecided c.args.self.now.space.now (asked_by numbers) found) (sym c.has_answer.ensures)
    (answer-decides c.args.self.now.space.now (asked_by numbers) found c.args.notes.now are)
