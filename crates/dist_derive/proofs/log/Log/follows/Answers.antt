use Rattle.std.proofs.Common.{ap, subst}
use Rattle.dist_derive.specs.TrueLiterals.{LiteralList}
use Rattle.dist_derive.specs.Follows.{EndsFalse}
use Rattle.dist_derive.proofs.Soundness.{follows_sound}
use Rattle.dist_derive.proofs.log.Log.follows.Goals as goal

pub returns-clause-sound : goal.returns-clause-sound
returns-clause-sound c = λ yes value model.
    let denied = ap (λ (t : LiteralList). t.literals) c.deny.ensures in
    let follows = subst (λ trues. EndsFalse c.args.self.now.clauses trues c.args.hints.now) denied (c.ends_false-answer.ensures.answer.0 yes) in
    follows_sound value c.args.self.now.clauses c.args.clause.now c.args.hints.now follows model
