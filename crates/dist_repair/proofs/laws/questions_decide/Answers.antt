use Rattle.dist_base.specs.ListLaws.{element-at}
use Rattle.std.proofs.Common.{refl}
use Rattle.dist_repair.proofs.AnswerLemmas.{answer-decides, answer-right}
use Rattle.dist_repair.proofs.NextLemmas.{begun-more, last-decides, lower-decides, next-decides}
use Rattle.dist_repair.proofs.OverLemmas.{space-over}
use Rattle.dist_repair.proofs.laws.questions_decide.Goals as goal

pub returns-clause-next : goal.returns-clause-next
returns-clause-next c = λ s clauses space are asked limit found f j n short sound noted begun low upto at.
    let one = element-at s.repository.packages asked.number short in (
      begun-more s asked found f begun,
      next-decides s asked space clauses (space-over s space clauses are) one.element one.is
          (c.models_tell_of_moves.ensures s clauses space are)
          (c.counters_count_moves.ensures.moves s clauses space are) (c.counters_count_moves.ensures.counted s clauses asked.most space are)
          limit found j begun low upto f n sound noted at,
    )

pub returns-clause-last : goal.returns-clause-last
returns-clause-last c = λ s asked found n are begun low. last-decides s asked found n are begun low

pub returns-clause-answer : goal.returns-clause-answer
returns-clause-answer c = λ s asked found n are decided. answer-right s asked found n are ((answer-decides s asked found n are).1 decided)

pub returns-clause-lower : goal.returns-clause-lower
returns-clause-lower c = λ s clauses space are asked limit found f j n m short sound noted more decided upto below at.
    let one = element-at s.repository.packages asked.number short in
    lower-decides s asked space clauses (space-over s space clauses are) one.element one.is (c.models_tell_of_moves.ensures s clauses space are)
    (c.counters_count_moves.ensures.moves s clauses space are) (c.counters_count_moves.ensures.counted s clauses asked.most space are) limit found f sound
    n m noted more below.0 below.1 f refl j decided upto below.2 at
