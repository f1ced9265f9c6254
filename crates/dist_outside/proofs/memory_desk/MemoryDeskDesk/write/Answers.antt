use Rattle.std.proofs.Common.{rules}
use Rattle.dist_outside.proofs.Growing.{file_grew_nothing}
use Rattle.dist_outside.proofs.memory_desk.MemoryDeskDesk.write.Goals as goal
use Rattle.dist_outside.proofs.memory_desk.MemoryDeskDesk.write.Goals.{in-Ok, in-Err}

pub returns-then-contains-clause-refused : goal.returns-then-contains-clause-refused
returns-then-contains-clause-refused c = file_grew_nothing _ _ (search rules) (search rules) (search rules)

pub returns-clause-refused : goal.returns-clause-refused
returns-clause-refused c = elim c.match-append_to_newest.branch [
  | in-Ok w ↦ search rules
  | in-Err w ↦ rw w.result-is (file_grew_nothing _ _ (search rules) (search rules) (search rules))
]
