use Rattle.dist_explain.proofs.NotesLemmas.{marked-relations}
use Rattle.dist_explain.proofs.laws.marked_relations_are_answered.Goals as goal

pub returns : goal.returns
returns c = λ asked found notes numbers later upto are is marked. marked-relations asked found notes numbers later upto are is marked
