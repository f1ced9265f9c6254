use Rattle.std.proofs.Common.{sym, subst}
use Rattle.dist_derive.specs.ClauseLog.{ClauseLog, inputs_of}
use Rattle.dist_derive.specs.ConePrivate.{AreLinesWithin}
use Rattle.dist_derive.proofs.log.Log.lines_are_new.Goals as goal

pub tell_lines-requires-clause-within : goal.tell_lines-requires-clause-within
tell_lines-requires-clause-within c =
    subst (λ (log : ClauseLog). AreLinesWithin (inputs_of log) log.clauses c.args.assumptions.now c.args.last) (sym c.self.view_is) c.requires.within
