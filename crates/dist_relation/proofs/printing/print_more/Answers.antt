use Rattle.dist_relation.proofs.Canon.{extends_further, whatever_err}
use Rattle.dist_relation.proofs.printing.print_more.Goals as goal

pub returns-in_err-print_behind_bar-clause-err : goal.returns-in_err-print_behind_bar-clause-err
returns-in_err-print_behind_bar-clause-err c =
    whatever_err c.from_residual.result (extends_further c.args.out.now.items c.loop-atom.out.items c.print_behind_bar.new.out.items _
    c.loop-atom.invariant.text c.in_err-print_behind_bar.ensures.err)
