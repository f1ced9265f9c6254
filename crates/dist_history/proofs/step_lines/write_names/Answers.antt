use Rattle.std.proofs.Common.{append-nil, arith, sym}
use Rattle.dist_history.proofs.TextLemmas.{names-all, names-more}
use Rattle.dist_history.proofs.step_lines.write_names.Goals as goal

pub loop-number-init : goal.loop-number-init
loop-number-init c = sym (append-nil c.args.out.now.items)

pub loop-number-preserved : goal.loop-number-preserved
loop-number-preserved c =
    names-more c.args.block.now.packages c.loop-number.number c.package.result.now c.args.out.now.items c.loop-number.out.items c.write_name.new.out.items
    c.package.ensures c.loop-number.invariant c.in_ok-write_name.ensures

pub returns : goal.returns
returns c =
    names-all c.args.block.now.packages c.loop-number.number c.args.out.now.items c.loop-number.out.items (omega (arith, c.len-number-end.ensures.value))
    c.loop-number.invariant
