use Rattle.std.proofs.Common.{ap, arith, length}
use Rattle.dist_sweep.specs.Window.{WindowView}
use Rattle.dist_sweep.proofs.Later.{each-before}
use Rattle.dist_sweep.proofs.window.Window.gives_up.Goals as goal

pub returns-else-len-ge-REACH : goal.returns-else-len-ge-REACH
returns-else-len-ge-REACH c none values other each =
    let sizes = ap (λ (v : WindowView). length v.kept) c.self.view_is in
    each-before c.args.self.now values c.args.variable other (omega (arith, c.if-len-ge-REACH.false, c.len.ensures.len, sizes)) each
