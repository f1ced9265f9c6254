use Rattle.std.proofs.Common.{append-nil, arith, sym}
use Rattle.dist_history.proofs.FollowLemmas.{lines-all, lines-more}
use Rattle.dist_history.proofs.followed.write_broken_list.Goals as goal

pub loop-place-init : goal.loop-place-init
loop-place-init c = sym (append-nil c.args.out.now.items)

pub loop-place-preserved : goal.loop-place-preserved
loop-place-preserved c =
    lines-more c.args.archive.now.space c.args.archive.now.packages c.args.list.now c.loop-place.place c.get.result.now c.args.out.now.items
    c.loop-place.out.items c.write_broken.new.out.items c.get.ensures c.loop-place.invariant c.in_ok-write_broken.ensures

pub returns : goal.returns
returns c =
    lines-all c.args.archive.now.space c.args.archive.now.packages c.args.list.now c.loop-place.place c.args.out.now.items c.loop-place.out.items
    (omega (arith, c.len-place-end.ensures)) c.loop-place.invariant
