use Rattle.std.proofs.Common.{arith}
use Rattle.std.proofs.lemmas.Result.{err_from_is_err_and}
use Rattle.dist_space.specs.NumberingPrivate.{member_part}
use Rattle.std.proofs.lemmas.Option.{slice_get-get_or}
use Rattle.dist_space.proofs.ExtendLemmas.{full-at}
use Rattle.dist_space.proofs.numbering.add_members.Goals as goal

pub returns-in_err-add_member-clause-err : goal.returns-in_err-add_member-clause-err
returns-in_err-add_member-clause-err c =
    let p = err_from_is_err_and c.from_residual.result c.from_residual.ensures.1 in
    rw (p.1, p.2) (full-at (member_part c.args.frame.now c.args.class) c.args.limit c.args.meanings.now.items c.loop-member.meanings.items c.args.members.now
    c.loop-member.member-index _ _
    (slice_get-get_or c.args.members.now c.loop-member.member-index 0 (omega arith)) c.loop-member.invariant c.in_err-add_member.ensures.err)
