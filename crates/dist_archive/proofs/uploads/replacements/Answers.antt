use Rattle.dist_archive.proofs.UploadLemmas.{replaced-more}
use Rattle.std.proofs.Common.{arith}
use Rattle.dist_archive.proofs.uploads.replacements.Goals as goal

pub loop-member-preserved : goal.loop-member-preserved
loop-member-preserved c =
    rw c.in_ok-push.ensures.items (replaced-more c.args.space.now.repository.packages c.args.block.now.packages c.args.members.now
    c.loop-member.slots.items c.in_ok-replacement.field-0 c.loop-member.member-index c.package.result.now (omega arith) c.package.ensures.value
    c.in_ok-replacement.ensures c.loop-member.invariant)
