use Rattle.dist_outside.proofs.SoFar.{SoFar-more}
use Rattle.dist_outside.proofs.whole.read_more.Goals as goal

pub returns-clause-so_far : goal.returns-clause-so_far
returns-clause-so_far g c =
    rw (c.in-Ok.ensures.only_reads.files_stay, c.in_ok-extend_from_slice.ensures.items)
    (SoFar-more _ _ _ _ _ _ _ c.requires.so_far c.in-Ok.ensures.next.count c.in-Ok.ensures.next.next c.in-Ok.ensures.next.moved)
