use Rattle.std.proofs.Common.{subst, length}
use Rattle.dist_base.specs.ListLaws.{contains-at}
use Rattle.dist_archive.specs.FoundPrivate.{IsFound}
use Rattle.dist_archive.specs.declared.fitting.Found.{Found}
use Rattle.dist_archive.proofs.PlanningLemmas.{found-kept, found-later, found-nothing}
use Rattle.dist_archive.proofs.planning.push_part.Goals as goal

pub push_upload-requires-clause-some : goal.push_upload-requires-clause-some
push_upload-requires-clause-some c = λ p of.
    let s = c.args.space.now in
    let later = c.args.later.now.packages in
    found-later s.repository c.keeps_invariant.ensures.space.frame.flat later p (contains-at s.repository.packages of.member p of.is) c.in-New.field-0
    (subst (λ (f : Found). IsFound s.repository later (length later) p f) c.in-New.is (c.requires.found p of))

pub push_missing-requires-clause-none : goal.push_missing-requires-clause-none
push_missing-requires-clause-none c = λ p of.
    let s = c.args.space.now in
    let later = c.args.later.now.packages in
    found-nothing s.repository c.keeps_invariant.ensures.space.frame.flat later p (contains-at s.repository.packages of.member p of.is)
    (subst (λ (f : Found). IsFound s.repository later (length later) p f) c.in-Nothing.is (c.requires.found p of))

pub push_missing-requires-in-Kept-clause-none : goal.push_missing-requires-in-Kept-clause-none
push_missing-requires-in-Kept-clause-none c = λ p of.
    let s = c.args.space.now in
    let later = c.args.later.now.packages in
    found-kept s.repository c.keeps_invariant.ensures.space.frame.flat later p (contains-at s.repository.packages of.member p of.is) c.requires.fits
    (subst (λ (f : Found). IsFound s.repository later (length later) p f) c.in-Kept.is (c.requires.found p of))
