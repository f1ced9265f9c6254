use Rattle.dist_archive.proofs.ReachLemmas.{planned-future, planned-leads, planned-misfit, planned-plan, planned-taken, refused-future, refused-misfit}
use Rattle.dist_archive.proofs.reaching.reach.Goals as goal

pub returns-in-Ok-clause-plan : goal.returns-in-Ok-clause-plan
returns-in-Ok-clause-plan c =
    planned-plan c.args.space.now c.keeps_invariant.ensures.space.frame c.args.later.now.packages c.requires.flat c.in-Ok.ensures.fits
    c.plan_of.result c.plan_of.ensures

pub returns-in-Ok-clause-leads : goal.returns-in-Ok-clause-leads
returns-in-Ok-clause-leads c =
    planned-leads c.args.space.now c.keeps_invariant.ensures.space.frame c.args.later.now.packages c.requires.flat c.in-Ok.ensures.fits
    c.plan_of.result c.plan_of.ensures

pub returns-in-Ok-clause-taken : goal.returns-in-Ok-clause-taken
returns-in-Ok-clause-taken c =
    planned-taken c.args.space.now c.keeps_invariant.ensures.space.frame c.args.later.now.packages c.requires.flat c.in-Ok.ensures.fits
    c.plan_of.result c.plan_of.ensures

pub returns-in-Ok-clause-future : goal.returns-in-Ok-clause-future
returns-in-Ok-clause-future c =
    planned-future c.args.space.now c.keeps_invariant.ensures.space.frame c.args.later.now.packages c.requires.flat c.in-Ok.ensures.fits
    c.plan_of.result c.plan_of.ensures

pub returns-in-Ok-clause-misfit : goal.returns-in-Ok-clause-misfit
returns-in-Ok-clause-misfit c =
    planned-misfit c.args.space.now c.keeps_invariant.ensures.space.frame c.args.later.now.packages c.requires.flat c.in-Ok.ensures.fits
    c.plan_of.result c.plan_of.ensures

pub returns-in-Err-clause-future : goal.returns-in-Err-clause-future
returns-in-Err-clause-future c =
    refused-future c.args.space.now c.keeps_invariant.ensures.space.frame c.args.later.now.packages c.in-Err.error c.in-Err.ensures

pub returns-in-Err-clause-misfit : goal.returns-in-Err-clause-misfit
returns-in-Err-clause-misfit c =
    refused-misfit c.args.space.now c.keeps_invariant.ensures.space.frame c.args.later.now.packages c.in-Err.error c.in-Err.ensures
