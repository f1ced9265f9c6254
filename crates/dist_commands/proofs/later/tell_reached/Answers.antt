use Rattle.std.proofs.Common.{inr}
use Rattle.dist_future.specs.Future.{IsFuture}
use Rattle.dist_commands.proofs.LaterLemmas.{misfit-told, misfit-within, ok-both, plan-told, told-future, told-misfit, told-none}
use Rattle.dist_commands.proofs.later.tell_reached.Goals as goal

pub returns-in-Ok : goal.returns-in-Ok
returns-in-Ok c =
    let future = told-future c.in-Ok.plan (IsFuture c.args.space.now.repository c.args.later.now.packages) c.in-Ok.ensures.future in
    ok-both c.tell_plan-answer.result _ _ _ (λ answer done told. plan-told c.args.space.now c.args.later.now answer.status answer.text.items c.in-Ok.plan
    c.requires.same future c.in-Ok.ensures.plan c.in-Ok.ensures.leads c.in-Ok.ensures.taken done told)
    c.tell_plan-answer.ensures.status c.tell_plan-answer.ensures.text

pub package-requires : goal.package-requires
package-requires c =
    misfit-within c.args.space.now.repository c.args.later.now.packages c.in-Err-NotAFuture.number
    (told-misfit c.args.space.now c.args.later.now.packages c.in-Err-NotAFuture.field-0 c.in-Err-NotAFuture.number c.in-Err-NotAFuture.field-0-is
    c.in-Err-NotAFuture.ensures.misfit)

pub returns-in-Err-NotAFuture : goal.returns-in-Err-NotAFuture
returns-in-Err-NotAFuture c =
    let space = c.args.space.now in
    let later = c.args.later.now in
    let number = c.in-Err-NotAFuture.number in
    let misfit = told-misfit space later.packages c.in-Err-NotAFuture.field-0 number c.in-Err-NotAFuture.field-0-is c.in-Err-NotAFuture.ensures.misfit in
    let none = told-none space later.packages c.in-Err-NotAFuture.field-0 number c.in-Err-NotAFuture.field-0-is
    (IsFuture space.repository later.packages) c.in-Err-NotAFuture.ensures.future in
    ok-both c.tell_misfit.result _ _ _ (λ answer not told. misfit-told space later answer.status answer.text.items number c.package.result.now
    (λ both. none both.1)
    (inr (
      c.requires.same,
      misfit,
      λ reached. none ((c.futures_are_reached.ensures.exactly space later.packages c.keeps_invariant.ensures.space).0 reached),
    )) c.package.ensures not told) c.tell_misfit.ensures.status c.tell_misfit.ensures.text
