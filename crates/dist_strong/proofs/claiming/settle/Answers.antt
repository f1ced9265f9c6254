use Rattle.std.proofs.Common.{◌≡◌, ◌∙◌, ◌^◌, ◌<◌, [], ◌∷◌, List, Result, IfErr, arith, refl, subst, sym}
use Rattle.std.proofs.lemmas.Result.{IfErr-weaker, IfOk-weaker}
use Rattle.dist_outside.specs.DeskView.{DeskView}
use Rattle.dist_outside.specs.declared.trouble.WorkError.{WorkError}
use Rattle.dist_outside.specs.declared.trouble.WorkError.TheVariants.{NoMemory}
use Rattle.dist_cert.specs.declared.records.Claim.{Claim}
use Rattle.dist_cert.specs.ClaimRules.{yes}
use Rattle.dist_cert.specs.Form.{Word}
use Rattle.dist_line_write.specs.Asking.{AskerView, IsOver}
use Rattle.dist_line_write.specs.ScriptLaws.{by-exit, two-grow}
use Rattle.dist_sweep.specs.Asking.{Holds}
use Rattle.dist_strong.specs.ClaimingPrivate.{StrongClaims, StrongMore, StrongStops}
use Rattle.dist_strong.specs.SettlingPrivate.{SettleStops}
use Rattle.dist_sweep.specs.Window.{WindowView}
use Rattle.dist_sweep.specs.declared.asking.Reply.{Reply}
use Rattle.dist_sweep.specs.declared.asking.Reply.TheVariants as replies
use Rattle.dist_strong.proofs.Claimed.{alone-over, claim-ask-stops, claim-memory, claimed-found, claimed-uninstallable, claimed-unknown, group-memory}
use Rattle.dist_strong.proofs.Claimed.{group-stops, new-fits, uninstallable-stops, unknown-stops}
use Rattle.dist_strong.proofs.claiming.settle.Goals as goal

-- what is told of an installation with the package
held : (n : _) (a : AskerView) (w : WindowView) (words question : List Word) (reply told : Reply) → a.log.variables ≡ w.variables → words ≡ question
    → reply ≡ told → n ≡ a.log.variables → Holds n words reply → Holds w.variables question told
held n a w words question reply told same are is size holds =
    subst (λ m. Holds m question told) (size ∙ same) (subst (λ (r : Reply). Holds n question r) is (subst (λ (ws : List Word). Holds n ws reply) are holds))

pub ask-requires-clause-question : goal.ask-requires-clause-question
ask-requires-clause-question g c =
    subst (λ (ws : List Word). IsOver c.args.asker.now.log.variables ws) (sym (c.deref.ensures.value ∙ c.in_ok-question.ensures))
    (alone-over c.args.asker.now.log.variables c.args.package c.requires.suits.from_one (omega (arith, c.requires.suits.upto, c.requires.suits.variables)))

pub returns-in_err-question-clause-err : goal.returns-in_err-question-clause-err
returns-in_err-question-clause-err g c =
    let old : DeskView = g.D.Desk.view c.args.desk.now in
    by-exit (λ (r : Result Claim WorkError). IfErr r (StrongStops c.args.package old old c.args.asker.now c.args.window.now)) c.from_residual.result NoMemory
    c.from_residual.ensures.1
    (claim-memory c.file_grows.ensures.begin c.args.package old c.args.asker.now c.args.window.now)

pub returns-in_err-values-clause-err : goal.returns-in_err-values-clause-err
returns-in_err-values-clause-err g c =
    let old : DeskView = g.D.Desk.view c.args.desk.now in
    let new : DeskView = g.D.Desk.view c.ask.new.desk in
    by-exit (λ (r : Result Claim WorkError). IfErr r (StrongStops c.args.package old new c.args.asker.now c.args.window.now))
    c.from_residual-in_err-values.result c.in_err-values.field-0.0 c.from_residual-in_err-values.ensures.1
    (claim-ask-stops c.args.package old new c.args.asker.now c.args.window.now
    c.deref.result.now c.in_err-values.field-0.0 (c.deref.ensures.value ∙ c.in_ok-question.ensures) c.requires.suits c.in_err-values.ensures.err)

pub returns-in_err-group-in-Found-clause-err : goal.returns-in_err-group-in-Found-clause-err
returns-in_err-group-in-Found-clause-err g c =
    let old : DeskView = g.D.Desk.view c.args.desk.now in
    let new : DeskView = g.D.Desk.view c.ask.new.desk in
    by-exit (λ (r : Result Claim WorkError). IfErr r (StrongStops c.args.package old new c.args.asker.now c.args.window.now))
    c.from_residual-in_err-group-in-Found.result NoMemory c.from_residual-in_err-group-in-Found.ensures.1
    (group-memory c.file_grows.ensures.begin c.file_grows.ensures.twice old new c.args.asker.now c.ask.new.asker c.args.window.now c.args.package
    c.deref.result.now c.in_ok-values.field-0 (c.deref.ensures.value ∙ c.in_ok-question.ensures) c.in_ok-values.ensures.ok c.requires.suits)

pub first_group-requires : goal.first_group-requires
first_group-requires g c =
    (held c.args.asker.now.log.variables c.args.asker.now c.args.window.now c.deref.result.now (yes c.args.package ∷ []) c.in_ok-values.field-0
    (replies.Found c.in-Found.values)
    c.requires.suits.variables (c.deref.ensures.value ∙ c.in_ok-question.ensures) c.in-Found.is refl c.in_ok-values.ensures.holds).0

pub claim_group-requires-clause-fits : goal.claim_group-requires-clause-fits
claim_group-requires-clause-fits g c =
    new-fits c.args.asker.now c.ask.new.asker c.args.window.now c.first_group.new.window c.in_ok-group-in-Found.group c.args.package c.in-Found.values
    c.requires.suits c.ask.ensures.limit c.ask.ensures.variables
    (held c.args.asker.now.log.variables c.args.asker.now c.args.window.now c.deref.result.now (yes c.args.package ∷ []) c.in_ok-values.field-0
    (replies.Found c.in-Found.values)
    c.requires.suits.variables (c.deref.ensures.value ∙ c.in_ok-question.ensures) c.in-Found.is refl c.in_ok-values.ensures.holds)
    c.in_ok-group-in-Found.ensures.group c.in_ok-group-in-Found.ensures.window

pub returns-in-Found-clause-ok : goal.returns-in-Found-clause-ok
returns-in-Found-clause-ok g c =
    let old : DeskView = g.D.Desk.view c.args.desk.now in
    let mid : DeskView = g.D.Desk.view c.ask.new.desk in
    let new : DeskView = g.D.Desk.view c.claim_group.new.desk in
    let holds = held c.args.asker.now.log.variables c.args.asker.now c.args.window.now c.deref.result.now (yes c.args.package ∷ []) c.in_ok-values.field-0
    (replies.Found c.in-Found.values)
    c.requires.suits.variables (c.deref.ensures.value ∙ c.in_ok-question.ensures) c.in-Found.is refl c.in_ok-values.ensures.holds in
    IfOk-weaker c.claim_group.result (StrongMore mid new c.ask.new.asker c.claim_group.new.asker c.first_group.new.window c.claim_group.new.window
    c.in_ok-group-in-Found.group)
    (StrongClaims c.args.package old new c.args.asker.now c.claim_group.new.asker c.args.window.now c.claim_group.new.window)
    (λ claim more. claimed-found c.file_grows.ensures.twice old mid new c.args.asker.now c.ask.new.asker c.claim_group.new.asker c.args.window.now
    c.first_group.new.window c.claim_group.new.window
    c.in_ok-group-in-Found.group c.args.package c.in-Found.values
    c.deref.result.now c.in_ok-values.field-0 claim (c.deref.ensures.value ∙ c.in_ok-question.ensures)
    c.in-Found.is c.in_ok-values.ensures.ok c.requires.suits holds c.in_ok-group-in-Found.ensures.group c.in_ok-group-in-Found.ensures.window more)
    c.claim_group.ensures.ok

pub returns-in-Found-clause-err : goal.returns-in-Found-clause-err
returns-in-Found-clause-err g c =
    let old : DeskView = g.D.Desk.view c.args.desk.now in
    let mid : DeskView = g.D.Desk.view c.ask.new.desk in
    let new : DeskView = g.D.Desk.view c.claim_group.new.desk in
    let holds = held c.args.asker.now.log.variables c.args.asker.now c.args.window.now c.deref.result.now (yes c.args.package ∷ []) c.in_ok-values.field-0
    (replies.Found c.in-Found.values)
    c.requires.suits.variables (c.deref.ensures.value ∙ c.in_ok-question.ensures) c.in-Found.is refl c.in_ok-values.ensures.holds in
    IfErr-weaker c.claim_group.result (SettleStops mid new c.ask.new.asker c.first_group.new.window c.in_ok-group-in-Found.group)
    (StrongStops c.args.package old new c.args.asker.now c.args.window.now)
    (λ error stops. group-stops c.file_grows.ensures.twice old mid new c.args.asker.now c.ask.new.asker c.args.window.now c.first_group.new.window
    c.in_ok-group-in-Found.group c.args.package c.in-Found.values
    c.deref.result.now c.in_ok-values.field-0 error (c.deref.ensures.value ∙ c.in_ok-question.ensures)
    c.in-Found.is c.in_ok-values.ensures.ok c.requires.suits holds c.in_ok-group-in-Found.ensures.group c.in_ok-group-in-Found.ensures.window stops)
    c.claim_group.ensures.err

pub returns-in-Found-clause-grows : goal.returns-in-Found-clause-grows
returns-in-Found-clause-grows g c =
    two-grow c.file_grows.ensures.twice c.ask.ensures.grows.0 c.claim_group.ensures.grows.0 (g.D.Desk.view c.args.desk.now) (g.D.Desk.view c.ask.new.desk)
    (g.D.Desk.view c.claim_group.new.desk)
    c.ask.ensures.grows.1 c.claim_group.ensures.grows.1

pub returns-in_err-put-in-Refuted-clause-err : goal.returns-in_err-put-in-Refuted-clause-err
returns-in_err-put-in-Refuted-clause-err g c =
    let old : DeskView = g.D.Desk.view c.args.desk.now in
    let mid : DeskView = g.D.Desk.view c.ask.new.desk in
    let new : DeskView = g.D.Desk.view c.put.new.desk in
    let fits : c.args.asker.now.log.variables < 2 ^ 32 = omega (arith, c.keeps_invariant.ensures) in
    by-exit (λ (r : Result Claim WorkError). IfErr r (StrongStops c.args.package old new c.args.asker.now c.args.window.now))
    c.from_residual-in_err-put-in-Refuted.result c.in_err-put-in-Refuted.field-0.0 c.from_residual-in_err-put-in-Refuted.ensures.1
    (uninstallable-stops c.file_grows.ensures.twice old mid new c.args.asker.now c.ask.new.asker c.args.window.now c.args.package
    c.deref.result.now c.in_ok-values.field-0 c.in_err-put-in-Refuted.field-0.0 fits (c.deref.ensures.value ∙ c.in_ok-question.ensures) c.in-Refuted.is
    c.in_ok-values.ensures.ok c.requires.suits c.in_err-put-in-Refuted.ensures.err)

pub returns-in_err-put-in-Refuted-clause-grows : goal.returns-in_err-put-in-Refuted-clause-grows
returns-in_err-put-in-Refuted-clause-grows g c =
    two-grow c.file_grows.ensures.twice c.ask.ensures.grows.0 c.put.ensures.grows.0 (g.D.Desk.view c.args.desk.now) (g.D.Desk.view c.ask.new.desk)
    (g.D.Desk.view c.put.new.desk)
    c.ask.ensures.grows.1 c.put.ensures.grows.1

pub returns-in-Refuted-clause-ok : goal.returns-in-Refuted-clause-ok
returns-in-Refuted-clause-ok g c =
    let old : DeskView = g.D.Desk.view c.args.desk.now in
    let mid : DeskView = g.D.Desk.view c.ask.new.desk in
    let new : DeskView = g.D.Desk.view c.put.new.desk in
    let fits : c.args.asker.now.log.variables < 2 ^ 32 = omega (arith, c.keeps_invariant.ensures) in
    claimed-uninstallable c.file_grows.ensures.twice old mid new c.args.asker.now c.ask.new.asker c.put.new.self c.args.window.now c.args.package
    c.deref.result.now c.in_ok-values.field-0 fits (c.deref.ensures.value ∙ c.in_ok-question.ensures) c.in-Refuted.is
    c.in_ok-values.ensures.ok c.requires.suits c.put.ensures.rest c.in_ok-put-in-Refuted.ensures.grew c.in_ok-put-in-Refuted.ensures.ok

pub returns-in-Refuted-clause-grows : goal.returns-in-Refuted-clause-grows
returns-in-Refuted-clause-grows g c =
    two-grow c.file_grows.ensures.twice c.ask.ensures.grows.0 c.put.ensures.grows.0 (g.D.Desk.view c.args.desk.now) (g.D.Desk.view c.ask.new.desk)
    (g.D.Desk.view c.put.new.desk)
    c.ask.ensures.grows.1 c.put.ensures.grows.1

pub returns-in_err-put-in-Undecided-clause-err : goal.returns-in_err-put-in-Undecided-clause-err
returns-in_err-put-in-Undecided-clause-err g c =
    let old : DeskView = g.D.Desk.view c.args.desk.now in
    let mid : DeskView = g.D.Desk.view c.ask.new.desk in
    let new : DeskView = g.D.Desk.view c.put-in-Undecided.new.desk in
    let fits : c.args.asker.now.log.variables < 2 ^ 32 = omega (arith, c.keeps_invariant.ensures) in
    by-exit (λ (r : Result Claim WorkError). IfErr r (StrongStops c.args.package old new c.args.asker.now c.args.window.now))
    c.from_residual-in_err-put-in-Undecided.result c.in_err-put-in-Undecided.field-0.0 c.from_residual-in_err-put-in-Undecided.ensures.1
    (unknown-stops c.file_grows.ensures.twice old mid new c.args.asker.now c.ask.new.asker c.args.window.now c.args.package
    c.deref.result.now c.in_ok-values.field-0 c.in_err-put-in-Undecided.field-0.0 fits (c.deref.ensures.value ∙ c.in_ok-question.ensures) c.in-Undecided.is
    c.in_ok-values.ensures.ok c.requires.suits c.in_err-put-in-Undecided.ensures.err)

pub returns-in_err-put-in-Undecided-clause-grows : goal.returns-in_err-put-in-Undecided-clause-grows
returns-in_err-put-in-Undecided-clause-grows g c =
    two-grow c.file_grows.ensures.twice c.ask.ensures.grows.0 c.put-in-Undecided.ensures.grows.0 (g.D.Desk.view c.args.desk.now) (g.D.Desk.view c.ask.new.desk)
    (g.D.Desk.view c.put-in-Undecided.new.desk)
    c.ask.ensures.grows.1 c.put-in-Undecided.ensures.grows.1

pub returns-clause-ok : goal.returns-clause-ok
returns-clause-ok g c =
    let old : DeskView = g.D.Desk.view c.args.desk.now in
    let mid : DeskView = g.D.Desk.view c.ask.new.desk in
    let new : DeskView = g.D.Desk.view c.put-in-Undecided.new.desk in
    let fits : c.args.asker.now.log.variables < 2 ^ 32 = omega (arith, c.keeps_invariant.ensures) in
    claimed-unknown c.file_grows.ensures.twice old mid new c.args.asker.now c.ask.new.asker c.put-in-Undecided.new.self c.args.window.now c.args.package
    c.deref.result.now c.in_ok-values.field-0 fits (c.deref.ensures.value ∙ c.in_ok-question.ensures) c.in-Undecided.is
    c.in_ok-values.ensures.ok c.requires.suits c.put-in-Undecided.ensures.rest c.in_ok-put-in-Undecided.ensures.grew c.in_ok-put-in-Undecided.ensures.ok

pub returns-clause-grows : goal.returns-clause-grows
returns-clause-grows g c =
    two-grow c.file_grows.ensures.twice c.ask.ensures.grows.0 c.put-in-Undecided.ensures.grows.0 (g.D.Desk.view c.args.desk.now) (g.D.Desk.view c.ask.new.desk)
    (g.D.Desk.view c.put-in-Undecided.new.desk)
    c.ask.ensures.grows.1 c.put-in-Undecided.ensures.grows.1
