use Rattle.std.proofs.Common.{◌∙◌, ◌≤◌, ℕ, Result, IfErr, ap, length, refl, subst, sym}
use Rattle.std.proofs.lemmas.Result.{IfErr-weaker, IfOk-weaker}
use Rattle.dist_outside.specs.DeskView.{DeskView}
use Rattle.dist_outside.specs.declared.trouble.WorkError.{WorkError}
use Rattle.dist_outside.specs.declared.trouble.WorkError.TheVariants.{NoMemory}
use Rattle.dist_cert.specs.declared.records.CertRecord.TheVariants.{NotInstallable, Unknown}
use Rattle.dist_cert.specs.declared.records.Claim.{Claim}
use Rattle.dist_cert.specs.declared.records.Claim.TheVariants as claims
use Rattle.dist_space.specs.Space.{SpaceView}
use Rattle.dist_line_write.specs.Asking.{AskerView, IsOver}
use Rattle.dist_line_write.specs.ScriptLaws.{by-exit, two-grow}
use Rattle.dist_sweep.specs.ClaimLinesLaws.{uninstallable-kind, unknown-kind}
use Rattle.dist_sweep.specs.Window.{WindowView}
use Rattle.dist_sweep.specs.declared.asking.Reply.TheVariants as replies
use Rattle.dist_challenge.specs.BegunPrivate.{BegunMore, BegunStops}
use Rattle.dist_covering.specs.Covering.{CoveringView, IsAdded}
use Rattle.dist_challenge.specs.GroupPrivate.{ChallengeMore, ChallengeStops}
use Rattle.dist_covering.specs.Group.{GroupView}
use Rattle.dist_sweep.specs.AskedLaws.{ask-stops, ask-told, asked-memory, claim-behind, PutsBehind, stops-behind}
use Rattle.dist_challenge.proofs.ChallengedSteps.{Begun, found-claimed, found-fits, found-stops, KeptBy, present-upto}
use Rattle.dist_challenge.proofs.ChallengedSteps.{today-over, today-question, today-ready, uninstallable-puts, unknown-puts}
use Rattle.dist_challenge.proofs.SettleSteps.{held}
use Rattle.dist_challenge.proofs.challenged_claimant.ChallengedClaimant.claim_by_today.Goals as goal

pub ask_today-requires-clause-question : goal.ask_today-requires-clause-question
ask_today-requires-clause-question g c =
    subst (λ (v : ℕ). IsOver c.args.asker.now.log.variables (today-question v)) (sym c.present.ensures)
    (today-over c.args.asker.now c.args.window.now c.args.self.now.covering c.args.group.now c.keeps_invariant.ensures.space c.requires.fits)

pub returns-in_err-values-clause-err : goal.returns-in_err-values-clause-err
returns-in_err-values-clause-err g c =
    let old : DeskView = g.D.Desk.view c.args.desk.now in
    let a : AskerView = c.args.asker.now in
    let w : WindowView = c.args.window.now in
    let self : CoveringView = c.args.self.now.covering in
    let was : GroupView = c.args.group.now in
    let n : ℕ = c.args.earlier in
    let mid : DeskView = g.D.Desk.view c.ask_today.new.desk in
    let words = ap today-question c.present.ensures in
    by-exit (λ (r : Result Claim WorkError). IfErr r (BegunStops old mid a w self was n))
    c.from_residual.result c.in_err-values.field-0.0 c.from_residual.ensures.1
    (ask-stops (Begun a w self was n) old mid a (today-question was.present) (today-question c.present.result) c.in_err-values.field-0.0 (today-ready a w self
    was n)
    words c.in_err-values.ensures.err)

pub returns-in_err-add-in-Found-clause-err : goal.returns-in_err-add-in-Found-clause-err
returns-in_err-add-in-Found-clause-err g c =
    let old : DeskView = g.D.Desk.view c.args.desk.now in
    let a : AskerView = c.args.asker.now in
    let w : WindowView = c.args.window.now in
    let self : CoveringView = c.args.self.now.covering in
    let was : GroupView = c.args.group.now in
    let n : ℕ = c.args.earlier in
    let mid : DeskView = g.D.Desk.view c.ask_today.new.desk in
    let words = ap today-question c.present.ensures in
    by-exit (λ (r : Result Claim WorkError). IfErr r (BegunStops old mid a w self was n))
    c.from_residual-in_err-add-in-Found.result NoMemory c.from_residual-in_err-add-in-Found.ensures.1
    (asked-memory (Begun a w self was n) old mid c.ask_today.new.asker (today-question was.present) (replies.Found c.in-Found.values)
    c.file_grows.ensures.begin c.file_grows.ensures.twice
    (ask-told (Begun a w self was n) old mid a c.ask_today.new.asker (today-question was.present) (today-question c.present.result)
    c.in_ok-values.field-0 (replies.Found c.in-Found.values) (today-ready a w self was n) words c.in-Found.is c.in_ok-values.ensures.ok))

pub returns-in_err-plan_found-in-Found-clause-err : goal.returns-in_err-plan_found-in-Found-clause-err
returns-in_err-plan_found-in-Found-clause-err g c =
    let old : DeskView = g.D.Desk.view c.args.desk.now in
    let a : AskerView = c.args.asker.now in
    let w : WindowView = c.args.window.now in
    let self : CoveringView = c.args.self.now.covering in
    let was : GroupView = c.args.group.now in
    let n : ℕ = c.args.earlier in
    let mid : DeskView = g.D.Desk.view c.ask_today.new.desk in
    let words = ap today-question c.present.ensures in
    by-exit (λ (r : Result Claim WorkError). IfErr r (BegunStops old mid a w self was n))
    c.from_residual-in_err-plan_found-in-Found.result NoMemory c.from_residual-in_err-plan_found-in-Found.ensures.1
    (asked-memory (Begun a w self was n) old mid c.ask_today.new.asker (today-question was.present) (replies.Found c.in-Found.values)
    c.file_grows.ensures.begin c.file_grows.ensures.twice
    (ask-told (Begun a w self was n) old mid a c.ask_today.new.asker (today-question was.present) (today-question c.present.result)
    c.in_ok-values.field-0 (replies.Found c.in-Found.values) (today-ready a w self was n) words c.in-Found.is c.in_ok-values.ensures.ok))

pub add-requires-clause-values : goal.add-requires-clause-values
add-requires-clause-values g c =
    let old : DeskView = g.D.Desk.view c.args.desk.now in
    let a : AskerView = c.args.asker.now in
    let w : WindowView = c.args.window.now in
    let self : CoveringView = c.args.self.now.covering in
    let was : GroupView = c.args.group.now in
    let n : ℕ = c.args.earlier in
    let mid : DeskView = g.D.Desk.view c.ask_today.new.desk in
    let words = ap today-question c.present.ensures in
    let holds = held a.log.variables (today-question was.present) (today-question c.present.result) c.in_ok-values.field-0 (replies.Found c.in-Found.values)
    words
    c.in-Found.is c.in_ok-values.ensures.holds in
    holds.0 ∙ c.requires.fits.variables ∙ sym (ap (λ (v : CoveringView). length v.space.meanings) c.ask_today.ensures.same)

pub add-requires-clause-variables : goal.add-requires-clause-variables
add-requires-clause-variables g c =
    let old : DeskView = g.D.Desk.view c.args.desk.now in
    let a : AskerView = c.args.asker.now in
    let w : WindowView = c.args.window.now in
    let self : CoveringView = c.args.self.now.covering in
    let was : GroupView = c.args.group.now in
    let n : ℕ = c.args.earlier in
    let mid : DeskView = g.D.Desk.view c.ask_today.new.desk in
    let words = ap today-question c.present.ensures in
    let holds = held a.log.variables (today-question was.present) (today-question c.present.result) c.in_ok-values.field-0 (replies.Found c.in-Found.values)
    words
    c.in-Found.is c.in_ok-values.ensures.holds in
    holds.0 ∙ c.requires.fits.variables ∙ sym c.requires.fits.window

pub plan_found-requires-clause-upto : goal.plan_found-requires-clause-upto
plan_found-requires-clause-upto g c =
    subst (λ (s : SpaceView). c.args.group.now.present ≤ length s.meanings)
    (sym (c.in_ok-add-in-Found.ensures.space ∙ ap (λ (v : CoveringView). v.space) c.ask_today.ensures.same))
    (present-upto c.args.asker.now c.args.window.now c.args.self.now.covering c.args.group.now c.keeps_invariant.ensures.space c.requires.fits)

pub claim_group-requires-clause-fits : goal.claim_group-requires-clause-fits
claim_group-requires-clause-fits g c =
    let old : DeskView = g.D.Desk.view c.args.desk.now in
    let a : AskerView = c.args.asker.now in
    let w : WindowView = c.args.window.now in
    let self : CoveringView = c.args.self.now.covering in
    let was : GroupView = c.args.group.now in
    let n : ℕ = c.args.earlier in
    let mid : DeskView = g.D.Desk.view c.ask_today.new.desk in
    let words = ap today-question c.present.ensures in
    let holds = held a.log.variables (today-question was.present) (today-question c.present.result) c.in_ok-values.field-0 (replies.Found c.in-Found.values)
    words
    c.in-Found.is c.in_ok-values.ensures.holds in
    found-fits c.pairs_are_of_the_space.ensures.covered a c.ask_today.new.asker w c.add.new.window self c.add.new.self was c.plan_found.new.group n
    c.in-Found.values c.keeps_invariant.ensures.space c.requires.fits c.requires.own.1 c.requires.own.0 c.requires.kept holds
    (subst (λ (v : CoveringView). IsAdded v c.add.new.self w c.add.new.window c.in-Found.values) c.ask_today.ensures.same
    c.in_ok-add-in-Found.ensures.added) c.in_ok-plan_found-in-Found.ensures c.ask_today.ensures.limit c.ask_today.ensures.variables

pub returns-in_ok-plan_found-in-Found-clause-ok : goal.returns-in_ok-plan_found-in-Found-clause-ok
returns-in_ok-plan_found-in-Found-clause-ok g c =
    let old : DeskView = g.D.Desk.view c.args.desk.now in
    let a : AskerView = c.args.asker.now in
    let w : WindowView = c.args.window.now in
    let self : CoveringView = c.args.self.now.covering in
    let was : GroupView = c.args.group.now in
    let n : ℕ = c.args.earlier in
    let mid : DeskView = g.D.Desk.view c.ask_today.new.desk in
    let words = ap today-question c.present.ensures in
    let holds = held a.log.variables (today-question was.present) (today-question c.present.result) c.in_ok-values.field-0 (replies.Found c.in-Found.values)
    words
    c.in-Found.is c.in_ok-values.ensures.holds in
    let new : DeskView = g.D.Desk.view c.claim_group.new.desk in
    IfOk-weaker c.claim_group.result (ChallengeMore mid new c.ask_today.new.asker c.claim_group.new.asker c.add.new.window c.claim_group.new.window
    c.add.new.self c.claim_group.new.self.covering c.plan_found.new.group)
    (BegunMore old new a c.claim_group.new.asker w c.claim_group.new.window self c.claim_group.new.self.covering was n)
    (λ claim more. found-claimed c.pairs_are_of_the_space.ensures.covered a c.ask_today.new.asker w c.add.new.window self c.add.new.self was
    c.plan_found.new.group n
    c.in-Found.values c.keeps_invariant.ensures.space c.requires.fits c.requires.own.1 c.requires.own.0 c.requires.kept holds
    (subst (λ (v : CoveringView). IsAdded v c.add.new.self w c.add.new.window c.in-Found.values) c.ask_today.ensures.same
    c.in_ok-add-in-Found.ensures.added) c.in_ok-plan_found-in-Found.ensures old mid new c.claim_group.new.asker c.claim_group.new.window
    c.claim_group.new.self.covering
    claim
    c.file_grows.ensures.twice
    (ask-told (Begun a w self was n) old mid a c.ask_today.new.asker (today-question was.present) (today-question c.present.result)
    c.in_ok-values.field-0 (replies.Found c.in-Found.values) (today-ready a w self was n) words c.in-Found.is c.in_ok-values.ensures.ok) more)
    c.claim_group.ensures.ok

pub returns-in_ok-plan_found-in-Found-clause-err : goal.returns-in_ok-plan_found-in-Found-clause-err
returns-in_ok-plan_found-in-Found-clause-err g c =
    let old : DeskView = g.D.Desk.view c.args.desk.now in
    let a : AskerView = c.args.asker.now in
    let w : WindowView = c.args.window.now in
    let self : CoveringView = c.args.self.now.covering in
    let was : GroupView = c.args.group.now in
    let n : ℕ = c.args.earlier in
    let mid : DeskView = g.D.Desk.view c.ask_today.new.desk in
    let words = ap today-question c.present.ensures in
    let holds = held a.log.variables (today-question was.present) (today-question c.present.result) c.in_ok-values.field-0 (replies.Found c.in-Found.values)
    words
    c.in-Found.is c.in_ok-values.ensures.holds in
    let new : DeskView = g.D.Desk.view c.claim_group.new.desk in
    IfErr-weaker c.claim_group.result (ChallengeStops mid new c.ask_today.new.asker c.add.new.window c.add.new.self c.plan_found.new.group)
    (BegunStops old new a w self was n)
    (λ error stops. found-stops c.pairs_are_of_the_space.ensures.covered a c.ask_today.new.asker w c.add.new.window self c.add.new.self was
    c.plan_found.new.group n
    c.in-Found.values c.keeps_invariant.ensures.space c.requires.fits c.requires.own.1 c.requires.own.0 c.requires.kept holds
    (subst (λ (v : CoveringView). IsAdded v c.add.new.self w c.add.new.window c.in-Found.values) c.ask_today.ensures.same
    c.in_ok-add-in-Found.ensures.added) c.in_ok-plan_found-in-Found.ensures old mid new error c.file_grows.ensures.twice
    (ask-told (Begun a w self was n) old mid a c.ask_today.new.asker (today-question was.present) (today-question c.present.result)
    c.in_ok-values.field-0 (replies.Found c.in-Found.values) (today-ready a w self was n) words c.in-Found.is c.in_ok-values.ensures.ok) stops)
    c.claim_group.ensures.err

pub returns-in_ok-plan_found-in-Found-clause-grows : goal.returns-in_ok-plan_found-in-Found-clause-grows
returns-in_ok-plan_found-in-Found-clause-grows g c =
    two-grow c.file_grows.ensures.twice c.ask_today.ensures.grows.0 c.claim_group.ensures.grows.0 (g.D.Desk.view c.args.desk.now)
    (g.D.Desk.view c.ask_today.new.desk) (g.D.Desk.view c.claim_group.new.desk) c.ask_today.ensures.grows.1 c.claim_group.ensures.grows.1

pub returns-in_err-put-in-Refuted-clause-err : goal.returns-in_err-put-in-Refuted-clause-err
returns-in_err-put-in-Refuted-clause-err g c =
    let old : DeskView = g.D.Desk.view c.args.desk.now in
    let a : AskerView = c.args.asker.now in
    let w : WindowView = c.args.window.now in
    let self : CoveringView = c.args.self.now.covering in
    let was : GroupView = c.args.group.now in
    let n : ℕ = c.args.earlier in
    let mid : DeskView = g.D.Desk.view c.ask_today.new.desk in
    let words = ap today-question c.present.ensures in
    let new : DeskView = g.D.Desk.view c.put.new.desk in
    by-exit (λ (r : Result Claim WorkError). IfErr r (BegunStops old new a w self was n))
    c.from_residual-in_err-put-in-Refuted.result c.in_err-put-in-Refuted.field-0.0 c.from_residual-in_err-put-in-Refuted.ensures.1
    (stops-behind (Begun a w self was n) (KeptBy self) old mid new c.ask_today.new.asker w (today-question was.present) replies.Refuted
    (NotInstallable c.claimed-package.result) c.in_err-put-in-Refuted.field-0.0 c.file_grows.ensures.twice
    (ask-told (Begun a w self was n) old mid a c.ask_today.new.asker (today-question was.present) (today-question c.present.result)
    c.in_ok-values.field-0 replies.Refuted (today-ready a w self was n) words c.in-Refuted.is c.in_ok-values.ensures.ok)
    (subst (λ (p : ℕ). PutsBehind (Begun a w self was n) (today-question was.present) old mid c.ask_today.new.asker replies.Refuted w (KeptBy self)
    (NotInstallable p))
    (sym c.claimed-package.ensures) (uninstallable-puts old mid a c.ask_today.new.asker w self was n c.keeps_invariant.ensures.packages))
    c.in_err-put-in-Refuted.ensures.err)

pub returns-in_err-put-in-Refuted-clause-grows : goal.returns-in_err-put-in-Refuted-clause-grows
returns-in_err-put-in-Refuted-clause-grows g c =
    two-grow c.file_grows.ensures.twice c.ask_today.ensures.grows.0 c.put.ensures.grows.0 (g.D.Desk.view c.args.desk.now)
    (g.D.Desk.view c.ask_today.new.desk) (g.D.Desk.view c.put.new.desk) c.ask_today.ensures.grows.1 c.put.ensures.grows.1

pub returns-in_ok-put-in-Refuted-clause-ok : goal.returns-in_ok-put-in-Refuted-clause-ok
returns-in_ok-put-in-Refuted-clause-ok g c =
    let old : DeskView = g.D.Desk.view c.args.desk.now in
    let a : AskerView = c.args.asker.now in
    let w : WindowView = c.args.window.now in
    let self : CoveringView = c.args.self.now.covering in
    let was : GroupView = c.args.group.now in
    let n : ℕ = c.args.earlier in
    let mid : DeskView = g.D.Desk.view c.ask_today.new.desk in
    let words = ap today-question c.present.ensures in
    let new : DeskView = g.D.Desk.view c.put.new.desk in
    subst (λ (x : CoveringView). BegunMore old new a c.put.new.self w w self x was n claims.Uninstallable) (sym c.ask_today.ensures.same)
    (λ s before begun. claim-behind (Begun a w self was n) (KeptBy self) old mid new c.ask_today.new.asker c.put.new.self w
    (today-question was.present) replies.Refuted (NotInstallable c.claimed-package.result) claims.Uninstallable c.file_grows.ensures.twice
    (ask-told (Begun a w self was n) old mid a c.ask_today.new.asker (today-question was.present) (today-question c.present.result)
    c.in_ok-values.field-0 replies.Refuted (today-ready a w self was n) words c.in-Refuted.is c.in_ok-values.ensures.ok)
    (subst (λ (p : ℕ). PutsBehind (Begun a w self was n) (today-question was.present) old mid c.ask_today.new.asker replies.Refuted w (KeptBy self)
    (NotInstallable p))
    (sym c.claimed-package.ensures) (uninstallable-puts old mid a c.ask_today.new.asker w self was n c.keeps_invariant.ensures.packages))
    (uninstallable-kind c.claimed-package.result) refl c.put.ensures.rest c.in_ok-put-in-Refuted.ensures.grew c.in_ok-put-in-Refuted.ensures.ok s before begun)

pub returns-in_ok-put-in-Refuted-clause-grows : goal.returns-in_ok-put-in-Refuted-clause-grows
returns-in_ok-put-in-Refuted-clause-grows g c =
    two-grow c.file_grows.ensures.twice c.ask_today.ensures.grows.0 c.put.ensures.grows.0 (g.D.Desk.view c.args.desk.now)
    (g.D.Desk.view c.ask_today.new.desk) (g.D.Desk.view c.put.new.desk) c.ask_today.ensures.grows.1 c.put.ensures.grows.1

pub returns-in_err-put-in-Undecided-clause-err : goal.returns-in_err-put-in-Undecided-clause-err
returns-in_err-put-in-Undecided-clause-err g c =
    let old : DeskView = g.D.Desk.view c.args.desk.now in
    let a : AskerView = c.args.asker.now in
    let w : WindowView = c.args.window.now in
    let self : CoveringView = c.args.self.now.covering in
    let was : GroupView = c.args.group.now in
    let n : ℕ = c.args.earlier in
    let mid : DeskView = g.D.Desk.view c.ask_today.new.desk in
    let words = ap today-question c.present.ensures in
    let new : DeskView = g.D.Desk.view c.put-in-Undecided.new.desk in
    by-exit (λ (r : Result Claim WorkError). IfErr r (BegunStops old new a w self was n))
    c.from_residual-in_err-put-in-Undecided.result c.in_err-put-in-Undecided.field-0.0 c.from_residual-in_err-put-in-Undecided.ensures.1
    (stops-behind (Begun a w self was n) (KeptBy self) old mid new c.ask_today.new.asker w (today-question was.present) replies.Undecided
    (Unknown c.claimed-package.result) c.in_err-put-in-Undecided.field-0.0 c.file_grows.ensures.twice
    (ask-told (Begun a w self was n) old mid a c.ask_today.new.asker (today-question was.present) (today-question c.present.result)
    c.in_ok-values.field-0 replies.Undecided (today-ready a w self was n) words c.in-Undecided.is c.in_ok-values.ensures.ok)
    (subst (λ (p : ℕ). PutsBehind (Begun a w self was n) (today-question was.present) old mid c.ask_today.new.asker replies.Undecided w (KeptBy self) (Unknown
    p))
    (sym c.claimed-package.ensures) (unknown-puts old mid a c.ask_today.new.asker w self was n c.keeps_invariant.ensures.packages))
    c.in_err-put-in-Undecided.ensures.err)

pub returns-in_err-put-in-Undecided-clause-grows : goal.returns-in_err-put-in-Undecided-clause-grows
returns-in_err-put-in-Undecided-clause-grows g c =
    two-grow c.file_grows.ensures.twice c.ask_today.ensures.grows.0 c.put-in-Undecided.ensures.grows.0 (g.D.Desk.view c.args.desk.now)
    (g.D.Desk.view c.ask_today.new.desk) (g.D.Desk.view c.put-in-Undecided.new.desk) c.ask_today.ensures.grows.1 c.put-in-Undecided.ensures.grows.1

pub returns-in_ok-put-in-Undecided-clause-ok : goal.returns-in_ok-put-in-Undecided-clause-ok
returns-in_ok-put-in-Undecided-clause-ok g c =
    let old : DeskView = g.D.Desk.view c.args.desk.now in
    let a : AskerView = c.args.asker.now in
    let w : WindowView = c.args.window.now in
    let self : CoveringView = c.args.self.now.covering in
    let was : GroupView = c.args.group.now in
    let n : ℕ = c.args.earlier in
    let mid : DeskView = g.D.Desk.view c.ask_today.new.desk in
    let words = ap today-question c.present.ensures in
    let new : DeskView = g.D.Desk.view c.put-in-Undecided.new.desk in
    subst (λ (x : CoveringView). BegunMore old new a c.put-in-Undecided.new.self w w self x was n claims.Unknown) (sym c.ask_today.ensures.same)
    (λ s before begun. claim-behind (Begun a w self was n) (KeptBy self) old mid new c.ask_today.new.asker c.put-in-Undecided.new.self w
    (today-question was.present) replies.Undecided (Unknown c.claimed-package.result) claims.Unknown c.file_grows.ensures.twice
    (ask-told (Begun a w self was n) old mid a c.ask_today.new.asker (today-question was.present) (today-question c.present.result)
    c.in_ok-values.field-0 replies.Undecided (today-ready a w self was n) words c.in-Undecided.is c.in_ok-values.ensures.ok)
    (subst (λ (p : ℕ). PutsBehind (Begun a w self was n) (today-question was.present) old mid c.ask_today.new.asker replies.Undecided w (KeptBy self) (Unknown
    p))
    (sym c.claimed-package.ensures) (unknown-puts old mid a c.ask_today.new.asker w self was n c.keeps_invariant.ensures.packages))
    (unknown-kind c.claimed-package.result) refl c.put-in-Undecided.ensures.rest c.in_ok-put-in-Undecided.ensures.grew c.in_ok-put-in-Undecided.ensures.ok s
    before begun)

pub returns-in_ok-put-in-Undecided-clause-grows : goal.returns-in_ok-put-in-Undecided-clause-grows
returns-in_ok-put-in-Undecided-clause-grows g c =
    two-grow c.file_grows.ensures.twice c.ask_today.ensures.grows.0 c.put-in-Undecided.ensures.grows.0 (g.D.Desk.view c.args.desk.now)
    (g.D.Desk.view c.ask_today.new.desk) (g.D.Desk.view c.put-in-Undecided.new.desk) c.ask_today.ensures.grows.1 c.put-in-Undecided.ensures.grows.1
