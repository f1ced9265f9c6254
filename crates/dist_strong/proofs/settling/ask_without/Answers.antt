use Rattle.std.proofs.Common.{◌-◌, ◌∙◌, Bool, List, ℕ, Result, IfErr, ap, length, length-set, refl, subst, sym, true}
use Rattle.dist_outside.specs.DeskView.{DeskView}
use Rattle.dist_outside.specs.declared.trouble.WorkError.{WorkError}
use Rattle.dist_outside.specs.declared.trouble.WorkError.TheVariants.{NoMemory}
use Rattle.dist_cert.specs.Form.{Word}
use Rattle.dist_line_write.specs.ScriptLaws.{by-exit}
use Rattle.dist_sweep.specs.Asking.{Holds}
use Rattle.dist_strong.specs.Candidates.{AreCandidates}
use Rattle.dist_strong.specs.Group.{GroupView}
use Rattle.dist_strong.specs.SettlingPrivate.{HasSizes, SettleStops, without}
use Rattle.dist_sweep.specs.Window.{WindowView}
use Rattle.dist_sweep.specs.declared.asking.Reply.{Reply}
use Rattle.dist_sweep.specs.declared.asking.Reply.TheVariants as replies
use Rattle.dist_strong.proofs.SettleSteps.{added-some, ask-stops, has-claimed, fits-after, found-further, found-stops, lacks-other, leave-further, memory-stops}
use Rattle.dist_strong.proofs.SettleSteps.{refute-further, settled-found, settled-refuted, settled-undecided}
use Rattle.dist_strong.proofs.CandidateSteps.{struck-refuted, struck-undecided}
use Rattle.dist_strong.proofs.settling.ask_without.Goals as goal

pub returns-in_err-question-clause-err : goal.returns-in_err-question-clause-err
returns-in_err-question-clause-err g c =
    let old : DeskView = g.D.Desk.view c.args.desk.now in
    by-exit (λ (r : Result (Unit {0}) WorkError). IfErr r (SettleStops old old c.args.asker.now c.args.window.now c.args.group.now)) c.from_residual.result
    NoMemory c.from_residual.ensures.1
    (memory-stops c.file_grows.ensures.begin old c.args.asker.now c.args.window.now c.args.group.now)

pub ask-requires-clause-shunned : goal.ask-requires-clause-shunned
ask-requires-clause-shunned g c =
    ap (λ (row : List Bool). length row) c.row.ensures ∙ c.requires.candidates.size ∙ sym c.requires.fits.variables

pub returns-in_err-values-clause-err : goal.returns-in_err-values-clause-err
returns-in_err-values-clause-err g c =
    let old : DeskView = g.D.Desk.view c.args.desk.now in
    let new : DeskView = g.D.Desk.view c.ask.new.desk in
    let words = c.deref.ensures.value ∙ c.in_ok-question.ensures ∙ ap (λ (p : ℕ). without p c.args.other) c.claimed.ensures in
    by-exit (λ (r : Result (Unit {0}) WorkError). IfErr r (SettleStops old new c.args.asker.now c.args.window.now c.args.group.now))
    c.from_residual-in_err-values.result c.in_err-values.field-0.0 c.from_residual-in_err-values.ensures.1
    (ask-stops old new c.args.asker.now c.args.window.now c.args.group.now c.args.other c.deref.result.now c.in_err-values.field-0.0 words
    c.in_err-values.ensures.err c.requires.candidate)

pub returns-in_err-add-in-Found-clause-err : goal.returns-in_err-add-in-Found-clause-err
returns-in_err-add-in-Found-clause-err g c =
    let old : DeskView = g.D.Desk.view c.args.desk.now in
    let new : DeskView = g.D.Desk.view c.ask.new.desk in
    let words = c.deref.ensures.value ∙ c.in_ok-question.ensures ∙ ap (λ (p : ℕ). without p c.args.other) c.claimed.ensures in
    by-exit (λ (r : Result (Unit {0}) WorkError). IfErr r (SettleStops old new c.args.asker.now c.args.window.now c.args.group.now))
    c.from_residual-in_err-add-in-Found.result NoMemory c.from_residual-in_err-add-in-Found.ensures.1
    (found-stops old new c.args.asker.now c.ask.new.asker c.args.window.now c.args.group.now c.args.other c.deref.result.now c.in_ok-values.field-0 words
    c.in_ok-values.ensures.ok c.requires.candidate)

pub returns-in-Found-clause-ok : goal.returns-in-Found-clause-ok
returns-in-Found-clause-ok g c =
    let old : DeskView = g.D.Desk.view c.args.desk.now in
    let new : DeskView = g.D.Desk.view c.ask.new.desk in
    let kept : GroupView = c.args.group.now in
    let words = c.deref.ensures.value ∙ c.in_ok-question.ensures ∙ ap (λ (p : ℕ). without p c.args.other) c.claimed.ensures in
    let holds = subst (λ (n : ℕ). Holds n (without kept.claimed c.args.other) (replies.Found c.in-Found.values)) c.requires.fits.variables
    (subst (λ (ws : List Word). Holds c.args.asker.now.log.variables ws (replies.Found c.in-Found.values)) words
    (subst (λ (r : Reply). Holds c.args.asker.now.log.variables c.deref.result.now r) c.in-Found.is c.in_ok-values.ensures.holds)) in
    settled-found old new c.args.asker.now c.ask.new.asker c.args.window.now c.add.new.window kept c.add.new.group c.args.other c.in-Found.values
    c.deref.result.now c.in_ok-values.field-0 words c.in-Found.is c.in_ok-values.ensures.ok
    c.requires.candidate holds c.add.ensures.rest c.add.ensures.size c.add.ensures.both c.in_ok-add-in-Found.ensures.window c.requires.fits.window

pub returns-in-Found-clause-further : goal.returns-in-Found-clause-further
returns-in-Found-clause-further g c =
    let kept : GroupView = c.args.group.now in
    let words = c.deref.ensures.value ∙ c.in_ok-question.ensures ∙ ap (λ (p : ℕ). without p c.args.other) c.claimed.ensures in
    let holds = subst (λ (ws : List Word). Holds c.args.asker.now.log.variables ws (replies.Found c.in-Found.values)) words
    (subst (λ (r : Reply). Holds c.args.asker.now.log.variables c.deref.result.now r) c.in-Found.is c.in_ok-values.ensures.holds) in
    found-further c.args.window.now kept c.add.new.group c.args.other c.in-Found.values c.requires.candidate c.add.ensures.rest c.add.ensures.both
    (lacks-other c.args.asker.now.log.variables kept.claimed c.args.other c.in-Found.values holds)

pub returns-in-Found-clause-fits : goal.returns-in-Found-clause-fits
returns-in-Found-clause-fits g c =
    let kept : GroupView = c.args.group.now in
    let rest = c.add.ensures.rest in
    fits-after c.args.asker.now c.ask.new.asker c.args.window.now c.add.new.window kept c.add.new.group c.requires.fits c.ask.ensures.limit
    c.ask.ensures.variables
    (ap (λ (w : WindowView). w.variables) c.in_ok-add-in-Found.ensures.window) (ap (λ (k : GroupView). k.claimed) rest)
    (ap (λ (k : GroupView). k.variables) rest)
    (subst HasSizes (sym rest) (record { common = c.add.ensures.size; refuted = c.requires.fits.sizes.refuted; undecided = c.requires.fits.sizes.undecided }))
    (added-some c.args.window.now c.add.new.window kept.claimed c.in-Found.values c.in_ok-add-in-Found.ensures.window
    (has-claimed c.args.asker.now.log.variables kept.claimed c.args.other c.in-Found.values
    (subst (λ (ws : List Word). Holds c.args.asker.now.log.variables ws (replies.Found c.in-Found.values))
    (c.deref.ensures.value ∙ c.in_ok-question.ensures ∙ ap (λ (p : ℕ). without p c.args.other) c.claimed.ensures)
    (subst (λ (r : Reply). Holds c.args.asker.now.log.variables c.deref.result.now r) c.in-Found.is c.in_ok-values.ensures.holds))))

pub returns-in-Refuted-clause-ok : goal.returns-in-Refuted-clause-ok
returns-in-Refuted-clause-ok g c =
    let old : DeskView = g.D.Desk.view c.args.desk.now in
    let new : DeskView = g.D.Desk.view c.ask.new.desk in
    let words = c.deref.ensures.value ∙ c.in_ok-question.ensures ∙ ap (λ (p : ℕ). without p c.args.other) c.claimed.ensures in
    settled-refuted old new c.args.asker.now c.ask.new.asker c.args.window.now c.args.group.now c.refute.new.self c.args.other c.deref.result.now
    c.in_ok-values.field-0 words c.in-Refuted.is c.in_ok-values.ensures.ok
    c.requires.candidate c.refute.ensures

pub returns-in-Refuted-clause-further : goal.returns-in-Refuted-clause-further
returns-in-Refuted-clause-further g c =
    refute-further c.args.window.now c.args.group.now c.refute.new.self c.args.other c.requires.candidate c.requires.fits.sizes c.refute.ensures

pub returns-in-Refuted-clause-fits : goal.returns-in-Refuted-clause-fits
returns-in-Refuted-clause-fits g c =
    let kept : GroupView = c.args.group.now in
    fits-after c.args.asker.now c.ask.new.asker c.args.window.now c.args.window.now kept c.refute.new.self c.requires.fits c.ask.ensures.limit
    c.ask.ensures.variables refl
    (ap (λ (k : GroupView). k.claimed) c.refute.ensures) (ap (λ (k : GroupView). k.variables) c.refute.ensures)
    (subst HasSizes (sym c.refute.ensures) (record {
      common = c.requires.fits.sizes.common;
      refuted = length-set kept.refuted (c.args.other - 1) true ∙ c.requires.fits.sizes.refuted;
      undecided = c.requires.fits.sizes.undecided;
    })) c.requires.fits.some

pub returns-clause-ok : goal.returns-clause-ok
returns-clause-ok g c =
    let old : DeskView = g.D.Desk.view c.args.desk.now in
    let new : DeskView = g.D.Desk.view c.ask.new.desk in
    let words = c.deref.ensures.value ∙ c.in_ok-question.ensures ∙ ap (λ (p : ℕ). without p c.args.other) c.claimed.ensures in
    settled-undecided old new c.args.asker.now c.ask.new.asker c.args.window.now c.args.group.now c.leave.new.self c.args.other c.deref.result.now
    c.in_ok-values.field-0 words c.in-Undecided.is c.in_ok-values.ensures.ok
    c.requires.candidate c.leave.ensures

pub returns-clause-further : goal.returns-clause-further
returns-clause-further g c =
    leave-further c.args.window.now c.args.group.now c.leave.new.self c.args.other c.requires.candidate c.requires.fits.sizes c.leave.ensures

pub returns-clause-fits : goal.returns-clause-fits
returns-clause-fits g c =
    let kept : GroupView = c.args.group.now in
    fits-after c.args.asker.now c.ask.new.asker c.args.window.now c.args.window.now kept c.leave.new.self c.requires.fits c.ask.ensures.limit
    c.ask.ensures.variables refl
    (ap (λ (k : GroupView). k.claimed) c.leave.ensures) (ap (λ (k : GroupView). k.variables) c.leave.ensures)
    (subst HasSizes (sym c.leave.ensures) (record {
      common = c.requires.fits.sizes.common;
      refuted = c.requires.fits.sizes.refuted;
      undecided = length-set kept.undecided (c.args.other - 1) true ∙ c.requires.fits.sizes.undecided;
    })) c.requires.fits.some

pub add-requires-clause-has : goal.add-requires-clause-has
add-requires-clause-has g c =
    has-claimed c.args.asker.now.log.variables c.args.group.now.claimed c.args.other c.in-Found.values
    (subst (λ (ws : List Word). Holds c.args.asker.now.log.variables ws (replies.Found c.in-Found.values))
    (c.deref.ensures.value ∙ c.in_ok-question.ensures ∙ ap (λ (p : ℕ). without p c.args.other) c.claimed.ensures)
    (subst (λ (r : Reply). Holds c.args.asker.now.log.variables c.deref.result.now r) c.in-Found.is c.in_ok-values.ensures.holds))

pub returns-in-Refuted-clause-candidates : goal.returns-in-Refuted-clause-candidates
returns-in-Refuted-clause-candidates g c =
    let kept : GroupView = c.args.group.now in
    let closed = (refute-further c.args.window.now kept c.refute.new.self c.args.other c.requires.candidate c.requires.fits.sizes c.refute.ensures).closed in
    subst (λ (row : List Bool). AreCandidates c.args.window.now c.refute.new.self row) (sym c.strike.ensures)
    (struck-refuted c.args.window.now kept c.refute.new.self c.args.candidates.now c.args.other c.requires.candidate c.refute.ensures closed
    c.requires.candidates)

pub returns-clause-candidates : goal.returns-clause-candidates
returns-clause-candidates g c =
    let kept : GroupView = c.args.group.now in
    let closed = (leave-further c.args.window.now kept c.leave.new.self c.args.other c.requires.candidate c.requires.fits.sizes c.leave.ensures).closed in
    subst (λ (row : List Bool). AreCandidates c.args.window.now c.leave.new.self row) (sym c.strike-in-Undecided.ensures)
    (struck-undecided c.args.window.now kept c.leave.new.self c.args.candidates.now c.args.other c.requires.candidate c.leave.ensures closed
    c.requires.candidates)
