use Rattle.std.proofs.Common.{◌∙◌, ℕ, List, Result, IfErr, subst, sym, ap}
use Rattle.dist_outside.specs.DeskView.{DeskView}
use Rattle.dist_outside.specs.declared.trouble.WorkError.{WorkError}
use Rattle.dist_outside.specs.declared.trouble.WorkError.TheVariants.{NoMemory}
use Rattle.dist_cert.specs.Form.{Word}
use Rattle.dist_line_write.specs.Asking.{AskerView, IsOver}
use Rattle.dist_line_write.specs.ScriptLaws.{by-exit}
use Rattle.dist_sweep.specs.Window.{WindowView}
use Rattle.dist_sweep.specs.declared.asking.Reply.TheVariants as replies
use Rattle.dist_covering.specs.Covering.{CoveringView}
use Rattle.dist_challenge.specs.GroupPrivate.{FitsGroup, SettleMore, SettleStops, together}
use Rattle.dist_covering.specs.Group.{GroupView}
use Rattle.dist_sweep.specs.AskedLaws.{ask-stops, ask-told, asked-memory}
use Rattle.dist_challenge.proofs.GroupSteps.{with_left}
use Rattle.dist_challenge.proofs.SettleSteps.{fits-found, fits-refuted, fits-undecided, held, inside-left, inside-undecided, later-present, next-count}
use Rattle.dist_challenge.proofs.SettleSteps.{pair-over}
use Rattle.dist_challenge.proofs.SettleSteps.{pair-ready, Settled, settled-found, settled-refuted, settled-undecided, struck-fewer}
use Rattle.dist_challenge.proofs.challenged_claimant.ChallengedClaimant.ask_pair.Goals as goal

pub ask_both-requires-clause-question : goal.ask_both-requires-clause-question
ask_both-requires-clause-question g c =
    let words = ap (λ (v : ℕ). together v c.args.at) c.present.ensures in
    subst (λ (ws : List Word). IsOver c.args.asker.now.log.variables ws) (sym words)
    (pair-over c.args.asker.now c.args.window.now c.args.self.now.covering c.args.group.now c.args.at c.keeps_invariant.ensures.space c.requires.fits)

pub returns-in_err-values-clause-err : goal.returns-in_err-values-clause-err
returns-in_err-values-clause-err g c =
    let old : DeskView = g.D.Desk.view c.args.desk.now in
    let new : DeskView = g.D.Desk.view c.ask_both.new.desk in
    let a : AskerView = c.args.asker.now in
    let w : WindowView = c.args.window.now in
    let self : CoveringView = c.args.self.now.covering in
    let group : GroupView = c.args.group.now in
    let words = ap (λ (v : ℕ). together v c.args.at) c.present.ensures in
    by-exit (λ (r : Result (Unit {0}) WorkError). IfErr r (SettleStops old new a w self (with_left group c.args.at)))
    c.from_residual.result c.in_err-values.field-0.0 c.from_residual.ensures.1
    (ask-stops (Settled a w self (with_left group c.args.at)) old new a (together group.present c.args.at) (together c.present.result c.args.at)
    c.in_err-values.field-0.0
    (pair-ready c.pairs_are_of_the_space.ensures.pairs a w self group c.args.at c.keeps_invariant.ensures.space c.requires.fits) words
    c.in_err-values.ensures.err)

pub add-requires-clause-values : goal.add-requires-clause-values
add-requires-clause-values g c =
    let words = ap (λ (v : ℕ). together v c.args.at) c.present.ensures in
    (held c.args.asker.now.log.variables (together c.args.group.now.present c.args.at) (together c.present.result c.args.at) c.in_ok-values.field-0
    (replies.Found c.in-Found.values) words c.in-Found.is c.in_ok-values.ensures.holds).0 ∙ c.requires.fits.begun.variables

pub add-requires-clause-variables : goal.add-requires-clause-variables
add-requires-clause-variables g c =
    let words = ap (λ (v : ℕ). together v c.args.at) c.present.ensures in
    (held c.args.asker.now.log.variables (together c.args.group.now.present c.args.at) (together c.present.result c.args.at) c.in_ok-values.field-0
    (replies.Found c.in-Found.values) words c.in-Found.is c.in_ok-values.ensures.holds).0 ∙ c.requires.fits.begun.variables ∙ sym c.requires.fits.begun.window

pub returns-in_err-add-in-Found-clause-err : goal.returns-in_err-add-in-Found-clause-err
returns-in_err-add-in-Found-clause-err g c =
    let old : DeskView = g.D.Desk.view c.args.desk.now in
    let new : DeskView = g.D.Desk.view c.ask_both.new.desk in
    let a : AskerView = c.args.asker.now in
    let w : WindowView = c.args.window.now in
    let self : CoveringView = c.args.self.now.covering in
    let group : GroupView = c.args.group.now in
    let words = ap (λ (v : ℕ). together v c.args.at) c.present.ensures in
    by-exit (λ (r : Result (Unit {0}) WorkError). IfErr r (SettleStops old new a w self (with_left group c.args.at)))
    c.from_residual-in_err-add-in-Found.result NoMemory c.from_residual-in_err-add-in-Found.ensures.1
    (asked-memory (Settled a w self (with_left group c.args.at)) old new c.ask_both.new.asker (together group.present c.args.at) (replies.Found
    c.in-Found.values)
    c.file_grows.ensures.begin c.file_grows.ensures.twice
    (ask-told (Settled a w self (with_left group c.args.at)) old new a c.ask_both.new.asker (together group.present c.args.at) (together c.present.result
    c.args.at)
    c.in_ok-values.field-0 (replies.Found c.in-Found.values) (pair-ready c.pairs_are_of_the_space.ensures.pairs a w self group c.args.at
    c.keeps_invariant.ensures.space c.requires.fits)
    words c.in-Found.is c.in_ok-values.ensures.ok))

pub returns-in_err-strike_latest-in-Found-clause-err : goal.returns-in_err-strike_latest-in-Found-clause-err
returns-in_err-strike_latest-in-Found-clause-err g c =
    let old : DeskView = g.D.Desk.view c.args.desk.now in
    let new : DeskView = g.D.Desk.view c.ask_both.new.desk in
    let a : AskerView = c.args.asker.now in
    let w : WindowView = c.args.window.now in
    let self : CoveringView = c.args.self.now.covering in
    let group : GroupView = c.args.group.now in
    let words = ap (λ (v : ℕ). together v c.args.at) c.present.ensures in
    by-exit (λ (r : Result (Unit {0}) WorkError). IfErr r (SettleStops old new a w self (with_left group c.args.at)))
    c.from_residual-in_err-strike_latest-in-Found.result NoMemory c.from_residual-in_err-strike_latest-in-Found.ensures.1
    (asked-memory (Settled a w self (with_left group c.args.at)) old new c.ask_both.new.asker (together group.present c.args.at) (replies.Found
    c.in-Found.values)
    c.file_grows.ensures.begin c.file_grows.ensures.twice
    (ask-told (Settled a w self (with_left group c.args.at)) old new a c.ask_both.new.asker (together group.present c.args.at) (together c.present.result
    c.args.at)
    c.in_ok-values.field-0 (replies.Found c.in-Found.values) (pair-ready c.pairs_are_of_the_space.ensures.pairs a w self group c.args.at
    c.keeps_invariant.ensures.space c.requires.fits)
    words c.in-Found.is c.in_ok-values.ensures.ok))

pub returns-in_err-note_refuted-in-Refuted-clause-err : goal.returns-in_err-note_refuted-in-Refuted-clause-err
returns-in_err-note_refuted-in-Refuted-clause-err g c =
    let old : DeskView = g.D.Desk.view c.args.desk.now in
    let new : DeskView = g.D.Desk.view c.ask_both.new.desk in
    let a : AskerView = c.args.asker.now in
    let w : WindowView = c.args.window.now in
    let self : CoveringView = c.args.self.now.covering in
    let group : GroupView = c.args.group.now in
    let words = ap (λ (v : ℕ). together v c.args.at) c.present.ensures in
    by-exit (λ (r : Result (Unit {0}) WorkError). IfErr r (SettleStops old new a w self (with_left group c.args.at)))
    c.from_residual-in_err-note_refuted-in-Refuted.result NoMemory c.from_residual-in_err-note_refuted-in-Refuted.ensures.1
    (asked-memory (Settled a w self (with_left group c.args.at)) old new c.ask_both.new.asker (together group.present c.args.at) replies.Refuted
    c.file_grows.ensures.begin c.file_grows.ensures.twice
    (ask-told (Settled a w self (with_left group c.args.at)) old new a c.ask_both.new.asker (together group.present c.args.at) (together c.present.result
    c.args.at)
    c.in_ok-values.field-0 replies.Refuted (pair-ready c.pairs_are_of_the_space.ensures.pairs a w self group c.args.at c.keeps_invariant.ensures.space
    c.requires.fits)
    words c.in-Refuted.is c.in_ok-values.ensures.ok))

pub returns-in_err-note_undecided-in-Undecided-clause-err : goal.returns-in_err-note_undecided-in-Undecided-clause-err
returns-in_err-note_undecided-in-Undecided-clause-err g c =
    let old : DeskView = g.D.Desk.view c.args.desk.now in
    let new : DeskView = g.D.Desk.view c.ask_both.new.desk in
    let a : AskerView = c.args.asker.now in
    let w : WindowView = c.args.window.now in
    let self : CoveringView = c.args.self.now.covering in
    let group : GroupView = c.args.group.now in
    let words = ap (λ (v : ℕ). together v c.args.at) c.present.ensures in
    by-exit (λ (r : Result (Unit {0}) WorkError). IfErr r (SettleStops old new a w self (with_left group c.args.at)))
    c.from_residual-in_err-note_undecided-in-Undecided.result NoMemory c.from_residual-in_err-note_undecided-in-Undecided.ensures.1
    (asked-memory (Settled a w self (with_left group c.args.at)) old new c.ask_both.new.asker (together group.present c.args.at) replies.Undecided
    c.file_grows.ensures.begin c.file_grows.ensures.twice
    (ask-told (Settled a w self (with_left group c.args.at)) old new a c.ask_both.new.asker (together group.present c.args.at) (together c.present.result
    c.args.at)
    c.in_ok-values.field-0 replies.Undecided (pair-ready c.pairs_are_of_the_space.ensures.pairs a w self group c.args.at c.keeps_invariant.ensures.space
    c.requires.fits)
    words c.in-Undecided.is c.in_ok-values.ensures.ok))

pub strike_latest-requires-clause-left : goal.strike_latest-requires-clause-left
strike_latest-requires-clause-left g c =
    inside-left c.args.asker.now c.args.window.now c.args.self.now.covering c.add.new.self c.args.group.now c.args.at c.requires.fits
    c.in_ok-add-in-Found.ensures.space

pub strike_latest-requires-clause-undecided : goal.strike_latest-requires-clause-undecided
strike_latest-requires-clause-undecided g c =
    inside-undecided c.args.asker.now c.args.window.now c.args.self.now.covering c.add.new.self c.args.group.now c.args.at c.requires.fits
    c.in_ok-add-in-Found.ensures.space

pub returns-in_ok-strike_latest-in-Found-clause-ok : goal.returns-in_ok-strike_latest-in-Found-clause-ok
returns-in_ok-strike_latest-in-Found-clause-ok g c =
    let old : DeskView = g.D.Desk.view c.args.desk.now in
    let new : DeskView = g.D.Desk.view c.ask_both.new.desk in
    let a : AskerView = c.args.asker.now in
    let w : WindowView = c.args.window.now in
    let self : CoveringView = c.args.self.now.covering in
    let group : GroupView = c.args.group.now in
    let words = ap (λ (v : ℕ). together v c.args.at) c.present.ensures in
    let holds = held a.log.variables (together group.present c.args.at) (together c.present.result c.args.at) c.in_ok-values.field-0 (replies.Found
    c.in-Found.values) words
    c.in-Found.is c.in_ok-values.ensures.holds in
    settled-found c.pairs_are_of_the_space.ensures.covered c.pairs_are_of_the_space.ensures.pairs old new a c.ask_both.new.asker w c.add.new.window self
    c.add.new.self
    group c.strike_latest.new.group c.args.at c.in-Found.values c.keeps_invariant.ensures.space c.requires.fits
    (ask-told (Settled a w self (with_left group c.args.at)) old new a c.ask_both.new.asker (together group.present c.args.at) (together c.present.result
    c.args.at)
    c.in_ok-values.field-0 (replies.Found c.in-Found.values) (pair-ready c.pairs_are_of_the_space.ensures.pairs a w self group c.args.at
    c.keeps_invariant.ensures.space c.requires.fits)
    words c.in-Found.is c.in_ok-values.ensures.ok)
    holds c.in_ok-add-in-Found.ensures.added c.in_ok-strike_latest-in-Found.ensures

pub returns-in_ok-strike_latest-in-Found-clause-fits : goal.returns-in_ok-strike_latest-in-Found-clause-fits
returns-in_ok-strike_latest-in-Found-clause-fits g c =
    fits-found c.args.asker.now c.ask_both.new.asker c.args.window.now c.add.new.window c.args.self.now.covering c.add.new.self c.args.group.now
    c.strike_latest.new.group
    c.args.at c.in-Found.values c.requires.fits c.ask_both.ensures.limit c.ask_both.ensures.variables c.in_ok-add-in-Found.ensures.added
    c.in_ok-strike_latest-in-Found.ensures

pub returns-in_ok-strike_latest-in-Found-clause-fewer : goal.returns-in_ok-strike_latest-in-Found-clause-fewer
returns-in_ok-strike_latest-in-Found-clause-fewer g c =
    struck-fewer c.add.new.self c.add.new.window c.args.group.now c.strike_latest.new.group c.in_ok-strike_latest-in-Found.ensures

pub returns-in_ok-note_refuted-in-Refuted-clause-ok : goal.returns-in_ok-note_refuted-in-Refuted-clause-ok
returns-in_ok-note_refuted-in-Refuted-clause-ok g c =
    let old : DeskView = g.D.Desk.view c.args.desk.now in
    let new : DeskView = g.D.Desk.view c.ask_both.new.desk in
    let a : AskerView = c.args.asker.now in
    let w : WindowView = c.args.window.now in
    let self : CoveringView = c.args.self.now.covering in
    let group : GroupView = c.args.group.now in
    let words = ap (λ (v : ℕ). together v c.args.at) c.present.ensures in
    subst (λ (x : GroupView). SettleMore old new a c.ask_both.new.asker w w self self (with_left group c.args.at) x) (sym
    c.in_ok-note_refuted-in-Refuted.ensures)
    (settled-refuted old new a c.ask_both.new.asker w self group c.args.at
    (later-present a w self (with_left group c.args.at) c.keeps_invariant.ensures.space c.requires.fits.begun)
    (ask-told (Settled a w self (with_left group c.args.at)) old new a c.ask_both.new.asker (together group.present c.args.at) (together c.present.result
    c.args.at)
    c.in_ok-values.field-0 replies.Refuted (pair-ready c.pairs_are_of_the_space.ensures.pairs a w self group c.args.at c.keeps_invariant.ensures.space
    c.requires.fits)
    words c.in-Refuted.is c.in_ok-values.ensures.ok))

pub returns-in_ok-note_refuted-in-Refuted-clause-fits : goal.returns-in_ok-note_refuted-in-Refuted-clause-fits
returns-in_ok-note_refuted-in-Refuted-clause-fits g c =
    subst (λ (x : GroupView). FitsGroup c.ask_both.new.asker c.args.window.now c.args.self.now.covering x) (sym c.in_ok-note_refuted-in-Refuted.ensures)
    (fits-refuted c.args.asker.now c.ask_both.new.asker c.args.window.now c.args.self.now.covering c.args.group.now c.args.at c.requires.fits
    c.ask_both.ensures.limit
    c.ask_both.ensures.variables)

pub returns-in_ok-note_undecided-in-Undecided-clause-ok : goal.returns-in_ok-note_undecided-in-Undecided-clause-ok
returns-in_ok-note_undecided-in-Undecided-clause-ok g c =
    let old : DeskView = g.D.Desk.view c.args.desk.now in
    let new : DeskView = g.D.Desk.view c.ask_both.new.desk in
    let a : AskerView = c.args.asker.now in
    let w : WindowView = c.args.window.now in
    let self : CoveringView = c.args.self.now.covering in
    let group : GroupView = c.args.group.now in
    let words = ap (λ (v : ℕ). together v c.args.at) c.present.ensures in
    subst (λ (x : GroupView). SettleMore old new a c.ask_both.new.asker w w self self (with_left group c.args.at) x) (sym
    c.in_ok-note_undecided-in-Undecided.ensures)
    (settled-undecided old new a c.ask_both.new.asker w self group c.args.at
    (later-present a w self (with_left group c.args.at) c.keeps_invariant.ensures.space c.requires.fits.begun)
    (ask-told (Settled a w self (with_left group c.args.at)) old new a c.ask_both.new.asker (together group.present c.args.at) (together c.present.result
    c.args.at)
    c.in_ok-values.field-0 replies.Undecided (pair-ready c.pairs_are_of_the_space.ensures.pairs a w self group c.args.at c.keeps_invariant.ensures.space
    c.requires.fits)
    words c.in-Undecided.is c.in_ok-values.ensures.ok))

pub returns-in_ok-note_undecided-in-Undecided-clause-fits : goal.returns-in_ok-note_undecided-in-Undecided-clause-fits
returns-in_ok-note_undecided-in-Undecided-clause-fits g c =
    subst (λ (x : GroupView). FitsGroup c.ask_both.new.asker c.args.window.now c.args.self.now.covering x) (sym c.in_ok-note_undecided-in-Undecided.ensures)
    (fits-undecided c.args.asker.now c.ask_both.new.asker c.args.window.now c.args.self.now.covering c.args.group.now c.args.at c.requires.fits
    c.ask_both.ensures.limit
    c.ask_both.ensures.variables)

pub returns-in_ok-strike_latest-in-Found-clause-latest : goal.returns-in_ok-strike_latest-in-Found-clause-latest
returns-in_ok-strike_latest-in-Found-clause-latest g c = next-count c.args.window.now c.add.new.window c.in-Found.values
    c.in_ok-add-in-Found.ensures.added.window
