use Rattle.std.proofs.Common.{◌≡◌, ◌∙◌, ℕ, ◌+◌, Result, IfErr, arith, ap, sym, subst}
use Rattle.dist_outside.specs.DeskView.{DeskView}
use Rattle.dist_outside.specs.Files.{IsWriting}
use Rattle.dist_outside.specs.declared.trouble.WorkError.{WorkError}
use Rattle.dist_line_write.specs.ScriptLaws.{by-exit, two-grow}
use Rattle.dist_repair.specs.RepairFiles.{asked_by}
use Rattle.dist_repair_search.specs.SearchPrivate.{AloneStops, AreOver, DownTo}
use Rattle.dist_repair_search.proofs.SearchLemmas.{comes-down, ends-down, stops-down}
use Rattle.dist_repair_search.proofs.search.ask_all.Goals as goal

pub loop-init : goal.loop-init
loop-init g c =
    let same : c.args.words.now.most + 1 ≡ c.most-most.result + 1 = ap (λ (k : ℕ). k + 1) (sym c.most-most.ensures.value) in
    let most = c.most-most.ensures.value in record {
      come = subst (λ (k : ℕ). DownTo c.args.repairing.now.space.now c.args.words.now c.args.notes.now (g.D.Desk.view c.args.desk.now)
          c.args.inquirer.now c.in_ok-from.from k c.ask_up.new.notes (g.D.Desk.view c.ask_up.new.desk) c.ask_up.new.inquirer) same
          c.in_ok-from.ensures.ok;
      above = omega (arith, most);
      variables = c.in_ok-from.ensures.variables;
      limit = c.in_ok-from.ensures.same_limit;
      writing = subst IsWriting (sym c.ask_up.ensures.grows.1.mode_stays) c.requires.writing;
      grows = c.ask_up.ensures.grows;
    }

pub returns-in_err-from-clause-err : goal.returns-in_err-from-clause-err
returns-in_err-from-clause-err g c =
    let old : DeskView = g.D.Desk.view c.args.desk.now in
    let new : DeskView = g.D.Desk.view c.ask_up.new.desk in
    by-exit (λ (r : Result (Unit {0}) WorkError). IfErr r (AloneStops c.args.repairing.now.space.now c.args.words.now c.args.notes.now old new
    c.args.inquirer.now)) c.from_residual.result c.in_err-from.field-0.0 c.from_residual.ensures.1 c.in_err-from.ensures.err

pub ask_at-requires-clause-over : goal.ask_at-requires-clause-over
ask_at-requires-clause-over g c = subst (λ (n : ℕ). AreOver n c.args.words.now) (sym c.loop.invariant.variables) c.requires.over

pub ask_at-requires-clause-number : goal.ask_at-requires-clause-number
ask_at-requires-clause-number g c = omega (arith, c.in-Some.ensures.less, c.loop.invariant.above)

pub returns-in-None-clause-ok : goal.returns-in-None-clause-ok
returns-in-None-clause-ok g c =
    ends-down c.file_grows.ensures.twice c.args.repairing.now.space.now c.args.words.now c.args.notes.now (g.D.Desk.view c.args.desk.now)
    c.args.inquirer.now c.in_ok-from.from c.loop.above c.loop.notes (g.D.Desk.view c.loop.desk) c.loop.inquirer c.loop.invariant.come

pub returns-in_err-ask_at-in-Some-clause-err : goal.returns-in_err-ask_at-in-Some-clause-err
returns-in_err-ask_at-in-Some-clause-err g c =
    let s = c.args.repairing.now.space.now in
    let old : DeskView = g.D.Desk.view c.args.desk.now in
    let mid : DeskView = g.D.Desk.view c.loop.desk in
    let new : DeskView = g.D.Desk.view c.ask_at.new.desk in
    by-exit (λ (r : Result (Unit {0}) WorkError). IfErr r (AloneStops s c.args.words.now c.args.notes.now old new c.args.inquirer.now))
    c.from_residual-in_err-ask_at-in-Some.result c.in_err-ask_at-in-Some.field-0.0 c.from_residual-in_err-ask_at-in-Some.ensures.1
    (stops-down c.file_grows.ensures.twice s c.args.words.now c.args.notes.now old c.args.inquirer.now c.in_ok-from.from c.loop.above c.in-Some.number
    c.loop.notes mid new c.loop.inquirer c.loop.invariant.come c.in-Some.ensures.from c.in-Some.ensures.less
    (λ numbers found are. c.in-Some.ensures.below s (asked_by numbers) found are) c.in_err-ask_at-in-Some.field-0.0
    c.in_err-ask_at-in-Some.ensures.lower_err)

pub returns-in_err-ask_at-in-Some-clause-grows : goal.returns-in_err-ask_at-in-Some-clause-grows
returns-in_err-ask_at-in-Some-clause-grows g c =
    two-grow c.file_grows.ensures.twice c.loop.invariant.grows.0 c.ask_at.ensures.grows.0 (g.D.Desk.view c.args.desk.now)
    (g.D.Desk.view c.loop.desk) (g.D.Desk.view c.ask_at.new.desk) c.loop.invariant.grows.1 c.ask_at.ensures.grows.1

pub loop-preserved : goal.loop-preserved
loop-preserved g c =
    let s = c.args.repairing.now.space.now in
    let old : DeskView = g.D.Desk.view c.args.desk.now in
    let mid : DeskView = g.D.Desk.view c.loop.desk in
    let new : DeskView = g.D.Desk.view c.ask_at.new.desk in
    record {
      come = comes-down c.file_grows.ensures.twice s c.args.words.now c.args.notes.now old c.args.inquirer.now c.in_ok-from.from c.loop.above
          c.in-Some.number c.loop.notes mid new c.loop.inquirer c.loop.invariant.come c.in-Some.ensures.from c.in-Some.ensures.less
          (λ numbers found are. c.in-Some.ensures.below s (asked_by numbers) found are) c.ask_at.new.notes c.ask_at.new.inquirer
          c.in_ok-ask_at-in-Some.ensures.lower;
      above = omega (arith, c.in-Some.ensures.less, c.loop.invariant.above);
      variables = c.in_ok-ask_at-in-Some.ensures.variables ∙ c.loop.invariant.variables;
      limit = c.in_ok-ask_at-in-Some.ensures.same_limit ∙ c.loop.invariant.limit;
      writing = subst IsWriting (sym c.ask_at.ensures.grows.1.mode_stays) c.loop.invariant.writing;
      grows = two-grow c.file_grows.ensures.twice c.loop.invariant.grows.0 c.ask_at.ensures.grows.0 old mid new c.loop.invariant.grows.1
          c.ask_at.ensures.grows.1;
    }

pub returns-clause-ok : goal.returns-clause-ok
returns-clause-ok g c =
    ends-down c.file_grows.ensures.twice c.args.repairing.now.space.now c.args.words.now c.args.notes.now (g.D.Desk.view c.args.desk.now)
    c.args.inquirer.now c.in_ok-from.from c.loop.above c.loop.notes (g.D.Desk.view c.loop.desk) c.loop.inquirer c.loop.invariant.come
