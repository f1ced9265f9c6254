use Rattle.std.proofs.Common.{◌≡◌, ◌∙◌, ℕ, ◌+◌, Result, IfErr, arith, sym, subst}
use Rattle.dist_outside.specs.DeskView.{DeskView}
use Rattle.dist_outside.specs.Files.{IsWriting}
use Rattle.dist_outside.specs.declared.trouble.WorkError.{WorkError}
use Rattle.std.proofs.lemmas.Bool.{false≢true}
use Rattle.dist_line_write.specs.ScriptLaws.{by-exit, two-grow}
use Rattle.dist_repair_search.specs.SearchPrivate.{AloneStops, AreOver, DownTo}
use Rattle.dist_repair_search.proofs.SearchLemmas.{comes-further, ends-decided, ends-last, stops-further}
use Rattle.dist_repair_search.proofs.search.ask_up.Goals as goal

pub loop-number-init : goal.loop-number-init
loop-number-init g c = record {
  come = c.in_ok-ask_alone.ensures.ok;
  variables = c.in_ok-ask_alone.ensures.variables;
  limit = c.in_ok-ask_alone.ensures.same_limit;
  writing = subst IsWriting (sym c.ask_alone.ensures.grows.1.mode_stays) c.requires.writing;
  grows = c.ask_alone.ensures.grows;
}

pub returns-in_err-ask_alone-clause-err : goal.returns-in_err-ask_alone-clause-err
returns-in_err-ask_alone-clause-err g c =
    let old : DeskView = g.D.Desk.view c.args.desk.now in
    let new : DeskView = g.D.Desk.view c.ask_alone.new.desk in
    by-exit (λ (r : Result ℕ WorkError). IfErr r (AloneStops c.args.repairing.now.space.now c.args.words.now c.args.notes.now old new
    c.args.inquirer.now)) c.from_residual.result c.in_err-ask_alone.field-0.0 c.from_residual.ensures.1 c.in_err-ask_alone.ensures.err

pub ask_at-requires-clause-over : goal.ask_at-requires-clause-over
ask_at-requires-clause-over g c = subst (λ (n : ℕ). AreOver n c.args.words.now) (sym c.loop-number.invariant.variables) c.requires.over

pub returns-then-is_decided-clause-ok : goal.returns-then-is_decided-clause-ok
returns-then-is_decided-clause-ok g c =
    ends-decided c.file_grows.ensures.twice c.args.repairing.now.space.now c.args.words.now c.args.notes.now (g.D.Desk.view c.args.desk.now)
    c.args.inquirer.now c.loop-number.number (c.args.words.now.most + 1) c.loop-number.notes (g.D.Desk.view c.loop-number.desk) c.loop-number.inquirer
    c.loop-number.invariant.come (λ numbers found are. (c.is_decided.ensures numbers found are).0 c.if-is_decided.true)

pub returns-in_err-ask_at-clause-err : goal.returns-in_err-ask_at-clause-err
returns-in_err-ask_at-clause-err g c =
    let s = c.args.repairing.now.space.now in
    let old : DeskView = g.D.Desk.view c.args.desk.now in
    let mid : DeskView = g.D.Desk.view c.loop-number.desk in
    let new : DeskView = g.D.Desk.view c.ask_at.new.desk in
    by-exit (λ (r : Result ℕ WorkError). IfErr r (AloneStops s c.args.words.now c.args.notes.now old new c.args.inquirer.now))
    c.from_residual-in_err-ask_at.result c.in_err-ask_at.field-0.0 c.from_residual-in_err-ask_at.ensures.1
    (stops-further c.file_grows.ensures.twice s c.args.words.now c.args.notes.now old c.args.inquirer.now c.loop-number.number c.loop-number.notes mid new
    c.loop-number.inquirer c.in_err-ask_at.field-0.0 c.loop-number.invariant.come c.in_err-ask_at.ensures.err
    (λ numbers found are decided. false≢true (sym c.if-is_decided.false ∙ (c.is_decided.ensures numbers found are).1 decided)))

pub returns-in_err-ask_at-clause-grows : goal.returns-in_err-ask_at-clause-grows
returns-in_err-ask_at-clause-grows g c =
    two-grow c.file_grows.ensures.twice c.loop-number.invariant.grows.0 c.ask_at.ensures.grows.0 (g.D.Desk.view c.args.desk.now)
    (g.D.Desk.view c.loop-number.desk) (g.D.Desk.view c.ask_at.new.desk) c.loop-number.invariant.grows.1 c.ask_at.ensures.grows.1

pub loop-number-preserved : goal.loop-number-preserved
loop-number-preserved g c =
    let s = c.args.repairing.now.space.now in
    let old : DeskView = g.D.Desk.view c.args.desk.now in
    let mid : DeskView = g.D.Desk.view c.loop-number.desk in
    let new : DeskView = g.D.Desk.view c.ask_at.new.desk in
    record {
      come = comes-further c.file_grows.ensures.twice s c.args.words.now c.args.notes.now old c.args.inquirer.now c.loop-number.number
          c.loop-number.notes c.ask_at.new.notes mid new c.loop-number.inquirer c.ask_at.new.inquirer c.loop-number.invariant.come c.in_ok-ask_at.ensures.ok
          (λ numbers found are decided. false≢true (sym c.if-is_decided.false ∙ (c.is_decided.ensures numbers found are).1 decided));
      variables = c.in_ok-ask_at.ensures.variables ∙ c.loop-number.invariant.variables;
      limit = c.in_ok-ask_at.ensures.same_limit ∙ c.loop-number.invariant.limit;
      writing = subst IsWriting (sym c.ask_at.ensures.grows.1.mode_stays) c.loop-number.invariant.writing;
      grows = two-grow c.file_grows.ensures.twice c.loop-number.invariant.grows.0 c.ask_at.ensures.grows.0 old mid new
          c.loop-number.invariant.grows.1 c.ask_at.ensures.grows.1;
    }

pub returns-clause-ok : goal.returns-clause-ok
returns-clause-ok g c =
    let s = c.args.repairing.now.space.now in
    let most = c.most-number-end.ensures.value in
    let again = c.most.ensures.value in
    let n = c.args.notes.now in
    let old : DeskView = g.D.Desk.view c.args.desk.now in
    let mid : DeskView = g.D.Desk.view c.loop-number.desk in
    let same : c.loop-number.number ≡ c.most.result + 1 = omega (arith, most, again) in
    subst (λ (j : ℕ). DownTo s c.args.words.now n old c.args.inquirer.now j (c.args.words.now.most + 1) c.loop-number.notes mid c.loop-number.inquirer) same
    (ends-last c.file_grows.ensures.twice s c.args.words.now n old c.args.inquirer.now
    (c.questions_decide.ensures.last s) c.loop-number.number (c.args.words.now.most + 1) c.loop-number.notes mid c.loop-number.inquirer
    c.loop-number.invariant.come (omega (arith, most)))
