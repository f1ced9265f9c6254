use Rattle.std.proofs.Common.{◌≤◌, ◌∙◌, [], Result, IfErr, arith, refl, subst, sym}
use Rattle.std.proofs.lemmas.Bool.{true≢false}
use Rattle.dist_outside.specs.DeskView.{DeskView}
use Rattle.dist_outside.specs.Files.{IsWriting}
use Rattle.dist_outside.specs.declared.trouble.WorkError.{WorkError}
use Rattle.dist_outside.specs.declared.trouble.WorkError.TheVariants.{NoMemory}
use Rattle.dist_strong.specs.SettlingPrivate.{SettleStops}
use Rattle.dist_strong.proofs.Counting.{fewer-open}
use Rattle.dist_line_write.specs.ScriptLaws.{by-exit, two-grow}
use Rattle.dist_strong.proofs.SettleSteps.{memory-stops, settle-join, settle-none, settle-stops}
use Rattle.dist_strong.proofs.settling.ask_candidates.Goals as goal

pub candidates-smaller : goal.candidates-smaller
candidates-smaller g c =
    let some = c.in-Some.ensures.some in
    let upto : c.in-Some.other ≤ c.candidates.group.variables =
    omega (arith, some.1, c.variables-variables.ensures, c.requires.fits.window, c.candidates.invariant.variables) in
    fewer-open c.candidates.window c.candidates.group c.ask_without.new.group c.in-Some.other
    ((c.candidates.invariant.row.exact c.in-Some.other some.0 upto).0 some.2) c.in_ok-ask_without.ensures.further

pub next-requires : goal.next-requires
next-requires g c = c.candidates.invariant.row.size ∙ c.candidates.invariant.variables ∙ sym c.requires.fits.window ∙ sym c.variables-variables.ensures

pub ask_without-requires-clause-candidate : goal.ask_without-requires-clause-candidate
ask_without-requires-clause-candidate g c =
    let some = c.in-Some.ensures.some in
    let upto : c.in-Some.other ≤ c.candidates.group.variables =
    omega (arith, some.1, c.variables-variables.ensures, c.requires.fits.window, c.candidates.invariant.variables) in
    (c.candidates.invariant.row.exact c.in-Some.other some.0 upto).0 some.2

pub returns-clause-done : goal.returns-clause-done
returns-clause-done g c q candidate =
    let upto : q ≤ c.variables-variables.result =
    omega (arith, candidate.upto, c.variables-variables.ensures, c.requires.fits.window, c.candidates.invariant.variables) in
    true≢false (sym ((c.candidates.invariant.row.exact q candidate.from_one candidate.upto).1 candidate)
    ∙ c.next.ensures.none c.in_default.is q candidate.from_one upto)

pub candidates-preserved : goal.candidates-preserved
candidates-preserved g c =
    let first : DeskView = g.D.Desk.view c.args.desk.now in
    let mid : DeskView = g.D.Desk.view c.candidates.desk in
    let last : DeskView = g.D.Desk.view c.ask_without.new.desk in
    record {
      writing = subst IsWriting (sym c.ask_without.ensures.grows.1.mode_stays) c.candidates.invariant.writing;
      fits = c.in_ok-ask_without.ensures.fits;
      variables = c.in_ok-ask_without.ensures.further.variables ∙ c.candidates.invariant.variables;
      row = c.in_ok-ask_without.ensures.candidates;
      more = settle-join c.file_grows.ensures.twice first mid last c.args.asker.now c.candidates.asker c.ask_without.new.asker c.args.window.now
          c.candidates.window c.ask_without.new.window
          c.args.group.now c.candidates.group c.ask_without.new.group c.candidates.invariant.more c.in_ok-ask_without.ensures.ok;
      grows = two-grow c.file_grows.ensures.twice c.candidates.invariant.grows.0 c.ask_without.ensures.grows.0 first mid last c.candidates.invariant.grows.1
          c.ask_without.ensures.grows.1;
    }

pub returns-in_err-ask_without-clause-err : goal.returns-in_err-ask_without-clause-err
returns-in_err-ask_without-clause-err g c =
    let first : DeskView = g.D.Desk.view c.args.desk.now in
    let mid : DeskView = g.D.Desk.view c.candidates.desk in
    let last : DeskView = g.D.Desk.view c.ask_without.new.desk in
    by-exit (λ (r : Result (Unit {0}) WorkError). IfErr r (SettleStops first last c.args.asker.now c.args.window.now c.args.group.now))
    c.from_residual-in_err-ask_without.result
    c.in_err-ask_without.field-0.0 c.from_residual-in_err-ask_without.ensures.1
    (settle-stops c.file_grows.ensures.twice first mid last c.args.asker.now c.candidates.asker c.args.window.now c.candidates.window c.args.group.now
    c.candidates.group c.in_err-ask_without.field-0.0
    c.candidates.invariant.more c.in_err-ask_without.ensures.err)

pub returns-in_err-ask_without-clause-grows : goal.returns-in_err-ask_without-clause-grows
returns-in_err-ask_without-clause-grows g c =
    let first : DeskView = g.D.Desk.view c.args.desk.now in
    let mid : DeskView = g.D.Desk.view c.candidates.desk in
    let last : DeskView = g.D.Desk.view c.ask_without.new.desk in
    two-grow c.file_grows.ensures.twice c.candidates.invariant.grows.0 c.ask_without.ensures.grows.0 first mid last c.candidates.invariant.grows.1
    c.ask_without.ensures.grows.1

pub returns-in_err-candidates-clause-err : goal.returns-in_err-candidates-clause-err
returns-in_err-candidates-clause-err g c =
    let first : DeskView = g.D.Desk.view c.args.desk.now in
    by-exit (λ (r : Result (Unit {0}) WorkError). IfErr r (SettleStops first first c.args.asker.now c.args.window.now c.args.group.now)) c.from_residual.result
    NoMemory c.from_residual.ensures.1
    (memory-stops c.file_grows.ensures.begin first c.args.asker.now c.args.window.now c.args.group.now)

pub candidates-init : goal.candidates-init
candidates-init g c =
    let first : DeskView = g.D.Desk.view c.args.desk.now in
    record {
      writing = c.requires.writing;
      fits = c.requires.fits;
      variables = refl;
      row = c.in_ok-candidates.ensures;
      more = settle-none c.file_grows.ensures.begin first c.args.asker.now c.args.window.now c.args.group.now;
      grows = ([], c.file_grows.ensures.begin first);
    }
