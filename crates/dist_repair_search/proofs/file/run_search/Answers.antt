use Rattle.std.proofs.Common.{◌≤◌, inl, inr, ℕ, Result, refl, sym, ap, subst}
use Rattle.dist_inquiry.specs.StartLaws.{new_asker}
use Rattle.dist_outside.specs.DeskView.{DeskView}
use Rattle.dist_outside.specs.declared.trouble.WorkError.{WorkError}
use Rattle.dist_outside.specs.declared.trouble.WorkError.TheVariants.{NoMemory}
use Rattle.dist_line_write.specs.Asking.{AskerView}
use Rattle.dist_line_write.specs.ScriptLaws.{by-exit}
use Rattle.dist_repair_search.specs.SearchPrivate.{AreOver, RunsSearch, WritesFile}
use Rattle.dist_repair_search.proofs.file.run_search.Goals as goal

pub write_search-done-requires-clause-limit : goal.write_search-done-requires-clause-limit
write_search-done-requires-clause-limit g c = subst (λ (n : ℕ). 1 ≤ n) (sym (ap (λ (a : AskerView). a.limit) c.in_ok-inquirer.ensures)) c.requires.limit

pub write_search-done-requires-clause-fits : goal.write_search-done-requires-clause-fits
write_search-done-requires-clause-fits g c =
    subst (λ (n : ℕ). AreOver n c.args.search.now.words) (sym (ap (λ (a : AskerView). a.log.variables) c.in_ok-inquirer.ensures)) c.requires.fits

pub write_search-done-requires-clause-nothing : goal.write_search-done-requires-clause-nothing
write_search-done-requires-clause-nothing g c = ap (λ (a : AskerView). a.writer.written) c.in_ok-inquirer.ensures

pub returns-in_err-inquirer : goal.returns-in_err-inquirer
returns-in_err-inquirer g c =
    let old : DeskView = g.D.Desk.view c.args.desk.now in
    by-exit (λ (r : Result (Unit {0}) WorkError). RunsSearch c.args.search.now.repairing.space.now c.args.search.now.words c.args.search.now.notes
    c.args.search.now.notes c.args.numbers.now (new_asker c.args.set c.args.limit c.args.limits.now) c.args.name.now old old r) c.from_residual.result
    NoMemory c.from_residual.ensures.1 (inl (refl, refl))

pub returns : goal.returns
returns g c = inr (subst (λ (a : AskerView). WritesFile c.args.search.now.repairing.space.now c.args.search.now.words c.args.search.now.notes
    c.write_search-done.new.search.notes c.args.numbers.now a c.args.name.now (g.D.Desk.view c.args.desk.now)
    (g.D.Desk.view c.write_search-done.new.desk) c.write_search-done.result) c.in_ok-inquirer.ensures c.write_search-done.ensures)
