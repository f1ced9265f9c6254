use Rattle.std.specs.Prelude.{Any}
use Rattle.dist_classes.specs.Table.{IsAtomBound}
use Rattle.dist_classes.proofs.TableLemmas.{notes-both}
use Rattle.dist_classes.proofs.bound_table.Table.note_package.Goals as goal

pub returns : goal.returns
returns c =
    let architecture = c.args.repo.now.architecture in
    notes-both c.args.self.now c.note_items.new.self c.note_conflicts.new.self
    (λ q v. Any (λ item. Any (IsAtomBound architecture q v) item) c.args.package.now.depends)
    (λ q v. Any (IsAtomBound architecture q v) c.args.package.now.conflicts)
    c.in_ok-note_items.ensures c.in_ok-note_conflicts.ensures
