use Rattle.std.proofs.Common.{ℕ, List, [], arith}
use Rattle.dist_repo.specs.declared.package.Package.{Package}
use Rattle.dist_classes.specs.Table.{IsPackageBound}
use Rattle.dist_classes.proofs.TableLemmas.{notes-more, notes-whole, table-from}
use Rattle.dist_classes.proofs.bound_table.Table.note_packages.Goals as goal

pub loop-number-preserved : goal.loop-number-preserved
loop-number-preserved c =
    let r = c.args.repo.now in
    let P : List ℕ → List ℕ → Package → Type 0 = λ q v p. IsPackageBound r.architecture q v p in
    notes-more P [] c.loop-number.self c.note_package.new.self r.packages c.loop-number.number c.package.result.now c.package.ensures c.loop-number.invariant
    c.in_ok-note_package.ensures

pub returns : goal.returns
returns c =
    let r = c.args.repo.now in
    let P : List ℕ → List ℕ → Package → Type 0 = λ q v p. IsPackageBound r.architecture q v p in
    table-from r c.loop-number.self (notes-whole P [] c.loop-number.self r.packages c.loop-number.number (omega arith) c.loop-number.invariant)
