use Rattle.std.proofs.Common.{ℕ, List, arith}
use Rattle.std.specs.Prelude.{Any}
use Rattle.dist_relation.specs.declared.atom.Atom.{Atom}
use Rattle.dist_classes.specs.Table.{IsAtomBound}
use Rattle.dist_classes.proofs.TableLemmas.{notes-more, notes-whole}
use Rattle.dist_classes.proofs.bound_table.Table.note_items.Goals as goal

pub loop-place-preserved : goal.loop-place-preserved
loop-place-preserved c =
    let P : List ℕ → List ℕ → List Atom → Type 0 = λ q v item. Any (IsAtomBound c.args.repo.now.architecture q v) item in
    notes-more P c.args.self.now c.loop-place.self c.note_item.new.self c.args.items.now c.loop-place.place c.get.result.now c.get.ensures
    c.loop-place.invariant c.in_ok-note_item.ensures

pub returns : goal.returns
returns c =
    let P : List ℕ → List ℕ → List Atom → Type 0 = λ q v item. Any (IsAtomBound c.args.repo.now.architecture q v) item in
    notes-whole P c.args.self.now c.loop-place.self c.args.items.now c.loop-place.place (omega arith) c.loop-place.invariant
