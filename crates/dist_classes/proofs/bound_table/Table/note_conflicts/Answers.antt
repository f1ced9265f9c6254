use Rattle.std.proofs.Common.{ℕ, List, arith}
use Rattle.dist_relation.specs.declared.atom.Atom.{Atom}
use Rattle.dist_classes.specs.Table.{IsAtomBound}
use Rattle.dist_classes.proofs.TableLemmas.{notes-more, notes-whole}
use Rattle.dist_classes.proofs.bound_table.Table.note_conflicts.Goals as goal

pub loop-place-preserved : goal.loop-place-preserved
loop-place-preserved c =
    let P : List ℕ → List ℕ → Atom → Type 0 = λ q v atom. IsAtomBound c.args.repo.now.architecture q v atom in
    notes-more P c.args.self.now c.loop-place.self c.note_atom.new.self c.args.atoms.now c.loop-place.place c.get.result.now c.get.ensures
    c.loop-place.invariant c.in_ok-note_atom.ensures

pub returns : goal.returns
returns c =
    let P : List ℕ → List ℕ → Atom → Type 0 = λ q v atom. IsAtomBound c.args.repo.now.architecture q v atom in
    notes-whole P c.args.self.now c.loop-place.self c.args.atoms.now c.loop-place.place (omega arith) c.loop-place.invariant
