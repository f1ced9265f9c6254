use Rattle.std.proofs.Common.{ℕ, List, arith}
use Rattle.dist_relation.specs.declared.atom.Atom.{Atom}
use Rattle.dist_classes.specs.NewNames.{IsFreshAtom}
use Rattle.dist_classes.proofs.FreshLemmas.{adds-more, adds-whole}
use Rattle.dist_classes.proofs.fresh_names.note_item.Goals as goal

pub loop-place-preserved : goal.loop-place-preserved
loop-place-preserved c =
    let P : List ℕ → Atom → Type 0 = λ q x. IsFreshAtom c.args.repo.now q x in
    adds-more P c.args.names.now.keys c.loop-place.names.keys c.note_atom.new.names.keys c.args.item.now c.loop-place.place c.get.result.now c.get.ensures
    c.loop-place.invariant c.in_ok-note_atom.ensures

pub returns : goal.returns
returns c =
    let P : List ℕ → Atom → Type 0 = λ q x. IsFreshAtom c.args.repo.now q x in
    adds-whole P c.args.names.now.keys c.loop-place.names.keys c.args.item.now c.loop-place.place (omega arith) c.loop-place.invariant
