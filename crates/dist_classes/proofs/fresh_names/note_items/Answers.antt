use Rattle.std.proofs.Common.{ℕ, List, arith}
use Rattle.std.specs.Prelude.{Any}
use Rattle.dist_relation.specs.declared.atom.Atom.{Atom}
use Rattle.dist_classes.specs.NewNames.{IsFreshAtom}
use Rattle.dist_classes.proofs.FreshLemmas.{adds-more, adds-whole}
use Rattle.dist_classes.proofs.fresh_names.note_items.Goals as goal

pub loop-place-preserved : goal.loop-place-preserved
loop-place-preserved c =
    let P : List ℕ → List Atom → Type 0 = λ q x. Any (IsFreshAtom c.args.repo.now q) x in
    adds-more P c.args.names.now.keys c.loop-place.names.keys c.note_item.new.names.keys c.args.items.now c.loop-place.place c.get.result.now c.get.ensures
    c.loop-place.invariant c.in_ok-note_item.ensures

pub returns : goal.returns
returns c =
    let P : List ℕ → List Atom → Type 0 = λ q x. Any (IsFreshAtom c.args.repo.now q) x in
    adds-whole P c.args.names.now.keys c.loop-place.names.keys c.args.items.now c.loop-place.place (omega arith) c.loop-place.invariant
