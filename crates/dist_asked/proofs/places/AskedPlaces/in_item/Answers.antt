use Rattle.std.proofs.Common.{ℕ, sym, subst}
use Rattle.dist_asked.specs.PlacedPrivate.{ArePlacedBelow}
use Rattle.dist_asked.proofs.MarkLemmas.{all-below, enough-marked}
use Rattle.dist_asked.proofs.places.AskedPlaces.in_item.Goals as goal

pub returns-then-len-le-FEW : goal.returns-then-len-le-FEW
returns-then-len-le-FEW c = c.all.ensures.enough c.args.item.now

pub marks_of-requires : goal.marks_of-requires
marks_of-requires c =
    subst (λ (n : ℕ). ArePlacedBelow c.in_ok-placed.placed.items n) (sym c.len-2.ensures.value)
    (all-below c.args.item.now c.in_ok-placed.placed.items c.in_ok-placed.ensures)

pub returns : goal.returns
returns c =
    enough-marked c.args.item.now c.in_ok-placed.placed.items c.in_ok-marks.marks.items c.in_ok-placed.ensures c.in_ok-marks.ensures
