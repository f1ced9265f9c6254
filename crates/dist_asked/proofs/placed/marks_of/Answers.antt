use Rattle.std.proofs.Common.{List, arith, subst}
use Rattle.std.specs.Prelude.{Contains}
use Rattle.dist_asked.specs.PlacedPrivate.{PlacedAtom, AreMarked}
use Rattle.dist_asked.proofs.MarkLemmas.{below-moved, marked-moved}
use Rattle.dist_asked.proofs.placed.marks_of.Goals as goal

pub mark-requires : goal.mark-requires
mark-requires c = λ p there.
    let below = below-moved c.args.placed.now.items c.sort_unstable_by.new.self.items c.args.count c.sort_unstable_by.ensures.permutation c.requires p
    (subst (λ (list : List PlacedAtom). Contains list p) c.deref.ensures.value there) in
    omega (arith, below, c.in_ok-marks.ensures.len, c.in_ok-marks.marks.ok.0)

pub returns : goal.returns
returns c =
    let marks = c.mark.new.marks.items in
    marked-moved c.args.placed.now.items c.sort_unstable_by.new.self.items marks c.sort_unstable_by.ensures.permutation
    (subst (λ (list : List PlacedAtom). AreMarked list marks) c.deref.ensures.value c.mark.ensures)
