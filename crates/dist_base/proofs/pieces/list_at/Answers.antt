use Rattle.std.proofs.Common.{◌-◌, [], length, get_or, take, drop, ap, sym, ◌∙◌, arith}
use Rattle.dist_base.proofs.PieceLemmas.{AreEnds-at, get_or-pieces}
use Rattle.dist_base.proofs.pieces.list_at.Goals as goal

pub slice_bounds-result-count : goal.slice_bounds-result-count
slice_bounds-result-count g c =
    let at = AreEnds-at 0 c.args.ends.now (length c.args.items.now) c.args.place c.requires.ends c.requires.place in
    omega (arith, at.0, at.1)

pub slice_bounds-result-start : goal.slice_bounds-result-start
slice_bounds-result-start g c =
    let at = AreEnds-at 0 c.args.ends.now (length c.args.items.now) c.args.place c.requires.ends c.requires.place in
    omega (arith, at.0, at.1)

pub slice_bounds-result-end : goal.slice_bounds-result-end
slice_bounds-result-end g c =
    let at = AreEnds-at 0 c.args.ends.now (length c.args.items.now) c.args.place c.requires.ends c.requires.place in
    omega (arith, at.0, at.1)

pub returns : goal.returns
returns g c =
    ap (λ k. take (get_or c.args.ends.now c.args.place 0 - k) (drop k c.args.items.now)) c.start_of-start.ensures
    ∙ sym (get_or-pieces 0 c.args.ends.now c.args.items.now c.args.place [] c.requires.place)

pub offset_bounds-items-start : goal.offset_bounds-items-start
offset_bounds-items-start g c =
    let at = AreEnds-at 0 c.args.ends.now (length c.args.items.now) c.args.place c.requires.ends c.requires.place in
    omega (arith, at.0, at.1)
