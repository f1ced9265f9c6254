use Rattle.std.proofs.Common.{ℕ, ◌+◌, ◌/◌, ap, sym, ◌∙◌}
use Rattle.dist_lanes.proofs.RowLemmas.{length-slice, value-is}
use Rattle.dist_lanes.proofs.row.Row.meets.Goals as goal

pub meet-requires : goal.meet-requires
meet-requires c =
    length-slice c.self.inside.words.items c.deref.result.now c.self.inside.places c.args.self.now c.self.invariant c.self.view_is
    c.deref.ensures.value
    ∙ (ap (λ n. (n + 63) / 64) c.requires
    ∙ sym (length-slice c.other.inside.words.items c.deref-2.result.now c.other.inside.places c.args.other.now c.other.invariant c.other.view_is
    c.deref-2.ensures.value))

pub returns : goal.returns
returns c =
    let here = λ (k : ℕ). value-is c.self.inside.words.items c.deref.result.now c.self.inside.places c.args.self.now k
    c.self.invariant c.self.view_is c.deref.ensures.value in
    let there = λ (k : ℕ). value-is c.other.inside.words.items c.deref-2.result.now c.other.inside.places c.args.other.now k
    c.other.invariant c.other.view_is c.deref-2.ensures.value in (
      λ yes. (let some = c.meet.ensures.0 yes in (some.0, here some.0 ∙ some.1, there some.0 ∙ some.2)),
      λ some. c.meet.ensures.1 (some.0, sym (here some.0) ∙ some.1, sym (there some.0) ∙ some.2),
    )
