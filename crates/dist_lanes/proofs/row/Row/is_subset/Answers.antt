use Rattle.std.proofs.Common.{ℕ, ◌+◌, ◌/◌, ap, sym, ◌∙◌}
use Rattle.dist_lanes.proofs.RowLemmas.{length-slice, value-is}
use Rattle.dist_lanes.proofs.row.Row.is_subset.Goals as goal

pub are_within-requires : goal.are_within-requires
are_within-requires c =
    length-slice c.self.inside.words.items c.deref.result.now c.self.inside.places c.args.self.now c.self.invariant c.self.view_is
    c.deref.ensures.value
    ∙ (ap (λ n. (n + 63) / 64) c.requires
    ∙ sym (length-slice c.other.inside.words.items c.deref-2.result.now c.other.inside.places c.args.other.now c.other.invariant c.other.view_is
    c.deref-2.ensures.value))

pub returns : goal.returns
returns c =
    let here = λ (k : ℕ). value-is c.self.inside.words.items c.deref.result.now c.self.inside.places c.args.self.now k
    c.self.invariant c.self.view_is c.deref.ensures.value in
    let there = λ (k : ℕ). value-is c.other.inside.words.items c.deref-2.result.now c.other.inside.places c.args.other.now k
    c.other.invariant c.other.view_is c.deref-2.ensures.value in (
      λ yes k set. there k ∙ c.are_within.ensures.0 yes k (sym (here k) ∙ set),
      λ subset. c.are_within.ensures.1 (λ k set. sym (there k) ∙ subset k (here k ∙ set)),
    )
