use Rattle.std.proofs.Common.{ℕ, false, get_or, sym, ◌∙◌}
use Rattle.std.proofs.lemmas.Bool.{false≢true, false_from_ne_true, not_from_false, not_from_true}
use Rattle.dist_lanes.proofs.RowLemmas.{value-is}
use Rattle.dist_lanes.proofs.row.Row.is_empty.Goals as goal

pub returns : goal.returns
returns c =
    let here = λ (k : ℕ). value-is c.self.inside.words.items c.deref.result.now c.self.inside.places c.args.self.now k
    c.self.invariant c.self.view_is c.deref.ensures.value in
    let there = λ (k : ℕ). value-is c.self.inside.words.items c.deref-2.result.now c.self.inside.places c.args.self.now k
    c.self.invariant c.self.view_is c.deref-2.ensures.value in (
      λ yes k. false_from_ne_true (get_or c.args.self.now k false) (λ set.
          let met = c.meet.ensures.1 (k, sym (here k) ∙ set, sym (there k) ∙ set) in
          false≢true (sym (not_from_true c.meet.result met) ∙ yes)),
      λ none. not_from_false c.meet.result (false_from_ne_true c.meet.result (λ met.
          let some = c.meet.ensures.0 met in
          false≢true (sym (none some.0) ∙ (here some.0 ∙ some.1)))),
    )
