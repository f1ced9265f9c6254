use Rattle.std.proofs.Common.{◌^◌, ◌<◌, ℕ, Bool, List, ap, subst, sym, ◌∙◌, arith, sum_by, count_ones}
use Rattle.std.specs.List.{count_by}
use Rattle.dist_lanes.specs.BitsPrivate.{AreWords}
use Rattle.dist_lanes.proofs.CountLemmas.{count-row, count-row-le}
use Rattle.dist_lanes.proofs.row.Row.count_ones.Goals as goal

pub ones-requires : goal.ones-requires
ones-requires c =
    subst (λ (words : List ℕ). AreWords words → sum_by count_ones words < 2 ^ 64) (sym c.deref.ensures.value)
    (λ fits. omega (
      arith,
      count-row c.self.inside.words.items c.self.inside.places c.self.invariant fits,
      count-row-le c.self.inside.words.items c.self.inside.places,
    ))

pub returns : goal.returns
returns c =
    let fits = subst AreWords c.deref.ensures.value c.ones.ensures.words in
    c.ones.ensures.sum ∙ (ap (sum_by count_ones) c.deref.ensures.value
    ∙ (sym (count-row c.self.inside.words.items c.self.inside.places c.self.invariant fits)
    ∙ ap (count_by (λ (value : Bool). value)) c.self.view_is))
