use Rattle.std.proofs.Common.{◌≡◌, ℕ, List, replicate, ap, ◌∙◌}
use Rattle.dist_lanes.specs.Bits.{bits}
use Rattle.dist_lanes.proofs.BitsLemmas.{bits-replicate}
use Rattle.dist_lanes.proofs.row.Row.new.Goals as goal

pub returns : goal.returns
returns c = ap (λ (words : List ℕ). bits words c.args.bits)
    (let e : c.in_ok-words.words.items ≡ replicate c.div_ceil.result 0 = c.in_ok-words.ensures.items_if_clones_equal (λ y e. e) in e)
    ∙ bits-replicate c.div_ceil.result c.args.bits
