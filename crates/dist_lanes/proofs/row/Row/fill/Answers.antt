use Rattle.std.proofs.Common.{◌≡◌, length, replicate, ap, ◌∙◌, arith}
use Rattle.std.proofs.lemmas.List.{with_items_is}
use Rattle.dist_lanes.specs.Bits.{bits}
use Rattle.dist_lanes.proofs.RowLemmas.{length-of, bits-filled}
use Rattle.dist_lanes.proofs.row.Row.fill.Goals as goal

pub returns : goal.returns
returns c =
    let long : length c.fill.new.words ≡ c.self.inside.words.len = omega (arith, c.deref_mut.ensures.len, c.fill.ensures.same_length) in
    let written = with_items_is c.self.inside.words c.fill.new.words long in
    ap (λ words. bits words c.self.inside.places) written
    ∙ (bits-filled c.deref_mut.result.now c.fill.new.words c.self.inside.places c.args.value c.fill.ensures
    ∙ ap (λ n. replicate n c.args.value) (length-of c.self.inside.words.items c.self.inside.places c.args.self.now c.self.view_is))
