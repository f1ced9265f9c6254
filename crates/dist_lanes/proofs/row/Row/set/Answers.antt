use Rattle.std.proofs.Common.{◌≡◌, ◌<◌, Bool, List, length, ap, subst, sym, ◌∙◌, arith, set}
use Rattle.std.proofs.lemmas.List.{with_items_is}
use Rattle.dist_lanes.specs.Bits.{bits, SetsBit}
use Rattle.dist_lanes.specs.BitsPrivate.{IsRow}
use Rattle.dist_lanes.proofs.BitsLemmas.{bits-set}
use Rattle.dist_lanes.proofs.RowLemmas.{room, length-of, row-set}
use Rattle.dist_lanes.proofs.row.Row.set.Goals as goal

pub set_bit-requires : goal.set_bit-requires
set_bit-requires c =
    room c.self.inside.words.items c.deref_mut.result.now c.self.inside.places c.args.self.now c.args.place
    c.self.invariant c.self.view_is c.deref_mut.ensures.value c.requires

pub invariant_of-self : goal.invariant_of-self
invariant_of-self c =
    let long : length c.set_bit.new.words ≡ c.self.inside.words.len = omega (arith, c.deref_mut.ensures.len, c.set_bit.ensures.same_length) in
    let written = with_items_is c.self.inside.words c.set_bit.new.words long in
    let sets = subst (λ words. SetsBit words c.set_bit.new.words c.args.place c.args.value) c.deref_mut.ensures.value c.set_bit.ensures in
    let below : c.args.place < c.self.inside.places =
    omega (arith, c.requires, length-of c.self.inside.words.items c.self.inside.places c.args.self.now c.self.view_is) in
    subst (λ words. IsRow words c.self.inside.places) (sym written)
    (row-set c.self.inside.words.items c.set_bit.new.words c.self.inside.places c.args.place c.args.value c.self.invariant sets below)

pub returns : goal.returns
returns c =
    let long : length c.set_bit.new.words ≡ c.self.inside.words.len = omega (arith, c.deref_mut.ensures.len, c.set_bit.ensures.same_length) in
    let written = with_items_is c.self.inside.words c.set_bit.new.words long in
    let sets = subst (λ words. SetsBit words c.set_bit.new.words c.args.place c.args.value) c.deref_mut.ensures.value c.set_bit.ensures in
    let below : c.args.place < c.self.inside.places =
    omega (arith, c.requires, length-of c.self.inside.words.items c.self.inside.places c.args.self.now c.self.view_is) in
    ap (λ words. bits words c.self.inside.places) written
    ∙ (bits-set c.self.inside.words.items c.set_bit.new.words c.args.place c.args.value c.self.inside.places sets below
    ∙ ap (λ (values : List Bool). set values c.args.place c.args.value) c.self.view_is)
