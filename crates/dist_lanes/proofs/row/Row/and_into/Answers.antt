use Rattle.std.proofs.Common.{◌≡◌, ◌+◌, Bool, List, ◌/◌, length, ap, ap₂, sym, ◌∙◌, arith, get_or, false}
use Rattle.std.proofs.lemmas.List.{with_items_is}
use Rattle.dist_lanes.specs.Bits.{bits}
use Rattle.dist_lanes.specs.Rows.{both}
use Rattle.dist_lanes.proofs.RowLemmas.{length-of, length-slice, bits-conjoined, length-both, value-both}
use Rattle.dist_lanes.proofs.row.Row.and_into.Goals as goal

pub and_words-requires : goal.and_words-requires
and_words-requires c =
    length-slice c.self.inside.words.items c.deref_mut.result.now c.self.inside.places c.args.self.now c.self.invariant c.self.view_is
    c.deref_mut.ensures.value
    ∙ (ap (λ n. (n + 63) / 64) c.requires
    ∙ sym (length-slice c.other.inside.words.items c.deref.result.now c.other.inside.places c.args.other.now c.other.invariant c.other.view_is
    c.deref.ensures.value))

pub returns : goal.returns
returns c =
    let long : length c.and_words.new.words ≡ c.self.inside.words.len = omega (arith, c.deref_mut.ensures.len, c.and_words.ensures.same_length) in
    let written = with_items_is c.self.inside.words c.and_words.new.words long in
    let same : c.self.inside.places ≡ c.other.inside.places =
    length-of c.self.inside.words.items c.self.inside.places c.args.self.now c.self.view_is
    ∙ (c.requires ∙ sym (length-of c.other.inside.words.items c.other.inside.places c.args.other.now c.other.view_is)) in
    let first = ap (λ words. bits words c.self.inside.places) c.deref_mut.ensures.value ∙ c.self.view_is in
    let second = ap₂ bits c.deref.ensures.value same ∙ c.other.view_is in
    let all = ap (λ words. bits words c.self.inside.places) written
    ∙ (bits-conjoined c.deref_mut.result.now c.deref.result.now c.and_words.new.words c.self.inside.places c.and_words.ensures
    ∙ ap₂ both first second) in
    record {
      all = all;
      len = ap length all ∙ length-both c.args.self.now c.args.other.now c.requires;
      each = λ k. ap (λ (values : List Bool). get_or values k false) all ∙ value-both c.args.self.now c.args.other.now c.requires k;
    }
