use Rattle.std.proofs.Common.{◌≡◌, length, ap, ap₂, subst, sym, ◌∙◌, arith}
use Rattle.dist_lanes.specs.Bits.{bits}
use Rattle.dist_lanes.specs.BitsPrivate.{IsRow}
use Rattle.dist_lanes.proofs.RowLemmas.{length-of}
use Rattle.dist_lanes.proofs.row.Row.copy_from.Goals as goal

pub copy_from_slice-requires : goal.copy_from_slice-requires
copy_from_slice-requires c = omega (
  arith,
  c.self.inside.words.ok.0,
  c.self.invariant.fitting,
  c.other.invariant.fitting,
  ap length c.deref.ensures.value,
  length-of c.self.inside.words.items c.self.inside.places c.args.self.now c.self.view_is,
  length-of c.other.inside.words.items c.other.inside.places c.args.other.now c.other.view_is,
)

pub invariant_of-self : goal.invariant_of-self
invariant_of-self c =
    let same : c.other.inside.places ≡ c.self.inside.places =
    length-of c.other.inside.words.items c.other.inside.places c.args.other.now c.other.view_is
    ∙ (sym c.requires ∙ sym (length-of c.self.inside.words.items c.self.inside.places c.args.self.now c.self.view_is)) in
    let copied = c.copy_from_slice.ensures.items ∙ c.deref.ensures.value in
    subst (λ words. IsRow words c.self.inside.places) (sym copied) (subst (IsRow c.other.inside.words.items) same c.other.invariant)

pub returns : goal.returns
returns c =
    let same : c.self.inside.places ≡ c.other.inside.places =
    length-of c.self.inside.words.items c.self.inside.places c.args.self.now c.self.view_is
    ∙ (c.requires ∙ sym (length-of c.other.inside.words.items c.other.inside.places c.args.other.now c.other.view_is)) in
    ap₂ bits (c.copy_from_slice.ensures.items ∙ c.deref.ensures.value) same ∙ c.other.view_is
