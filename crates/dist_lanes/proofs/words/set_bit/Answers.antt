use Rattle.std.proofs.Common.{◌/◌, ◌%◌, ◌<◌, get_or, eqb, ap, sym, ◌∙◌, w64, arith}
use Rattle.std.proofs.lemmas.Nat.Bits.{bit_at_set_same, bit_at_set_other, bit_at_clear_same, bit_at_clear_other}
use Rattle.std.specs.Int.{bit_at}
use Rattle.dist_lanes.proofs.BitsLemmas.{SetsBit-from_word}
use Rattle.dist_lanes.proofs.words.set_bit.Goals as goal
use Rattle.dist_lanes.proofs.words.set_bit.Goals.{then-value, else-value}

pub returns : goal.returns
returns c =
    let within : c.args.place % 64 < 64 = omega arith in
    let word = get_or c.args.words.now (c.args.place / 64) 0 in
    SetsBit-from_word c.args.words.now c.args.place c.if-value.words c.args.value c.requires
    (elim c.if-value.branch [
      | then-value w ↦ ap (λ x. eqb (bit_at x (c.args.place % 64)) 1) w.words-is
          ∙ (ap (λ b. eqb b 1) (bit_at_set_same w64 word (c.args.place % 64) within) ∙ sym w.if-value.true)
      | else-value w ↦ ap (λ x. eqb (bit_at x (c.args.place % 64)) 1) w.words-is
          ∙ (ap (λ b. eqb b 1) (bit_at_clear_same w64 word (c.args.place % 64) within) ∙ sym w.if-value.false)
    ])
    (λ i small other. elim c.if-value.branch [
      | then-value w ↦ ap (λ x. bit_at x i) w.words-is ∙ bit_at_set_other w64 word (c.args.place % 64) within i other
      | else-value w ↦ ap (λ x. bit_at x i) w.words-is ∙ bit_at_clear_other w64 word (c.args.place % 64) within i small other
    ])
