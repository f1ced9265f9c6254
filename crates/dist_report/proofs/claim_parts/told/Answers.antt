use Rattle.std.proofs.Common.{◌≡◌, ℕ, Bool, false, Option, sym, ap, ◌∙◌, slice_get}
use Rattle.std.specs.Option.{option_map_or}
use Rattle.dist_cert.specs.declared.records.Claim.{Claim}
use Rattle.dist_report.specs.ClaimPartsPrivate.{is_part}
use Rattle.dist_report.proofs.PickedLemmas.{picked-none, picked-one}
use Rattle.dist_report.proofs.claim_parts.told.Goals as goal
use Rattle.dist_report.proofs.claim_parts.told.Goals.{then-is_told+in_ok-push, else-is_told}

pub loop-number-preserved : goal.loop-number-preserved
loop-number-preserved c =
    let made = c.args.claims.now in
    let part = c.args.part in
    let n = c.loop-number.number in
    let test : ℕ → Bool = λ p. option_map_or (is_part part) (slice_get made p) false in
    let is : test n ≡ c.is_told.result = ap (λ (o : Option Claim). option_map_or (is_part part) o false) c.get.ensures ∙ sym c.is_told.ensures in
    elim c.if-is_told.branch [
      | then-is_told+in_ok-push w ↦ rw w.numbers-is (picked-one test n c.loop-number.numbers.items _ (is ∙ w.if-is_told.true) c.loop-number.invariant
          w.in_ok-push.ensures.items)
      | else-is_told w ↦ rw w.numbers-is (picked-none test n c.loop-number.numbers.items (is ∙ w.if-is_told.false) c.loop-number.invariant)
    ]
