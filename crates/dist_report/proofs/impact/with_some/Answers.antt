use Rattle.std.proofs.Common.{◌≡◌, ℕ, Bool, [], get_or, sym, ap, ◌∙◌}
use Rattle.dist_report.specs.ClaimParts.{has_some}
use Rattle.dist_report.proofs.PickedLemmas.{picked-none, picked-one}
use Rattle.dist_report.proofs.impact.with_some.Goals as goal
use Rattle.dist_report.proofs.impact.with_some.Goals.{then-has_numbers+in_ok-push, else-has_numbers}

pub loop-number-preserved : goal.loop-number-preserved
loop-number-preserved c =
    let lists = c.args.lists.now in
    let n = c.loop-number.number in
    let test : ℕ → Bool = λ q. has_some (get_or lists q []) in
    let is : test n ≡ c.has_numbers.result = ap has_some (sym c.numbers_at.ensures) ∙ sym c.has_numbers.ensures in
    elim c.if-has_numbers.branch [
      | then-has_numbers+in_ok-push w ↦ rw w.numbers-is (picked-one test n c.loop-number.numbers.items _ (is ∙ w.if-has_numbers.true) c.loop-number.invariant
          w.in_ok-push.ensures.items)
      | else-has_numbers w ↦ rw w.numbers-is (picked-none test n c.loop-number.numbers.items (is ∙ w.if-has_numbers.false) c.loop-number.invariant)
    ]
