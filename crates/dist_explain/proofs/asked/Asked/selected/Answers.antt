use Rattle.std.proofs.Common.{◌↔◌, ◌∙◌, List, ℕ, subst, sym}
use Rattle.std.specs.Prelude.{Contains}
use Rattle.dist_explain.proofs.AskedLemmas.{selected-none-alone, selected-none-package, selected-some}
use Rattle.dist_explain.proofs.asked.Asked.selected.Goals.{then-not-is_alone-via-then-not-is_alone}
use Rattle.dist_explain.proofs.asked.Asked.selected.Goals.{then-not-is_alone-via-else-not-is_alone+then-not-has_package_word}
use Rattle.dist_explain.proofs.asked.Asked.selected.Goals as goal

pub returns-then-not-is_alone : goal.returns-then-not-is_alone
returns-then-not-is_alone c = elim c.then-not-is_alone.branch [
  | then-not-is_alone-via-then-not-is_alone w ↦
      selected-none-alone c.args.self.now c.args.question.now (sym c.is_alone.ensures ∙ w.if-not-is_alone.true)
  | then-not-is_alone-via-else-not-is_alone+then-not-has_package_word w ↦
      selected-none-package c.args.self.now c.args.question.now (sym w.has_package_word.ensures ∙ w.if-not-has_package_word.true)
]

pub returns : goal.returns
returns c = selected-some c.args.self.now c.args.question.now c.put_in_order.new.numbers.items (sym c.is_alone.ensures ∙ c.if-not-is_alone.false)
    (sym c.has_package_word.ensures ∙ c.if-not-has_package_word.false) c.put_in_order.ensures.rising
    (λ one. subst (λ (xs : List ℕ). Contains c.put_in_order.new.numbers.items one ↔ Contains xs one) c.in_ok-numbers.ensures (c.put_in_order.ensures.same one))
