use Rattle.std.proofs.Common.{◌≡◌, ℕ, List, subst}
use Rattle.dist_cert.specs.Rising.{is_among}
use Rattle.dist_report.proofs.ExplainedLemmas.{same-among}
use Rattle.dist_report.proofs.explained_lines.in_order.Goals as goal

pub returns-clause-same : goal.returns-clause-same
returns-clause-same c number =
    let copied : c.in_ok-list.list.items ≡ c.args.numbers.now = c.in_ok-list.ensures.items_if_clones_equal (λ x y h. h) in
    let others : List ℕ = c.put_in_order.new.numbers.items in
    subst (λ (numbers : List ℕ). is_among others number ≡ is_among numbers number) copied
    (same-among c.in_ok-list.list.items others c.put_in_order.ensures.same number)
