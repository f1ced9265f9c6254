use Rattle.std.proofs.Common.{◌<◌, ◌≤◌, ◌∙◌, List, ℕ, sym, subst}
use Rattle.std.specs.List.{All, AllPairs}
use Rattle.dist_line_write.specs.TrueOnesLaws.{true-low, true-rising}
use Rattle.dist_inquiry.proofs.noting.finding_of.Goals as goal

pub returns-in_ok-members-in-Found-clause-form : goal.returns-in_ok-members-in-Found-clause-form
returns-in_ok-members-in-Found-clause-form c =
    let is = sym (c.from_vec.ensures ∙ c.in_ok-members-in-Found.ensures) in (
      subst (λ (vs : List ℕ). All (λ v. 1 ≤ v) vs) is (true-low c.in-Found.values),
      subst (λ (vs : List ℕ). AllPairs (λ v w. v < w) vs) is (true-rising c.in-Found.values),
    )
