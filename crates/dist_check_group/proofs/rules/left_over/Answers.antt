use Rattle.std.proofs.Common.{◌∙◌, ◌&&◌, Bool, List, ℕ, ap, filter}
use Rattle.dist_check_group.specs.Group.{in_each}
use Rattle.dist_check_group.proofs.RuleLemmas.{filter-twice, is_left, named-once}
use Rattle.dist_check_group.proofs.rules.left_over.Goals as goal

pub returns-clause-value : goal.returns-clause-value
returns-clause-value c =
    let w = c.args.window.now in
    let named : List ℕ = c.args.claim.now.named.now in
    let left : ℕ → Bool = is_left c.args.claim.now.package c.args.claim.now.on.now in
    c.in_ok-listed.ensures.value ∙ c.in_ok-keep_in_each.ensures
    ∙ ap (λ (ns : List ℕ). filter (in_each w ns) c.leave_out.new.self) c.deref.ensures.value
    ∙ named-once w named c.in_ok-named.named.items c.leave_out.new.self c.in_ok-named.ensures
    ∙ ap (λ (xs : List ℕ). filter (in_each w named) xs) c.leave_out.ensures
    ∙ filter-twice left (in_each w named) c.in_ok-found.found
    ∙ ap (λ (xs : List ℕ). filter (λ q. left q && in_each w named q) xs) c.in_ok-found.ensures
