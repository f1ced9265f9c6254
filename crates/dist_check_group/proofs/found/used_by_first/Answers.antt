use Rattle.std.proofs.Common.{◌∙◌, ◌&&◌, Bool, List, ℕ, ap}
use Rattle.dist_cert.specs.Rising.{is_among}
use Rattle.dist_check_group.specs.Challenge.{use_each}
use Rattle.dist_check_group.proofs.found.used_by_first.Goals as goal

pub returns-clause-value : goal.returns-clause-value
returns-clause-value c = λ q.
    let w = c.args.window.now in
    let all : Bool = use_each w.layout w c.args.named.now q in
    ap (λ (xs : List ℕ). is_among xs q && all) c.in_ok-listed.ensures.value
    ∙ c.in_ok-narrow_by_each.ensures q
    ∙ ap (λ (b : Bool). b && all) (ap (λ (xs : List ℕ). is_among xs q) c.in_ok-kept.ensures ∙ c.in-Some.ensures q)
