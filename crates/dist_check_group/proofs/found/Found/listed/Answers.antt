use Rattle.std.proofs.Common.{◌≡◌, ℕ, map, subst}
use Rattle.dist_cert.specs.Rising.{is_among}
use Rattle.dist_check_group.specs.Layout.{LayoutView, at_class}
use Rattle.dist_check_group.proofs.found.Found.listed.Goals as goal

pub returns-clause-by : goal.returns-clause-by
returns-clause-by c =
    subst (λ (l : LayoutView). (v : ℕ) → is_among c.in_ok-by.by.items v ≡ is_among (map (at_class l) c.args.claim.now.by.now) v)
    c.layout-layout.ensures c.in_ok-by.ensures.value

pub returns-clause-undecided : goal.returns-clause-undecided
returns-clause-undecided c =
    subst (λ (l : LayoutView). (v : ℕ) → is_among c.in_ok-undecided.undecided.items v ≡ is_among (map (at_class l) c.args.claim.now.undecided.now) v)
    c.layout-layout.ensures c.in_ok-undecided.ensures.value
