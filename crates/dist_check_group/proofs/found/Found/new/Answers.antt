use Rattle.std.proofs.Common.{◌↔◌, List, ℕ, subst, sym}
use Rattle.std.specs.List.{Contains}
use Rattle.dist_check_group.proofs.found.Found.new.Goals as goal

pub by_names-found-requires : goal.by_names-found-requires
by_names-found-requires c = subst (λ (ns : List ℕ). (q : ℕ) → Contains ns q ↔ Contains c.args.claim.now.named.now q) (sym c.deref.ensures.value)
    c.in_ok-named.ensures

pub returns : goal.returns
returns c = c.by_names-found.ensures
