use Rattle.std.proofs.Common.{ℕ, List, subst}
use Rattle.std.specs.Prelude.{Contains}
use Rattle.dist_asked.specs.Asked.{Adds}
use Rattle.dist_repo.specs.PackageList.{PackageList}
use Rattle.dist_now.specs.Partners.{IsPartner}
use Rattle.dist_now.proofs.KeptPairs.{partners-kept}
use Rattle.dist_now.proofs.partners.Partners.add_behind.Goals as goal

pub returns-clause-adds : goal.returns-clause-adds
returns-clause-adds c =
    let kept = c.turn_to.new.kept in
    let old = c.args.numbers.now.items in
    let new = c.add_partners.new.numbers.items in
    let adds : Adds old new (λ k. Contains kept.pairs.items (c.args.number, k)) =
    subst (λ (xs : List (ℕ × ℕ)). Adds old new (λ k. Contains xs (c.args.number, k))) c.deref-2.ensures.value c.in_ok-add_partners.ensures.adds in
    subst (λ (r : PackageList). Adds old new (IsPartner r c.args.number)) c.self.view_is
    (partners-kept c.self.inside.repo.now c.args.number kept.start kept.end kept.pairs.items old new c.keeps_invariant.ensures.in_order
    c.in_ok-turn_to.ensures.are c.in_ok-turn_to.ensures.from c.in_ok-turn_to.ensures.to adds)
