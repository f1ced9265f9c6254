use Rattle.std.proofs.Common.{◌⊎◌, ◌↔◌, ℕ, subst}
use Rattle.std.specs.Prelude.{Contains}
use Rattle.dist_now.specs.Partners.{IsPartner}
use Rattle.dist_repo.specs.PackageList.{PackageList}
use Rattle.dist_explain.specs.AnsweredLaws.{increasing-from}
use Rattle.dist_explain.proofs.RelationLists.{gathered-apart}
use Rattle.dist_explain.proofs.relations.gather_apart.Goals as goal

pub returns-clause-apart : goal.returns-clause-apart
returns-clause-apart c =
    gathered-apart c.args.repo.now c.args.first c.clear.new.self.items c.add_namesakes.new.numbers.items c.add_behind.new.numbers.items
    c.put_in_order.new.numbers.items c.clear.ensures.items c.in_ok-add_namesakes.ensures
    (subst (λ (s : PackageList). (k : ℕ) → Contains c.add_behind.new.numbers.items k
    ↔ (Contains c.add_namesakes.new.numbers.items k ⊎ IsPartner s c.args.first k)) c.requires.same c.in_ok-add_behind.ensures.adds)
    c.put_in_order.ensures.same (increasing-from c.put_in_order.new.numbers.items c.put_in_order.ensures.rising)
