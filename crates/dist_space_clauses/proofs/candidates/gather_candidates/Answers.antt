use Rattle.std.proofs.Common.{◌≡◌, ◌++◌, ◌∙◌, ℕ, List, [], ap, subst}
use Rattle.std.specs.Prelude.{◌↔◌, Any, Contains}
use Rattle.dist_asked.specs.Asked.{Adds}
use Rattle.dist_repo.specs.Offers.{AreMatched}
use Rattle.dist_repo.specs.PackageList.{PackageList}
use Rattle.dist_space_clauses.specs.Moving.{numbers_at}
use Rattle.dist_space_clauses.proofs.CandidateLemmas.{candidates-are}
use Rattle.dist_space_clauses.proofs.candidates.gather_candidates.Goals as goal

pub returns : goal.returns
returns c =
    let s = c.args.space.now in
    let atom = c.args.atom.now in
    let entries = c.args.movers.now in
    let offers = c.matched.result.now in
    let first = c.add_numbers.new.numbers.items in
    let numbers = c.put_in_order.new.variables.items in
    let matched = subst (λ (r : PackageList). AreMatched r atom offers) c.repo.ensures.value c.matched.ensures in
    let adds : Adds [] first (λ k. Any (λ offer. offer.number ≡ k) offers) =
    subst (λ (xs : List ℕ). Adds xs first (λ k. Any (λ offer. offer.number ≡ k) offers)) c.clear.ensures.items c.in_ok-add_numbers.ensures in
    let joined : c.extend_from_slice.new.self.items ≡ first ++ numbers_at entries atom.name =
    c.in_ok-extend_from_slice.ensures.items ∙ ap (λ (xs : List ℕ). first ++ xs) c.of.ensures in
    candidates-are s atom offers entries matched c.requires.movers c.requires.usable first numbers adds
    (subst (λ (xs : List ℕ). (k : ℕ) → Contains numbers k ↔ Contains xs k) joined c.put_in_order.ensures.same)
