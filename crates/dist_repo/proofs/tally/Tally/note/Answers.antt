use Rattle.std.proofs.Common.{◌≡◌, ◌++◌, ◌∷◌, [], List, ap, ◌∙◌, rules}
use Rattle.std.proofs.lemmas.Result.{on_ok_weaker}
use Rattle.dist_repo.specs.TallyPrivate.{offers_at}
use Rattle.dist_repo.specs.declared.offers.Offer.{Offer}
use Rattle.dist_repo.proofs.TallyLemmas.{notes-updated}
use Rattle.dist_repo.proofs.tally.Tally.note.Goals as goal

pub returns : goal.returns
returns c =
    let made : Offer = record { number = c.args.number; place = c.args.place } in
    let here : c.or_insert.result.now ≡ offers_at c.args.self.now c.args.name.now = search rules in
    on_ok_weaker c.add.result
    (λ added. notes-updated c.args.self.now _ c.args.name.now made c.add.new.self (λ q. search rules) (added ∙ ap (λ (xs : List Offer). xs ++ made ∷ []) here))
    c.add.ensures
