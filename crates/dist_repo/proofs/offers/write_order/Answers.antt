use Rattle.std.proofs.Common.{◌++◌, is_lt, rules, List, ap, subst, ◌∙◌}
use Rattle.std.specs.Cmp.Lexicographic.{options_total}
use Rattle.std.specs.List.Sorted.{IsPermutation}
use Rattle.std.specs.Option.{option_cmp}
use Rattle.std.proofs.lemmas.Fn.{always_returns_same}
use Rattle.std.proofs.lemmas.List.Sorted.{ranks_by}
use Rattle.dist_version.specs.Order.{version_cmp}
use Rattle.dist_version.specs.OrderLaws.{version_total}
use Rattle.dist_repo.specs.Offers.{version_of}
use Rattle.dist_repo.specs.declared.offers.Offer.{Offer}
use Rattle.dist_repo.proofs.OfferLemmas.{order-from}
use Rattle.dist_repo.proofs.offers.write_order.Goals as goal

pub returns : goal.returns
returns c =
    let packages = c.args.packages.now in
    let offers = c.args.offers.now ++ c.args.others.now in
    let ordered = c.sort_unstable_by.new.self.items in
    let copied = c.in_ok-extend_from_slice-2.ensures.items ∙ ap (λ (list : List Offer). list ++ c.args.others.now)
    (c.in_ok-extend_from_slice.ensures.items ∙ ap (λ (list : List Offer). list ++ c.args.offers.now) c.clear.ensures.items) in
    order-from packages offers ordered (subst (λ (list : List Offer). IsPermutation list ordered) copied c.sort_unstable_by.ensures.permutation)
    (c.sort_unstable_by.ensures.sorted (λ a b. is_lt (option_cmp version_cmp (version_of packages a) (version_of packages b)))
    (ranks_by (options_total version_total) (version_of packages)) (always_returns_same _ _ _ (λ a r f' k. search rules)))
