use Rattle.std.proofs.Common.{◌≡◌, ◌↔◌, ◌++◌, ◌∷◌, [], List, ℕ, nat_cmp, sym, ap, subst, ◌∙◌}
use Rattle.std.specs.Prelude.{Contains}
use Rattle.std.specs.Cmp.Lexicographic.{slice_cmp}
use Rattle.std.specs.List.{AllZip}
use Rattle.std.specs.List.Sorted.{IsStrictlySortedBy}
use Rattle.std.specs.Map.{keys_of}
use Rattle.std.proofs.lemmas.List.{append-nil}
use Rattle.dist_repo.specs.Offers.{IsOrderOf, IsOwnOffer}
use Rattle.dist_repo.specs.TallyPrivate.{AreNumbersOf, IsRowOf}
use Rattle.dist_repo.specs.declared.offers.Offer.{Offer}
use Rattle.dist_repo.proofs.FlatTally.{IsFlattened, flattened-more, flattened-none, row-from}
use Rattle.dist_repo.proofs.tally.Tally.fill_rows.Goals as goal

abbrev Entries : Type 0
Entries = List (List ℕ × List Offer)

pub loop-key-init : goal.loop-key-init
loop-key-init c =
    let packages = c.args.packages.now in
    let tally = c.args.self.now in
    let left : c.into_iter-key-iterator.result ≡ tally = cc in
    let Left : Entries → Type 0 = λ entries. IsFlattened packages tally entries [] [] [] in
    let Names : List (List ℕ) → Type 0 = λ names. IsFlattened packages tally c.into_iter-key-iterator.result names [] [] in
    let Numbers : List (List ℕ) → Type 0 = λ numbers. IsFlattened packages tally c.into_iter-key-iterator.result c.args.index.now.names numbers [] in
    let Offers : List (List Offer) → Type 0 = λ offers. IsFlattened packages tally c.into_iter-key-iterator.result c.args.index.now.names
    c.args.index.now.numbers offers in
    subst Offers (sym c.requires.offers)
    (subst Numbers (sym c.requires.numbers) (subst Names (sym c.requires.names) (subst Left (sym left) (flattened-none packages tally))))

pub loop-key-preserved : goal.loop-key-preserved
loop-key-preserved c =
    let packages = c.args.packages.now in
    let tally = c.args.self.now in
    let name = c.in-Some.key.now in
    let list = c.in-Some.list.now in
    let some_numbers = c.write_numbers.new.numbers.items in
    let some_offers = c.write_order.new.ordered.items in
    let names_is : c.push.new.self ≡ c.loop-key.index.names ++ name ∷ [] = c.in_ok-push.ensures.ok
    ∙ ap (λ (x : List ℕ). c.loop-key.index.names ++ x ∷ []) (c.bytes-name.ensures.value ∙ c.name.ensures) in
    let numbers_is : c.push-in-loop-key.new.self ≡ c.loop-key.index.numbers ++ some_numbers ∷ [] = c.in_ok-push-2.ensures.ok
    ∙ ap (λ (x : List ℕ). c.loop-key.index.numbers ++ x ∷ []) c.deref-in-loop-key.ensures.value in
    let offers_is : c.push-in-loop-key-2.new.self ≡ c.loop-key.index.offers ++ some_offers ∷ [] = c.in_ok-push-3.ensures.ok
    ∙ ap (λ (x : List Offer). c.loop-key.index.offers ++ x ∷ []) c.deref-in-loop-key-2.ensures.value in
    let Left : Entries → Type 0 = λ entries. IsFlattened packages tally entries c.loop-key.index.names c.loop-key.index.numbers c.loop-key.index.offers in
    let Names : List (List ℕ) → Type 0 = λ names. IsFlattened packages tally c.next.new.self names (c.loop-key.index.numbers ++ some_numbers ∷ [])
    (c.loop-key.index.offers ++ some_offers ∷ []) in
    let Numbers : List (List ℕ) → Type 0 = λ numbers. IsFlattened packages tally c.next.new.self c.push.new.self numbers
    (c.loop-key.index.offers ++ some_offers ∷ []) in
    let Offers : List (List Offer) → Type 0 = λ offers. IsFlattened packages tally c.next.new.self c.push.new.self c.push-in-loop-key.new.self offers in
    let named = c.offers_named-named.result.now in
    let Named : List ℕ → Type 0 = λ x. (offer : Offer) → Contains named offer ↔ IsOwnOffer packages x offer in
    let own = subst Named (c.bytes-name.ensures.value ∙ c.name.ensures) c.offers_named-named.ensures.exact in
    let Ordered : List Offer → Type 0 = λ xs. IsOrderOf packages some_offers (xs ++ named) in
    subst Offers (sym offers_is) (subst Numbers (sym numbers_is) (subst Names (sym names_is)
    (flattened-more packages tally c.next.new.self c.loop-key.index.names c.loop-key.index.numbers c.loop-key.index.offers name list some_numbers some_offers
    (subst Left c.in-Some.ensures.steps c.loop-key.invariant)
    (subst (AreNumbersOf some_numbers) c.deref.ensures.value c.in_ok-write_numbers.ensures)
    (row-from packages name list named some_offers own (subst Ordered c.as_slice.ensures c.in_ok-write_order.ensures)))))

pub returns-clause-names : goal.returns-clause-names
returns-clause-names c =
    let none = ap (λ (entries : Entries). c.loop-key.index.names ++ keys_of entries) c.in-None.ensures.steps.0 in
    sym (append-nil c.loop-key.index.names) ∙ sym none ∙ c.loop-key.invariant.names_so_far

pub returns-clause-in_order : goal.returns-clause-in_order
returns-clause-in_order c =
    let Sorted : List (List ℕ) → Type 0 = λ names. IsStrictlySortedBy (slice_cmp nat_cmp) names in
    let none = ap (λ (entries : Entries). c.loop-key.index.names ++ keys_of entries) c.in-None.ensures.steps.0 in
    let names = sym (append-nil c.loop-key.index.names) ∙ sym none ∙ c.loop-key.invariant.names_so_far in
    subst Sorted (sym (names ∙ sym (ap (λ (entries : Entries). keys_of entries) c.self.view_is))) c.iter-key-items.ensures.ordered

pub returns-clause-numbers : goal.returns-clause-numbers
returns-clause-numbers c = c.loop-key.invariant.numbers_are

pub returns-clause-offers : goal.returns-clause-offers
returns-clause-offers c =
    let gone = c.loop-key.invariant.gone in
    let none = ap (λ (entries : Entries). gone ++ entries) c.in-None.ensures.steps.0 in
    let Of : Entries → Type 0 = λ entries. AllZip (IsRowOf c.args.packages.now) c.loop-key.index.offers entries in
    subst Of (sym (append-nil gone) ∙ sym none ∙ c.loop-key.invariant.so_far) c.loop-key.invariant.offers_are
