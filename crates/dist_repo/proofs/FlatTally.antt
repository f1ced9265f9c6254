-- The tally laid flat, and the index that it gives.
use Rattle.std.proofs.Common.{◌≡◌, ◌↔◌, ℕ, zero, suc, ◌<◌, List, [], ◌∷◌, ◌++◌, length, get_or, Some, None, Option, refl, sym, ap, subst, ◌∙◌}
use Rattle.std.proofs.Common.{arith, inl, inr, unwrap_or, nat_cmp, slice_get, append_assoc}
use Rattle.std.specs.Prelude.{Contains}
use Rattle.std.specs.BTreeMap.{is_at}
use Rattle.std.specs.Cmp.{eq_by_cmp_equiv}
use Rattle.std.specs.Cmp.Lexicographic.{slice_cmp}
use Rattle.std.specs.List.{AllZip}
use Rattle.std.specs.List.Sorted.{IsStrictlySortedBy}
use Rattle.std.specs.Map.{keys_of, lookup}
use Rattle.std.proofs.lemmas.Cmp.{nat_list_cmp_total}
use Rattle.std.proofs.lemmas.List.{length-map, get_or-map}
use Rattle.std.proofs.lemmas.List.Elements.{Contains-append_cases, Contains-append_left, Contains-append_right}
use Rattle.std.proofs.lemmas.Map.Entries.{place_from_lookup, lookup_from_place}
use Rattle.std.proofs.lemmas.Map.Keys.{IsDistinct-from_sorted}
use Rattle.std.proofs.lemmas.Option.{slice_get-get_or, slice_get_within, get_or_from_slice_get}
use Rattle.dist_repo.specs.Indexed.{IsIndex}
use Rattle.dist_repo.specs.Offers.{AreOffers, IsEntryOffer, IsOrderOf, IsOwnOffer}
use Rattle.dist_repo.specs.PackageList.{PackageList}
use Rattle.dist_repo.specs.TallyPrivate.{offers_at, AreNumbersOf, IsRowOf, IsTallyOf}
use Rattle.dist_repo.specs.declared.offers.Offer.{Offer}
use Rattle.dist_repo.specs.declared.package.Package.{Package}
use Rattle.dist_repo.proofs.OfferLemmas.{either-offer, providers-iff}
use Rattle.dist_repo.proofs.TallyLemmas.{at-same}

abbrev Entries : Type 0
Entries = List (List ℕ × List Offer)

-- ---- two lists beside one another

zip-push : {A B : Type 0} (R : A → B → Type 0) (xs : List A) (ys : List B) (x : A) (y : B) → AllZip R xs ys → R x y → AllZip R (xs ++ x ∷ []) (ys ++ y ∷ [])
zip-push R [] [] x y all here = (here, tt)
zip-push R [] (b ∷ ys) x y all here = absurd all
zip-push R (a ∷ xs) [] x y all here = absurd all
zip-push R (a ∷ xs) (b ∷ ys) x y all here = (all.0, zip-push R xs ys x y all.1 here)

zip-length : {A B : Type 0} (R : A → B → Type 0) (xs : List A) (ys : List B) → AllZip R xs ys → length xs ≡ length ys
zip-length R [] [] all = refl
zip-length R [] (b ∷ ys) all = absurd all
zip-length R (a ∷ xs) [] all = absurd all
zip-length R (a ∷ xs) (b ∷ ys) all = let rest = zip-length R xs ys all.1 in omega (arith, rest)

zip-at : {A B : Type 0} (R : A → B → Type 0) (xs : List A) (ys : List B) (k : ℕ) (d : A) (e : B) → AllZip R xs ys → k < length ys
    → R (get_or xs k d) (get_or ys k e)
zip-at R [] [] k d e all short = absurd (omega arith)
zip-at R [] (b ∷ ys) k d e all short = absurd all
zip-at R (a ∷ xs) [] k d e all short = absurd all
zip-at R (a ∷ xs) (b ∷ ys) zero d e all short = all.0
zip-at R (a ∷ xs) (b ∷ ys) (suc k) d e all short = zip-at R xs ys k d e all.1 (omega (arith, short))

-- the entries that are not left are in the tables
pub record IsFlattened (packages : List Package) (tally left : Entries) (names numbers : List (List ℕ)) (offers : List (List Offer)) : Type 0 where
  pub gone : Entries
  pub so_far : gone ++ left ≡ tally
  pub names_so_far : names ++ keys_of left ≡ keys_of tally
  pub numbers_are : AllZip AreNumbersOf numbers offers
  pub offers_are : AllZip (IsRowOf packages) offers gone

pub flattened-none : (packages : List Package) (tally : Entries) → IsFlattened packages tally tally [] [] []
flattened-none packages tally = record { gone = []; so_far = refl; names_so_far = refl; numbers_are = tt; offers_are = tt }

pub row-from : (packages : List Package) (name : List ℕ) (list named row : List Offer)
    → ((offer : Offer) → Contains named offer ↔ IsOwnOffer packages name offer)
    → IsOrderOf packages row (list ++ named) → IsRowOf packages row (name, list)
row-from packages name list named row own ordered = record {
  same = λ offer. (
    (λ there. elim (Contains-append_cases list named offer ((ordered.same offer).0 there)) [
      | inl h ↦ inl h
      | inr h ↦ inr ((own offer).0 h)
    ]),
    λ either. (ordered.same offer).1 (elim either [
      | inl h ↦ Contains-append_left list named offer h
      | inr h ↦ Contains-append_right list named offer ((own offer).1 h)
    ]),
  );
  in_order = ordered.in_order;
}

pub flattened-more : (packages : List Package) (tally left : Entries) (names numbers : List (List ℕ)) (offers : List (List Offer)) (name : List ℕ)
    (list : List Offer) (some_numbers : List ℕ) (some_offers : List Offer) → IsFlattened packages tally ((name, list) ∷ left) names numbers offers
    → AreNumbersOf some_numbers some_offers → IsRowOf packages some_offers (name, list)
    → IsFlattened packages tally left (names ++ name ∷ []) (numbers ++ some_numbers ∷ []) (offers ++ some_offers ∷ [])
flattened-more packages tally left names numbers offers name list some_numbers some_offers before are row = record {
  gone = before.gone ++ (name, list) ∷ [];
  so_far = append_assoc before.gone ((name, list) ∷ []) left ∙ before.so_far;
  names_so_far = append_assoc names (name ∷ []) (keys_of left) ∙ before.names_so_far;
  numbers_are = zip-push AreNumbersOf numbers offers some_numbers some_offers before.numbers_are are;
  offers_are = zip-push (IsRowOf packages) offers before.gone some_offers (name, list) before.offers_are row;
}

-- ---- the index

found-here : (tally : Entries) (place : ℕ) → IsStrictlySortedBy (slice_cmp nat_cmp) (keys_of tally) → place < length tally → (d : List ℕ × List Offer) →
    offers_at tally (get_or tally place d).0 ≡ (get_or tally place d).1
found-here tally place sorted short d =
    let e = get_or tally place d in
    let here : slice_get tally place ≡ Some (e.0, e.1) = slice_get-get_or tally place d short in
    let distinct = IsDistinct-from_sorted (slice_cmp nat_cmp) (keys_of tally) sorted in
    let found = lookup_from_place (eq_by_cmp_equiv nat_list_cmp_total) tally place e.0 e.1 distinct here in
    ap (λ (o : Option (List Offer)). unwrap_or o []) found

missing-here : (tally : Entries) (name : List ℕ) (o : Option (List Offer)) → lookup (is_at (slice_cmp nat_cmp name)) tally ≡ o → ¬ Contains (keys_of tally) name
    → unwrap_or o [] ≡ []
missing-here tally name None is missing = refl
missing-here tally name (Some v) is missing =
    let at = place_from_lookup (is_at (slice_cmp nat_cmp name)) tally v is in
    let k : List ℕ = at.1 in
    let short = slice_get_within tally at.0 (k, v) at.2 in
    let same : name ≡ k = sym (at-same name k at.3) in
    let here : get_or (keys_of tally) at.0 name ≡ name =
    get_or-map (λ (e : List ℕ × List Offer). e.0) tally at.0 (k, v) name short
    ∙ ap (λ (e : List ℕ × List Offer). e.0) (get_or_from_slice_get tally at.0 (k, v) (k, v) at.2) ∙ sym same in
    absurd (missing (at.0, omega (arith, length-map tally (λ (e : List ℕ × List Offer). e.0)), here))

module _ (r : PackageList) (tally : Entries) (names numbers : List (List ℕ)) (offers : List (List Offer)) (tallied : IsTallyOf r.architecture r.packages tally)
    (names_is : names ≡ keys_of tally) (sorted : IsStrictlySortedBy (slice_cmp nat_cmp) names) where
  count_names : length names ≡ length tally
  count_names = ap length names_is ∙ length-map tally (λ (e : List ℕ × List Offer). e.0)

  name-at : (place : ℕ) (d : List ℕ × List Offer) → place < length names → get_or names place [] ≡ (get_or tally place d).0
  name-at place d short = ap (λ list. get_or list place []) names_is
      ∙ get_or-map (λ (e : List ℕ × List Offer). e.0) tally place d [] (omega (arith, short, count_names))

  -- beside the name at a place stand exactly its offers by entries
  entries-at : (place : ℕ) (d : List ℕ × List Offer) → place < length names → (offer : Offer)
      → Contains (get_or tally place d).1 offer ↔ IsEntryOffer r.architecture r.packages (get_or tally place d).0 offer
  entries-at place d short =
      let Sorted : List (List ℕ) → Type 0 = λ list. IsStrictlySortedBy (slice_cmp nat_cmp) list in
      let in_tally : place < length tally = omega (arith, short, count_names) in
      let Exact : List Offer → Type 0 = λ list. (offer : Offer) → Contains list offer ↔ IsEntryOffer r.architecture r.packages (get_or tally place d).0 offer in
      subst Exact (found-here tally place (subst Sorted names_is sorted) in_tally d) (tallied (get_or tally place d).0)

  -- no entry has a name that is not there
  none-of : (name : List ℕ) → ¬ Contains names name → (offer : Offer) → ¬ IsEntryOffer r.architecture r.packages name offer
  none-of name missing offer is =
      let Missing : List (List ℕ) → Type 0 = λ list. ¬ Contains list name in
      let none : offers_at tally name ≡ [] = missing-here tally name (lookup (is_at (slice_cmp nat_cmp name)) tally) refl (subst Missing names_is missing) in
      let In : List Offer → Type 0 = λ list. Contains list offer in
      let there : Contains [] offer = subst In none ((tallied name offer).1 is) in
      absurd (omega (arith, there.1))

  -- the row at a place has exactly the offers of its name
  row-at : (place : ℕ) → place < length names → AllZip (IsRowOf r.packages) offers tally → AreOffers r (get_or names place []) (get_or offers place [])
  row-at place short rows =
      let d : List ℕ × List Offer = ([], []) in
      let row = zip-at (IsRowOf r.packages) offers tally place [] d rows (omega (arith, short, count_names)) in
      let name = (get_or tally place d).0 in
      let entries = entries-at place d short in
      let are : AreOffers r name (get_or offers place []) = record {
        exact = λ offer. (
          (λ there. (either-offer r name offer).0 (elim ((row.same offer).0 there) [
            | inl h ↦ inl ((entries offer).0 h)
            | inr h ↦ inr h
          ])),
          λ is. (row.same offer).1 (elim ((either-offer r name offer).1 is) [
            | inl h ↦ inl ((entries offer).1 h)
            | inr h ↦ inr h
          ]),
        );
        in_order = row.in_order;
      } in
      subst (λ (x : List ℕ). AreOffers r x (get_or offers place [])) (sym (name-at place d short)) are

  pub index-from_tally : AllZip AreNumbersOf numbers offers → AllZip (IsRowOf r.packages) offers tally → IsIndex r names numbers offers
  index-from_tally numbers_are rows =
      let count_numbers = zip-length AreNumbersOf numbers offers numbers_are in
      let count_offers = zip-length (IsRowOf r.packages) offers tally rows in
      record {
        rising = sorted;
        aligned = count_numbers ∙ count_offers ∙ sym count_names;
        offers_aligned = count_offers ∙ sym count_names;
        each = λ place short.
            let here : place < length offers = omega (arith, short, count_names, count_offers) in
            let are = zip-at AreNumbersOf numbers offers place [] [] numbers_are here in
            let iff = providers-iff r (get_or names place []) (get_or offers place []) (row-at place short rows).exact in
            record { rising = are.rising; exact = λ n. ((λ there. (iff n).0 ((are.exact n).0 there)), λ provides. (are.exact n).1 ((iff n).1 provides)) };
        offered = λ place short. row-at place short rows;
        others = none-of;
      }
