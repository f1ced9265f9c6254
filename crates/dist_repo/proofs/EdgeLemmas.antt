-- The offers that meet a bound stand together in the order of versions.
use Rattle.std.proofs.Common.{◌≡◌, ◌↔◌, ℕ, ◌+◌, ◌-◌, ◌<◌, ◌≤◌, true, false, List, length, get_or, Some, None, Option, Ordering, Less, Equal, Greater}
use Rattle.std.proofs.Common.{is_le, is_lt, refl, sym, ap, subst, ◌∙◌, arith, inl, inr}
use Rattle.std.specs.Prelude.{Contains, IsSomeAnd}
use Rattle.std.specs.Cmp.{IsTotalOrder}
use Rattle.std.specs.Cmp.Lexicographic.{options_total}
use Rattle.std.specs.List.{between}
use Rattle.std.specs.List.Sorted.{IsPartitionPoint, IsPartitionedBy}
use Rattle.std.specs.Option.{option_cmp, option_map}
use Rattle.std.specs.Ordering.{ordering_reverse}
use Rattle.std.proofs.lemmas.Bool.{cases_lt, false≢true}
use Rattle.std.proofs.lemmas.Cmp.{alike_right}
use Rattle.std.proofs.lemmas.List.Edits.{get_or-between, length-between}
use Rattle.std.proofs.lemmas.List.Sorted.{ranks_by, sorted_far}
use Rattle.std.proofs.lemmas.Option.{get_or_from_slice_get, slice_get-get_or}
use Rattle.dist_base.specs.ListLaws.{contains-at}
use Rattle.dist_version.specs.Order.{version_cmp}
use Rattle.dist_version.specs.OrderLaws.{version_total}
use Rattle.dist_relation.specs.Satisfies.{AllowsOrder}
use Rattle.dist_relation.specs.declared.atom.Op.{Op}
use Rattle.dist_relation.specs.declared.atom.Op.TheVariants.{Lt, Le, Eq, Ge, Gt}
use Rattle.dist_repo.specs.EdgesPrivate.{comes_before, end_of, is_before, standing, start_of, StandsBetween}
use Rattle.dist_repo.specs.Offers.{version_of, AreInVersionOrder}
use Rattle.dist_repo.specs.declared.edges.Edge.{Edge}
use Rattle.dist_repo.specs.declared.edges.Edge.TheVariants.{Versioned, From, Past, End}
use Rattle.dist_repo.specs.declared.offers.Offer.{Offer}
use Rattle.dist_repo.specs.declared.package.Package.{Package}

-- ---- what comes before an edge

less-is : (o : Ordering) → is_lt o ≡ true → o ≡ Less
less-is Less is = refl
less-is Equal is = cc
less-is Greater is = cc

module _ {K : Type 0} (R : K → K → Ordering) (total : IsTotalOrder R) where
  pub less-lower : (o : Ordering) (x y w : K) → R x y ≡ o → is_lt (R y x) ≡ false → is_lt (R y w) ≡ true → is_lt (R x w) ≡ true
  less-lower Less x y w is up before = ap is_lt (total.trans x y w is (less-is (R y w) before))
  less-lower Equal x y w is up before = ap is_lt (total.congr x y w is) ∙ before
  less-lower Greater x y w is up before = absurd (false≢true (sym up ∙ ap is_lt (total.antisymm y x ∙ ap ordering_reverse is)))

  pub up_to-lower : (o : Ordering) (x y w : K) → R y w ≡ o → is_lt (R y x) ≡ false → is_le o ≡ true → is_le (R x w) ≡ true
  up_to-lower Less x y w is up before =
      ap is_le (less-is (R x w) (less-lower (R x y) x y w refl up (ap is_lt is)))
  up_to-lower Equal x y w is up before = ap is_le (sym (alike_right total y w x is)) ∙ not-behind (R x y) x y refl up
    where
      not-behind : (o : Ordering) (x y : K) → R x y ≡ o → is_lt (R y x) ≡ false → is_le o ≡ true
      not-behind Less x y is up = refl
      not-behind Equal x y is up = refl
      not-behind Greater x y is up = absurd (false≢true (sym up ∙ ap is_lt (total.antisymm y x ∙ ap ordering_reverse is)))
  up_to-lower Greater x y w is up before = cc

version_lower : (edge : Edge) (w x y : List ℕ) → is_lt (version_cmp y x) ≡ false → comes_before edge (version_cmp y w) ≡ true
    → comes_before edge (version_cmp x w) ≡ true
version_lower Versioned w x y up before = before
version_lower From w x y up before = less-lower version_cmp version_total (version_cmp x y) x y w refl up before
version_lower Past w x y up before = up_to-lower version_cmp version_total (version_cmp y w) x y w refl up before
version_lower End w x y up before = refl

offered_lower : (edge : Edge) (w : List ℕ) (a b : Option (List ℕ)) → is_lt (option_cmp version_cmp b a) ≡ false
    → is_before edge (option_map (λ v. version_cmp v w) b) ≡ true → is_before edge (option_map (λ v. version_cmp v w) a) ≡ true
offered_lower edge w None b up before = refl
offered_lower edge w (Some x) None up before = absurd (false≢true (sym up))
offered_lower edge w (Some x) (Some y) up before = version_lower edge w x y up before

pub parted : (packages : List Package) (offers : List Offer) (edge : Edge) (w : List ℕ) → AreInVersionOrder packages offers
    → IsPartitionedBy (λ offer. is_before edge (standing packages w offer)) offers
parted packages offers edge w in_order i j d up short before =
    offered_lower edge w (version_of packages (get_or offers i d)) (version_of packages (get_or offers j d))
    (sorted_far _ (ranks_by (options_total version_total) (version_of packages)) offers in_order i j d up short) before

-- ---- between two edges

allowed : (op : Op) (order : Ordering) → AllowsOrder op order ↔ ((comes_before (start_of op) order ≡ false) × (comes_before (end_of op) order ≡ true))
allowed Lt Less = ((λ h. (refl, refl)), λ h. refl)
allowed Lt Equal = ((λ h. cc), λ h. absurd (false≢true h.1))
allowed Lt Greater = ((λ h. cc), λ h. absurd (false≢true h.1))
allowed Le Less = ((λ h. (refl, refl)), λ h e. cc)
allowed Le Equal = ((λ h. (refl, refl)), λ h e. cc)
allowed Le Greater = ((λ h. absurd (h refl)), λ h. absurd (false≢true h.1))
allowed Eq Less = ((λ h. cc), λ h. absurd (false≢true (sym h.0)))
allowed Eq Equal = ((λ h. (refl, refl)), λ h. refl)
allowed Eq Greater = ((λ h. cc), λ h. absurd (false≢true h.1))
allowed Ge Less = ((λ h. absurd (h refl)), λ h. absurd (false≢true (sym h.0)))
allowed Ge Equal = ((λ h. (refl, refl)), λ h e. cc)
allowed Ge Greater = ((λ h. (refl, refl)), λ h e. cc)
allowed Gt Less = ((λ h. cc), λ h. absurd (false≢true (sym h.0)))
allowed Gt Equal = ((λ h. cc), λ h. absurd (false≢true (sym h.0)))
allowed Gt Greater = ((λ h. (refl, refl)), λ h. refl)

module _ (op : Op) (w : List ℕ) where
  allowed-offer : (version : Option (List ℕ)) → IsSomeAnd version (λ v. AllowsOrder op (version_cmp v w))
      ↔ ((is_before (start_of op) (option_map (λ v. version_cmp v w) version) ≡ false)
      × (is_before (end_of op) (option_map (λ v. version_cmp v w) version) ≡ true))
  allowed-offer None = ((λ h. absurd h), λ h. absurd (false≢true (sym h.0)))
  allowed-offer (Some v) = allowed op (version_cmp v w)

module _ (packages : List Package) (offers result : List Offer) (op : Op) (w : List ℕ) (start end : ℕ)
    (first : IsPartitionPoint (λ offer. is_before (start_of op) (standing packages w offer) ≡ true)
    (λ offer. is_before (start_of op) (standing packages w offer) ≡ false) offers start)
    (last : IsPartitionPoint (λ offer. is_before (end_of op) (standing packages w offer) ≡ true)
    (λ offer. is_before (end_of op) (standing packages w offer) ≡ false) offers end) where
  -- what stands between the edges is what the bound allows
  pub within-iff : end ≤ length offers → ((offer : Offer) → Contains result offer ↔ StandsBetween offers start end offer)
      → (offer : Offer) → Contains result offer ↔ (Contains offers offer × IsSomeAnd (version_of packages offer) (λ v. AllowsOrder op (version_cmp v w)))
  within-iff short iff offer = (
    (λ there.
        let at = (iff offer).0 there in
        let is : get_or offers at.0 offer ≡ offer = get_or_from_slice_get offers at.0 offer offer at.3 in
        let Early : Offer → Type 0 = λ o. is_before (start_of op) (standing packages w o) ≡ false in
        let Late : Offer → Type 0 = λ o. is_before (end_of op) (standing packages w o) ≡ true in
        let early = subst Early is (first.1 at.0 offer at.1 (omega (arith, at.2, short))) in
        let late = subst Late is (last.0 at.0 offer (omega arith) at.2) in
        (contains-at offers at.0 offer at.3, (allowed-offer op w (version_of packages offer)).1 (early, late))),
    λ both.
        let k : ℕ = both.0.0 in
        let in_list : k < length offers = both.0.1 in
        let is : get_or offers k offer ≡ offer = both.0.2 in
        let edges = (allowed-offer op w (version_of packages offer)).0 both.1 in
        let from : start ≤ k = elim (cases_lt k start) [
          | inl less ↦ absurd (false≢true (sym edges.0 ∙ ap (λ (o : Offer). is_before (start_of op) (standing packages w o)) (sym is)
              ∙ first.0 k offer (omega arith) less))
          | inr more ↦ more
        ] in
        let to : k < end = elim (cases_lt k end) [
          | inl less ↦ less
          | inr more ↦ absurd (false≢true (sym (last.1 k offer more in_list) ∙ ap (λ (o : Offer). is_before (end_of op) (standing packages w o)) is ∙ edges.1))
        ] in
        (iff offer).1 (k, from, to, slice_get-get_or offers k offer in_list ∙ ap (λ (o : Offer). Some o) is),
  )

-- ---- a part of a list

pub stands-between : (offers : List Offer) (start end : ℕ) → end ≤ length offers → (offer : Offer)
    → Contains (between start end offers) offer ↔ StandsBetween offers start end offer
stands-between offers start end short offer = (
  (λ there.
      let counted = length-between offers start end short in
      let inside : start + there.0 < end = let less = there.1 in omega (arith, less, counted) in
      let at : get_or offers (start + there.0) offer ≡ offer = sym (get_or-between offers start end there.0 offer inside) ∙ there.2 in (
        start + there.0,
        omega arith,
        inside,
        slice_get-get_or offers (start + there.0) offer (omega (arith, inside, short)) ∙ ap (λ (o : Offer). Some o) at,
      )),
  λ at.
      let counted = length-between offers start end short in
      let same : start + (at.0 - start) ≡ at.0 = let from = at.1 in omega (arith, from) in
      let to = at.2 in
      let from = at.1 in (
        at.0 - start,
        omega (arith, from, to, counted),
        get_or-between offers start end (at.0 - start) offer (omega (arith, from, to))
            ∙ ap (λ (i : ℕ). get_or offers i offer) same ∙ get_or_from_slice_get offers at.0 offer offer at.3,
      ),
)
