-- Pairs of numbers of packages of which one rejects the other.
use Rattle.std.proofs.Common.{◌≡◌, ◌↔◌, ℕ, ◌<◌, ◌≤◌, List, [], ◌∷◌, ◌++◌, length, get_or, sym, ap, subst, ◌∙◌, arith, inl, inr, Some, slice_get}
use Rattle.std.specs.Prelude.{Any, Contains, IsSomeAnd}
use Rattle.std.proofs.lemmas.Bool.{cases_lt}
use Rattle.std.proofs.lemmas.List.{get_or_default}
use Rattle.std.proofs.lemmas.Option.{slice_get-get_or}
use Rattle.dist_base.specs.ListLaws.{any-at, at-has, at-more, element-is, found-at, has-at, here-at, some-element, within-from}
use Rattle.dist_asked.specs.AskedLaws.{IsByWidth}
use Rattle.dist_relation.specs.declared.atom.Atom.{Atom}
use Rattle.dist_repo.specs.Match.{IsUsable, Matches}
use Rattle.dist_repo.specs.Offers.{AreMatched}
use Rattle.dist_repo.specs.PackageList.{PackageList, IsPackageAnd}
use Rattle.dist_repo.specs.Providers.{AreProviders}
use Rattle.dist_repo.specs.declared.offers.Offer.{Offer}
use Rattle.dist_repo.specs.declared.package.Package.{Package}
use Rattle.dist_now.specs.GatheringPrivate.{Adds, IsPairFor, IsPairIn, IsPairOf, IsPairWithin, IsPairWith, IsRejectingPair, Rejects}
use Rattle.dist_now.specs.WithinLaws.{matches-within}
use Rattle.dist_now.proofs.AddsLemmas.{UpTo, AddsUpTo, adds-exact, adds-nothing, adds-one, adds-same}
use Rattle.dist_now.proofs.MatchedLemmas.{matched-at}
use Rattle.dist_now.proofs.MemberLemmas.{matched-provides}

-- ---- the pairs of a package and those that an atom matches

one-pair : (n k : ℕ) (a b : ℕ × ℕ) → IsPairOf n k a → IsPairOf n k b → a ≡ b
one-pair n k a b first second =
    elim first.are [
      | inl h ↦ elim second.are [
        | inl j ↦ let x = h.0 in let y = h.1 in let z = j.0 in let w = j.1 in let e : a.0 ≡ b.0 = cc in let f : a.1 ≡ b.1 = cc in λ i. (e i, f i)
        | inr j ↦ absurd (let p = first.rising in let q = second.rising in omega (arith, h.0, h.1, j.0, j.1))
      ]
      | inr h ↦ elim second.are [
        | inl j ↦ absurd (let p = first.rising in let q = second.rising in omega (arith, h.0, h.1, j.0, j.1))
        | inr j ↦ let x = h.0 in let y = h.1 in let z = j.0 in let w = j.1 in let e : a.0 ≡ b.0 = cc in let f : a.1 ≡ b.1 = cc in λ i. (e i, f i)
      ]
    ]

never-itself : (n : ℕ) (pair : ℕ × ℕ) → ¬ IsPairOf n n pair
never-itself n pair is = elim is.are [
  | inl h ↦ let less = is.rising in omega (arith, h.0, h.1)
  | inr h ↦ let less = is.rising in omega (arith, h.0, h.1)
]

pub pair-added : (start end number other : ℕ) (pairs : List (ℕ × ℕ)) (pair : ℕ × ℕ) → IsPairOf number other pair → IsPairIn start end pair
    → Adds pairs (pairs ++ pair ∷ []) (IsPairFor start end number other)
pair-added start end number other pairs pair is_pair is_in =
    adds-one pairs pair (IsPairFor start end number other) (is_pair, is_in) (λ x at. one-pair number other pair x is_pair at.0)

pub pair-itself : (start end number other : ℕ) (pairs : List (ℕ × ℕ)) → other ≡ number → Adds pairs pairs (IsPairFor start end number other)
pair-itself start end number other pairs same =
    adds-nothing pairs (IsPairFor start end number other) (λ x at. never-itself number x (subst (λ (k : ℕ). IsPairOf number k x) same at.0))

pub pair-not-in : (start end number other : ℕ) (pairs : List (ℕ × ℕ)) (pair : ℕ × ℕ) → IsPairOf number other pair → ¬ IsPairIn start end pair
    → Adds pairs pairs (IsPairFor start end number other)
pair-not-in start end number other pairs pair is_pair outside =
    adds-nothing pairs (IsPairFor start end number other)
    (λ x at. outside (subst (IsPairIn start end) (sym (one-pair number other pair x is_pair at.0)) at.1))

pub pair-matched : (r : PackageList) (start end number other : ℕ) (P : Package → Type 0) (old new : List (ℕ × ℕ)) → IsPackageAnd r.packages other P
    → Adds old new (IsPairFor start end number other) → Adds old new (IsPairWithin r start end number other P)
pair-matched r start end number other P old new here adds =
    adds-same old new (IsPairFor start end number other) (IsPairWithin r start end number other P)
    (λ x at. record { is_pair = at.0; is_in = at.1; has = here }) (λ x at. (at.is_pair, at.is_in)) adds

pub pair-not : (r : PackageList) (start end number other : ℕ) (P : Package → Type 0) (pairs : List (ℕ × ℕ)) → ¬ IsPackageAnd r.packages other P
    → Adds pairs pairs (IsPairWithin r start end number other P)
pair-not r start end number other P pairs none = adds-nothing pairs (IsPairWithin r start end number other P) (λ x at. none at.has)

-- the pair with the provider at a place
abbrev pub IsPairAt : (r : PackageList) (start end number : ℕ) (providers : List ℕ) (P : Package → Type 0) (i : ℕ) → ℕ × ℕ → Type 0
IsPairAt r start end number providers P i = IsPairWithin r start end number (get_or providers i 0) P

-- a pair whose two numbers are below a span, or behind it, is not looked for
pub pair-below : (r : PackageList) (start end number other : ℕ) (P : Package → Type 0) (pair : ℕ × ℕ) → other < start
    → ¬ IsPairWithin r start end number other P pair
pair-below r start end number other P pair below at = elim at.is_pair.are [
  | inl h ↦ let rising = at.is_pair.rising in let low = at.is_in.0 in omega (arith, h.0, h.1)
  | inr h ↦ let low = at.is_in.0 in omega (arith, h.0, h.1)
]

pub pair-behind : (r : PackageList) (start end number other : ℕ) (P : Package → Type 0) (pair : ℕ × ℕ) → end ≤ number → end ≤ other
    → ¬ IsPairWithin r start end number other P pair
pair-behind r start end number other P pair past also at = elim at.is_pair.are [
  | inl h ↦ let high = at.is_in.1 in omega (arith, h.0, h.1)
  | inr h ↦ let high = at.is_in.1 in omega (arith, h.0, h.1)
]

-- a pair that is looked for, of a package and one that has a property
abbrev pub IsWith : (r : PackageList) (start end number : ℕ) (P : Package → Type 0) → ℕ × ℕ → Type 0
IsWith r start end number P pair = IsPairIn start end pair × IsPairWith r number P pair

pub pairs-all : (r : PackageList) (start end number : ℕ) (atom : Atom) (providers : List ℕ) (count : ℕ) (old new : List (ℕ × ℕ))
    → ((i : ℕ) (pair : ℕ × ℕ) → count ≤ i → i < length providers → ¬ IsPairAt r start end number providers (Matches r.architecture atom) i pair)
    → AreProviders r atom.name providers
    → AddsUpTo old new (IsPairAt r start end number providers (Matches r.architecture atom)) count
    → Adds old new (IsWith r start end number (Matches r.architecture atom))
pairs-all r start end number atom providers count old new rest are adds =
    adds-same old new (UpTo (IsPairAt r start end number providers P) count) (IsWith r start end number P)
    (λ x up. (up.2.is_in, record { other = get_or providers up.0 0; is_pair = up.2.is_pair; has = up.2.has })) from adds
  where
    P : Package → Type 0
    P = Matches r.architecture atom

    from : (x : ℕ × ℕ) → IsWith r start end number P x → UpTo (IsPairAt r start end number providers P) count x
    from x both =
        let with = both.1 in
        let there : Contains providers with.other = (are.exact with.other).1 (at-more P _ (matched-provides r.architecture atom) r.packages
        with.other with.has) in
        let is : get_or providers there.0 0 ≡ with.other = get_or_default providers there.0 0 with.other there.1 ∙ there.2 in
        let here : IsPairAt r start end number providers P there.0 x = record {
          is_pair = subst (λ (k : ℕ). IsPairOf number k x) (sym is) with.is_pair;
          is_in = both.0;
          has = subst (λ (k : ℕ). IsPackageAnd r.packages k P) (sym is) with.has;
        } in
        elim (cases_lt there.0 count) [
          | inl less ↦ (there.0, less, here)
          | inr past ↦ absurd (rest there.0 x past there.1 here)
        ]

-- an atom whose qualifier is not usable matches nothing
pub pairs-none : (r : PackageList) (start end number : ℕ) (atom : Atom) (pairs : List (ℕ × ℕ)) → ¬ IsUsable r.architecture atom.qualifier
    → Adds pairs pairs (IsWith r start end number (Matches r.architecture atom))
pairs-none r start end number atom pairs none =
    let P : Package → Type 0 = Matches r.architecture atom in
    adds-nothing pairs (IsWith r start end number P)
    (λ x both. let with = both.1 in
    none (has-at P r.packages with.other _ (element-is P r.packages with.other with.has) with.has).usable)

-- ---- the pairs of a package and those of some offers

-- the pair with the offer at a place
abbrev pub IsOfferPairAt : (start end number : ℕ) (offers : List Offer) → ℕ → ℕ × ℕ → Type 0
IsOfferPairAt start end number offers i pair = IsSomeAnd (slice_get offers i) (λ offer. IsPairFor start end number offer.number pair)

-- the pair with one of them
abbrev pub IsOfferPair : (start end number : ℕ) (offers : List Offer) → ℕ × ℕ → Type 0
IsOfferPair start end number offers pair = Any (λ offer. IsPairFor start end number offer.number pair) offers

pub offer-pair : (start end number : ℕ) (offers : List Offer) (i : ℕ) (offer : Offer) (old new : List (ℕ × ℕ)) → slice_get offers i ≡ Some offer
    → Adds old new (IsPairFor start end number offer.number) → Adds old new (IsOfferPairAt start end number offers i)
offer-pair start end number offers i offer old new is adds =
    adds-same old new (IsPairFor start end number offer.number) (IsOfferPairAt start end number offers i)
    (λ x here. at-has (λ (o : Offer). IsPairFor start end number o.number x) offers i offer is here)
    (λ x here. has-at (λ (o : Offer). IsPairFor start end number o.number x) offers i offer is here) adds

pub offer-pairs-all : (start end number : ℕ) (offers : List Offer) (count : ℕ) (old new : List (ℕ × ℕ)) → length offers ≤ count
    → AddsUpTo old new (IsOfferPairAt start end number offers) count → Adds old new (IsOfferPair start end number offers)
offer-pairs-all start end number offers count old new past adds =
    adds-same old new (UpTo (IsOfferPairAt start end number offers) count) (IsOfferPair start end number offers)
    (λ x up.
    let At : Offer → Type 0 = λ o. IsPairFor start end number o.number x in
    let at = here-at At offers up.0 up.2 in
    any-at At offers up.0 at.element at.is at.holds)
    (λ x any.
    let At : Offer → Type 0 = λ o. IsPairFor start end number o.number x in
    let at = found-at At offers any in
    let there = at-has At offers at.place at.element at.is at.holds in
    (at.place, omega (arith, within-from At offers at.place there, past), there))
    adds

pub offered-pairs : (r : PackageList) (start end number : ℕ) (atom : Atom) (offers : List Offer) (old new : List (ℕ × ℕ)) → AreMatched r atom offers
    → Adds old new (IsOfferPair start end number offers) → Adds old new (IsWith r start end number (Matches r.architecture atom))
offered-pairs r start end number atom offers old new are adds =
    adds-same old new (IsOfferPair start end number offers) (IsWith r start end number (Matches r.architecture atom))
    (λ x any.
    let at = found-at (λ (o : Offer). IsPairFor start end number o.number x) offers any in (
      at.holds.1,
      record { other = at.element.number; is_pair = at.holds.0; has = matched-at r atom offers are at.place at.element at.is },
    ))
    (λ x both.
    let with = both.1 in
    let at = found-at (λ (o : Offer). o.number ≡ with.other) offers ((are with.other).1 with.has) in
    any-at (λ (o : Offer). IsPairFor start end number o.number x) offers at.place at.element at.is
    (subst (λ (k : ℕ). IsPairOf number k x) (sym at.holds) with.is_pair, both.0))
    adds

-- ---- the pairs of a package and those that it rejects

abbrev pub IsRejectedAt : (r : PackageList) (start end number : ℕ) (atoms : List Atom) → ℕ → ℕ × ℕ → Type 0
IsRejectedAt r start end number atoms i pair = IsSomeAnd (slice_get atoms i) (λ atom. IsWith r start end number (Matches r.architecture atom) pair)

pub rejected-at : (r : PackageList) (start end number : ℕ) (atoms : List Atom) (i : ℕ) (atom : Atom) (old new : List (ℕ × ℕ)) → slice_get atoms i ≡ Some atom
    → Adds old new (IsWith r start end number (Matches r.architecture atom))
    → Adds old new (IsRejectedAt r start end number atoms i)
rejected-at r start end number atoms i atom old new is adds =
    adds-same old new (IsWith r start end number (Matches r.architecture atom)) (IsRejectedAt r start end number atoms i)
    (λ x here. at-has (λ (a : Atom). IsWith r start end number (Matches r.architecture a) x) atoms i atom is here)
    (λ x here. has-at (λ (a : Atom). IsWith r start end number (Matches r.architecture a) x) atoms i atom is here) adds

-- a wider atom gives no fewer
pub with-wider : (r : PackageList) (start end number : ℕ)
    → IsByWidth (λ (atom : Atom) (pair : ℕ × ℕ). IsWith r start end number (Matches r.architecture atom) pair)
with-wider r start end number atom other pair within here = (
  here.0,
  record {
    other = here.1.other;
    is_pair = here.1.is_pair;
    has = at-more (Matches r.architecture atom) (Matches r.architecture other) (λ p matches. matches-within r.architecture atom other p within matches)
        r.packages here.1.other here.1.has;
  },
)

pub rejected-all : (r : PackageList) (start end number : ℕ) (p : Package) (count : ℕ) (old new : List (ℕ × ℕ)) → length p.conflicts ≤ count
    → AddsUpTo old new (IsRejectedAt r start end number p.conflicts) count
    → Adds old new (IsWith r start end number (Rejects r p))
rejected-all r start end number p count old new past adds =
    adds-same old new (UpTo (IsRejectedAt r start end number p.conflicts) count) (IsWith r start end number (Rejects r p))
    (λ x up.
    let Here : Atom → Type 0 = λ a. IsWith r start end number (Matches r.architecture a) x in
    let atom = some-element Here p.conflicts up.0 up.2 in
    let is = element-is Here p.conflicts up.0 up.2 in
    let both = has-at Here p.conflicts up.0 atom is up.2 in
    let with = both.1 in (
      both.0,
      record {
        other = with.other;
        is_pair = with.is_pair;
        has = at-more (Matches r.architecture atom) (Rejects r p) (λ q matches. any-at (λ a. Matches r.architecture a q) p.conflicts up.0 atom is matches)
            r.packages with.other with.has;
      },
    ))
    (λ x both.
    let with = both.1 in
    let Of : Package → Type 0 = Rejects r p in
    let q = some-element Of r.packages with.other with.has in
    let is_q = element-is Of r.packages with.other with.has in
    let any : Of q = has-at Of r.packages with.other q is_q with.has in
    let atom : Atom = any.1 in
    let is : slice_get p.conflicts any.0 ≡ Some atom = slice_get-get_or p.conflicts any.0 atom any.2 ∙ ap (λ (a : Atom). Some a) any.3 in (
      any.0,
      omega (arith, any.2, past),
      at-has (λ (a : Atom). IsWith r start end number (Matches r.architecture a) x) p.conflicts any.0 atom is
          (both.0, record { other = with.other; is_pair = with.is_pair; has = at-has (Matches r.architecture atom) r.packages with.other q is_q any.4 }),
    ))
    adds

-- ---- the pairs of all packages

abbrev pub IsPairOfPackage : (r : PackageList) (start end : ℕ) → ℕ → ℕ × ℕ → Type 0
IsPairOfPackage r start end n pair = IsPackageAnd r.packages n (λ p. IsWith r start end n (Rejects r p) pair)

pub pairs-of : (r : PackageList) (start end n : ℕ) (p : Package) (old new : List (ℕ × ℕ)) → slice_get r.packages n ≡ Some p
    → Adds old new (IsWith r start end n (Rejects r p)) → Adds old new (IsPairOfPackage r start end n)
pairs-of r start end n p old new is adds =
    adds-same old new (IsWith r start end n (Rejects r p)) (IsPairOfPackage r start end n)
    (λ x here. at-has (λ (q : Package). IsWith r start end n (Rejects r q) x) r.packages n p is here)
    (λ x here. has-at (λ (q : Package). IsWith r start end n (Rejects r q) x) r.packages n p is here) adds

-- a package before a span has no pair that is looked for
pub none-before : (r : PackageList) (start end n : ℕ) (pair : ℕ × ℕ) → n < start → ¬ IsPairOfPackage r start end n pair
none-before r start end n pair before here =
    let Of : Package → Type 0 = λ p. IsWith r start end n (Rejects r p) pair in
    let p = some-element Of r.packages n here in
    let with : IsWith r start end n (Rejects r p) pair = has-at Of r.packages n p (element-is Of r.packages n here) here in
    elim with.1.is_pair.are [
      | inl h ↦ let low = with.0.0 in omega (arith, h.0, before)
      | inr h ↦ let low = with.0.0 in let rising = with.1.is_pair.rising in omega (arith, h.0, h.1, before)
    ]

pub rejecting-all : (r : PackageList) (start end count : ℕ) (old new : List (ℕ × ℕ)) → length r.packages ≤ count
    → AddsUpTo [] old (IsPairOfPackage r start end) count → ((x : ℕ × ℕ) → Contains new x → Contains old x) → ((x : ℕ × ℕ) → Contains old x → Contains new x)
    → (pair : ℕ × ℕ) → Contains new pair ↔ (IsPairIn start end pair × IsRejectingPair r pair)
rejecting-all r start end count old new past adds from to pair = (
  (λ there.
      let up = (adds-exact old (UpTo (IsPairOfPackage r start end) count) adds pair).0 (from pair there) in
      let Here : Package → Type 0 = λ p. IsWith r start end up.0 (Rejects r p) pair in
      let p = some-element Here r.packages up.0 up.2 in
      let is = element-is Here r.packages up.0 up.2 in
      let both = has-at Here r.packages up.0 p is up.2 in
      (both.0, (up.0, at-has (λ (q : Package). IsPairWith r up.0 (Rejects r q) pair) r.packages up.0 p is both.1))),
  λ both.
      let rejecting = both.1 in
      let n = rejecting.0 in
      to pair ((adds-exact old (UpTo (IsPairOfPackage r start end) count) adds pair).1 (
        n,
        omega (arith, past, within-from (λ p. IsPairWith r n (Rejects r p) pair) r.packages n rejecting.1),
        at-more (λ p. IsPairWith r n (Rejects r p) pair) (λ p. IsWith r start end n (Rejects r p) pair) (λ p with. (both.0, with)) r.packages n rejecting.1,
      )),
)
