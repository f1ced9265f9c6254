-- The least member that the conflict atoms of another one match.
use Rattle.std.proofs.Common.{◌≡◌, ◌⊎◌, ℕ, ◌+◌, ◌<◌, ◌≤◌, Bool, true, List, length, get_or, Some, None, Option, refl, sym, ap, ◌∙◌, subst, arith, inl, inr}
use Rattle.std.proofs.Common.{slice_get}
use Rattle.std.specs.Prelude.{Contains, IsSomeAnd}
use Rattle.std.proofs.lemmas.Bool.{cases_lt}
use Rattle.std.proofs.lemmas.List.{get_or_default}
use Rattle.std.proofs.lemmas.List.Kept.{AllPairs-from_increasing}
use Rattle.dist_base.specs.Least.{IsLeast, IsLeastIfAny}
use Rattle.dist_base.specs.ListLaws.{at-has, at-weaker, found-at, has-at, here-at, within-from}
use Rattle.dist_asked.specs.AskedLaws.{IsAskedAnd, IsByWidth, given-by}
use Rattle.dist_asked.specs.AskedPlaces.{AreEnough, IsPlaceAsked}
use Rattle.dist_relation.specs.declared.atom.Atom.{Atom}
use Rattle.dist_repo.specs.Match.{IsUsable, Matches}
use Rattle.dist_repo.specs.Offers.{AreMatched}
use Rattle.dist_repo.specs.PackageList.{PackageList}
use Rattle.dist_repo.specs.Providers.{AreProviders, IsProvider}
use Rattle.dist_repo.specs.declared.offers.Offer.{Offer}
use Rattle.dist_repo.specs.declared.package.Package.{Package}
use Rattle.dist_now.specs.RejectedPrivate.{IsOtherMember, IsRejected, IsRejectedBy}
use Rattle.dist_now.proofs.AddsLemmas.{UpTo}
use Rattle.dist_now.proofs.MatchedLemmas.{IsNumberAt, matched-at}
use Rattle.dist_now.proofs.MemberLemmas.{matched-provides}
use Rattle.dist_now.proofs.NumberLemmas.{matched-wider}

-- ---- one atom

-- a member that the atom matches is among the providers of its name
provider-place : (r : PackageList) (flags : List Bool) (number : ℕ) (atom : Atom) (providers : List ℕ) → AreProviders r atom.name providers → (n : ℕ)
    → IsRejectedBy r flags number atom n → Contains providers n
provider-place r flags number atom providers are n rejected =
    (are.exact n).1 (at-weaker (Matches r.architecture atom) (IsProvider r.architecture atom.name) r.packages n (matched-provides r.architecture atom)
    rejected.1.has)

-- none of so many of the first providers is one
abbrev pub IsNoneRejected : PackageList → List Bool → ℕ → Atom → List ℕ → ℕ → Type 0
IsNoneRejected r flags number atom providers count = (k : ℕ) → k < count → ¬ IsRejectedBy r flags number atom (get_or providers k 0)

pub none-rejected : (r : PackageList) (flags : List Bool) (number : ℕ) (atom : Atom) (providers : List ℕ) (count : ℕ) → length providers ≤ count
    → AreProviders r atom.name providers
    → IsNoneRejected r flags number atom providers count → (n : ℕ) → ¬ IsRejectedBy r flags number atom n
none-rejected r flags number atom providers count past are none n rejected =
    let there : Contains providers n = provider-place r flags number atom providers are n rejected in
    let is : get_or providers there.0 0 ≡ n = get_or_default providers there.0 0 n there.1 ∙ there.2 in
    let Of : ℕ → Type 0 = λ k. IsRejectedBy r flags number atom k in
    none there.0 (omega (arith, past, there.1)) (subst Of (sym is) rejected)

pub least-rejected : (r : PackageList) (flags : List Bool) (number : ℕ) (atom : Atom) (providers : List ℕ) (index : ℕ) → AreProviders r atom.name providers
    → IsNoneRejected r flags number atom providers index → IsRejectedBy r flags number atom (get_or providers index 0)
    → IsLeast (IsRejectedBy r flags number atom) (get_or providers index 0)
least-rejected r flags number atom providers index are none here = record {
  holds = here;
  least = λ n rejected.
      let there : Contains providers n = provider-place r flags number atom providers are n rejected in
      let is : get_or providers there.0 0 ≡ n = get_or_default providers there.0 0 n there.1 ∙ there.2 in
      let Of : ℕ → Type 0 = λ k. IsRejectedBy r flags number atom k in
      elim (cases_lt there.0 index) [
        | inl h ↦ absurd (none there.0 h (subst Of (sym is) rejected))
        | inr h ↦ elim (cases_lt index there.0) [
          | inl g ↦ let less = AllPairs-from_increasing providers are.rising index there.0 0 g there.1 in omega (arith, less, is)
          | inr g ↦ let same : index ≡ there.0 = omega arith in
              let at : get_or providers index 0 ≡ n = ap (λ (i : ℕ). get_or providers i 0) same ∙ is in omega (arith, at)
        ]
      ];
}

-- an atom that is not usable rejects none
pub unusable-rejected : (r : PackageList) (flags : List Bool) (number : ℕ) (atom : Atom) → ¬ IsUsable r.architecture atom.qualifier → (n : ℕ)
    → ¬ IsRejectedBy r flags number atom n
unusable-rejected r flags number atom not n rejected =
    let at = here-at (Matches r.architecture atom) r.packages n rejected.1.has in not at.holds.usable

-- ---- the least so far

up-split : (P : ℕ → ℕ → Type 0) (count n : ℕ) → UpTo P (count + 1) n → UpTo P count n ⊎ P count n
up-split P count n up =
    elim (cases_lt up.0 count) [
      | inl h ↦ inl (up.0, h, up.2)
      | inr h ↦ let same : up.0 ≡ count = omega (arith, up.1) in inr (subst (λ (i : ℕ). P i n) same up.2)
    ]

up-wider : (P : ℕ → ℕ → Type 0) (count n : ℕ) → UpTo P count n → UpTo P (count + 1) n
up-wider P count n up = (up.0, omega (arith, up.1), up.2)

up-here : (P : ℕ → ℕ → Type 0) (count n : ℕ) → P count n → UpTo P (count + 1) n
up-here P count n here = (count, omega arith, here)

pub least-none : (P : ℕ → ℕ → Type 0) (count : ℕ) (least : Option ℕ) → IsLeastIfAny (UpTo P count) least → ((n : ℕ) → ¬ P count n)
    → IsLeastIfAny (UpTo P (count + 1)) least
least-none P count None none here =
    λ n up. elim (up-split P count n up) [
      | inl h ↦ none n h
      | inr h ↦ here n h
    ]
least-none P count (Some m) least here = record {
  holds = up-wider P count m least.holds;
  least = λ n up. elim (up-split P count n up) [
    | inl h ↦ least.least n h
    | inr h ↦ absurd (here n h)
  ];
}

pub least-some : (P : ℕ → ℕ → Type 0) (count : ℕ) (least : Option ℕ) (other lesser : ℕ) → IsLeastIfAny (UpTo P count) least → IsLeast (P count) other
    → (least ≡ Some lesser) ⊎ (lesser ≡ other) → lesser ≤ other → ((n : ℕ) → least ≡ Some n → lesser ≤ n)
    → IsLeast (UpTo P (count + 1)) lesser
least-some P count None other lesser none here one at_most_other at_most_least = record {
  holds = elim one [
    | inl h ↦ cc
    | inr h ↦ subst (UpTo P (count + 1)) (sym h) (up-here P count other here.holds)
  ];
  least = λ n up. elim (up-split P count n up) [
    | inl h ↦ absurd (none n h)
    | inr h ↦ omega (arith, at_most_other, here.least n h)
  ];
}
least-some P count (Some m) other lesser least here one at_most_other at_most_least = record {
  holds = elim one [
    | inl h ↦ let same : m ≡ lesser = cc in subst (UpTo P (count + 1)) same (up-wider P count m least.holds)
    | inr h ↦ subst (UpTo P (count + 1)) (sym h) (up-here P count other here.holds)
  ];
  least = λ n up. elim (up-split P count n up) [
    | inl h ↦ omega (arith, at_most_least m refl, least.least n h)
    | inr h ↦ omega (arith, at_most_other, here.least n h)
  ];
}

least-same : (P Q : ℕ → Type 0) → ((n : ℕ) → P n → Q n) → ((n : ℕ) → Q n → P n) → (found : Option ℕ) → IsLeastIfAny P found → IsLeastIfAny Q found
least-same P Q to from None none = λ n holds. none n (from n holds)
least-same P Q to from (Some m) least = record { holds = to m least.holds; least = λ n holds. least.least n (from n holds) }

-- ---- the offers that an atom matches, as far as they were gone through

-- the offer at a place is of another member that the atom matches
abbrev pub IsOfferedAt : PackageList → List Bool → ℕ → Atom → List Offer → ℕ → ℕ → Type 0
IsOfferedAt r flags number atom offers i n = IsNumberAt offers i n × IsRejectedBy r flags number atom n

module _ (r : PackageList) (flags : List Bool) (number : ℕ) (atom : Atom) (offers : List Offer) where
  pub offered-not : (i : ℕ) (offer : Offer) → slice_get offers i ≡ Some offer → ¬ IsOtherMember flags number offer.number
      → (n : ℕ) → ¬ IsOfferedAt r flags number atom offers i n
  offered-not i offer is none n at =
      let same : offer.number ≡ n = has-at (λ (o : Offer). o.number ≡ n) offers i offer is at.0 in
      none (subst (IsOtherMember flags number) (sym same) (at.1.0, at.1.1.member))

  pub offered-one : AreMatched r atom offers → (i : ℕ) (offer : Offer) → slice_get offers i ≡ Some offer → IsOtherMember flags number offer.number
      → IsLeast (IsOfferedAt r flags number atom offers i) offer.number
  offered-one are i offer is other = record {
    holds = (
      at-has (λ (o : Offer). o.number ≡ offer.number) offers i offer is refl,
      (other.0, record { member = other.1; has = matched-at r atom offers are i offer is }),
    );
    least = λ n at. let same : offer.number ≡ n = has-at (λ (o : Offer). o.number ≡ n) offers i offer is at.0 in omega (arith, same);
  }

  pub offered-all : AreMatched r atom offers → (count : ℕ) (found : Option ℕ) → length offers ≤ count
      → IsLeastIfAny (UpTo (IsOfferedAt r flags number atom offers) count) found → IsLeastIfAny (IsRejectedBy r flags number atom) found
  offered-all are count found past least =
      least-same (UpTo (IsOfferedAt r flags number atom offers) count) (IsRejectedBy r flags number atom)
      (λ n up. up.2.1)
      (λ n rejected.
      let At : Offer → Type 0 = λ o. o.number ≡ n in
      let at = found-at At offers ((are n).1 rejected.1.has) in
      let there = at-has At offers at.place at.element at.is at.holds in
      (at.place, omega (arith, within-from At offers at.place there, past), (there, rejected)))
      found least

-- ---- the atoms of one package, as far as they were gone through

-- the atom at a place matches another member
abbrev pub IsRejectedAt : PackageList → List Bool → ℕ → List Atom → ℕ → ℕ → Type 0
IsRejectedAt r flags number atoms place k = IsSomeAnd (slice_get atoms place) (λ atom. IsRejectedBy r flags number atom k)

-- one of the first atoms does, of those that are asked
abbrev pub IsRejectedBefore : PackageList → List Bool → ℕ → List Bool → List Atom → ℕ → ℕ → Type 0
IsRejectedBefore r flags number marks atoms = UpTo (IsAskedAnd marks (IsRejectedAt r flags number atoms))

pub before-passed : (r : PackageList) (flags : List Bool) (number : ℕ) (marks : List Bool) (atoms : List Atom) (count : ℕ) (least : Option ℕ)
    → ¬ IsPlaceAsked marks count
    → IsLeastIfAny (IsRejectedBefore r flags number marks atoms count) least → IsLeastIfAny (IsRejectedBefore r flags number marks atoms (count + 1)) least
before-passed r flags number marks atoms count least passed before =
    least-none (IsAskedAnd marks (IsRejectedAt r flags number atoms)) count least before (λ n at. passed at.is_asked)

pub before-none : (r : PackageList) (flags : List Bool) (number : ℕ) (marks : List Bool) (atoms : List Atom) (count : ℕ) (atom : Atom) (least : Option ℕ)
    → slice_get atoms count ≡ Some atom
    → IsLeastIfAny (IsRejectedBefore r flags number marks atoms count) least → ((n : ℕ) → ¬ IsRejectedBy r flags number atom n)
    → IsLeastIfAny (IsRejectedBefore r flags number marks atoms (count + 1)) least
before-none r flags number marks atoms count atom least is before here =
    least-none (IsAskedAnd marks (IsRejectedAt r flags number atoms)) count least before
    (λ n at. here n (has-at (λ (a : Atom). IsRejectedBy r flags number a n) atoms count atom is at.has))

pub before-some : (r : PackageList) (flags : List Bool) (number : ℕ) (marks : List Bool) (atoms : List Atom) (count : ℕ) (atom : Atom) (least : Option ℕ)
    (other lesser : ℕ) → slice_get atoms count ≡ Some atom → IsPlaceAsked marks count
    → IsLeastIfAny (IsRejectedBefore r flags number marks atoms count) least → IsLeast (IsRejectedBy r flags number atom) other
    → (least ≡ Some lesser) ⊎ (lesser ≡ other) → lesser ≤ other → ((n : ℕ) → least ≡ Some n → lesser ≤ n)
    → IsLeast (IsRejectedBefore r flags number marks atoms (count + 1)) lesser
before-some r flags number marks atoms count atom least other lesser is is_asked before here one at_most_other at_most_least =
    least-some (IsAskedAnd marks (IsRejectedAt r flags number atoms)) count least other lesser before (record {
      holds = record { is_asked = is_asked; has = at-has (λ (a : Atom). IsRejectedBy r flags number a other) atoms count atom is here.holds };
      least = λ n at. here.least n (has-at (λ (a : Atom). IsRejectedBy r flags number a n) atoms count atom is at.has);
    }) one at_most_other at_most_least

-- a wider atom rejects no fewer members
rejected-wider : (r : PackageList) (flags : List Bool) (number : ℕ) → IsByWidth (IsRejectedBy r flags number)
rejected-wider r flags number atom other k within rejected =
    (rejected.0, record { member = rejected.1.member; has = matched-wider r atom other k within rejected.1.has })

-- all atoms of a member were gone through
pub rejected-all : (r : PackageList) (flags : List Bool) (number : ℕ) (marks : List Bool) (p : Package) (count : ℕ) (found : Option ℕ)
    → slice_get r.packages number ≡ Some p → slice_get flags number ≡ Some true → length p.conflicts ≤ count → AreEnough p.conflicts marks
    → IsLeastIfAny (IsRejectedBefore r flags number marks p.conflicts count) found → IsLeastIfAny (IsRejected r flags number) found
rejected-all r flags number marks p count found is member past enough least =
    least-same (IsRejectedBefore r flags number marks p.conflicts count) (IsRejected r flags number)
    (λ k before.
    let at = here-at (λ (a : Atom). IsRejectedBy r flags number a k) p.conflicts before.0 before.2.has in
    record { p = p; is = is; member = member; atom = at.element; place = before.0; is_atom = at.is; rejected = at.holds })
    (λ k rejected. let By : Atom → Type 0 = λ a. IsRejectedBy r flags number a k in
    let same : rejected.p ≡ p = cc in
    let there : slice_get p.conflicts rejected.place ≡ Some rejected.atom = ap (λ (q : Package). slice_get q.conflicts rejected.place) (sym same)
    ∙ rejected.is_atom in
    let by = given-by (IsRejectedBy r flags number) p.conflicts marks (rejected-wider r flags number) enough rejected.place k
    (at-has By p.conflicts rejected.place rejected.atom there rejected.rejected) in
    (by.place, omega (arith, past, by.short), by.given))
    found least
