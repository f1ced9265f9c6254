-- The members of an installation, and what they meet.
use Rattle.std.proofs.Common.{◌≡◌, ℕ, zero, suc, ◌<◌, ◌≤◌, Bool, true, false, List, [], ◌∷◌, length, get_or, None, Some, Option}
use Rattle.std.proofs.Common.{refl, sym, subst, ◌∙◌, arith, inl}
use Rattle.std.proofs.Common.{inr, slice_get}
use Rattle.std.specs.Prelude.{Any, Contains, IfSome, IsSomeAnd}
use Rattle.std.proofs.lemmas.List.{get_or_default}
use Rattle.dist_base.specs.ListLaws.{any-cases, any-head, any-later, any-more, at-has, at-more, at-weaker}
use Rattle.dist_asked.specs.Within.{IsWithin}
use Rattle.dist_relation.specs.declared.atom.Atom.{Atom}
use Rattle.dist_relation.specs.Satisfies.{Satisfies}
use Rattle.dist_relation.specs.declared.atom.Bound.{Bound}
use Rattle.dist_repo.specs.Match.{IsUsable, Matches, MatchesByEntry}
use Rattle.dist_repo.specs.PackageList.{PackageList, IsPackageAnd}
use Rattle.dist_repo.specs.Providers.{AreProviders, IsEntryOf, IsProvider}
use Rattle.dist_repo.specs.declared.package.Package.{Package}
use Rattle.dist_now.specs.Members.{IsMemberAnd, members_of}
use Rattle.dist_now.specs.WithinLaws.{matches-within}

pub member-any : (P : Package → Type 0) (packages : List Package) (flags : List Bool) (k : ℕ) → slice_get flags k ≡ Some true → IsPackageAnd packages k P
    → Any P (members_of packages flags)
member-any P [] flags k member here = absurd here
member-any P (p ∷ packages) [] k member here = cc
member-any P (p ∷ packages) (true ∷ flags) zero member here = any-head P p (members_of packages flags) here
member-any P (p ∷ packages) (false ∷ flags) zero member here = cc
member-any P (p ∷ packages) (true ∷ flags) (suc k) member here = any-later P p (members_of packages flags) (member-any P packages flags k member here)
member-any P (p ∷ packages) (false ∷ flags) (suc k) member here = member-any P packages flags k member here

-- some member, by its number
pub record SomeMember (P : Package → Type 0) (packages : List Package) (flags : List Bool) : Type 0 where
  pub number : ℕ
  pub member : slice_get flags number ≡ Some true
  pub has : IsPackageAnd packages number P

next-member : (P : Package → Type 0) (p : Package) (packages : List Package) (b : Bool) (flags : List Bool) → SomeMember P packages flags
    → SomeMember P (p ∷ packages) (b ∷ flags)
next-member P p packages b flags m = record { number = suc m.number; member = m.member; has = m.has }

pub any-member : (P : Package → Type 0) (packages : List Package) (flags : List Bool) → Any P (members_of packages flags) → SomeMember P packages flags
any-member P [] flags any = absurd (omega (arith, any.2))
any-member P (p ∷ packages) [] any = absurd (omega (arith, any.2))
any-member P (p ∷ packages) (true ∷ flags) any = elim (any-cases P p (members_of packages flags) any) [
  | inl here ↦ record { number = 0; member = refl; has = here }
  | inr later ↦ next-member P p packages true flags (any-member P packages flags later)
]
any-member P (p ∷ packages) (false ∷ flags) any = next-member P p packages false flags (any-member P packages flags any)

-- a package that an atom matches has or provides the atom's name
pub matched-provides : (architecture : Option (List ℕ)) (atom : Atom) (p : Package) → Matches architecture atom p → IsProvider architecture atom.name p
matched-provides architecture atom p matches =
    elim matches.matched [
      | inl by_name ↦ inl by_name.name
      | inr any ↦ let by_entry : MatchesByEntry architecture atom any.1 = any.4 in inr (any.0, any.1, any.2, any.3, (by_entry.usable, by_entry.name))
    ]

-- and a usable atom without a bound matches all that provide its name
pub provider-matches : (architecture : Option (List ℕ)) (atom : Atom) (p : Package) → IsUsable architecture atom.qualifier → atom.bound ≡ None
    → IsProvider architecture atom.name p → Matches architecture atom p
provider-matches architecture atom p usable unbounded provides = record {
  usable = usable;
  matched = elim provides [
    | inl named ↦ inl (record { name = named; bound = subst (λ (b : Option Bound). IfSome b (λ bound. Satisfies p.version bound)) (sym unbounded) tt })
    | inr any ↦ inr (any-more (IsEntryOf architecture atom.name) (MatchesByEntry architecture atom) (λ entry of. record {
      usable = of.0;
      name = of.1;
      bound = subst (λ (b : Option Bound). IfSome b (λ bound. IsSomeAnd entry.version (λ version. Satisfies version bound))) (sym unbounded) tt;
    }) p.provides any)
  ];
}

-- an atom that is not usable matches no member
pub unusable-none : (architecture : Option (List ℕ)) (atom : Atom) (members : List Package) → ¬ IsUsable architecture atom.qualifier
    → ¬ Any (Matches architecture atom) members
unusable-none architecture atom members not any = let matches : Matches architecture atom any.1 = any.4 in not matches.usable

-- the provider at a place is matched by such an atom
pub provider-matched : (r : PackageList) (atom : Atom) (providers : List ℕ) (k : ℕ) → IsUsable r.architecture atom.qualifier → atom.bound ≡ None
    → AreProviders r atom.name providers → k < length providers
    → IsPackageAnd r.packages (get_or providers k 0) (Matches r.architecture atom)
provider-matched r atom providers k usable unbounded are short =
    at-more (IsProvider r.architecture atom.name) (Matches r.architecture atom) (λ p is. provider-matches r.architecture atom p usable unbounded is)
    r.packages (get_or providers k 0)
    ((are.exact (get_or providers k 0)).0 (k, short, get_or_default providers k (get_or providers k 0) 0 short))

-- ---- the providers of a name, as far as they were gone through

-- none so far is a member with a property
abbrev pub IsNoneOf : PackageList → List Bool → (Package → Type 0) → List ℕ → ℕ → Type 0
IsNoneOf r flags Q providers count = (k : ℕ) → k < count → ¬ IsMemberAnd r.packages flags (get_or providers k 0) Q

-- no member has a property that only providers of the name have
pub none-of : (r : PackageList) (flags : List Bool) (name : List ℕ) (Q : Package → Type 0) (providers : List ℕ) (count : ℕ) → length providers ≤ count
    → AreProviders r name providers
    → ((p : Package) → Q p → IsProvider r.architecture name p) → IsNoneOf r flags Q providers count → ¬ Any Q (members_of r.packages flags)
none-of r flags name Q providers count past are provides none any =
    let m = any-member Q r.packages flags any in
    let here = at-weaker Q (IsProvider r.architecture name) r.packages m.number provides m.has in
    let there : Contains providers m.number = (are.exact m.number).1 here in
    let is : get_or providers there.0 0 ≡ m.number = get_or_default providers there.0 0 m.number there.1 ∙ there.2 in
    let Member : ℕ → Type 0 = λ n. IsMemberAnd r.packages flags n Q in
    none there.0 (omega (arith, there.1)) (subst Member (sym is) (record { member = m.member; has = m.has }))

abbrev pub IsNoneMatched : PackageList → List Bool → Atom → List ℕ → ℕ → Type 0
IsNoneMatched r flags atom = IsNoneOf r flags (Matches r.architecture atom)

pub none-matched : (r : PackageList) (flags : List Bool) (atom : Atom) (providers : List ℕ) (count : ℕ) → length providers ≤ count
    → AreProviders r atom.name providers → IsNoneMatched r flags atom providers count →
    ¬ Any (Matches r.architecture atom) (members_of r.packages flags)
none-matched r flags atom providers count past are none =
    none-of r flags atom.name (Matches r.architecture atom) providers count past are (matched-provides r.architecture atom) none

-- of this name
abbrev pub IsNamed : List ℕ → Package → Type 0
IsNamed name q = q.name ≡ name

pub none-named : (r : PackageList) (flags : List Bool) (name : List ℕ) (providers : List ℕ) (count : ℕ) → length providers ≤ count
    → AreProviders r name providers → IsNoneOf r flags (IsNamed name) providers count →
    ¬ Any (IsNamed name) (members_of r.packages flags)
none-named r flags name providers count past are none = none-of r flags name (IsNamed name) providers count past are (λ p is. inl is) none

-- a provider that is a member and that the atom matches
pub provider-any : (r : PackageList) (flags : List Bool) (atom : Atom) (number : ℕ) (p : Package) → slice_get flags number ≡ Some true
    → slice_get r.packages number ≡ Some p
    → Matches r.architecture atom p → Any (Matches r.architecture atom) (members_of r.packages flags)
provider-any r flags atom number p member here matches =
    member-any (Matches r.architecture atom) r.packages flags number member (at-has (Matches r.architecture atom) r.packages number p here matches)

-- some member meets an alternative
abbrev pub IsMetBy : PackageList → List Bool → Atom → Type 0
IsMetBy r flags atom = Any (Matches r.architecture atom) (members_of r.packages flags)

-- and so it meets a wider one
pub met-wider : (r : PackageList) (flags : List Bool) (atom other : Atom) → IsWithin atom other → IsMetBy r flags atom → IsMetBy r flags other
met-wider r flags atom other within met =
    any-more (Matches r.architecture atom) (Matches r.architecture other) (λ p matches. matches-within r.architecture atom other p within matches)
    (members_of r.packages flags) met

-- a member of a name
pub named-any : (r : PackageList) (flags : List Bool) (name : List ℕ) (number : ℕ) (p : Package) → slice_get flags number ≡ Some true
    → slice_get r.packages number ≡ Some p
    → p.name ≡ name → Any (IsNamed name) (members_of r.packages flags)
named-any r flags name number p member here is =
    member-any (IsNamed name) r.packages flags number member (at-has (IsNamed name) r.packages number p here is)
