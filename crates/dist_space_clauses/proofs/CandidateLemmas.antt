-- The packages that may offer what an atom matches by new versions.
use Rattle.std.proofs.Common.{◌≡◌, ◌⊎◌, ℕ, ◌+◌, ◌<◌, ◌≤◌, List, [], ◌∷◌, ◌++◌, length, take, None, Some, Option, Ordering, Less, Equal}
use Rattle.std.proofs.Common.{Greater, is_eq, refl, subst, if◌then◌else◌, inl, inr, arith, slice_get}
use Rattle.std.specs.Prelude.{◌↔◌, Any, Contains, IfSome, IsSomeAnd}
use Rattle.std.proofs.lemmas.List.Elements.{Contains-append_cases, Contains-append_left, Contains-append_right, Contains-push, Contains-push_cases}
use Rattle.dist_asked.specs.Asked.{Adds}
use Rattle.dist_base.specs.ListLaws.{all-contained, any-at, at-has, here-at, within-from}
use Rattle.dist_version.specs.Order.{version_cmp}
use Rattle.dist_relation.specs.Satisfies.{Satisfies}
use Rattle.dist_relation.specs.declared.atom.Atom.{Atom}
use Rattle.dist_relation.specs.declared.atom.Provide.{Provide}
use Rattle.dist_repo.specs.Match.{IsUsable, Matches, MatchesByEntry}
use Rattle.dist_repo.specs.Offers.{AreMatched}
use Rattle.dist_repo.specs.declared.offers.Offer.{Offer}
use Rattle.dist_repo.specs.declared.package.Package.{Package}
use Rattle.dist_space_clauses.specs.GatheringPrivate.{IsLaterOf}
use Rattle.dist_space_clauses.specs.Moving.{AreCandidates, AreMovers, Entries, GoesAlong, IsMover, numbers_at}
use Rattle.dist_space.specs.Space.{IsMatchedBy, MeetsBound, SpaceView, example_at, member_classes, moved_entry, moved_version}
use Rattle.dist_space.specs.declared.meaning.Meaning.{Meaning}
use Rattle.dist_space.specs.declared.meaning.Meaning.TheVariants.{Now, Present, At, New, Kept, Fresh}
use Rattle.dist_space_clauses.proofs.Gathered.{any-first, any-none, any-take, any-take-back, any-whole}

-- ---- the packages of some offers

abbrev IsNumberOf : ℕ → Offer → Type 0
IsNumberOf k offer = offer.number ≡ k

abbrev pub IsOfFirst : List Offer → (count k : ℕ) → Type 0
IsOfFirst offers count k = Any (IsNumberOf k) (take count offers)

pub numbers-none : (xs : List ℕ) (offers : List Offer) → Adds xs xs (IsOfFirst offers 0)
numbers-none xs offers k = (
  (λ there. inl there),
  λ either. elim either [
    | inl h ↦ h
    | inr h ↦ absurd (any-none (IsNumberOf k) offers h)
  ],
)

pub numbers-more : (old mid : List ℕ) (offers : List Offer) (i : ℕ) (offer : Offer) → slice_get offers i ≡ Some offer → Adds old mid (IsOfFirst offers i)
    → Adds old (mid ++ offer.number ∷ []) (IsOfFirst offers (i + 1))
numbers-more old mid offers i offer is adds k = (
  (λ there. elim (Contains-push_cases mid offer.number k there) [
    | inl earlier ↦ elim ((adds k).0 earlier) [
      | inl h ↦ inl h
      | inr h ↦ inr (any-take-back (IsNumberOf k) offers i offer is (inl h))
    ]
    | inr same ↦ inr (any-take-back (IsNumberOf k) offers i offer is (inr same))
  ]),
  λ either. elim either [
    | inl h ↦ Contains-append_left mid (offer.number ∷ []) k ((adds k).1 (inl h))
    | inr h ↦ elim (any-take (IsNumberOf k) offers i offer is h) [
      | inl g ↦ Contains-append_left mid (offer.number ∷ []) k ((adds k).1 (inr g))
      | inr g ↦ subst (λ (n : ℕ). Contains (mid ++ offer.number ∷ []) n) g (Contains-push mid offer.number)
    ]
  ],
)

pub numbers-all : (old new : List ℕ) (offers : List Offer) (count : ℕ) → length offers ≤ count → Adds old new (IsOfFirst offers count)
    → Adds old new (λ k. Any (λ offer. offer.number ≡ k) offers)
numbers-all old new offers count past adds k = (
  (λ there. elim ((adds k).0 there) [
    | inl h ↦ inl h
    | inr h ↦ inr (any-first (IsNumberOf k) offers count h)
  ]),
  λ either. (adds k).1 (elim either [
    | inl h ↦ inl h
    | inr h ↦ inr (any-whole (IsNumberOf k) offers count past h)
  ]),
)

-- ---- an entry that does not go with its package is kept as it is

module _ (architecture : Option (List ℕ)) (atom : Atom) (p : Package) (example : List ℕ) where
  abbrev Meeting : Option (List ℕ) → Type 0
  Meeting version = IfSome atom.bound (λ bound. IsSomeAnd version (λ v. Satisfies v bound))

  by-order : (v : List ℕ) (o : Ordering) → version_cmp v p.version ≡ o → Meeting (if is_eq (version_cmp v p.version) then Some example else Some v)
      → (version_cmp v p.version ≡ Equal) ⊎ Meeting (Some v)
  by-order v Less is meets = inr (subst (λ (o : Ordering). Meeting (if is_eq o then Some example else Some v)) is meets)
  by-order v Equal is meets = inl is
  by-order v Greater is meets = inr (subst (λ (o : Ordering). Meeting (if is_eq o then Some example else Some v)) is meets)

  by-version : (version : Option (List ℕ)) → Meeting (moved_version p.version example version)
      → IsSomeAnd version (λ v. version_cmp v p.version ≡ Equal) ⊎ Meeting version
  by-version None meets = inr meets
  by-version (Some v) meets = by-order v (version_cmp v p.version) refl meets

  pub along-or-fixed : (entry : Provide) → MatchesByEntry architecture atom (moved_entry p.version example entry)
      → GoesAlong p entry ⊎ MatchesByEntry architecture atom entry
  along-or-fixed entry matches = elim (by-version entry.version matches.bound) [
    | inl along ↦ inl along
    | inr bound ↦ inr (record { usable = matches.usable; name = matches.name; bound = bound })
  ]

-- ---- all that match by new versions are there

module _ (s : SpaceView) (atom : Atom) (offers : List Offer) (entries : Entries) (matched : AreMatched s.repository atom offers)
    (movers : AreMovers s.repository entries) (usable : IsUsable s.repository.architecture atom.qualifier) where
  abbrev IsThere : ℕ → Type 0
  IsThere number = Any (IsNumberOf number) offers ⊎ Contains (numbers_at entries atom.name) number

  new-there : (number class : ℕ) → IsMatchedBy s atom (New number class) → IsThere number
  new-there number class matches =
      let Named : Package → Type 0 = λ p. (p.name ≡ atom.name) × MeetsBound atom (example_at (member_classes s number) class) in
      let here = here-at Named s.repository.packages number matches in
      inr ((movers atom.name number).1 (at-has (IsMover atom.name) s.repository.packages number here.element here.is (inl here.holds.0)))

  kept-there : (number class place : ℕ) → IsMatchedBy s atom (Kept number class place) → IsThere number
  kept-there number class place matches =
      let example = example_at (member_classes s number) class in
      let Entry : Package → Provide → Type 0 = λ p entry. MatchesByEntry s.repository.architecture atom (moved_entry p.version example entry) in
      let here = here-at (λ (p : Package). IsSomeAnd (slice_get p.provides place) (Entry p)) s.repository.packages number matches in
      let p = here.element in
      let at = here-at (Entry p) p.provides place here.holds in
      let entry = at.element in
      elim (along-or-fixed s.repository.architecture atom p example entry at.holds) [
        | inl along ↦ inr ((movers atom.name number).1 (at-has (IsMover atom.name) s.repository.packages number p here.is
            (inr (any-at (λ (e : Provide). GoesAlong p e × (e.name ≡ atom.name)) p.provides place entry at.is (along, at.holds.name)))))
        | inr fixed ↦ inl ((matched number).1 (at-has (Matches s.repository.architecture atom) s.repository.packages number p here.is
            (record { usable = usable; matched = inr (any-at (MatchesByEntry s.repository.architecture atom) p.provides place entry at.is fixed) })))
      ]

  there : (number : ℕ) (m : Meaning) → IsLaterOf number m → IsMatchedBy s atom m → IsThere number
  there number Now later matches = absurd later
  there number (Present r) later matches = absurd later
  there number (At c k) later matches = absurd later
  there number (New r k) later matches = subst IsThere later (new-there r k matches)
  there number (Kept r k j) later matches = subst IsThere later (kept-there r k j matches)
  there number (Fresh x k) later matches = absurd later

  within : (number : ℕ) → IsThere number → number < length s.repository.packages
  within number either = elim either [
    | inl offered ↦ within-from (Matches s.repository.architecture atom) s.repository.packages number ((matched number).0 offered)
    | inr mover ↦ within-from (IsMover atom.name) s.repository.packages number ((movers atom.name number).0 mover)
  ]

  pub candidates-are : (first numbers : List ℕ) → Adds [] first (λ k. Any (λ offer. offer.number ≡ k) offers)
      → ((k : ℕ) → Contains numbers k ↔ Contains (first ++ numbers_at entries atom.name) k) → AreCandidates s atom numbers
  candidates-are first numbers adds same = record {
    within = all-contained (λ (number : ℕ). number < length s.repository.packages) numbers
        (λ k listed. within k (elim (Contains-append_cases first (numbers_at entries atom.name) k ((same k).0 listed)) [
          | inl h ↦ elim ((adds k).0 h) [
            | inl none ↦ absurd (omega (arith, none.1))
            | inr offered ↦ inl offered
          ]
          | inr h ↦ inr h
        ]));
    whole = λ number m later matches. (same number).1 (elim (there number m later matches) [
      | inl offered ↦ Contains-append_left first (numbers_at entries atom.name) number ((adds number).1 (inr offered))
      | inr mover ↦ Contains-append_right first (numbers_at entries atom.name) number mover
    ]);
  }
