-- Lists to which those with a property are added, one after another.
use Rattle.std.proofs.Common.{◌≡◌, ◌↔◌, ℕ, ◌+◌, ◌<◌, ◌≤◌, Bool, List, [], ◌∷◌, ◌++◌, length, subst, arith, inl, inr}
use Rattle.std.specs.Prelude.{Contains}
use Rattle.std.proofs.lemmas.Bool.{cases_lt}
use Rattle.std.proofs.lemmas.List.Elements.{Contains-append_left, Contains-push, Contains-push_cases}
use Rattle.dist_asked.specs.AskedLaws.{GivesAt, IsAskedAnd, IsByWidth, given-by}
use Rattle.dist_asked.specs.AskedPlaces.{AreEnough, IsPlaceAsked}
use Rattle.dist_relation.specs.declared.atom.Atom.{Atom}
use Rattle.dist_now.specs.GatheringPrivate.{Adds}

-- those that have the property of one of the first places
abbrev pub UpTo : {X : Type 0} → (ℕ → X → Type 0) → ℕ → X → Type 0
UpTo P count x = (i : ℕ) × (i < count) × P i x

abbrev pub AddsUpTo : {X : Type 0} → (old new : List X) → (ℕ → X → Type 0) → ℕ → Type 0
AddsUpTo old new P count = Adds old new (UpTo P count)

pub adds-none : {X : Type 0} (xs : List X) (P : ℕ → X → Type 0) (count : ℕ) → ((i : ℕ) (x : X) → i < count → ¬ P i x) → AddsUpTo xs xs P count
adds-none xs P count none x = (
  λ there. inl there,
  λ either. elim either [
    | inl there ↦ there
    | inr up ↦ absurd (none up.0 x up.1 up.2)
  ],
)

pub adds-more : {X : Type 0} (old mid new : List X) (P : ℕ → X → Type 0) (count : ℕ) → AddsUpTo old mid P count → Adds mid new (P count)
    → AddsUpTo old new P (count + 1)
adds-more old mid new P count before step x = (
  (λ there. elim ((step x).0 there) [
    | inl earlier ↦ elim ((before x).0 earlier) [
      | inl first ↦ inl first
      | inr up ↦ inr (up.0, omega (arith, up.1), up.2)
    ]
    | inr here ↦ inr (count, omega arith, here)
  ]),
  λ either. elim either [
    | inl first ↦ (step x).1 (inl ((before x).1 (inl first)))
    | inr up ↦ elim (cases_lt up.0 count) [
      | inl less ↦ (step x).1 (inl ((before x).1 (inr (up.0, less, up.2))))
      | inr most ↦ let same : up.0 ≡ count = omega (arith, up.1) in (step x).1 (inr (subst (λ (n : ℕ). P n x) same up.2))
    ]
  ],
)

pub adds-same : {X : Type 0} (old new : List X) (P Q : X → Type 0) → ((x : X) → P x → Q x) → ((x : X) → Q x → P x) → Adds old new P → Adds old new Q
adds-same old new P Q to from adds x = (
  (λ there. elim ((adds x).0 there) [
    | inl first ↦ inl first
    | inr p ↦ inr (to x p)
  ]),
  λ either. elim either [
    | inl first ↦ (adds x).1 (inl first)
    | inr q ↦ (adds x).1 (inr (from x q))
  ],
)

pub adds-one : {X : Type 0} (xs : List X) (y : X) (P : X → Type 0) → P y → ((x : X) → P x → y ≡ x) → Adds xs (xs ++ y ∷ []) P
adds-one xs y P holds only x = (
  (λ there. elim (Contains-push_cases xs y x there) [
    | inl first ↦ inl first
    | inr same ↦ inr (subst P same holds)
  ]),
  λ either. elim either [
    | inl first ↦ Contains-append_left xs (y ∷ []) x first
    | inr p ↦ subst (Contains (xs ++ y ∷ [])) (only x p) (Contains-push xs y)
  ],
)

pub adds-nothing : {X : Type 0} (xs : List X) (P : X → Type 0) → ((x : X) → ¬ P x) → Adds xs xs P
adds-nothing xs P none x = (
  λ there. inl there,
  λ either. elim either [
    | inl first ↦ first
    | inr p ↦ absurd (none x p)
  ],
)

-- what was added to nothing
pub adds-exact : {X : Type 0} (new : List X) (P : X → Type 0) → Adds [] new P → (x : X) → Contains new x ↔ P x
adds-exact new P adds x = (
  (λ there. elim ((adds x).0 there) [
    | inl first ↦ absurd (omega (arith, first.1))
    | inr p ↦ p
  ]),
  λ p. (adds x).1 (inr p),
)

-- the same ones in another list
pub adds-moved : {X : Type 0} (old mid new : List X) (P : X → Type 0) → ((x : X) → Contains new x ↔ Contains mid x) → Adds old mid P → Adds old new P
adds-moved old mid new P same adds x = ((λ there. (adds x).0 ((same x).0 there)), λ either. (same x).1 ((adds x).1 either))

-- at the places from one up to another nothing is added
pub adds-rest : {X : Type 0} (old new : List X) (P : ℕ → X → Type 0) (count more : ℕ) → count ≤ more
    → ((i : ℕ) (x : X) → count ≤ i → i < more → ¬ P i x) → AddsUpTo old new P count → AddsUpTo old new P more
adds-rest {X} old new P count more up none adds =
    adds-same old new (UpTo P count) (UpTo P more) (λ x here. (here.0, omega (arith, here.1), here.2)) from adds
  where
    from : (x : X) → UpTo P more x → UpTo P count x
    from x here = elim (cases_lt here.0 count) [
      | inl less ↦ (here.0, less, here.2)
      | inr past ↦ absurd (none here.0 x past here.1 here.2)
    ]

-- ---- by the places of a list that are asked

pub adds-asked : {X : Type 0} (old mid new : List X) (marks : List Bool) (P : ℕ → X → Type 0) (count : ℕ) → IsPlaceAsked marks count
    → AddsUpTo old mid (IsAskedAnd marks P) count → Adds mid new (P count) → AddsUpTo old new (IsAskedAnd marks P) (count + 1)
adds-asked old mid new marks P count is_asked before step =
    adds-more old mid new (IsAskedAnd marks P) count before
    (adds-same mid new (P count) (IsAskedAnd marks P count) (λ x here. record { is_asked = is_asked; has = here }) (λ x here. here.has) step)

pub adds-passed : {X : Type 0} (old new : List X) (marks : List Bool) (P : ℕ → X → Type 0) (count : ℕ) → ¬ IsPlaceAsked marks count
    → AddsUpTo old new (IsAskedAnd marks P) count → AddsUpTo old new (IsAskedAnd marks P) (count + 1)
adds-passed old new marks P count passed before =
    adds-more old new new (IsAskedAnd marks P) count before (adds-nothing new (IsAskedAnd marks P count) (λ x here. passed here.is_asked))

-- what they give is what all give
pub adds-enough : {X : Type 0} (old new : List X) (Gives : Atom → X → Type 0) (atoms : List Atom) (marks : List Bool) (count : ℕ) → length atoms ≤ count
    → IsByWidth Gives → AreEnough atoms marks → AddsUpTo old new (IsAskedAnd marks (GivesAt Gives atoms)) count → AddsUpTo old new (GivesAt Gives atoms) count
adds-enough old new Gives atoms marks count past wide enough adds =
    adds-same old new (UpTo (IsAskedAnd marks (GivesAt Gives atoms)) count) (UpTo (GivesAt Gives atoms) count)
    (λ x up. (up.0, up.1, up.2.has))
    (λ x up.
    let by = given-by Gives atoms marks wide enough up.0 x up.2 in
    (by.place, omega (arith, by.short, past), by.given))
    adds
