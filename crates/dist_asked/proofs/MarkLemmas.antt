-- Atoms with their places, and marks.
use Rattle.std.proofs.Common.{◌≡◌, ℕ, ◌+◌, ◌<◌, ◌≤◌, Bool, true, List, [], ◌∷◌, ◌++◌, length, get_or, set, Some, refl, sym, ap, subst, ◌∙◌}
use Rattle.std.proofs.Common.{arith, inl, inr, slice_get}
use Rattle.std.specs.Prelude.{Contains, IsSomeAnd}
use Rattle.std.specs.List.Sorted.{IsPermutation}
use Rattle.std.proofs.lemmas.Bool.{cases_eq, cases_lt}
use Rattle.std.proofs.lemmas.List.{get_or-set_other, get_or-set_same}
use Rattle.std.proofs.lemmas.List.Elements.{Contains-append_left, Contains-push, Contains-push_cases}
use Rattle.std.proofs.lemmas.List.Sorted.{Contains-permutation, IsPermutation-sym}
use Rattle.std.proofs.lemmas.Option.{slice_get_read, slice_get_within}
use Rattle.dist_base.specs.ListLaws.{at-has, contains-at, has-at, here-at, place-of, same-at}
use Rattle.dist_relation.specs.declared.atom.Atom.{Atom}
use Rattle.dist_asked.specs.AskedPlaces.{AreEnough, IsPlaceAsked}
use Rattle.dist_asked.specs.PlacedPrivate.{PlacedAtom, AreAllOf, AreMarked, ArePlacedBelow, HasMarked, IsMarkedAt, IsWiderAt}
use Rattle.dist_asked.specs.Within.{IsWithin}
use Rattle.dist_asked.proofs.WithinLemmas.{within-itself}

-- ---- the atoms of a list, as far as they were gone through

pub record AreAllTo (atoms : List Atom) (placed : List PlacedAtom) (count : ℕ) : Type 0 where
  pub sound : (p : PlacedAtom) → Contains placed p → slice_get atoms p.place ≡ Some p.atom
  pub whole : (place : ℕ) (atom : Atom) → place < count → slice_get atoms place ≡ Some atom
      → Contains placed (record { atom = atom; place = place })

pub all-none : (atoms : List Atom) → AreAllTo atoms [] 0
all-none atoms = record {
  sound = λ p there. absurd (omega (arith, there.1));
  whole = λ place atom short is. absurd (omega (arith, short));
}

all-more : (atoms : List Atom) (old new : List PlacedAtom) (p : PlacedAtom) → new ≡ old ++ p ∷ [] → slice_get atoms p.place ≡ Some p.atom
    → AreAllTo atoms old p.place → AreAllTo atoms new (p.place + 1)
all-more atoms old new p pushed is are = subst (λ (list : List PlacedAtom). AreAllTo atoms list (p.place + 1)) (sym pushed) (record {
  sound = λ q there. elim (Contains-push_cases old p q there) [
    | inl earlier ↦ are.sound q earlier
    | inr same ↦ subst (λ (x : PlacedAtom). slice_get atoms x.place ≡ Some x.atom) same is
  ];
  whole = λ place atom short at. elim (cases_lt place p.place) [
    | inl less ↦ Contains-append_left old (p ∷ []) (record { atom = atom; place = place }) (are.whole place atom less at)
    | inr most ↦
        let here : place ≡ p.place = omega (arith, short, most) in
        let atom_is : p.atom ≡ atom = same-at atoms p.place p.atom atom is (ap (slice_get atoms) (sym here) ∙ at) in
        let same : ◌≡◌ {A = PlacedAtom} p (record { atom = atom; place = place }) = λ i. record { atom = atom_is i; place = sym here i } in
        subst (Contains (old ++ p ∷ [])) same (Contains-push old p)
  ];
})

pub all-pushed : (atoms : List Atom) (old new : List PlacedAtom) (p : PlacedAtom) (atom : Atom) (place : ℕ) → new ≡ old ++ p ∷ []
    → p ≡ record { atom = atom; place = place } → slice_get atoms place ≡ Some atom → AreAllTo atoms old place → AreAllTo atoms new (place + 1)
all-pushed atoms old new p atom place pushed made is are =
    all-more atoms old new (record { atom = atom; place = place }) (pushed ∙ ap (λ (q : PlacedAtom). old ++ q ∷ []) made) is are

pub all-whole : (atoms : List Atom) (placed : List PlacedAtom) (count : ℕ) → length atoms ≤ count → AreAllTo atoms placed count → AreAllOf atoms placed
all-whole atoms placed count past are = record {
  sound = are.sound;
  whole = λ place atom is. are.whole place atom (omega (arith, slice_get_within atoms place atom is, past)) is;
}

pub all-below : (atoms : List Atom) (placed : List PlacedAtom) → AreAllOf atoms placed → ArePlacedBelow placed (length atoms)
all-below atoms placed are p there = slice_get_within atoms p.place p.atom (are.sound p there)

-- ---- marks

pub asked-here : (marks : List Bool) (place : ℕ) → place < length marks → IsPlaceAsked (set marks place true) place
asked-here marks place short = get_or-set_same marks place true true short

pub asked-kept : (marks : List Bool) (at place : ℕ) → at < length marks → IsPlaceAsked marks place → IsPlaceAsked (set marks at true) place
asked-kept marks at place short is = elim (cases_eq place at) [
  | inl same ↦ subst (IsPlaceAsked (set marks at true)) (sym same) (asked-here marks at short)
  | inr apart ↦ get_or-set_other marks at place true true apart ∙ is
]

-- what was read at a place stands there
pub read-at : (placed : List PlacedAtom) (k : ℕ) (p : PlacedAtom) → k < length placed → p ≡ get_or placed k p → slice_get placed k ≡ Some p
read-at placed k p short read = slice_get_read placed (length placed) k p refl short read

pub has-mark : (placed : List PlacedAtom) (marks : List Bool) (k : ℕ) (p : PlacedAtom) (place : ℕ) → slice_get placed k ≡ Some p
    → place ≡ p.place → ArePlacedBelow placed (length marks) → place < length marks
has-mark placed marks k p place is place_is below =
    let short = below p (contains-at placed k p is) in omega (arith, short, place_is)

pub marked-at : (placed : List PlacedAtom) (marks : List Bool) (k : ℕ) (p : PlacedAtom) (place : ℕ) → slice_get placed k ≡ Some p
    → place ≡ p.place → place < length marks → IsMarkedAt placed (set marks place true) k
marked-at placed marks k p place is place_is short =
    at-has (λ (q : PlacedAtom). IsPlaceAsked (set marks place true) q.place) placed k p is
    (subst (IsPlaceAsked (set marks place true)) place_is (asked-here marks place short))

pub wider-itself : (placed : List PlacedAtom) (k : ℕ) (p : PlacedAtom) → slice_get placed k ≡ Some p → IsWiderAt placed k k
wider-itself placed k p is =
    at-has (λ (q : PlacedAtom). IsSomeAnd (slice_get placed k) (λ w. IsWithin q.atom w.atom)) placed k p is
    (at-has (λ (w : PlacedAtom). IsWithin p.atom w.atom) placed k p is (within-itself p.atom))

pub wider-from : (placed : List PlacedAtom) (wider k : ℕ) (w p : PlacedAtom) → slice_get placed wider ≡ Some w → slice_get placed k ≡ Some p
    → IsWithin p.atom w.atom → IsWiderAt placed wider k
wider-from placed wider k w p is_wider is within =
    at-has (λ (q : PlacedAtom). IsSomeAnd (slice_get placed wider) (λ x. IsWithin q.atom x.atom)) placed k p is
    (at-has (λ (x : PlacedAtom). IsWithin p.atom x.atom) placed wider w is_wider within)

has-marked : (placed : List PlacedAtom) (marks : List Bool) (wider k : ℕ) (p : PlacedAtom) → slice_get placed k ≡ Some p
    → IsMarkedAt placed marks wider → IsWiderAt placed wider k → HasMarked placed marks p.atom
has-marked placed marks wider k p is marked wide =
    let Marked : PlacedAtom → Type 0 = λ q. IsPlaceAsked marks q.place in
    let Wide : PlacedAtom → Type 0 = λ q. IsWithin p.atom q.atom in
    let here = here-at Marked placed wider marked in
    record {
      wider = here.element;
      there = contains-at placed wider here.element here.is;
      marked = here.holds;
      within = has-at Wide placed wider here.element here.is
          (has-at (λ (q : PlacedAtom). IsSomeAnd (slice_get placed wider) (λ x. IsWithin q.atom x.atom)) placed k p is wide);
    }

-- each of the first ones has one that is marked
abbrev pub AreMarkedTo : List PlacedAtom → List Bool → ℕ → Type 0
AreMarkedTo placed marks count = (k : ℕ) (p : PlacedAtom) → k < count → slice_get placed k ≡ Some p → HasMarked placed marks p.atom

pub marked-more : (placed : List PlacedAtom) (old new : List Bool) (count wider : ℕ) → ((place : ℕ) → IsPlaceAsked old place → IsPlaceAsked new place)
    → IsMarkedAt placed new wider → IsWiderAt placed wider count → AreMarkedTo placed old count → AreMarkedTo placed new (count + 1)
marked-more placed old new count wider kept marked wide are k p short is = elim (cases_lt k count) [
  | inl less ↦
      let had = are k p less is in
      record { wider = had.wider; there = had.there; marked = kept had.wider.place had.marked; within = had.within }
  | inr most ↦
      let here : k ≡ count = omega (arith, short, most) in
      has-marked placed new wider count p (ap (slice_get placed) (sym here) ∙ is) marked wide
]

pub marked-whole : (placed : List PlacedAtom) (marks : List Bool) (count : ℕ) → length placed ≤ count → AreMarkedTo placed marks count → AreMarked placed marks
marked-whole placed marks count past are p there =
    let at = place-of placed p there in
    are at.place p (omega (arith, slice_get_within placed at.place p at.is, past)) at.is

-- ---- in another order

pub below-moved : (old new : List PlacedAtom) (count : ℕ) → IsPermutation old new → ArePlacedBelow old count → ArePlacedBelow new count
below-moved old new count moved are p there = are p (Contains-permutation new old p (IsPermutation-sym old new moved) there)

pub marked-moved : (old new : List PlacedAtom) (marks : List Bool) → IsPermutation old new → AreMarked new marks → AreMarked old marks
marked-moved old new marks moved are p there =
    let had = are p (Contains-permutation old new p moved there) in
    record {
      wider = had.wider;
      there = Contains-permutation new old had.wider (IsPermutation-sym old new moved) had.there;
      marked = had.marked;
      within = had.within;
    }

-- ---- what is asked of a list

pub enough-all : (atoms : List Atom) → AreEnough atoms []
enough-all atoms atom there =
    let at = place-of atoms atom there in
    record { place = at.place; wider = atom; is_wider = at.is; is_asked = refl; within = within-itself atom }

pub enough-marked : (atoms : List Atom) (placed : List PlacedAtom) (marks : List Bool) → AreAllOf atoms placed → AreMarked placed marks → AreEnough atoms marks
enough-marked atoms placed marks all are atom there =
    let at = place-of atoms atom there in
    let had = are (record { atom = atom; place = at.place }) (all.whole at.place atom at.is) in
    record {
      place = had.wider.place;
      wider = had.wider.atom;
      is_wider = all.sound had.wider had.there;
      is_asked = had.marked;
      within = had.within;
    }
