-- Lists of variables to which those of meanings with a property are added, one after another.
use Rattle.std.proofs.Common.{◌≡◌, ◌⊎◌, ℕ, ◌+◌, ◌<◌, ◌≤◌, Bool, List, [], ◌∷◌, ◌++◌, length, get_or, take, drop, Some, refl, sym, ap, subst}
use Rattle.std.proofs.Common.{◌∙◌, inl, inr, arith, slice_get}
use Rattle.std.specs.Prelude.{◌↔◌, Any, Contains}
use Rattle.std.specs.List.Sorted.{IsStrictlyIncreasing}
use Rattle.std.proofs.lemmas.Bool.{cases_lt}
use Rattle.std.proofs.lemmas.List.{take-append-drop, take_all, take_more}
use Rattle.std.proofs.lemmas.List.Elements.{Contains-append_left, Contains-push, Contains-push_cases}
use Rattle.std.proofs.lemmas.Option.{get_or_from_slice_get, slice_get_within}
use Rattle.dist_asked.specs.AskedLaws.{GivesAt, IsAskedAnd, IsByWidth, given-by}
use Rattle.dist_asked.specs.AskedPlaces.{AreEnough, IsPlaceAsked}
use Rattle.dist_base.specs.ListLaws.{any-contained, at-has, found-at, has-at}
use Rattle.dist_relation.specs.declared.atom.Atom.{Atom}
use Rattle.dist_space_clauses.specs.GatheringPrivate.{Adds, AreVariablesOf, Gathers}
use Rattle.dist_space.specs.Space.{IsMeaning, SpaceView, variable_of}
use Rattle.dist_space.specs.declared.meaning.Meaning.{Meaning}

abbrev Property : Type 1
Property = Meaning → Type 0

-- ---- the first elements of a list

pub any-none : {X : Type 0} (P : X → Type 0) (xs : List X) → ¬ Any P (take 0 xs)
any-none P xs any = omega (arith, any.2)

pub any-take : {X : Type 0} (P : X → Type 0) (xs : List X) (k : ℕ) (x : X) → slice_get xs k ≡ Some x → Any P (take (k + 1) xs) → Any P (take k xs) ⊎ P x
any-take {X} P xs k x is any =
    let short = slice_get_within xs k x is in
    let here : get_or xs k x ≡ x = get_or_from_slice_get xs k x x is in
    let more : take (k + 1) xs ≡ take k xs ++ x ∷ [] = take_more xs k x short ∙ ap (λ y. take k xs ++ y ∷ []) here in
    let pushed : Any P (take k xs ++ x ∷ []) = subst (λ (ys : List X). Any P ys) more any in
    elim (Contains-push_cases (take k xs) x pushed.1 (pushed.0, pushed.2, pushed.3)) [
      | inl h ↦ inl (any-contained P (take k xs) pushed.1 h pushed.4)
      | inr h ↦ inr (subst P (sym h) pushed.4)
    ]

pub any-take-back : {X : Type 0} (P : X → Type 0) (xs : List X) (k : ℕ) (x : X) → slice_get xs k ≡ Some x → Any P (take k xs) ⊎ P x → Any P (take (k + 1) xs)
any-take-back {X} P xs k x is either =
    let short = slice_get_within xs k x is in
    let here : get_or xs k x ≡ x = get_or_from_slice_get xs k x x is in
    let more : take (k + 1) xs ≡ take k xs ++ x ∷ [] = take_more xs k x short ∙ ap (λ y. take k xs ++ y ∷ []) here in
    subst (λ (ys : List X). Any P ys) (sym more) (elim either [
      | inl any ↦ any-contained P (take k xs ++ x ∷ []) any.1 (Contains-append_left (take k xs) (x ∷ []) any.1 (any.0, any.2, any.3)) any.4
      | inr h ↦ any-contained P (take k xs ++ x ∷ []) x (Contains-push (take k xs) x) h
    ])

-- one of the first elements is one of all
pub any-first : {X : Type 0} (P : X → Type 0) (xs : List X) (k : ℕ) → Any P (take k xs) → Any P xs
any-first {X} P xs k any =
    any-contained P xs any.1 (subst (λ (ys : List X). Contains ys any.1) (take-append-drop k xs)
    (Contains-append_left (take k xs) (drop k xs) any.1 (any.0, any.2, any.3))) any.4

pub any-whole : {X : Type 0} (P : X → Type 0) (xs : List X) (k : ℕ) → length xs ≤ k → Any P xs → Any P (take k xs)
any-whole {X} P xs k past any = subst (λ (ys : List X). Any P ys) (sym (take_all k xs past)) any

-- ---- variables that were added

module _ (s : SpaceView) where
  pub gathers-nothing : (xs : List ℕ) (P Q : Property) → ((m : Meaning) → IsMeaning s m → Q m → ⊥) → Gathers s xs xs P Q
  gathers-nothing xs P Q none = record {
    kept = λ v there. there;
    only = λ v there. inl there;
    all = λ v with. absurd (none with.meaning with.is_meaning with.has);
  }

  pub gathers-weaker : (old new : List ℕ) (P R Q S : Property) → ((m : Meaning) → IsMeaning s m → P m → R m) → ((m : Meaning) → IsMeaning s m → S m → Q m)
      → Gathers s old new P Q → Gathers s old new R S
  gathers-weaker old new P R Q S to back of = record {
    kept = of.kept;
    only = λ v there. elim (of.only v there) [
      | inl first ↦ inl first
      | inr with ↦ inr (record {
        meaning = with.meaning;
        is_meaning = with.is_meaning;
        has = to with.meaning with.is_meaning with.has;
        variable_is = with.variable_is;
      })
    ];
    all = λ v with. of.all v (record {
      meaning = with.meaning;
      is_meaning = with.is_meaning;
      has = back with.meaning with.is_meaning with.has;
      variable_is = with.variable_is;
    });
  }

  pub gathers-both : (old mid new : List ℕ) (P Q R S : Property) → Gathers s old mid P Q → Gathers s mid new P R
      → ((m : Meaning) → IsMeaning s m → S m → Q m ⊎ R m) → Gathers s old new P S
  gathers-both old mid new P Q R S first second cases = record {
    kept = λ v there. second.kept v (first.kept v there);
    only = λ v there. elim (second.only v there) [
      | inl earlier ↦ first.only v earlier
      | inr with ↦ inr with
    ];
    all = λ v with. elim (cases with.meaning with.is_meaning with.has) [
      | inl here ↦ second.kept v (first.all v (record { meaning = with.meaning; is_meaning = with.is_meaning; has = here; variable_is = with.variable_is }))
      | inr here ↦ second.all v (record { meaning = with.meaning; is_meaning = with.is_meaning; has = here; variable_is = with.variable_is })
    ];
  }

  pub gathers-push : (xs : List ℕ) (m : Meaning) (variable : ℕ) → IsMeaning s m → variable ≡ variable_of s m → Adds s xs (xs ++ variable ∷ []) (λ x. x ≡ m)
  gathers-push xs m variable is value = record {
    kept = λ v there. Contains-append_left xs (variable ∷ []) v there;
    only = λ v there. elim (Contains-push_cases xs variable v there) [
      | inl first ↦ inl first
      | inr same ↦ inr (record { meaning = m; is_meaning = is; has = refl; variable_is = sym value ∙ same })
    ];
    all = λ v with. subst (λ (w : ℕ). Contains (xs ++ variable ∷ []) w) (value ∙ ap (variable_of s) (sym with.has) ∙ with.variable_is)
        (Contains-push xs variable);
  }

  -- the same variables were there
  pub gathers-from : (old mid new : List ℕ) (P Q : Property) → ((v : ℕ) → Contains mid v ↔ Contains old v) → Gathers s mid new P Q → Gathers s old new P Q
  gathers-from old mid new P Q same of = record {
    kept = λ v there. of.kept v ((same v).1 there);
    only = λ v there. elim (of.only v there) [ inl first ↦ inl ((same v).0 first) | inr with ↦ inr with ];
    all = of.all;
  }

  -- one of the meanings with a property, or none
  pub gathers-one : (old new : List ℕ) (m : Meaning) (P : Property) → P m → Adds s old new (λ x. x ≡ m) → Adds s old new (λ x. (x ≡ m) × P x)
  gathers-one old new m P holds of = gathers-weaker old new (λ x. x ≡ m) (λ x. (x ≡ m) × P x) (λ x. x ≡ m) (λ x. (x ≡ m) × P x)
      (λ x is same. (same, subst P (sym same) holds)) (λ x is both. both.0) of

  pub gathers-not : (xs : List ℕ) (m : Meaning) (P : Property) → ¬ P m → Adds s xs xs (λ x. (x ≡ m) × P x)
  gathers-not xs m P fails = gathers-nothing xs (λ x. (x ≡ m) × P x) (λ x. (x ≡ m) × P x) (λ x is both. fails (subst P both.0 both.1))

  -- ---- for each element of a list

  module _ {X : Type 0} (P : Property) (Q : X → Property) (xs : List X) where
    pub each-none : (old : List ℕ) → Gathers s old old P (λ m. Any (λ x. Q x m) (take 0 xs))
    each-none old = gathers-nothing old P (λ m. Any (λ x. Q x m) (take 0 xs)) (λ m is any. any-none (λ x. Q x m) xs any)

    pub each-more : (old mid new : List ℕ) (k : ℕ) (x : X) → slice_get xs k ≡ Some x → Gathers s old mid P (λ m. Any (λ y. Q y m) (take k xs))
        → Gathers s mid new P (Q x) → Gathers s old new P (λ m. Any (λ y. Q y m) (take (k + 1) xs))
    each-more old mid new k x is first second =
        gathers-both old mid new P (λ m. Any (λ y. Q y m) (take k xs)) (Q x) (λ m. Any (λ y. Q y m) (take (k + 1) xs)) first second
        (λ m meaning any. any-take (λ y. Q y m) xs k x is any)

    pub each-whole : (old new : List ℕ) (k : ℕ) → length xs ≤ k → Gathers s old new P (λ m. Any (λ y. Q y m) (take k xs))
        → Gathers s old new P (λ m. Any (λ y. Q y m) xs)
    each-whole old new k past of = gathers-weaker old new P P (λ m. Any (λ y. Q y m) (take k xs)) (λ m. Any (λ y. Q y m) xs) (λ m is p. p)
        (λ m is any. any-whole (λ y. Q y m) xs k past any) of

  -- ---- for each number below another one

  abbrev pub UpTo : (ℕ → Property) → ℕ → Property
  UpTo Q count m = (i : ℕ) × (i < count) × Q i m

  pub count-none : (old : List ℕ) (P : Property) (Q : ℕ → Property) → Gathers s old old P (UpTo Q 0)
  count-none old P Q = gathers-nothing old P (UpTo Q 0) (λ m is up. absurd (omega (arith, up.1)))

  pub count-more : (old mid new : List ℕ) (P : Property) (Q : ℕ → Property) (k : ℕ) → Gathers s old mid P (UpTo Q k) → Gathers s mid new P (Q k)
      → Gathers s old new P (UpTo Q (k + 1))
  count-more old mid new P Q k first second =
      gathers-both old mid new P (UpTo Q k) (Q k) (UpTo Q (k + 1)) first second (λ m is up. elim (cases_lt up.0 k) [
        | inl less ↦ inl (up.0, less, up.2)
        | inr most ↦ let same : up.0 ≡ k = omega (arith, up.1) in inr (subst (λ (i : ℕ). Q i m) same up.2)
      ])

  -- ---- for each atom of a list at a place that is asked

  -- what those at the first places give
  abbrev pub AskedUpTo : (Atom → Property) → List Atom → List Bool → ℕ → Property
  AskedUpTo Gives atoms marks = UpTo (IsAskedAnd marks (GivesAt Gives atoms))

  module _ (P : Property) (Gives : Atom → Property) (atoms : List Atom) (marks : List Bool) where
    pub asked-more : (old mid new : List ℕ) (k : ℕ) (atom : Atom) → slice_get atoms k ≡ Some atom → IsPlaceAsked marks k
        → Gathers s old mid P (AskedUpTo Gives atoms marks k) → Gathers s mid new P (Gives atom)
        → Gathers s old new P (AskedUpTo Gives atoms marks (k + 1))
    asked-more old mid new k atom is is_asked first second =
        count-more old mid new P (IsAskedAnd marks (GivesAt Gives atoms)) k first
        (gathers-weaker mid new P P (Gives atom) (IsAskedAnd marks (GivesAt Gives atoms) k) (λ m meaning p. p)
        (λ m meaning here. has-at (λ (a : Atom). Gives a m) atoms k atom is here.has) second)

    pub asked-passed : (old new : List ℕ) (k : ℕ) → ¬ IsPlaceAsked marks k → Gathers s old new P (AskedUpTo Gives atoms marks k)
        → Gathers s old new P (AskedUpTo Gives atoms marks (k + 1))
    asked-passed old new k passed first =
        count-more old new new P (IsAskedAnd marks (GivesAt Gives atoms)) k first
        (gathers-nothing new P (IsAskedAnd marks (GivesAt Gives atoms) k) (λ m meaning here. passed here.is_asked))

    -- all were gone through: what those that are asked give is what all give
    pub asked-whole : (old new : List ℕ) (k : ℕ) → length atoms ≤ k → IsByWidth Gives → AreEnough atoms marks
        → Gathers s old new P (AskedUpTo Gives atoms marks k) → Gathers s old new P (λ m. Any (λ atom. Gives atom m) atoms)
    asked-whole old new k past wide enough of =
        gathers-weaker old new P P (AskedUpTo Gives atoms marks k) (λ m. Any (λ atom. Gives atom m) atoms) (λ m meaning p. p)
        (λ m meaning any.
        let found = found-at (λ (atom : Atom). Gives atom m) atoms any in
        let by = given-by Gives atoms marks wide enough found.place m
        (at-has (λ (atom : Atom). Gives atom m) atoms found.place found.element found.is found.holds) in
        (by.place, omega (arith, by.short, past), by.given)) of

  -- ---- in order

  pub in-order : (gathered variables : List ℕ) (P Q : Property) → ((m : Meaning) → IsMeaning s m → P m → Q m) → Gathers s [] gathered P Q
      → IsStrictlyIncreasing variables
      → ((v : ℕ) → Contains variables v ↔ Contains gathered v) → AreVariablesOf s Q variables
  in-order gathered variables P Q to of rising same = record {
    rising = rising;
    exact = λ v. (
      (λ there. elim (of.only v ((same v).0 there)) [
        | inl none ↦ absurd (omega (arith, none.1))
        | inr with ↦ record {
          meaning = with.meaning;
          is_meaning = with.is_meaning;
          has = to with.meaning with.is_meaning with.has;
          variable_is = with.variable_is;
        }
      ]),
      λ with. (same v).1 (of.all v with),
    );
  }
