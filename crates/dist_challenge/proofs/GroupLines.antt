-- What the installations of a claim are, with more lines behind the others.
use Rattle.std.proofs.Common.{◌≡◌, ◌≢◌, ◌⊎◌, ⊎_elim, inl, inr, ℕ, suc, ◌-◌, ◌<◌, ◌≤◌, Bool, true, false, List, [], ◌∷◌, ◌++◌, length, get_or}
use Rattle.std.proofs.Common.{refl, ap, sym, subst, ◌∙◌, arith, length-append, if◌then◌else◌}
use Rattle.std.specs.List.{All, Any, Contains, list_any}
use Rattle.std.proofs.lemmas.Bool.{cases_lt}
use Rattle.std.proofs.lemmas.List.{get_or_append_left, get_or-append_right, get_or_at}
use Rattle.std.proofs.lemmas.List.Elements.{Contains-get_or}
use Rattle.std.proofs.lemmas.Option.{get_or_from_slice_get, slice_get_within}
use Rattle.dist_base.specs.ListLaws.{any-cases, any-head, place-of}
use Rattle.dist_cert.specs.declared.records.CertRecord.{CertRecord}
use Rattle.dist_cert.specs.GroupLaws.{installations-append}
use Rattle.dist_cert.specs.Groups.{group, installation_at, installations, is_claim}
use Rattle.dist_space.specs.KeyLaws.{IsLess, cmp-less}
use Rattle.dist_space.specs.Space.{IsSpace, SpaceView, StandsBefore, key_of, variable_of}
use Rattle.dist_space.specs.VariableLaws.{one-meaning, variable-at}
use Rattle.dist_space.specs.declared.meaning.Meaning.{Meaning}
use Rattle.dist_space.specs.declared.meaning.Meaning.TheVariants.{Now, Present, At, New, Kept, Fresh}

-- ---- the variable of today is the first

not-less : (s : SpaceView) (m : Meaning) → IsLess (key_of s m) (0 ∷ []) → ⊥
not-less s Now (inl less) = omega (arith, less)
not-less s Now (inr rest) = rest.1
not-less s (Present r) (inl less) = omega (arith, less)
not-less s (Present r) (inr rest) = omega (arith, rest.0)
not-less s (At c k) (inl less) = omega (arith, less)
not-less s (At c k) (inr rest) = omega (arith, rest.0)
not-less s (New r k) (inl less) = omega (arith, less)
not-less s (New r k) (inr rest) = omega (arith, rest.0)
not-less s (Kept r k j) (inl less) = omega (arith, less)
not-less s (Kept r k j) (inr rest) = omega (arith, rest.0)
not-less s (Fresh x k) (inl less) = omega (arith, less)
not-less s (Fresh x k) (inr rest) = omega (arith, rest.0)

pub now-first : (s : SpaceView) → IsSpace s → variable_of s Now ≡ 1
now-first s space =
    let at = place-of s.meanings Now ((space.meanings.exact Now).1 (tt, tt)) in
    let variable = variable-at s Now at.place space.meanings.rising at.is in
    elim (cases_lt 0 at.place) [
      | inl some ↦
          let within = slice_get_within s.meanings at.place Now at.is in
          let stands : StandsBefore s (get_or s.meanings 0 Now) (get_or s.meanings at.place Now) = space.meanings.rising 0 at.place Now some within in
          let here : StandsBefore s (get_or s.meanings 0 Now) Now =
          subst (λ (m : Meaning). StandsBefore s (get_or s.meanings 0 Now) m) (get_or_from_slice_get s.meanings at.place Now Now at.is) stands in
          absurd (not-less s (get_or s.meanings 0 Now) (cmp-less (key_of s (get_or s.meanings 0 Now)) (0 ∷ []) here))
      | inr none ↦ omega (arith, none, variable)
    ]

pub not-first : (s : SpaceView) (r : ℕ) → IsSpace s → r < length s.repository.packages → variable_of s (Present r) ≢ 1
not-first s r space within is = other (one-meaning s Now (Present r) space tt within (now-first s space ∙ sym is))
  where
    other : Now ≡ Present r → ⊥
    other e = cc

-- ---- the installations of a claim

-- of all installations and those of the group
abbrev pub SomeOf : (all own : List (List ℕ)) (named : List ℕ) (variable : ℕ) → (List ℕ → Type 0) → Type 0
SomeOf all own named variable Holds = Any (λ number. Holds (get_or all (number - 1) [])) named
    ⊎ Any (λ members. Contains members variable × Holds members) own

pub any-append-left : {X : Type 0} (P : X → Type 0) (xs ys : List X) → Any P xs → Any P (xs ++ ys)
any-append-left P xs ys any = (any.0, any.1, omega (arith, any.2, length-append xs ys), get_or_append_left xs ys any.1 any.0 any.2 ∙ any.3, any.4)

pub any-append-right : {X : Type 0} (P : X → Type 0) (xs : List X) (y : X) → P y → Any P (xs ++ y ∷ [])
any-append-right P xs y holds = (length xs, y, omega (arith, length-append xs (y ∷ [])), get_or_at xs y [] y (length xs) refl, holds)

pub any-append-cases : {X : Type 0} (P : X → Type 0) (xs : List X) (y : X) → Any P (xs ++ y ∷ []) → Any P xs ⊎ P y
any-append-cases P [] y any = ⊎_elim (λ here. inr here) (λ none. absurd (omega (arith, none.2))) (any-cases P y [] any)
any-append-cases P (x ∷ xs) y any = ⊎_elim (λ here. inl (any-head P x xs here))
    (λ later. ⊎_elim (λ left. inl (suc left.0, left.1, omega (arith, left.2), left.3, left.4)) (λ right. inr right) (any-append-cases P xs y later))
    (any-cases P x (xs ++ y ∷ []) any)

-- the named installations stay where they are
named-again : (P : List ℕ → Type 0) (all : List (List ℕ)) (members : List ℕ) (named : List ℕ) → All (λ n. (1 ≤ n) × (n ≤ length all)) named
    → Any (λ n. P (get_or all (n - 1) [])) named → Any (λ n. P (get_or (all ++ members ∷ []) (n - 1) [])) named
named-again P all members named inside any =
    let range = inside any.0 any.1 any.2 in (
      any.0,
      any.1,
      any.2,
      any.3,
      subst P (sym (get_or_append_left all (members ∷ []) [] (any.1 - 1) (bound any.1 (subst (λ (n : ℕ). (1 ≤ n) × (n ≤ length all)) any.3 range)))) any.4,
    )
  where
    bound : (n : ℕ) → (1 ≤ n) × (n ≤ length all) → n - 1 < length all
    bound n range = omega (arith, range.0, range.1)

named-back : (P : List ℕ → Type 0) (all : List (List ℕ)) (members : List ℕ) (named : List ℕ) → All (λ n. (1 ≤ n) × (n ≤ length all)) named
    → Any (λ n. P (get_or (all ++ members ∷ []) (n - 1) [])) named → Any (λ n. P (get_or all (n - 1) [])) named
named-back P all members named inside any =
    let range = inside any.0 any.1 any.2 in (
      any.0,
      any.1,
      any.2,
      any.3,
      subst P (get_or_append_left all (members ∷ []) [] (any.1 - 1) (bound any.1 (subst (λ (n : ℕ). (1 ≤ n) × (n ≤ length all)) any.3 range))) any.4,
    )
  where
    bound : (n : ℕ) → (1 ≤ n) × (n ≤ length all) → n - 1 < length all
    bound n range = omega (arith, range.0, range.1)

-- one installation more in the group
pub some-more : (P : List ℕ → Type 0) (all own : List (List ℕ)) (members : List ℕ) (named : List ℕ) (variable : ℕ)
    → All (λ n. (1 ≤ n) × (n ≤ length all)) named → SomeOf all own named variable P → SomeOf (all ++ members ∷ []) (own ++ members ∷ []) named variable P
some-more P all own members named variable inside (inl any) = inl (named-again P all members named inside any)
some-more P all own members named variable inside (inr any) = inr (any-append-left (λ ms. Contains ms variable × P ms) own (members ∷ []) any)

pub some-new : (P : List ℕ → Type 0) (all own : List (List ℕ)) (members : List ℕ) (named : List ℕ) (variable : ℕ) → Contains members variable → P members
    → SomeOf (all ++ members ∷ []) (own ++ members ∷ []) named variable P
some-new P all own members named variable has holds = inr (any-append-right (λ ms. Contains ms variable × P ms) own members (has, holds))

pub some-back : (P : List ℕ → Type 0) (all own : List (List ℕ)) (members : List ℕ) (named : List ℕ) (variable : ℕ)
    → All (λ n. (1 ≤ n) × (n ≤ length all)) named → SomeOf (all ++ members ∷ []) (own ++ members ∷ []) named variable P
    → SomeOf all own named variable P ⊎ P members
some-back P all own members named variable inside (inl any) = inl (inl (named-back P all members named inside any))
some-back P all own members named variable inside (inr any) =
    ⊎_elim (λ old. inl (inr old)) (λ new. inr new.1) (any-append-cases (λ ms. Contains ms variable × P ms) own members any)

-- ---- the latest installation is of the group

pub group-ends : (lines : List CertRecord) → (front : List CertRecord) × (lines ≡ front ++ group lines)
group-ends [] = ([], refl)
group-ends (s ∷ lines) = by (list_any is_claim (s ∷ lines)) (group-ends lines)
  where
    by : (b : Bool) → (front : List CertRecord) × (lines ≡ front ++ group lines) → (front : List CertRecord)
        × (s ∷ lines ≡ front ++ (if b then group lines else s ∷ lines))
    by true rest = (s ∷ rest.0, ap (λ (ls : List CertRecord). s ∷ ls) rest.1)
    by false rest = ([], refl)

last-of : (front ms : List (List ℕ)) → 0 < length ms → Contains ms (get_or (front ++ ms) (length (front ++ ms) - 1) [])
last-of front ms some =
    let size = length-append front ms in
    let past : length front ≤ length (front ++ ms) - 1 = omega (arith, size, some) in
    subst (λ (members : List ℕ). Contains ms members) (sym (get_or-append_right front ms (length front) (length (front ++ ms) - 1) [] refl past))
    (Contains-get_or ms (length (front ++ ms) - 1 - length front) [] (omega (arith, size, some)))

pub latest-of : (before : List CertRecord) → 0 < length (installations (group before))
    → Contains (installations (group before)) (installation_at before (length (installations before)))
latest-of before some =
    let ends = group-ends before in
    let are : installations before ≡ installations ends.0 ++ installations (group before) = ap installations ends.1
    ∙ installations-append ends.0 (group before) in
    subst (λ (ms : List (List ℕ)). Contains (installations (group before)) (get_or ms (length ms - 1) [])) (sym are)
    (last-of (installations ends.0) (installations (group before)) some)

pub group-few : (before : List CertRecord) → length (installations (group before)) ≤ length (installations before)
group-few before =
    let ends = group-ends before in
    let size = ap length (ap installations ends.1 ∙ installations-append ends.0 (group before)) in
    omega (arith, size, length-append (installations ends.0) (installations (group before)))
