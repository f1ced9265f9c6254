-- The trail: its decisions are few and in their order; one literal more, one decision more, and back to a decision.
use Rattle.std.proofs.Common.{◌≡◌, ◌≢◌, ℕ, zero, suc, ◌<◌, ◌≤◌, Bool, true, false, not, List, [], ◌∷◌, ◌++◌, length, get_or, set, take, refl, ap, sym}
use Rattle.std.proofs.Common.{subst, ◌∙◌, inl, inr, arith, ◌⊎◌}
use Rattle.std.specs.List.{All, AllPairs, Contains}
use Rattle.std.proofs.lemmas.List.{length_push, get_or_push, get_or_append_left, get_or_default, get_or-set_same, get_or-set_other, length-set}
use Rattle.std.proofs.lemmas.List.{length-take-le}
use Rattle.std.proofs.lemmas.List.{get_or-take}
use Rattle.std.proofs.lemmas.Bool.{cases_eq}
use Rattle.std.proofs.lemmas.List.Quantifiers.{all_pairs_push}
use Rattle.std.proofs.lemmas.List.Elements.{All-push, All-weaker}
use Rattle.dist_clause.specs.Formula.{Literal, literal}
use Rattle.dist_derive.specs.Propagation.{IsUnset}
use Rattle.dist_derive.specs.TrueLiterals.{LiteralList}
use Rattle.dist_search.specs.Trail.{literal_at}
use Rattle.dist_search.specs.TrailPrivate.{IsTrailKept}

at_least_place : (starts : List ℕ) (k : ℕ) → AllPairs (λ s t. s < t) starts → k < length starts → k ≤ get_or starts k 0
at_least_place starts zero rising within = omega arith
at_least_place starts (suc k) rising within =
    let before = at_least_place starts k rising (omega (arith, within)) in
    let step = rising k (suc k) 0 (omega arith) within in
    omega (arith, before, step)

-- numbers that rise below a bound are no more than it
pub rising_few : (starts : List ℕ) (n : ℕ) → AllPairs (λ s t. s < t) starts → All (λ s. s < n) starts → length starts ≤ n
rising_few [] n rising below = omega arith
rising_few (s ∷ starts) n rising below =
    let least = at_least_place (s ∷ starts) (length starts) rising (omega arith) in
    let last = below (length starts) 0 (omega arith) in
    omega (arith, least, last)

-- what stands before a start that is not behind a place is not behind it
pub rising_before : (starts : List ℕ) (last place : ℕ) → AllPairs (λ s t. s < t) starts → last < length starts → get_or starts last 0 ≤ place
    → (k : ℕ) → k ≤ last → get_or starts k 0 ≤ place
rising_before starts last place rising within at k to = elim (cases_eq k last) [
  | inl same ↦ subst (λ i. get_or starts i 0 ≤ place) (sym same) at
  | inr other ↦
      let less = rising k last 0 (omega (arith, to, other)) within in
      omega (arith, less, at)
]

-- a literal that is unset has a variable of its own
pub unset_apart : (trues : List Literal) (l m : Literal) → IsUnset trues l → Contains trues m → m.variable ≢ l.variable
unset_apart trues l m unset here e = elim (cases_sign m.positive l.positive) [
  | inl same ↦ unset.0 (subst (λ x. Contains trues x) (ap (λ v. literal v m.positive) e ∙ ap (λ b. literal l.variable b) same) here)
  | inr other ↦ unset.1 (subst (λ x. Contains trues x) (ap (λ v. literal v m.positive) e ∙ ap (λ b. literal l.variable b) other) here)
]
  where
    cases_sign : (a b : Bool) → (a ≡ b) ⊎ (a ≡ not b)
    cases_sign true true = inl refl
    cases_sign true false = inr refl
    cases_sign false true = inr refl
    cases_sign false false = inl refl

place_push : (literals : List Literal) (seats : List ℕ) (l : Literal) → IsUnset literals l → l.variable < length seats
    → ((k : ℕ) → k < length literals → get_or seats (literal_at literals k).variable 0 ≡ k)
    → (k : ℕ) → k < length (literals ++ l ∷ [])
    → get_or (set seats l.variable (length literals)) (literal_at (literals ++ l ∷ []) k).variable 0 ≡ k
place_push literals seats l unset room places k within = elim (cases_eq k (length literals)) [
  | inl last ↦
      let same : literal_at (literals ++ l ∷ []) k ≡ l = get_or_push literals l (literal 0 false) k (sym last) in
      ap (λ (x : Literal). get_or (set seats l.variable (length literals)) x.variable 0) same
      ∙ (get_or-set_same seats l.variable (length literals) 0 room ∙ sym last)
  | inr other ↦
      let before : k < length literals = omega (arith, within, other, length_push literals l) in
      let m = literal_at literals k in
      let same : literal_at (literals ++ l ∷ []) k ≡ m = get_or_append_left literals (l ∷ []) (literal 0 false) k before in
      let apart : m.variable ≢ l.variable = unset_apart literals l m unset (k, before, get_or_default literals k m (literal 0 false) before) in
      ap (λ (x : Literal). get_or (set seats l.variable (length literals)) x.variable 0) same
      ∙ (get_or-set_other seats l.variable m.variable (length literals) 0 apart ∙ places k before)
]

pub IsTrailKept-push : (trues : LiteralList) (numbers seats starts : List ℕ) (head capacity other : ℕ) (l : Literal) (number : ℕ)
    → IsTrailKept trues numbers seats starts head capacity other → IsUnset trues.literals l → l.variable ≤ trues.variables
    → length (trues.literals ++ l ∷ []) ≤ trues.variables
    → IsTrailKept (record trues { literals = trues.literals ++ l ∷ [] }) (numbers ++ number ∷ []) (set seats l.variable (length trues.literals)) starts head
    capacity other
IsTrailKept-push trues numbers seats starts head capacity other l number h unset in_range few =
    let long = length_push trues.literals l in
    record {
      stated = h.stated;
      few = few;
      reasons = omega (arith, long, length_push numbers number, h.reasons);
      room = omega (arith, length-set seats l.variable (length trues.literals), h.room);
      places = place_push trues.literals seats l unset (omega (arith, h.room, in_range)) h.places;
      rising = h.rising;
      decided = All-weaker (λ s. s < length trues.literals) (λ s. s < length (trues.literals ++ l ∷ [])) (λ s b. omega (arith, b, long)) starts h.decided;
      taken = h.taken;
      to_end = omega (arith, h.to_end, long);
      reason_room = h.reason_room;
      start_room = h.start_room;
    }

-- the last literal is a decision
pub IsTrailKept-decide : (trues : LiteralList) (numbers seats starts : List ℕ) (head capacity other start : ℕ)
    → IsTrailKept trues numbers seats starts head capacity other → All (λ s. s < start) starts → start < length trues.literals → start ≤ head
    → IsTrailKept trues numbers seats (starts ++ start ∷ []) head capacity other
IsTrailKept-decide trues numbers seats starts head capacity other start h before within taken = record {
  stated = h.stated;
  few = h.few;
  reasons = h.reasons;
  room = h.room;
  places = h.places;
  rising = all_pairs_push (λ s t. s < t) starts start h.rising before;
  decided = All-push (λ s. s < length trues.literals) starts start h.decided within;
  taken = All-push (λ s. s ≤ head) starts start h.taken taken;
  to_end = h.to_end;
  reason_room = h.reason_room;
  start_room = h.start_room;
}

-- a decision and what is behind it are taken back
pub IsTrailKept-back : (trues : LiteralList) (numbers seats starts : List ℕ) (head capacity other level : ℕ)
    → IsTrailKept trues numbers seats starts head capacity other → level < length starts
    → IsTrailKept (record trues { literals = take (get_or starts level 0) trues.literals }) (take (get_or starts level 0) numbers) seats (take level starts)
    (get_or starts level 0) capacity other
IsTrailKept-back trues numbers seats starts head capacity other level h within =
    let start = get_or starts level 0 in
    let inside : start < length trues.literals = h.decided level 0 within in
    let long : length (take start trues.literals) ≡ start = length-take-le start trues.literals (omega arith) in
    let few : length (take level starts) ≡ level = length-take-le level starts (omega arith) in
    let kept : (k d : ℕ) → k < level → get_or (take level starts) k d ≡ get_or starts k d = λ k d before. get_or-take level starts k d before in
    let before : (k d : ℕ) → k < level → get_or (take level starts) k d < start =
    λ k d k_before. subst (λ s. s < start) (get_or_default starts k 0 d (omega (arith, k_before, within)) ∙ sym (kept k d k_before))
    (h.rising k level 0 k_before within) in
    record {
      stated = h.stated;
      few = omega (arith, long, inside, h.few);
      reasons = length-take-le start numbers (omega (arith, h.reasons, inside)) ∙ sym long;
      room = h.room;
      places = λ k k_within.
          let k_before : k < start = omega (arith, k_within, long) in
          ap (λ (x : Literal). get_or seats x.variable 0) (get_or-take start trues.literals k (literal 0 false) k_before)
          ∙ h.places k (omega (arith, k_before, inside));
      rising = λ i j d i_before j_within.
          let j_before : j < level = omega (arith, j_within, few) in
          let i_in : i < level = omega (arith, i_before, j_before) in
          let risen = h.rising i j d i_before (omega (arith, j_before, within)) in
          omega (arith, kept i d i_in, kept j d j_before, risen);
      decided = λ k d k_within. omega (arith, before k d (omega (arith, k_within, few)), long);
      taken = λ k d k_within. omega (arith, before k d (omega (arith, k_within, few)));
      to_end = omega (arith, long);
      reason_room = h.reason_room;
      start_room = h.start_room;
    }
