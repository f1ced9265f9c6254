-- A trail that has gone back to a decision.
use Rattle.std.proofs.Common.{◌≡◌, ℕ, false, ◌<◌, ◌≤◌, ◌⊎◌, ⊎_elim, inl, inr, List, length, get_or, take, ap, sym, subst, ◌∙◌, arith, length-take}
use Rattle.std.specs.List.{All, AllPairs, Contains, slice_index}
use Rattle.std.proofs.lemmas.Bool.{cases_lt}
use Rattle.std.proofs.lemmas.List.{same_lists, get_or-take, get_or_default}
use Rattle.std.proofs.lemmas.List.Elements.{All-take}
use Rattle.dist_clause.specs.Formula.{Literal, literal}
use Rattle.dist_clause.specs.ClauseList.{clause_at}
use Rattle.dist_derive.specs.Propagation.{IsUnit}
use Rattle.dist_derive.specs.Follows.{IsNumberOf}
use Rattle.dist_derive.specs.Watches.{WatchLists}
use Rattle.dist_search.specs.Trail.{TrailState, literal_at, IsOrdered, IsGiven, IsTrail}
use Rattle.dist_search.specs.Guard.{AreGuarded, IsLevelled}
use Rattle.dist_search.specs.Search.{SearchState, IsWatching, IsGoing, IsSearching}
use Rattle.dist_search.specs.StepsPrivate.{gone_back}

pub take_of_take : {X : Type 0} (s n : ℕ) (xs : List X) → s ≤ n → take s (take n xs) ≡ take s xs
take_of_take s n xs few = same_lists (take s (take n xs)) (take s xs)
    (omega (arith, few, length-take s (take n xs), length-take n xs, length-take s xs))
    (λ k d within.
    let below : k < s = omega (arith, within, length-take s (take n xs)) in
    get_or-take s (take n xs) k d below ∙ (get_or-take n xs k d (omega (arith, below, few)) ∙ sym (get_or-take s xs k d below)))

-- an element of a front is one of the list
pub of_front : {X : Type 0} (n : ℕ) (xs : List X) (x : X) → Contains (take n xs) x → Contains xs x
of_front n xs x h =
    let below : h.0 < n = omega (arith, h.1, length-take n xs) in
    (h.0, omega (arith, h.1, length-take n xs), sym (get_or-take n xs h.0 x below) ∙ h.2)

-- and of a longer front
pub of_longer : {X : Type 0} (s n : ℕ) (xs : List X) (x : X) → s ≤ n → Contains (take s xs) x → Contains (take n xs) x
of_longer s n xs x few h = of_front s (take n xs) x (subst (λ ys. Contains ys x) (sym (take_of_take s n xs few)) h)

-- a place before a start is one of an earlier start, if of any
pub earlier_start : (starts : List ℕ) (level place : ℕ) → AllPairs (λ s t. s < t) starts → level < length starts → place < slice_index starts level
    → Contains starts place → Contains (take level starts) place
earlier_start starts level place rising within before h = elim (cases_lt h.0 level) [
  | inl below ↦ (h.0, omega (arith, below, within, length-take level starts), get_or-take level starts h.0 place below ∙ h.2)
  | inr past ↦ absurd (not_past past)
]
  where
    at : get_or starts h.0 0 ≡ place
    at = get_or_default starts h.0 0 place h.1 ∙ h.2

    not_past : level ≤ h.0 → ⊥
    not_past past = elim (cases_lt level h.0) [
      | inl above ↦ omega (arith, rising level h.0 0 above h.1, at, before)
      | inr same ↦
          let equal : h.0 ≡ level = omega (arith, same, past) in
          omega (arith, ap (λ k. get_or starts k 0) equal, at, before)
    ]

-- the trail that has gone back
abbrev pub trail_back : TrailState → ℕ → TrailState
trail_back trail level = record trail {
  literals = take (slice_index trail.starts level) trail.literals;
  reasons = take (slice_index trail.starts level) trail.reasons;
  starts = take level trail.starts;
  head = slice_index trail.starts level;
}

module _ (clauses : List (List Literal)) (assumptions : List Literal) (trail : TrailState) (level : ℕ) (ordered : IsOrdered trail)
    (within : level < length trail.starts) where
  -- the start
  abbrev start : ℕ
  start = slice_index trail.starts level

  start_within : start < length trail.literals
  start_within = ordered.decided level 0 within

  -- each earlier start is below
  earlier_below : All (λ s. s < start) (take level trail.starts)
  earlier_below k d inside =
      let below : k < level = omega (arith, inside, length-take level trail.starts) in
      let same : get_or (take level trail.starts) k d ≡ get_or trail.starts k 0 = get_or-take level trail.starts k d below
      ∙ get_or_default trail.starts k d 0 (omega (arith, below, within)) in
      omega (arith, same, ordered.rising k level 0 below within)

  pub trail_goes_back : IsTrail clauses assumptions trail → IsTrail clauses assumptions (trail_back trail level)
  trail_goes_back h = record {
    assumed = take_of_take (length assumptions) start trail.literals (h.behind level 0 within) ∙ h.assumed;
    behind = All-take (λ s. length assumptions ≤ s) level trail.starts h.behind;
    given = λ place inside. given place (omega (arith, inside, length-take start trail.literals));
  }
    where
      given : (place : ℕ) → place < start → IsGiven clauses (trail_back trail level) place
          ⊎ ((slice_index (take start trail.reasons) place ≡ 0) × ((place < length assumptions) ⊎ Contains (take level trail.starts) place))
      given place below =
          let reason : slice_index (take start trail.reasons) place ≡ slice_index trail.reasons place = get_or-take start trail.reasons place 0 below in
          let at : literal_at (take start trail.literals) place ≡ literal_at trail.literals place
          = get_or-take start trail.literals place (literal 0 false) below in
          let front : take place (take start trail.literals) ≡ take place trail.literals = take_of_take place start trail.literals (omega (arith, below)) in
          ⊎_elim
          (λ g. inl (record {
            number = subst (λ n. IsNumberOf clauses n) (sym reason) g.number;
            unit = subst (λ n. IsUnit (take place (take start trail.literals)) (clause_at clauses n) (literal_at (take start trail.literals) place))
                (sym reason)
                (subst (λ l. IsUnit (take place (take start trail.literals)) (clause_at clauses (slice_index trail.reasons place)) l) (sym at)
                (subst (λ ts. IsUnit ts (clause_at clauses (slice_index trail.reasons place)) (literal_at trail.literals place)) (sym front) g.unit));
          }))
          (λ z. inr (reason ∙ z.0, ⊎_elim (λ a. inl a) (λ s. inr (earlier_start trail.starts level place ordered.rising within below s)) z.1))
          (h.given place (omega (arith, below, start_within)))

  pub levelled_goes_back : (watches : WatchLists) (cone : List ℕ) → IsLevelled watches clauses cone trail
      → IsLevelled watches clauses cone (trail_back trail level)
  levelled_goes_back watches cone h k d inside =
      let s = get_or (take level trail.starts) k d in
      let few : s ≤ start = omega (arith, earlier_below k d inside) in
      subst (λ ts. AreGuarded watches clauses cone ts ts) (sym (take_of_take s start trail.literals few))
      (All-take (λ t. AreGuarded watches clauses cone (take t trail.literals) (take t trail.literals)) level trail.starts h k d inside)

  pub guarded_at_start : (watches : WatchLists) (cone : List ℕ) → IsLevelled watches clauses cone trail
      → AreGuarded watches clauses cone (take start trail.literals) (take start (take start trail.literals))
  guarded_at_start watches cone h =
      subst (λ ts. AreGuarded watches clauses cone (take start trail.literals) ts) (sym (take_of_take start start trail.literals (omega arith)))
      (h level 0 within)

pub search_goes_back : (clauses : List (List Literal)) (assumptions : List Literal) (cone : List ℕ) (search : SearchState) (level : ℕ)
    → IsOrdered search.trail → level < length search.trail.starts → IsWatching clauses search → IsTrail clauses assumptions search.trail
    → All (λ l. Contains cone l.variable) search.trail.literals → IsLevelled search.watches clauses cone search.trail
    → search.conflict ≡ 0 → search.watched ≡ length clauses
    → IsSearching clauses assumptions cone (gone_back search level) × IsGoing clauses cone (gone_back search level)
search_goes_back clauses assumptions cone search level ordered within watching trail in_cone levelled none all = (
  record {
    watching = record { within = watching.within; watches = watching.watches; covered = watching.covered; singles = watching.singles };
    trail = trail_goes_back clauses assumptions search.trail level ordered within trail;
    within_cone = All-take (λ l. Contains cone l.variable) (slice_index search.trail.starts level) search.trail.literals in_cone;
    stands = inl going;
  },
  going,
)
  where
    going : IsGoing clauses cone (gone_back search level)
    going = record {
      none = none;
      all = all;
      guarded = guarded_at_start clauses assumptions search.trail level ordered within search.watches cone levelled;
      levelled = levelled_goes_back clauses assumptions search.trail level ordered within search.watches cone levelled;
    }

-- where decisions stand, a search goes on from the first of them
pub back_to_ground : {search : SearchState} (clauses : List (List Literal)) (assumptions : List Literal) (cone : List ℕ) → IsOrdered search.trail
    → 0 < length search.trail.starts → IsSearching clauses assumptions cone search → IsSearching clauses assumptions cone (gone_back search 0)
back_to_ground {search} clauses assumptions cone ordered some h = ⊎_elim
    (λ going. (search_goes_back clauses assumptions cone search 0 ordered some h.watching h.trail h.within_cone going.levelled going.none going.all).0)
    (λ stuck. absurd (omega (arith, some, ap length stuck.no_start)))
    h.stands
