-- The steps of a search: before and after propagation.
use Rattle.std.proofs.Common.{◌≡◌, ◌≢◌, ℕ, false, ◌<◌, ◌≤◌, ◌⊎◌, ⊎_elim, inl, inr, List, length, get_or, take, ap, sym, subst, ◌∙◌, arith, length-take}
use Rattle.std.specs.List.{All, Contains, slice_index}
use Rattle.std.proofs.lemmas.Bool.{cases_lt}
use Rattle.std.proofs.lemmas.List.{get_or-take, get_or_default, take_all}
use Rattle.std.proofs.lemmas.List.Elements.{All-nil}
use Rattle.dist_clause.specs.Formula.{Literal, literal}
use Rattle.dist_clause.specs.ClauseList.{clause_at}
use Rattle.dist_derive.specs.Propagation.{AllFalse}
use Rattle.dist_derive.specs.Follows.{IsNumberOf}
use Rattle.dist_derive.specs.Watches.{WatchLists}
use Rattle.dist_search.specs.Trail.{TrailState, IsOrdered, IsTrail}
use Rattle.dist_search.specs.Guard.{AreGuarded, IsLevelled, Advances}
use Rattle.dist_search.specs.Search.{SearchState, IsWatching, IsGoing, IsSearching}
use Rattle.dist_search.specs.StepsPrivate.{IsAtConflict, IsAtRest}
use Rattle.dist_search.proofs.PrefixLemmas.{take_of_take}
use Rattle.dist_search.proofs.GuardLemmas.{given_later, levelled_stays, apart_stays, literal_later}

-- a search that stands at a conflict without a decision
pub stuck_conflict : {search : SearchState} {number : ℕ} (clauses : List (List Literal)) (assumptions : List Literal) (cone : List ℕ)
    → IsSearching clauses assumptions cone search → number ≡ search.conflict → search.conflict ≢ 0 → IsAtConflict clauses assumptions cone search number
stuck_conflict {search} {number} clauses assumptions cone h same other = ⊎_elim
    (λ going. absurd (other going.none))
    (λ stuck. record {
      watching = h.watching;
      trail = h.trail;
      within_cone = h.within_cone;
      number = subst (λ n. IsNumberOf clauses n) (sym same) stuck.number;
      is_false = subst (λ n. AllFalse search.trail.literals (clause_at clauses n)) (sym same) stuck.is_false;
      levelled = subst (λ starts. All (λ s. AreGuarded search.watches clauses cone (take s search.trail.literals) (take s search.trail.literals)) starts)
          (sym stuck.no_start) (All-nil (λ s. AreGuarded search.watches clauses cone (take s search.trail.literals) (take s search.trail.literals)));
      going = inl stuck.no_start;
    })
    h.stands

pub is_going : {search : SearchState} (clauses : List (List Literal)) (assumptions : List Literal) (cone : List ℕ)
    → IsSearching clauses assumptions cone search → search.conflict ≡ 0 → IsGoing clauses cone search
is_going {search} clauses assumptions cone h none = ⊎_elim (λ going. going) (λ stuck. absurd (omega (arith, stuck.number.0, none))) h.stands

-- what propagation leaves
module _ {old : SearchState} {watches : WatchLists} {trail : TrailState} (clauses : List (List Literal)) (assumptions : List Literal) (cone : List ℕ)
    (h : IsSearching clauses assumptions cone old) (going : IsGoing clauses cone old) (ordered : IsOrdered old.trail)
    (advances : Advances clauses cone old.watches watches old.trail trail) where
  -- the search after it
  abbrev after : SearchState
  after = record old { watches = watches; trail = trail }

  pub watching_after : IsWatching clauses after
  watching_after = record {
    within = h.watching.within;
    watches = advances.watches;
    covered = λ number from to. ⊎_elim
        (λ apart. inl (apart_stays clauses cone old.watches watches old.trail.literals number advances.stay from apart))
        (λ single. inr single)
        (h.watching.covered number from to);
    singles = h.watching.singles;
  }

  assumed_few : length assumptions ≤ length old.trail.literals
  assumed_few = omega (arith, ap length h.trail.assumed, length-take (length assumptions) old.trail.literals)

  pub trail_after : IsTrail clauses assumptions trail
  trail_after = record {
    assumed = sym (take_of_take (length assumptions) (length old.trail.literals) trail.literals assumed_few)
        ∙ (ap (λ ts. take (length assumptions) ts) advances.front ∙ h.trail.assumed);
    behind = subst (λ starts. All (λ s. length assumptions ≤ s) starts) (sym advances.same_starts) h.trail.behind;
    given = λ place within. elim (cases_lt place (length old.trail.literals)) [
      | inl below ↦ ⊎_elim
          (λ g. inl (given_later clauses place old.trail trail below advances.front advances.reasons g))
          (λ z. inr (
            sym (reason_before place below) ∙ z.0,
            subst (λ starts. (place < length assumptions) ⊎ Contains starts place) (sym advances.same_starts) z.1,
          ))
          (h.trail.given place below)
      | inr past ↦ inl (advances.given place (omega (arith, past)) within).0
    ];
  }
    where
      reason_before : (place : ℕ) → place < length old.trail.literals → slice_index old.trail.reasons place ≡ slice_index trail.reasons place
      reason_before place below = sym (ap (λ rs. get_or rs place 0) advances.reasons)
          ∙ get_or-take (length old.trail.literals) trail.reasons place 0 below

  pub within_after : All (λ l. Contains cone l.variable) trail.literals
  within_after k d within = subst (λ (l : Literal). Contains cone l.variable) (get_or_default trail.literals k (literal 0 false) d within)
      (elim (cases_lt k (length old.trail.literals)) [
        | inl below ↦ subst (λ (l : Literal). Contains cone l.variable) (sym (literal_later old.trail.literals trail.literals k below advances.front))
            (h.within_cone k (literal 0 false) below)
        | inr past ↦ (advances.given k (omega (arith, past)) within).1
      ])

  pub levelled_after : IsLevelled watches clauses cone trail
  levelled_after = levelled_stays clauses cone old.watches watches old.trail trail advances ordered.decided going.levelled

  pub conflict_after : (number : ℕ) → IsNumberOf clauses number → AllFalse trail.literals (clause_at clauses number)
      → IsAtConflict clauses assumptions cone after number
  conflict_after number is is_false = record {
    watching = watching_after;
    trail = trail_after;
    within_cone = within_after;
    number = is;
    is_false = is_false;
    levelled = levelled_after;
    going = inr (going.none, going.all);
  }

  pub rest_after : AreGuarded watches clauses cone trail.literals trail.literals → trail.head ≡ length trail.literals
      → IsAtRest clauses assumptions cone after
  rest_after settled taken = record {
    watching = watching_after;
    trail = trail_after;
    within_cone = within_after;
    going = record {
      none = going.none;
      all = going.all;
      guarded = subst (λ ts. AreGuarded watches clauses cone trail.literals ts) (sym all_taken) settled;
      levelled = levelled_after;
    };
    settled = settled;
    taken = taken;
  }
    where
      all_taken : take trail.head trail.literals ≡ trail.literals
      all_taken = take_all trail.head trail.literals (omega (arith, taken))
