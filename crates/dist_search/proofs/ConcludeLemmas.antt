-- What a conflict comes to: a refutation, or a new line with which the search goes on.
use Rattle.std.proofs.Common.{◌≡◌, ℕ, ◌+◌, ◌-◌, ◌<◌, ◌↔◌, ⊎_elim, List, [], ◌∷◌, length, take, refl, ap, arith}
use Rattle.std.specs.List.{All, Contains, slice_index}
use Rattle.dist_clause.specs.Formula.{Literal, IsClauseOver}
use Rattle.dist_clause.specs.ClauseList.{clause_at}
use Rattle.dist_derive.specs.ClauseLog.{ClauseLog, inputs_of}
use Rattle.dist_derive.specs.Propagation.{AllFalse, IsConsistent}
use Rattle.dist_derive.specs.Cone.{InCone}
use Rattle.dist_derive.specs.Safe.{AreSafe}
use Rattle.dist_search.specs.Trail.{IsOrdered}
use Rattle.dist_search.specs.Learned.{LearnedClause, IsPoint, IsTaught}
use Rattle.dist_search.specs.Search.{SearchState, IsWatching, IsSearching, IsGoing, Gives, IsNewLine, IsRefuting}
use Rattle.dist_search.specs.StepsPrivate.{IsAtConflict, IsPointAtLast, IsLevel, gone_back}
use Rattle.dist_search.proofs.PrefixLemmas.{search_goes_back}
use Rattle.dist_search.proofs.GuardedLaws.{TrueLiteralSettles, TwoLiteralsSettle}
use Rattle.dist_search.proofs.PointLemmas.{false_in_cone, behind_start, gives}
use Rattle.dist_search.proofs.NewLineLemmas.{FirstPointsAreNew, consistent_front, new_line, in_cone}

pub refuted : (log : ClauseLog) (assumptions : List Literal) (search : SearchState) (learned : LearnedClause) → IsTaught log assumptions search.trail learned
    → length search.trail.starts ≡ 0 → IsRefuting log assumptions learned
refuted log assumptions search learned taught none = record { ends = taught.refutes (empty search.trail.starts none); short = taught.short }
  where
    empty : (xs : List ℕ) → length xs ≡ 0 → xs ≡ []
    empty [] e = refl
    empty (x ∷ xs) e = absurd (omega (arith, e))

module _ {search : SearchState} {number : ℕ} (by_true : TrueLiteralSettles) (by_two : TwoLiteralsSettle) (log : ClauseLog) (assumptions : List Literal)
    (cone : List ℕ) (over : All (IsClauseOver log.variables) log.clauses) (ordered : IsOrdered search.trail)
    (consistent : IsConsistent search.trail.literals) (h : IsAtConflict log.clauses assumptions cone search number)
    (some : 0 < length search.trail.starts) (learned : LearnedClause) (taught : IsTaught log assumptions search.trail learned)
    (point : (level : ℕ) → length search.trail.starts ≡ level + 1
    → (¬ AllFalse (take (slice_index search.trail.starts level) search.trail.literals) (clause_at log.clauses number))
    → IsPoint search.trail (slice_index search.trail.starts level) learned.clause) where
  abbrev level : ℕ
  level = length search.trail.starts - 1

  pub at_last : IsPointAtLast search.trail learned.clause
  at_last = record {
    level = level;
    last = omega (arith, some);
    point = point level (omega (arith, some))
        (behind_start by_true by_two log.variables search.watches log.clauses cone (take (slice_index search.trail.starts level) search.trail.literals) number
        h.watching.watches (consistent_front (slice_index search.trail.starts level) search.trail.literals consistent)
        (over (number - 1) [] (omega (arith, h.number.0, h.number.1))) h.number.0 h.number.1
        (false_in_cone search.trail.literals cone (clause_at log.clauses number) h.within_cone h.is_false)
        (h.levelled level 0 (omega (arith, some))));
    is_false = taught.is_false;
  }

  -- the search with what was taught
  abbrev taught_search : SearchState
  taught_search = record search { learned = learned }

  watching : IsWatching log.clauses taught_search
  watching = record { within = h.watching.within; watches = h.watching.watches; covered = h.watching.covered; singles = h.watching.singles }

  going : (search.conflict ≡ 0) × (search.watched ≡ length log.clauses)
  going = ⊎_elim (λ none. absurd (omega (arith, some, ap length none))) (λ g. g) h.going

  pub lesson : {back : ℕ} → FirstPointsAreNew → ((v : ℕ) → Contains cone v ↔ InCone (inputs_of log) assumptions v) → AreSafe (inputs_of log) log.clauses
      → search.trail.variables ≡ log.variables → IsLevel search.trail learned.clause back
      → IsNewLine log assumptions learned × IsSearching log.clauses assumptions cone (gone_back taught_search back)
      × IsGoing log.clauses cone (gone_back taught_search back) × Gives cone (gone_back taught_search back)
  lesson {back} new exact safe same is_level =
      let stands = search_goes_back log.clauses assumptions cone taught_search back ordered is_level.within watching h.trail h.within_cone h.levelled
      going.0 going.1 in
      let within = in_cone new by_true by_two log assumptions cone taught_search exact over safe ordered same consistent h.watching.watches h.trail
      h.within_cone h.levelled at_last taught in (
        new_line new by_true by_two log assumptions cone taught_search exact over safe ordered same consistent h.watching.watches h.trail h.within_cone
            h.levelled at_last taught,
        stands.0,
        stands.1,
        gives cone taught_search back ordered consistent at_last is_level within taught.distinct,
      )
