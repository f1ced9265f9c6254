-- What a conflict teaches behind a decision is a new line.
use Rattle.std.proofs.Common.{◌≡◌, ◌≢◌, ℕ, ◌<◌, ◌≤◌, ◌↔◌, List, ◌∷◌, length, get_or, take, refl, sym, subst, arith}
use Rattle.std.specs.List.{All, AllPairs, Contains, slice_index}
use Rattle.std.proofs.lemmas.List.{get_or_default}
use Rattle.std.proofs.lemmas.List.Elements.{All-take, All-contains}
use Rattle.dist_clause.specs.Formula.{Literal, negation, IsClauseOver}
use Rattle.dist_derive.specs.ClauseLog.{ClauseLog, inputs_of}
use Rattle.dist_derive.specs.ContainmentPrivate.{ContainsAll}
use Rattle.dist_derive.specs.Propagation.{IsFalse, AllFalse, IsUnset, IsConsistent}
use Rattle.dist_derive.specs.Cone.{InCone}
use Rattle.dist_derive.specs.Safe.{AreSafe, AreSettledWithin}
use Rattle.dist_derive.specs.New.{IsNew}
use Rattle.dist_derive.specs.Watches.{AreWatchesOf}
use Rattle.dist_search.specs.Trail.{IsOrdered, IsTrail}
use Rattle.dist_search.specs.Guard.{IsLevelled}
use Rattle.dist_search.specs.Learned.{IsTaught}
use Rattle.dist_search.specs.Search.{SearchState, IsNewLine}
use Rattle.dist_search.specs.StepsPrivate.{IsPointAtLast}
use Rattle.dist_search.proofs.PrefixLemmas.{of_front, of_longer}
use Rattle.dist_search.proofs.GuardedLaws.{TrueLiteralSettles, TwoLiteralsSettle, settled_within}
use Rattle.dist_search.proofs.PointLemmas.{false_in_cone}

-- the law of first points, as dist_derive tells it
abbrev pub FirstPointsAreNew : Type 0
FirstPointsAreNew = (n : ℕ) (clauses : List (List Literal)) (inputs : ℕ) (assumptions : List Literal) (cone : List ℕ) (first : Literal)
    (rest trues : List Literal) → ((v : ℕ) → Contains cone v ↔ InCone (take inputs clauses) assumptions v) → All (IsClauseOver n) clauses
    → AreSafe (take inputs clauses) clauses → AllPairs (λ l m. l.variable ≢ m.variable) (first ∷ rest)
    → All (λ l. Contains cone l.variable) (first ∷ rest) → IsConsistent trues → All (λ l. Contains cone l.variable) trues
    → AreSettledWithin cone clauses trues → ContainsAll trues assumptions → AllFalse trues rest → IsUnset trues first
    → IsNew clauses inputs assumptions (first ∷ rest)

pub consistent_front : (n : ℕ) (trues : List Literal) → IsConsistent trues → IsConsistent (take n trues)
consistent_front n trues consistent l here h = consistent l (of_front n trues l here) (of_front n trues (negation l) h)

module _ (new : FirstPointsAreNew) (by_true : TrueLiteralSettles) (by_two : TwoLiteralsSettle) (log : ClauseLog) (assumptions : List Literal)
    (cone : List ℕ) (search : SearchState) (exact : (v : ℕ) → Contains cone v ↔ InCone (inputs_of log) assumptions v)
    (over : All (IsClauseOver log.variables) log.clauses) (safe : AreSafe (inputs_of log) log.clauses) (ordered : IsOrdered search.trail)
    (same : search.trail.variables ≡ log.variables) (consistent : IsConsistent search.trail.literals) (watches : AreWatchesOf search.watches log.clauses)
    (trail : IsTrail log.clauses assumptions search.trail) (within : All (λ l. Contains cone l.variable) search.trail.literals)
    (levelled : IsLevelled search.watches log.clauses cone search.trail) (p : IsPointAtLast search.trail search.learned.clause)
    (taught : IsTaught log assumptions search.trail search.learned) where
  abbrev last : ℕ
  last = slice_index search.trail.starts p.level

  abbrev trues : List Literal
  trues = take last search.trail.literals

  level_within : p.level < length search.trail.starts
  level_within = omega (arith, p.last)

  first_false : IsFalse search.trail.literals p.point.first
  first_false = All-contains (IsFalse search.trail.literals) search.learned.clause p.point.first p.is_false
      (subst (λ c. Contains c p.point.first) (sym p.point.is) (0, omega arith, refl))

  assumed : ContainsAll trues assumptions
  assumed k d inside =
      let a = get_or assumptions k d in
      let here : Contains assumptions a = (k, inside, get_or_default assumptions k a d inside) in
      of_longer (length assumptions) last search.trail.literals a (trail.behind p.level 0 level_within)
      (subst (λ xs. Contains xs a) (sym trail.assumed) here)

  pub in_cone : All (λ l. Contains cone l.variable) search.learned.clause
  in_cone = false_in_cone search.trail.literals cone search.learned.clause within taught.is_false

  in_range : All (λ l. (1 ≤ l.variable) × (l.variable ≤ log.variables)) search.learned.clause
  in_range k d inside =
      let r = All-contains (λ (l : Literal). (1 ≤ l.variable) × (l.variable ≤ search.trail.variables)) search.trail.literals
      (negation (get_or search.learned.clause k d)) ordered.over.in_range (taught.is_false k d inside) in
      (r.0, omega (arith, r.1, same))

  pub new_line : IsNewLine log assumptions search.learned
  new_line = record {
    over = record { in_range = in_range; distinct = taught.distinct };
    follows = taught.follows;
    short = taught.short;
    is_new = subst (λ c. IsNew log.clauses log.inputs assumptions c) (sym p.point.is)
        (new log.variables log.clauses log.inputs assumptions cone p.point.first p.point.rest trues exact over safe
        (subst (λ c. AllPairs (λ l m. l.variable ≢ m.variable) c) p.point.is taught.distinct)
        (subst (λ c. All (λ l. Contains cone l.variable) c) p.point.is in_cone)
        (consistent_front last search.trail.literals consistent)
        (All-take (λ l. Contains cone l.variable) last search.trail.literals within)
        (settled_within by_true by_two log.variables search.watches log.clauses cone trues watches over
        (consistent_front last search.trail.literals consistent) (levelled p.level 0 level_within))
        assumed p.point.early
        (λ here. consistent p.point.first (of_front last search.trail.literals p.point.first here) first_false, p.point.late));
    safe = taught.safe safe;
  }
