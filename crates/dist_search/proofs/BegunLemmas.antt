-- How a question begins: single literals of its cone become true.
use Rattle.std.proofs.Common.{◌≡◌, ◌≢◌, ℕ, Bool, cond, ◌+◌, ◌*◌, ◌<◌, ◌≤◌, true, false, List, [], ◌∷◌, length, get_or, refl, ap, sym, subst, ◌∙◌, arith}
use Rattle.std.specs.List.{Contains}
use Rattle.std.proofs.lemmas.List.{get_or_default}
use Rattle.std.proofs.lemmas.List.Elements.{All-push}
use Rattle.dist_clause.specs.Formula.{Literal}
use Rattle.dist_clause.specs.ClauseList.{clause_at}
use Rattle.dist_derive.specs.OccurrencesPrivate.{code_of}
use Rattle.dist_derive.specs.Propagation.{IsFalse, IsUnset, IsUnit, AllFalse}
use Rattle.dist_derive.specs.Follows.{IsNumberOf}
use Rattle.dist_search.proofs.ContainmentLemmas.{ContainsAll-itself, ContainsAll-push}
use Rattle.dist_search.specs.Search.{SearchState, IsWatching}
use Rattle.dist_search.specs.QuestionPrivate.{IsBegun, Goes}
use Rattle.dist_search.proofs.QuestionLemmas.{longer, trail_longer}

-- a literal's place in the table is within it
pub code_within : (variables : ℕ) (l : Literal) → l.variable ≤ variables → code_of l < 2 * variables + 2
code_within variables l h = within l.positive where
  within : (positive : Bool) → 2 * l.variable + (cond positive 1 0) < 2 * variables + 2
  within true = omega arith
  within false = omega arith

pub known_at : (singles : List ℕ) (variables : ℕ) (l : Literal) (code x : ℕ) → length singles ≡ 2 * variables + 2 → l.variable ≤ variables
    → code ≡ code_of l → x ≡ get_or singles code x → x ≡ get_or singles (code_of l) 0
known_at singles variables l code x size in_range same at =
    let within : code_of l < length singles = omega (arith, size, code_within variables l in_range) in
    at ∙ (ap (λ k. get_or singles k x) same ∙ get_or_default singles (code_of l) x 0 within)

-- a clause of one literal, by that literal
single_unit : (trues : List Literal) (l : Literal) → IsUnset trues l → IsUnit trues (l ∷ []) l
single_unit trues l unset = record {
  member = (0, omega arith, refl);
  unset = unset;
  others = λ k d within other. absurd (other (ap (λ i. get_or (l ∷ []) i d) (first k within)));
} where
  first : (k : ℕ) → k < length (l ∷ []) → k ≡ 0
  first k within = omega arith

single_false : (trues : List Literal) (l : Literal) → IsFalse trues l → AllFalse trues (l ∷ [])
single_false trues l h = λ k d within. let first : k ≡ 0 = omega (arith, within) in subst (λ i. IsFalse trues (get_or (l ∷ []) i d)) (sym first) h

module _ (s : SearchState) (l : Literal) (number : ℕ) (is : number ≡ get_or s.singles (code_of l) 0) (some : number ≢ 0) (none : s.conflict ≡ 0) where
  is_known : (clauses : List (List Literal)) → IsWatching clauses s → IsNumberOf clauses number × (clause_at clauses number ≡ l ∷ [])
  is_known clauses w = subst (λ n. IsNumberOf clauses n × (clause_at clauses n ≡ l ∷ [])) (sym is) (w.singles l (λ e. some (is ∙ e)))

  -- a single literal becomes true
  pub goes_longer : Goes s (record s { trail = longer s.trail l number })
  goes_longer = record {
    same_variables = refl;
    same_singles = refl;
    same_watched = refl;
    conflict = λ e. e;
    kept = ContainsAll-push s.trail.literals l;
  }

  pub begun_longer : length s.trail.reasons ≡ length s.trail.literals → IsUnset s.trail.literals l → (clauses : List (List Literal))
      (assumptions : List Literal) (cone : List ℕ) → Contains cone l.variable → IsBegun clauses assumptions cone s
      → IsBegun clauses assumptions cone (record s { trail = longer s.trail l number })
  begun_longer same unset clauses assumptions cone member h =
      let known = is_known clauses h.watching in
      record {
        watching = record { within = h.watching.within; watches = h.watching.watches; covered = h.watching.covered; singles = h.watching.singles };
        trail = trail_longer clauses s.trail l number same known.0
            (subst (λ clause. IsUnit s.trail.literals clause l) (sym known.1) (single_unit s.trail.literals l unset)) assumptions h.trail;
        within_cone = All-push (λ m. Contains cone m.variable) s.trail.literals l h.within_cone member;
        no_start = h.no_start;
        none_taken = h.none_taken;
        stuck = λ e. absurd (e none);
      }

  -- a single literal is false
  pub goes_stuck : Goes s (record s { conflict = number })
  goes_stuck = record {
    same_variables = refl;
    same_singles = refl;
    same_watched = refl;
    conflict = λ e. none;
    kept = ContainsAll-itself s.trail.literals;
  }

  pub begun_stuck : IsFalse s.trail.literals l → (clauses : List (List Literal)) (assumptions : List Literal) (cone : List ℕ)
      → IsBegun clauses assumptions cone s → IsBegun clauses assumptions cone (record s { conflict = number })
  begun_stuck is_false clauses assumptions cone h =
      let known = is_known clauses h.watching in
      record {
        watching = record { within = h.watching.within; watches = h.watching.watches; covered = h.watching.covered; singles = h.watching.singles };
        trail = h.trail;
        within_cone = h.within_cone;
        no_start = h.no_start;
        none_taken = h.none_taken;
        stuck = λ _. record {
          number = known.0;
          is_false = subst (λ clause. AllFalse s.trail.literals clause) (sym known.1) (single_false s.trail.literals l is_false);
          no_start = h.no_start;
        };
      }
