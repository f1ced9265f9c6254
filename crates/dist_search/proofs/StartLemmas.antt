-- Where a search stands when a question has begun.
use Rattle.std.proofs.Common.{◌≡◌, ◌≢◌, ◌↔◌, ℕ, ⊎_elim, inl, inr, Bool, true, false, List, [], length, get_or, take, replicate, refl, ap, sym, subst, arith}
use Rattle.std.specs.List.{All, Contains}
use Rattle.std.proofs.lemmas.Bool.{cases_eq}
use Rattle.std.proofs.lemmas.List.{take_all, get_or-replicate}
use Rattle.std.proofs.lemmas.List.Elements.{All-contains}
use Rattle.dist_clause.specs.Formula.{Literal, literal}
use Rattle.dist_clause.specs.ClauseList.{clause_at}
use Rattle.dist_derive.specs.Cone.{InCone}
use Rattle.dist_derive.specs.Propagation.{AllFalse}
use Rattle.dist_derive.specs.Watches.{IsGuarded}
use Rattle.dist_search.specs.Trail.{TrailState, IsTrail}
use Rattle.dist_search.specs.Guard.{AreGuarded, IsLevelled}
use Rattle.dist_search.specs.Search.{SearchState, IsWatching, IsSearching}
use Rattle.dist_search.specs.QuestionPrivate.{IsAllOrEmpty, IsBegun, IsTaken}
use Rattle.dist_search.proofs.SinglesLemmas.{AreTaken}

-- the assumptions are in their cone
pub assumed_within : (inputs : List (List Literal)) (assumptions : List Literal) (cone : List ℕ)
    → ((v : ℕ) → Contains cone v ↔ InCone inputs assumptions v) → All (λ l. Contains cone l.variable) assumptions
assumed_within inputs assumptions cone same = λ k d within. (same (get_or assumptions k d).variable).1 (λ has all closed. all k d within)

abbrev pub assumed_trail : TrailState → List Literal → TrailState
assumed_trail trail assumptions =
    record trail { literals = assumptions; reasons = replicate (length assumptions) 0; starts = []; head = 0 }

none_false : (trues : List Literal) → AllFalse trues []
none_false trues = λ k d within. absurd (omega (arith, within))

pub all_watched : (clauses : List (List Literal)) (s : SearchState) → IsAllOrEmpty clauses s → s.conflict ≡ 0 → s.watched ≡ length clauses
all_watched clauses s ends none = ⊎_elim (λ all. all.1) (λ empty. absurd (omega (arith, none, empty.0.0))) ends

module _ (clauses : List (List Literal)) (assumptions : List Literal) (cone : List ℕ) where
  assumed_is : (trail : TrailState) → IsTrail clauses assumptions (assumed_trail trail assumptions)
  assumed_is trail = record {
    assumed = take_all (length assumptions) assumptions (omega arith);
    behind = λ k d within. absurd (omega (arith, within));
    given = λ place within. inr (get_or-replicate (length assumptions) place 0 0 within, inl within);
  }

  -- with the assumptions alone
  pub begun_assumed : (s : SearchState) (trail : TrailState) → s.trail ≡ assumed_trail trail assumptions
      → All (λ l. Contains cone l.variable) assumptions → IsWatching clauses s → IsAllOrEmpty clauses s → IsBegun clauses assumptions cone s
  begun_assumed s trail same within watching ends =
      let no_start : s.trail.starts ≡ [] = ap (λ (t : TrailState). t.starts) same in
      record {
        watching = watching;
        trail = subst (λ (t : TrailState). IsTrail clauses assumptions t) (sym same) (assumed_is trail);
        within_cone = subst (λ (t : TrailState). All (λ l. Contains cone l.variable) t.literals) (sym same) within;
        no_start = no_start;
        none_taken = ap (λ (t : TrailState). t.head) same;
        stuck = λ some. ⊎_elim
            (λ all. absurd (some all.0))
            (λ empty. record {
              number = empty.0;
              is_false = subst (λ clause. AllFalse s.trail.literals clause) (sym empty.1) (none_false s.trail.literals);
              no_start = no_start;
            })
            ends;
      }

  -- a conflict ends it
  pub searching_stuck : (s : SearchState) → IsBegun clauses assumptions cone s → s.conflict ≢ 0 → IsSearching clauses assumptions cone s
  searching_stuck s h some = record { watching = h.watching; trail = h.trail; within_cone = h.within_cone; stands = inr (h.stuck some) }

  -- else all clauses are guarded
  module _ (s : SearchState) (begun : IsBegun clauses assumptions cone s) (all : s.watched ≡ length clauses)
      (taken : s.conflict ≡ 0 → All (AreTaken s) cone) where
    nothing_seen : take s.trail.head s.trail.literals ≡ []
    nothing_seen = ap (λ k. take k s.trail.literals) begun.none_taken

    single_true : s.conflict ≡ 0 → (l : Literal) → Contains cone l.variable → IsTaken s l
    single_true none l member = by_sign l.positive where
      both : AreTaken s l.variable
      both = All-contains (AreTaken s) cone l.variable (taken none) member

      by_sign : (positive : Bool) → IsTaken s (literal l.variable positive)
      by_sign true = both.0
      by_sign false = both.1

    are_guarded : s.conflict ≡ 0 → AreGuarded s.watches clauses cone s.trail.literals (take s.trail.head s.trail.literals)
    are_guarded none number from to within = subst (λ seen. IsGuarded s.watches s.trail.literals seen (clause_at clauses number) number) (sym nothing_seen)
        (⊎_elim
        (λ apart. inr (record {
          apart = apart;
          first_free = λ h. absurd (omega (arith, h.1));
          second_free = λ h. absurd (omega (arith, h.1));
        }))
        (λ single.
        let l = single.0 in
        let has : Contains (clause_at clauses number) l = subst (λ ls. Contains ls l) (sym single.1) (0, omega arith, refl) in
        let member : Contains cone l.variable = All-contains (λ (m : Literal). Contains cone m.variable) (clause_at clauses number) l within has in
        inl (l, has, single_true none l member single.2))
        (begun.watching.covered number from (omega (arith, to, all))))

    are_levelled : IsLevelled s.watches clauses cone s.trail
    are_levelled = subst (λ starts. All (λ n. AreGuarded s.watches clauses cone (take n s.trail.literals) (take n s.trail.literals)) starts)
        (sym begun.no_start) (λ k d within. absurd (omega (arith, within)))

    pub searching_begun : IsSearching clauses assumptions cone s
    searching_begun = elim (cases_eq s.conflict 0) [
      | inl none ↦ record {
        watching = begun.watching;
        trail = begun.trail;
        within_cone = begun.within_cone;
        stands = inl (record { none = none; all = all; guarded = are_guarded none; levelled = are_levelled });
      }
      | inr some ↦ searching_stuck s begun some
    ]
