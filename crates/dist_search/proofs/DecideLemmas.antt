-- A decision behind a trail at rest.
use Rattle.std.proofs.Common.{◌≡◌, ℕ, ◌<◌, ◌≤◌, ⊎_elim, inl, inr, List, [], ◌∷◌, ◌++◌, length, get_or, take, ap, sym, subst, ◌∙◌, arith, length-take}
use Rattle.std.specs.List.{All, Contains}
use Rattle.std.proofs.lemmas.Bool.{cases_lt}
use Rattle.std.proofs.lemmas.List.{length_push, get_or_push, get_or_append_left, get_or_default, take-append-le, take_all}
use Rattle.std.proofs.lemmas.List.Elements.{All-push, Contains-push, Contains-append_left}
use Rattle.dist_clause.specs.Formula.{Literal}
use Rattle.dist_clause.specs.ClauseList.{clause_at}
use Rattle.dist_derive.specs.Watches.{IsGuarded}
use Rattle.dist_search.specs.Trail.{IsOrdered, IsTrail}
use Rattle.dist_search.specs.Guard.{AreGuarded}
use Rattle.dist_search.specs.Search.{SearchState, IsSearching}
use Rattle.dist_search.specs.StepsPrivate.{IsAtRest, decided}
use Rattle.dist_search.proofs.GuardLiterals.{front-push}
use Rattle.dist_search.proofs.GuardLemmas.{given_later, true_one_more}

module _ (search : SearchState) (l : Literal) (clauses : List (List Literal)) (assumptions : List Literal) (cone : List ℕ) (ordered : IsOrdered search.trail)
    (h : IsAtRest clauses assumptions cone search) (in_cone : Contains cone l.variable) where
  abbrev literals : List Literal
  literals = search.trail.literals

  abbrev more : List Literal
  more = literals ++ l ∷ []

  assumed_few : length assumptions ≤ length literals
  assumed_few = omega (arith, ap length h.trail.assumed, length-take (length assumptions) literals)

  reasons_front : take (length literals) (search.trail.reasons ++ 0 ∷ []) ≡ search.trail.reasons
  reasons_front = subst (λ n. take n (search.trail.reasons ++ 0 ∷ []) ≡ search.trail.reasons) ordered.reasons (front-push search.trail.reasons 0)

  trail_more : IsTrail clauses assumptions (decided search l).trail
  trail_more = record {
    assumed = take-append-le (length assumptions) literals (l ∷ []) assumed_few ∙ h.trail.assumed;
    behind = All-push (λ s. length assumptions ≤ s) search.trail.starts (length literals) h.trail.behind assumed_few;
    given = λ place within. elim (cases_lt place (length literals)) [
      | inl below ↦ ⊎_elim
          (λ g. inl (given_later clauses place search.trail (decided search l).trail below (front-push literals l) reasons_front g))
          (λ z. inr (
            get_or_append_left search.trail.reasons (0 ∷ []) 0 place (omega (arith, below, ordered.reasons)) ∙ z.0,
            ⊎_elim (λ a. inl a) (λ s. inr (Contains-append_left search.trail.starts (length literals ∷ []) place s)) z.1,
          ))
          (h.trail.given place below)
      | inr past ↦
          let at : place ≡ length literals = omega (arith, past, within, length_push literals l) in
          inr (
            get_or_push search.trail.reasons 0 0 place (omega (arith, at, ordered.reasons)),
            inr (subst (λ p. Contains (search.trail.starts ++ length literals ∷ []) p) (sym at) (Contains-push search.trail.starts (length literals))),
          )
    ];
  }

  still_true : All (Contains more) literals
  still_true k d within = Contains-append_left literals (l ∷ []) (get_or literals k d) (k, within, get_or_here k d within)
    where
      get_or_here : (k : ℕ) (d : Literal) → k < length literals → get_or literals k (get_or literals k d) ≡ get_or literals k d
      get_or_here k d within = get_or_default literals k (get_or literals k d) d within

  front_guarded : (s : ℕ) → s ≤ length literals → AreGuarded search.watches clauses cone (take s literals) (take s literals)
      → AreGuarded search.watches clauses cone (take s more) (take s more)
  front_guarded s few g = subst (λ ts. AreGuarded search.watches clauses cone ts ts) (sym (take-append-le s literals (l ∷ []) few)) g

  pub decided_more : IsSearching clauses assumptions cone (decided search l)
  decided_more = record {
    watching = record {
      within = h.watching.within;
      watches = h.watching.watches;
      covered = h.watching.covered;
      singles = h.watching.singles;
    };
    trail = trail_more;
    within_cone = All-push (λ m. Contains cone m.variable) literals l h.within_cone in_cone;
    stands = inl (record {
      none = h.going.none;
      all = h.going.all;
      guarded = λ number from to within. ⊎_elim
          (λ t. inl (true_one_more literals more (clause_at clauses number) still_true t))
          (λ f. inr f)
          (subst (λ ts. IsGuarded search.watches literals ts (clause_at clauses number) number) (sym taken_front) (h.settled number from to within));
      levelled = All-push (λ s. AreGuarded search.watches clauses cone (take s more) (take s more)) search.trail.starts (length literals)
          (λ k d within. front_guarded (get_or search.trail.starts k d) (omega (arith, ordered.decided k d within)) (h.going.levelled k d within))
          (front_guarded (length literals) (omega arith)
          (subst (λ ts. AreGuarded search.watches clauses cone ts ts) (sym (take_all (length literals) literals (omega arith))) h.settled));
    });
  }
    where
      taken_front : take search.trail.head more ≡ literals
      taken_front = ap (λ n. take n more) h.taken ∙ front-push literals l
