-- Clauses that are guarded by two literals or by a true one, along a trail.
use Rattle.std.proofs.Common.{◌≡◌, ◌≢◌, ℕ, ⊎_elim, inl, inr, ◌<◌, ◌≤◌, true, false, List, [], ◌∷◌, ◌++◌, length, get_or, take, refl, ap}
use Rattle.std.proofs.Common.{sym, subst, ◌∙◌, arith}
use Rattle.std.specs.List.{All, Contains, slice_index}
use Rattle.std.proofs.lemmas.Bool.{cases_eq, cases_lt, true≢false}
use Rattle.std.proofs.lemmas.List.{length_push, get_or_push, get_or-take}
use Rattle.std.proofs.lemmas.List.Elements.{All-contains, Contains-push}
use Rattle.dist_clause.specs.Formula.{Literal, literal, negation}
use Rattle.dist_clause.specs.ClauseList.{clause_at}
use Rattle.dist_derive.specs.Propagation.{IsFalse, AllFalse, IsUnit}
use Rattle.dist_derive.specs.Follows.{IsNumberOf}
use Rattle.dist_derive.specs.Watches.{WatchLists, pair_of, list_of, HasOther, IsPairKept, AreWatchesOf, IsFree, HasTrueOne, IsGuarded, StayFree}
use Rattle.dist_search.specs.Trail.{TrailState, IsGiven, literal_at}
use Rattle.dist_search.specs.Guard.{AreGuarded, IsLevelled, Advances}
use Rattle.dist_search.specs.GuardPrivate.{GoesOn, IsMoved, Looks}
use Rattle.dist_search.proofs.GuardLiterals.{front-itself, front-push, front-then, take-front, all_of_first, all_of_front, all_of-then}

pub true_one_more : (trues more clause : List Literal) → All (Contains more) trues → HasTrueOne trues clause → HasTrueOne more clause
true_one_more trues more clause kept h = (h.0, h.1, All-contains (Contains more) trues h.0 kept h.2)

pub free_fewer : (watches : WatchLists) (trues few : List Literal) (number : ℕ) → All (Contains trues) few → IsFree watches trues number
    → IsFree watches few number
free_fewer watches trues few number among f = record {
  apart = f.apart;
  first_free = λ x. f.first_free (All-contains (Contains trues) few (negation (pair_of watches number).0) among x);
  second_free = λ x. f.second_free (All-contains (Contains trues) few (negation (pair_of watches number).1) among x);
}

-- a number that has the same two literals, or two equal ones before, is free where it was
pub kept_free : (u v : WatchLists) (n : ℕ) → IsPairKept u.pairs v.pairs n → (seen : List Literal) → IsFree u seen n → IsFree v seen n
kept_free u v n kept seen f = ⊎_elim
    (λ same. record {
      apart = λ e. f.apart (subst (λ (p : Literal × Literal). p.0 ≡ p.1) same e);
      first_free = λ h. f.first_free (subst (λ (p : Literal × Literal). IsFalse seen p.0) same h);
      second_free = λ h. f.second_free (subst (λ (p : Literal × Literal). IsFalse seen p.1) same h);
    })
    (λ equal. absurd (f.apart equal.0))
    kept

-- the two literals of a number are apart, whichever of them comes first
pub other_apart : (pair : Literal × Literal) (l other : Literal) → HasOther pair l other → l ≢ other
other_apart pair l other h = ⊎_elim
    (λ e same. h.0 (e.0 ∙ (same ∙ sym e.1)))
    (λ e same. h.0 (e.1 ∙ (sym same ∙ sym e.0)))
    h.1

-- the other literal of a number that is free is not false
pub kept_not_false : (u : WatchLists) (seen : List Literal) (number : ℕ) (l other : Literal) → HasOther (pair_of u number) l other
    → IsFree u seen number → ¬ IsFalse seen other
kept_not_false u seen number l other h f x = ⊎_elim
    (λ e. f.second_free (subst (λ (m : Literal). IsFalse seen m) (sym e.1) x))
    (λ e. f.first_free (subst (λ (m : Literal). IsFalse seen m) (sym e.1) x))
    h.1

-- a number whose false literal has given way is free where the other one is not false
pub moved_by : (u v : WatchLists) (trues seen : List Literal) (number : ℕ) (l : Literal) (moved : IsMoved u v trues number l)
    → All (Contains trues) seen → (¬ IsFalse seen moved.kept) → IsFree v seen number
moved_by u v trues seen number l moved among kept = record {
  apart = λ e. moved.apart (sym (ap (λ (p : Literal × Literal). p.0) moved.is) ∙ (e ∙ ap (λ (p : Literal × Literal). p.1) moved.is));
  first_free = λ x. kept (subst (λ (m : Literal). IsFalse seen m) (ap (λ (p : Literal × Literal). p.0) moved.is) x);
  second_free = λ x. moved.free (All-contains (Contains trues) seen (negation moved.taken) among
      (subst (λ (m : Literal). IsFalse seen m) (ap (λ (p : Literal × Literal). p.1) moved.is) x));
}

pub moved_free : (u v : WatchLists) (trues seen : List Literal) (number : ℕ) (l : Literal) → IsMoved u v trues number l
    → All (Contains trues) seen → IsFree u seen number → IsFree v seen number
moved_free u v trues seen number l moved among f = moved_by u v trues seen number l moved among
    (kept_not_false u seen number l moved.kept moved.was f)

-- ---- trails that grow

pub literal_later : (a b : List Literal) (place : ℕ) → place < length a → take (length a) b ≡ a → literal_at b place ≡ literal_at a place
literal_later a b place within front = sym (get_or-take (length a) b place (literal 0 false) within)
    ∙ ap (λ ls. get_or ls place (literal 0 false)) front

module _ (clauses : List (List Literal)) (place : ℕ) where
  -- what is given is so in its three parts
  given_by : (s t : TrailState) → slice_index t.reasons place ≡ slice_index s.reasons place → take place t.literals ≡ take place s.literals
      → literal_at t.literals place ≡ literal_at s.literals place → IsGiven clauses s place → IsGiven clauses t place
  given_by s t number before here g = record {
    number = subst (λ n. IsNumberOf clauses n) (sym number) g.number;
    unit = subst (λ n. IsUnit (take place t.literals) (clause_at clauses n) (literal_at t.literals place)) (sym number)
        (subst (λ ls. IsUnit ls (clause_at clauses (slice_index s.reasons place)) (literal_at t.literals place)) (sym before)
        (subst (λ l. IsUnit (take place s.literals) (clause_at clauses (slice_index s.reasons place)) l) (sym here) g.unit));
  }

  pub given_later : (s t : TrailState) → place < length s.literals → take (length s.literals) t.literals ≡ s.literals
      → take (length s.literals) t.reasons ≡ s.reasons → IsGiven clauses s place → IsGiven clauses t place
  given_later s t within front reasons g = given_by s t
      (sym (get_or-take (length s.literals) t.reasons place 0 within) ∙ ap (λ ns. get_or ns place 0) reasons)
      (take-front place s.literals t.literals (omega (arith, within)) front)
      (literal_later s.literals t.literals place within front) g

module _ (clauses : List (List Literal)) (cone : List ℕ) where
  pub advances_none : (w : WatchLists) (s : TrailState) → AreWatchesOf w clauses → length s.reasons ≡ length s.literals → Advances clauses cone w w s s
  advances_none w s watched each = record {
    watches = watched;
    stay = λ seen number among from f. f;
    same_variables = refl;
    same_starts = refl;
    longer = omega arith;
    front = front-itself s.literals;
    reasons = subst (λ n. take n s.reasons ≡ s.reasons) each (front-itself s.reasons);
    given = λ place from to. absurd (omega (arith, from, to));
  }

  pub advances_then : (u v w : WatchLists) (a b c : TrailState) → Advances clauses cone u v a b → Advances clauses cone v w b c
      → Advances clauses cone u w a c
  advances_then u v w a b c first second = record {
    watches = second.watches;
    stay = λ seen number among from f.
        second.stay seen number (all_of-then seen a.literals b.literals among (all_of_front a.literals b.literals first.front)) from
        (first.stay seen number among from f);
    same_variables = second.same_variables ∙ first.same_variables;
    same_starts = second.same_starts ∙ first.same_starts;
    longer = omega (arith, first.longer, second.longer);
    front = front-then (length a.literals) (length b.literals) a.literals b.literals c.literals first.front second.front first.longer;
    reasons = front-then (length a.literals) (length b.literals) a.reasons b.reasons c.reasons first.reasons second.reasons first.longer;
    given = λ place from to. elim (cases_lt place (length b.literals)) [
      | inl before ↦ (
        given_later clauses place b c before second.front second.reasons (first.given place from before).0,
        subst (λ (l : Literal). Contains cone l.variable) (sym (literal_later b.literals c.literals place before second.front))
            (first.given place from before).1,
      )
      | inr behind ↦ second.given place behind to
    ];
  }

  pub goes_none : (w : WatchLists) (s : TrailState) → AreWatchesOf w clauses → length s.reasons ≡ length s.literals → GoesOn clauses cone w w s s
  goes_none w s watched each = record { advances = advances_none w s watched each; same_head = refl }

  pub goes_then : (u v w : WatchLists) (a b c : TrailState) → GoesOn clauses cone u v a b → GoesOn clauses cone v w b c → GoesOn clauses cone u w a c
  goes_then u v w a b c first second = record {
    advances = advances_then u v w a b c first.advances second.advances;
    same_head = second.same_head ∙ first.same_head;
  }

  -- a clause that is guarded where some true literals are taken stays so
  pub guarded_stays : (u v : WatchLists) (a b : TrailState) → Advances clauses cone u v a b → (seen clause : List Literal) (number : ℕ)
      → All (Contains a.literals) seen → 1 ≤ number → IsGuarded u a.literals seen clause number → IsGuarded v b.literals seen clause number
  guarded_stays u v a b h seen clause number among from g = ⊎_elim
      (λ t. inl (true_one_more a.literals b.literals clause (all_of_front a.literals b.literals h.front) t))
      (λ f. inr (h.stay seen number among from f))
      g

  -- one literal of the cone more, which a clause gives
  pub advances_given : (w : WatchLists) (a b : TrailState) (number : ℕ) (l : Literal) → AreWatchesOf w clauses
      → length a.reasons ≡ length a.literals → IsNumberOf clauses number → IsUnit a.literals (clause_at clauses number) l → Contains cone l.variable
      → b ≡ record a { literals = a.literals ++ l ∷ []; reasons = a.reasons ++ number ∷ [] } → Advances clauses cone w w a b
  advances_given w a b number l watched each is unit inside same =
      let more : TrailState = record a { literals = a.literals ++ l ∷ []; reasons = a.reasons ++ number ∷ [] } in
      subst (λ (s : TrailState). Advances clauses cone w w a s) (sym same) (record {
        watches = watched;
        stay = λ seen n among from f. f;
        same_variables = refl;
        same_starts = refl;
        longer = omega (arith, length_push a.literals l);
        front = front-push a.literals l;
        reasons = subst (λ n. take n (a.reasons ++ number ∷ []) ≡ a.reasons) each (front-push a.reasons number);
        given = λ place from to. last_given more place (omega (arith, from, to, length_push a.literals l)) refl refl;
      })
    where
      last_given : (b : TrailState) (place : ℕ) → place ≡ length a.literals → b.literals ≡ a.literals ++ l ∷ []
          → b.reasons ≡ a.reasons ++ number ∷ [] → IsGiven clauses b place × Contains cone (literal_at b.literals place).variable
      last_given b place last literals reasons =
          let before : take place b.literals ≡ a.literals =
          ap (λ k. take k b.literals) last ∙ (ap (λ ls. take (length a.literals) ls) literals ∙ front-push a.literals l) in
          let here : literal_at b.literals place ≡ l =
          ap (λ ls. get_or ls place (literal 0 false)) literals ∙ get_or_push a.literals l (literal 0 false) place (sym last) in
          let reason : slice_index b.reasons place ≡ number =
          ap (λ ns. get_or ns place 0) reasons ∙ get_or_push a.reasons number 0 place (each ∙ sym last) in (
            record {
              number = subst (λ n. IsNumberOf clauses n) (sym reason) is;
              unit = subst (λ n. IsUnit (take place b.literals) (clause_at clauses n) (literal_at b.literals place)) (sym reason)
                  (subst (λ ls. IsUnit ls (clause_at clauses number) (literal_at b.literals place)) (sym before)
                  (subst (λ m. IsUnit a.literals (clause_at clauses number) m) (sym here) unit));
            },
            subst (λ (m : Literal). Contains cone m.variable) (sym here) inside,
          )

  -- ---- looks at a clause

  -- one of its literals is true
  pub looks_true : (number : ℕ) (l : Literal) (w : WatchLists) (s : TrailState) → AreWatchesOf w clauses → length s.reasons ≡ length s.literals
      → HasTrueOne s.literals (clause_at clauses number) → Looks clauses cone number l w w s s true
  looks_true number l w s watched each one = record {
    goes_on = goes_none w s watched each;
    guarded = λ _ _ _ _. inl one;
    conflict = λ e. absurd (true≢false e);
    same_list = λ _. refl;
  }

  module _ (number : ℕ) (is : IsNumberOf clauses number) (l : Literal) where
    pub looks_false : (w : WatchLists) (s : TrailState) → AreWatchesOf w clauses → length s.reasons ≡ length s.literals
        → AllFalse s.literals (clause_at clauses number) → Looks clauses cone number l w w s s false
    looks_false w s watched each all = record {
      goes_on = goes_none w s watched each;
      guarded = λ e. absurd (true≢false (sym e));
      conflict = λ _. (is, all);
      same_list = λ _. refl;
    }

    -- another literal is watched in the place of the false one
    pub looks_moved : (u v : WatchLists) (s : TrailState) (moved : IsMoved u v s.literals number l)
        → ((n : ℕ) → 1 ≤ n → n ≢ number → (seen : List Literal) → IsFree u seen n → IsFree v seen n)
        → ((m : Literal) → m ≢ moved.kept → m ≢ moved.taken → list_of v m ≡ list_of u m)
        → AreWatchesOf v clauses → length s.reasons ≡ length s.literals → Looks clauses cone number l u v s s true
    looks_moved u v s moved others lists watched each =
        let still = advances_none v s watched each in
        record {
          goes_on = record {
            advances = record {
              watches = watched;
              stay = λ seen n among one f. elim (cases_eq n number) [
                | inl same ↦ subst (λ k. IsFree v seen k) (sym same)
                    (moved_free u v s.literals seen number l moved among (subst (λ k. IsFree u seen k) same f))
                | inr other ↦ others n one other seen f
              ];
              same_variables = refl;
              same_starts = refl;
              longer = still.longer;
              front = still.front;
              reasons = still.reasons;
              given = still.given;
            };
            same_head = refl;
          };
          guarded = λ _ _ _ _. inr (inl moved);
          conflict = λ e. absurd (true≢false e);
          same_list = λ f. lists l (other_apart (pair_of u number) l moved.kept moved.was)
              (λ e. moved.free (subst (λ (m : Literal). IsFalse s.literals m) e f));
        }

    -- the last literal that is not false is true now
    pub looks_unit : (w : WatchLists) (a b : TrailState) (one : Literal) → AreWatchesOf w clauses → length a.reasons ≡ length a.literals
        → IsUnit a.literals (clause_at clauses number) one → Contains cone one.variable
        → b ≡ record a { literals = a.literals ++ one ∷ []; reasons = a.reasons ++ number ∷ [] } → Looks clauses cone number l w w a b true
    looks_unit w a b one watched each unit inside same = record {
      goes_on = record {
        advances = advances_given w a b number one watched each is unit inside same;
        same_head = ap (λ (s : TrailState). s.head) same;
      };
      guarded = λ _ _ _ _.
          inl (one, unit.member, subst (λ (s : TrailState). Contains s.literals one) (sym same) (Contains-push a.literals one));
      conflict = λ e. absurd (true≢false e);
      same_list = λ _. refl;
    }

  -- ---- what stays while a trail grows

  -- the clauses are guarded at each start still
  pub levelled_stays : (u v : WatchLists) (a b : TrailState) → Advances clauses cone u v a b → All (λ s. s < length a.literals) a.starts
      → IsLevelled u clauses cone a → IsLevelled v clauses cone b
  levelled_stays u v a b h decided levelled =
      subst (λ starts. All (λ s. AreGuarded v clauses cone (take s b.literals) (take s b.literals)) starts) (sym h.same_starts)
      (λ k d within. at (get_or a.starts k d) (decided k d within) (levelled k d within))
    where
      at : (s : ℕ) → s < length a.literals → AreGuarded u clauses cone (take s a.literals) (take s a.literals)
          → AreGuarded v clauses cone (take s b.literals) (take s b.literals)
      at s below g number from to lies = subst (λ ls. IsGuarded v ls ls (clause_at clauses number) number)
          (sym (take-front s a.literals b.literals (omega (arith, below)) h.front))
          (⊎_elim (λ t. inl t) (λ f. inr (h.stay (take s a.literals) number (all_of_first s a.literals) from f)) (g number from to lies))

  -- a clause is found by two different literals still
  pub apart_stays : (u v : WatchLists) (trues : List Literal) (number : ℕ) → StayFree u v trues → 1 ≤ number
      → (pair_of u number).0 ≢ (pair_of u number).1 → (pair_of v number).0 ≢ (pair_of v number).1
  apart_stays u v trues number stay from apart = (stay [] number (λ k d within. absurd (omega (arith, within))) from (record {
    apart = apart;
    first_free = λ x. absurd (omega (arith, x.1));
    second_free = λ x. absurd (omega (arith, x.1));
  })).apart
