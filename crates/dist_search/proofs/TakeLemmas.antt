-- A walk along the clauses that are found by a literal which is false now, and one along the trail.
use Rattle.std.proofs.Common.{◌≡◌, ◌≢◌, ℕ, ◌⊎◌, ⊎_elim, inl, inr, ◌+◌, ◌-◌, ◌<◌, ◌≤◌, true, false, List, length, get_or, take, refl, ap, sym, subst}
use Rattle.std.proofs.Common.{◌∙◌, arith}
use Rattle.std.specs.List.{Contains}
use Rattle.std.proofs.lemmas.Bool.{cases_eq, true≢false}
use Rattle.std.proofs.lemmas.List.{get_or_default, take_all}
use Rattle.std.proofs.lemmas.List.Elements.{Contains-push_cases, All-contains}
use Rattle.dist_clause.specs.Formula.{Literal, literal, negation}
use Rattle.dist_clause.specs.ClauseList.{clause_at}
use Rattle.dist_derive.specs.Propagation.{IsFalse}
use Rattle.dist_derive.specs.Watches.{WatchLists, pair_in, pair_of, list_of, HasOther, HasNot, Pends, AreWatchesOf, IsFree, IsGuarded}
use Rattle.dist_search.specs.Trail.{TrailState, literal_at}
use Rattle.dist_search.specs.Guard.{AreGuarded, Advances}
use Rattle.dist_search.specs.GuardPrivate.{LiesIn, IsTaking, GoesOn, IsMoved, Looks}
use Rattle.dist_search.proofs.GuardLiterals.{same_or_not, negation-twice, take-front, take_item, all_of_first, all_of_front}
use Rattle.dist_search.proofs.GuardLemmas.{other_apart, kept_not_false, moved_by, literal_later, guarded_stays}
use Rattle.dist_search.proofs.GuardLemmas.{advances_none, advances_then, goes_none, goes_then}

-- the literals of a number stay the same while lists change
free_pairs : (v x : WatchLists) (seen : List Literal) (number : ℕ) → x.pairs ≡ v.pairs → IsFree v seen number → IsFree x seen number
free_pairs v x seen number pairs f =
    let same : pair_of x number ≡ pair_of v number = ap (λ ps. pair_in ps number) pairs in
    record {
      apart = λ e. f.apart (subst (λ (p : Literal × Literal). p.0 ≡ p.1) same e);
      first_free = λ h. f.first_free (subst (λ (p : Literal × Literal). IsFalse seen p.0) same h);
      second_free = λ h. f.second_free (subst (λ (p : Literal × Literal). IsFalse seen p.1) same h);
    }

guarded_pairs : (v x : WatchLists) (trues seen clause : List Literal) (number : ℕ) → x.pairs ≡ v.pairs → IsGuarded v trues seen clause number
    → IsGuarded x trues seen clause number
guarded_pairs v x trues seen clause number pairs g = ⊎_elim (λ t. inl t) (λ f. inr (free_pairs v x seen number pairs f)) g

-- with one more true literal one stays free that is not its negation
next_false : (trues : List Literal) (done : ℕ) (t l m : Literal) → done < length trues → t ≡ literal_at trues done → l ≡ negation t → m ≢ l
    → (¬ IsFalse (take done trues) m) → ¬ IsFalse (take (done + 1) trues) m
next_false trues done t l m within is opposite other free h = ⊎_elim
    (λ g. free g)
    (λ e. other (sym (ap negation e ∙ negation-twice m) ∙ sym opposite))
    (Contains-push_cases (take done trues) t (negation m)
    (subst (λ ts. Contains ts (negation m)) (take_item trues done t (literal 0 false) within is) h))

free_next : (w : WatchLists) (trues : List Literal) (done number : ℕ) (t l : Literal) → done < length trues → t ≡ literal_at trues done → l ≡ negation t
    → (pair_of w number).0 ≢ l → (pair_of w number).1 ≢ l → IsFree w (take done trues) number → IsFree w (take (done + 1) trues) number
free_next w trues done number t l within is opposite first second f = record {
  apart = f.apart;
  first_free = next_false trues done t l (pair_of w number).0 within is opposite first f.first_free;
  second_free = next_false trues done t l (pair_of w number).1 within is opposite second f.second_free;
}

-- so does a number whose literal that became false has given way
moved_next : (w v : WatchLists) (trues : List Literal) (done number : ℕ) (t l : Literal) → done < length trues → t ≡ literal_at trues done
    → l ≡ negation t → IsMoved w v trues number l → IsFree w (take done trues) number → IsFree v (take (done + 1) trues) number
moved_next w v trues done number t l within is opposite moved f = moved_by w v trues (take (done + 1) trues) number l moved
    (all_of_first (done + 1) trues)
    (next_false trues done t l moved.kept within is opposite (λ e. other_apart (pair_of w number) l moved.kept moved.was (sym e))
    (kept_not_false w (take done trues) number l moved.kept moved.was f))

-- the clauses that were looked at are guarded with the next true literal, the others without it and stand in the list still
pub record ComesTo (clauses : List (List Literal)) (cone : List ℕ) (done : ℕ) (l : Literal) (start now : WatchLists) (before after : TrailState)
    (place : ℕ) : Type 0 where
  pub goes_on : GoesOn clauses cone start now before after
  pub guarded : (number : ℕ) → 1 ≤ number → number ≤ length clauses → LiesIn cone (clause_at clauses number)
      → IsGuarded now after.literals (take (done + 1) after.literals) (clause_at clauses number) number
      ⊎ (IsGuarded now after.literals (take done after.literals) (clause_at clauses number) number × Pends now l place number)

module _ (clauses : List (List Literal)) (cone : List ℕ) (done : ℕ) (t l : Literal) (opposite : l ≡ negation t) where
  pub comes_none : (w : WatchLists) (s : TrailState) → AreWatchesOf w clauses → length s.reasons ≡ length s.literals → done < length s.literals
      → t ≡ literal_at s.literals done → AreGuarded w clauses cone s.literals (take done s.literals) → ComesTo clauses cone done l w w s s 0
  comes_none w s watched each within there guarded = record {
    goes_on = goes_none clauses cone w s watched each;
    guarded = λ number from to lies. ⊎_elim (λ h. inl (inl h)) (λ f. by_pair number from f) (guarded number from to lies);
  }
    where
      pends : (number : ℕ) (m : Literal) → m ≡ l → Contains (list_of w m) number → Pends w l 0 number
      pends number m same h =
          let g = subst (λ x. Contains (list_of w x) number) same h in
          (g.0, omega arith, g.1, get_or_default (list_of w l) g.0 0 number g.1 ∙ g.2)

      by_pair : (number : ℕ) → 1 ≤ number → IsFree w (take done s.literals) number
          → IsGuarded w s.literals (take (done + 1) s.literals) (clause_at clauses number) number
          ⊎ (IsGuarded w s.literals (take done s.literals) (clause_at clauses number) number × Pends w l 0 number)
      by_pair number from f =
          let in_lists = watched.watched number from f.apart in
          elim (same_or_not (pair_of w number).0 l) [
            | inl same ↦ inr (inr f, pends number (pair_of w number).0 same in_lists.first_listed)
            | inr first ↦ elim (same_or_not (pair_of w number).1 l) [
              | inl same ↦ inr (inr f, pends number (pair_of w number).1 same in_lists.second_listed)
              | inr second ↦ inl (inr (free_next w s.literals done number t l within there opposite first second f))
            ]
          ]

  module _ (u w v x : WatchLists) (a s b : TrailState) (place next here : ℕ) (h : ComesTo clauses cone done l u w a s place)
      (within : done < length s.literals) (is : t ≡ literal_at s.literals done) (below : place < length (list_of w l))
      (there : here ≡ get_or (list_of w l) place 0) (looks : Looks clauses cone here l w v s b true) (is_false : IsFalse s.literals l)
      (pairs : x.pairs ≡ v.pairs) (watches : AreWatchesOf x clauses) (pending : (n : ℕ) → n ≢ here → Pends v l place n → Pends x l next n) where
    -- what was guarded before the look is after it
    moved : (k number : ℕ) → k ≤ length s.literals → 1 ≤ number → IsGuarded w s.literals (take k s.literals) (clause_at clauses number) number
        → IsGuarded x b.literals (take k b.literals) (clause_at clauses number) number
    moved k number few from g = guarded_pairs v x b.literals (take k b.literals) (clause_at clauses number) number pairs
        (subst (λ seen. IsGuarded v b.literals seen (clause_at clauses number) number)
        (sym (take-front k s.literals b.literals few looks.goes_on.advances.front))
        (guarded_stays clauses cone w v s b looks.goes_on.advances (take k s.literals) (clause_at clauses number) number (all_of_first k s.literals) from g))

    -- the clause that was looked at
    this : 1 ≤ here → here ≤ length clauses → LiesIn cone (clause_at clauses here)
        → IsGuarded x b.literals (take (done + 1) b.literals) (clause_at clauses here) here
    this from to lies = ⊎_elim (λ g. before g) (λ g. pending_one g.0) (h.guarded here from to lies)
      where
        before : IsGuarded w s.literals (take (done + 1) s.literals) (clause_at clauses here) here
            → IsGuarded x b.literals (take (done + 1) b.literals) (clause_at clauses here) here
        before g = moved (done + 1) here (omega (arith, within)) from g

        free_now : IsFree v (take (done + 1) s.literals) here → IsGuarded x b.literals (take (done + 1) b.literals) (clause_at clauses here) here
        free_now f = inr (free_pairs v x (take (done + 1) b.literals) here pairs
            (subst (λ seen. IsFree v seen here)
            (sym (take-front (done + 1) s.literals b.literals (omega (arith, within)) looks.goes_on.advances.front)) f))

        pending_one : IsGuarded w s.literals (take done s.literals) (clause_at clauses here) here
            → IsGuarded x b.literals (take (done + 1) b.literals) (clause_at clauses here) here
        pending_one g = elim g [
          | inl t ↦ before (inl t)
          | inr f ↦ elim (looks.guarded refl from to lies) [
            | inl one ↦ inl one
            | inr (inl m) ↦ free_now (moved_next w v s.literals done here t l within is opposite m f)
            | inr (inr still) ↦
                let not = subst (λ (y : WatchLists). HasNot (pair_of y here) l) still.0 still.2 f.apart in
                before (inr (free_next w s.literals done here t l within is opposite not.0 not.1 f))
          ]
        ]

    -- the step itself
    passed : GoesOn clauses cone w x s b
    passed = record {
      advances = record {
        watches = watches;
        stay = λ seen number among from f. free_pairs v x seen number pairs (looks.goes_on.advances.stay seen number among from f);
        same_variables = looks.goes_on.advances.same_variables;
        same_starts = looks.goes_on.advances.same_starts;
        longer = looks.goes_on.advances.longer;
        front = looks.goes_on.advances.front;
        reasons = looks.goes_on.advances.reasons;
        given = looks.goes_on.advances.given;
      };
      same_head = looks.goes_on.same_head;
    }

    pub comes_more : ComesTo clauses cone done l u x a b next
    comes_more = record {
      goes_on = goes_then clauses cone u w x a s b h.goes_on passed;
      guarded = λ number from to lies. elim (cases_eq number here) [
        | inl same ↦ inl (subst (λ n. IsGuarded x b.literals (take (done + 1) b.literals) (clause_at clauses n) n) (sym same)
            (this (subst (λ n. 1 ≤ n) same from) (subst (λ n. n ≤ length clauses) same to)
            (subst (λ n. LiesIn cone (clause_at clauses n)) same lies)))
        | inr other ↦ ⊎_elim
            (λ g. inl (moved (done + 1) number (omega (arith, within)) from g))
            (λ g. inr (moved done number (omega (arith, within)) from g.0, pending number other (unmoved number g.1)))
            (h.guarded number from to lies)
      ];
    }
      where
        unmoved : (number : ℕ) → Pends w l place number → Pends v l place number
        unmoved number p = subst (λ ns. (k : ℕ) × (place ≤ k) × (k < length ns) × (get_or ns k 0 ≡ number)) (sym (looks.same_list is_false)) p

-- what stands behind a place stands behind the next one, but for the number at it
pub pends_behind : (w : WatchLists) (l : Literal) (place here : ℕ) → here ≡ get_or (list_of w l) place 0 → (n : ℕ) → n ≢ here → Pends w l place n
    → Pends w l (place + 1) n
pends_behind w l place here there n other p =
    let later : p.0 ≢ place = λ e. other (sym p.3 ∙ (ap (λ k. get_or (list_of w l) k 0) e ∙ sym there)) in
    (p.0, omega (arith, p.1, later), p.2, p.3)

-- a clause that is not read: no literal of it that lies in the cone is found here
pub passes_over : (clauses : List (List Literal)) (cone : List ℕ) (number : ℕ) (l : Literal) (w : WatchLists) (s : TrailState)
    → AreWatchesOf w clauses → length s.reasons ≡ length s.literals
    → (1 ≤ number → number ≤ length clauses → LiesIn cone (clause_at clauses number) → HasNot (pair_of w number) l)
    → Looks clauses cone number l w w s s true
passes_over clauses cone number l w s watched each not = record {
  goes_on = goes_none clauses cone w s watched each;
  guarded = λ e from to lies. inr (inr (refl, refl, not from to lies));
  conflict = λ e. absurd (true≢false e);
  same_list = λ _. refl;
}

-- the other literal that a clause is found by is one of its own
pub other_in : (w : WatchLists) (clauses : List (List Literal)) (number : ℕ) (l other : Literal) → 1 ≤ number → HasOther (pair_of w number) l other
    → AreWatchesOf w clauses → Contains (clause_at clauses number) other
other_in w clauses number l other from has h =
    let watched = h.watched number from has.0 in
    ⊎_elim (λ e. subst (λ m. Contains (clause_at clauses number) m) e.1 watched.second)
    (λ e. subst (λ m. Contains (clause_at clauses number) m) e.1 watched.first)
    has.1

-- at the end of the list
pub comes_end : (clauses : List (List Literal)) (cone : List ℕ) (done : ℕ) (l : Literal) (u w : WatchLists) (a s : TrailState) (place : ℕ)
    → ComesTo clauses cone done l u w a s place → length (list_of w l) ≤ place → a.head ≡ done + 1
    → AreGuarded w clauses cone s.literals (take s.head s.literals)
comes_end clauses cone done l u w a s place h all head number from to lies =
    subst (λ k. IsGuarded w s.literals (take k s.literals) (clause_at clauses number) number) (sym (h.goes_on.same_head ∙ head))
    (⊎_elim (λ g. g) (λ g. absurd (omega (arith, g.1.1, g.1.2, all))) (h.guarded number from to lies))

-- a true literal's negation is false, and stays so when others come behind
pub taken_false : (a s : List Literal) (done : ℕ) (t l : Literal) → done < length a → t ≡ literal_at a done → l ≡ negation t → take (length a) s ≡ a
    → IsFalse s l
taken_false a s done t l within is opposite front =
    let here : Contains a t = (done, within, get_or_default a done t (literal 0 false) within ∙ sym is) in
    subst (λ m. Contains s m) (sym (ap negation opposite ∙ negation-twice t)) (All-contains (Contains s) a t (all_of_front a s front) here)

-- a place before the end has the same literal when others come behind
pub same_item : (a s : List Literal) (done : ℕ) (t : Literal) → done < length a → t ≡ literal_at a done → take (length a) s ≡ a
    → t ≡ literal_at s done
same_item a s done t within is front = is ∙ sym (literal_later a s done within front)

-- clauses are guarded by the literals that were taken
pub record TakenTo (clauses : List (List Literal)) (cone : List ℕ) (start now : WatchLists) (before after : TrailState) : Type 0 where
  pub advances : Advances clauses cone start now before after
  pub guarded : AreGuarded now clauses cone after.literals (take after.head after.literals)

module _ (clauses : List (List Literal)) (cone : List ℕ) where
  pub taken_none : (w : WatchLists) (s : TrailState) → AreWatchesOf w clauses → length s.reasons ≡ length s.literals
      → AreGuarded w clauses cone s.literals (take s.head s.literals) → TakenTo clauses cone w w s s
  taken_none w s watched each guarded = record { advances = advances_none clauses cone w s watched each; guarded = guarded }

  -- the next literal is taken
  module _ (w : WatchLists) (s t : TrailState) (next : t ≡ record s { head = s.head + 1 }) where
    pub next_taking : (l : Literal) → s.head < length s.literals → l ≡ literal_at s.literals s.head
        → AreGuarded w clauses cone s.literals (take s.head s.literals) → IsTaking w clauses cone t l
    next_taking l within there guarded =
        let same : s.head ≡ s.head + 1 - 1 = omega arith in
        subst (λ (x : TrailState). IsTaking w clauses cone x l) (sym next) (record {
          from_one = omega arith;
          to_end = omega (arith, within);
          there = subst (λ k. l ≡ literal_at s.literals k) same there;
          guarded = subst (λ k. AreGuarded w clauses cone s.literals (take k s.literals)) same guarded;
        })

    pub next_advances : (u v : WatchLists) (a b : TrailState) → Advances clauses cone u w a s → GoesOn clauses cone w v t b → Advances clauses cone u v a b
    next_advances u v a b before step =
        let h = subst (λ (x : TrailState). GoesOn clauses cone w v x b) next step in
        advances_then clauses cone u w v a s b before (record {
          watches = h.advances.watches;
          stay = h.advances.stay;
          same_variables = h.advances.same_variables;
          same_starts = h.advances.same_starts;
          longer = h.advances.longer;
          front = h.advances.front;
          reasons = h.advances.reasons;
          given = h.advances.given;
        })

  pub taken_all : (u w : WatchLists) (a s : TrailState) → TakenTo clauses cone u w a s → s.head ≡ length s.literals
      → AreGuarded w clauses cone s.literals s.literals
  taken_all u w a s h all = subst (λ seen. AreGuarded w clauses cone s.literals seen) (take_all s.head s.literals (omega (arith, all))) h.guarded
