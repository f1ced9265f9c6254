-- A walk along the clauses that are found by a literal which is false now.
use Rattle.std.proofs.Common.{◌≡◌, ◌≢◌, ℕ, ◌⊎◌, ⊎_elim, inl, inr, ◌+◌, ◌<◌, ◌≤◌, Bool, true, List, length, get_or, take, refl, ap, sym, subst}
use Rattle.std.proofs.Common.{◌∙◌, arith}
use Rattle.std.specs.List.{Contains}
use Rattle.std.proofs.lemmas.Bool.{cases_eq, true≢false}
use Rattle.std.proofs.lemmas.List.{get_or_default, get_or-take, take_all}
use Rattle.std.proofs.lemmas.List.Elements.{Contains-push_cases, All-contains}
use Rattle.dist_clause.specs.Formula.{Literal, negation}
use Rattle.dist_clause.specs.ClauseList.{clause_at}
use Rattle.dist_derive.specs.Propagation.{IsFalse}
use Rattle.dist_derive.specs.TrueLiterals.{LiteralList}
use Rattle.dist_derive.specs.Watches.{WatchLists, pair_in, pair_of, list_of, HasOther, HasNot, Pends, AreWatchesOf, IsFree, IsGuarded}
use Rattle.dist_derive.specs.WatchesPrivate.{AllGuarded}
use Rattle.dist_derive.specs.WatchesPrivate.{Advances, Looks, LooksAgain}
use Rattle.dist_derive.proofs.LiteralLemmas.{same_or_not}
use Rattle.dist_derive.proofs.ValuedLemmas.{take_item}
use Rattle.dist_derive.proofs.WaitLemmas.{negation-twice, Propagates-none}
use Rattle.dist_derive.proofs.GuardLemmas.{free_fewer, ContainsAll-take, take-front, advances_none, advances_then, guarded_stays}

-- the literals of a number stay the same while lists change
free_pairs : (v x : WatchLists) (seen : List Literal) (number : ℕ) → x.pairs ≡ v.pairs → IsFree v seen number → IsFree x seen number
free_pairs v x seen number pairs f =
    let same : pair_of x number ≡ pair_of v number = ap (λ ps. pair_in ps number) pairs in
    record {
      apart = λ e. f.apart (subst (λ (p : Literal × Literal). p.0 ≡ p.1) same e);
      first_free = λ h. f.first_free (subst (λ (p : Literal × Literal). IsFalse seen p.0) same h);
      second_free = λ h. f.second_free (subst (λ (p : Literal × Literal). IsFalse seen p.1) same h);
    }

guarded_pairs : (v x : WatchLists) (trues seen clause : List Literal) (number : ℕ) → x.pairs ≡ v.pairs → IsGuarded v trues seen clause number
    → IsGuarded x trues seen clause number
guarded_pairs v x trues seen clause number pairs g = ⊎_elim (λ t. inl t) (λ f. inr (free_pairs v x seen number pairs f)) g

-- the clauses that were looked at are guarded with the next true literal, the others without it and stand in the list still
pub record ComesTo (clauses : List (List Literal)) (last done : ℕ) (l : Literal) (start now : WatchLists) (before after : LiteralList) (place : ℕ)
    : Type 0 where
  pub advances : Advances clauses last start now before after
  pub watched : AreWatchesOf now clauses
  pub guarded : (number : ℕ) → 1 ≤ number → number ≤ last
      → IsGuarded now after.literals (take (done + 1) after.literals) (clause_at clauses number) number
      ⊎ (IsGuarded now after.literals (take done after.literals) (clause_at clauses number) number × Pends now l place number)

-- with one more true literal two literals stay free that are not its negation
free_next : (w : WatchLists) (trues : List Literal) (done number : ℕ) (t l : Literal) → done < length trues → t ≡ get_or trues done t → l ≡ negation t
    → (pair_of w number).0 ≢ l → (pair_of w number).1 ≢ l → IsFree w (take done trues) number → IsFree w (take (done + 1) trues) number
free_next w trues done number t l within is opposite first second f = record {
  apart = f.apart;
  first_free = λ h. still (pair_of w number).0 first f.first_free h;
  second_free = λ h. still (pair_of w number).1 second f.second_free h;
}
  where
    still : (m : Literal) → m ≢ l → (¬ IsFalse (take done trues) m) → ¬ IsFalse (take (done + 1) trues) m
    still m other free h = ⊎_elim
        (λ g. free g)
        (λ e. other (sym (ap negation e ∙ negation-twice m) ∙ sym opposite))
        (Contains-push_cases (take done trues) t (negation m) (subst (λ ts. Contains ts (negation m)) (take_item trues done t within is) h))

module _ (clauses : List (List Literal)) (last done : ℕ) (t l : Literal) (opposite : l ≡ negation t) where
  pub comes_none : (w : WatchLists) (s : LiteralList) → done < length s.literals → t ≡ get_or s.literals done t → AreWatchesOf w clauses
      → AllGuarded w clauses last s.literals (take done s.literals) → ComesTo clauses last done l w w s s 0
  comes_none w s within is watched guarded = record {
    advances = advances_none clauses last w s;
    watched = watched;
    guarded = λ number from to. ⊎_elim (λ h. inl (inl h)) (λ f. by_pair number from f) (guarded number from to);
  }
    where
      pends : (number : ℕ) (m : Literal) → m ≡ l → Contains (list_of w m) number → Pends w l 0 number
      pends number m same h =
          let g = subst (λ x. Contains (list_of w x) number) same h in
          (g.0, omega arith, g.1, get_or_default (list_of w l) g.0 0 number g.1 ∙ g.2)

      by_pair : (number : ℕ) → 1 ≤ number → IsFree w (take done s.literals) number
          → IsGuarded w s.literals (take (done + 1) s.literals) (clause_at clauses number) number
          ⊎ (IsGuarded w s.literals (take done s.literals) (clause_at clauses number) number × Pends w l 0 number)
      by_pair number from f =
          let in_lists = watched.watched number from f.apart in
          elim (same_or_not (pair_of w number).0 l) [
            | inl same ↦ inr (inr f, pends number (pair_of w number).0 same in_lists.first_listed)
            | inr first ↦ elim (same_or_not (pair_of w number).1 l) [
              | inl same ↦ inr (inr f, pends number (pair_of w number).1 same in_lists.second_listed)
              | inr second ↦ inl (inr (free_next w s.literals done number t l within is opposite first second f))
            ]
          ]

  module _ (u w v x : WatchLists) (a s b : LiteralList) (place next here : ℕ) (h : ComesTo clauses last done l u w a s place)
      (within : done < length s.literals) (is : t ≡ get_or s.literals done t) (below : place < length (list_of w l))
      (there : here ≡ get_or (list_of w l) place 0) (looks : LooksAgain clauses last here l w v s b true) (is_false : IsFalse s.literals l)
      (pairs : x.pairs ≡ v.pairs) (watches : AreWatchesOf v clauses → AreWatchesOf x clauses)
      (pending : (n : ℕ) → n ≢ here → Pends v l place n → Pends x l next n) where
    -- what was guarded before the look is after it
    moved : (k number : ℕ) → k ≤ length s.literals → 1 ≤ number → IsGuarded w s.literals (take k s.literals) (clause_at clauses number) number
        → IsGuarded x b.literals (take k b.literals) (clause_at clauses number) number
    moved k number few from g = guarded_pairs v x b.literals (take k b.literals) (clause_at clauses number) number pairs
        (subst (λ seen. IsGuarded v b.literals seen (clause_at clauses number) number)
        (sym (take-front k s.literals b.literals few looks.advances.grows.front))
        (guarded_stays clauses last w v s b looks.advances (take k s.literals) (clause_at clauses number) number (ContainsAll-take k s.literals) from g))

    -- the clause that was looked at
    this : 1 ≤ here → here ≤ last → IsGuarded x b.literals (take (done + 1) b.literals) (clause_at clauses here) here
    this from to = ⊎_elim
        (λ g. guarded_pairs v x b.literals (take (done + 1) b.literals) (clause_at clauses here) here pairs (⊎_elim
        (λ t. inl t)
        (λ f. inr (free_fewer v b.literals (take (done + 1) b.literals) here (ContainsAll-take (done + 1) b.literals) f))
        g))
        (λ still. ⊎_elim
        (λ g. moved (done + 1) here (omega arith) from g)
        (λ g. moved (done + 1) here (omega arith) from (⊎_elim
        (λ t. inl t)
        (λ f. let not = subst (λ (y : WatchLists). HasNot (pair_of y here) l) still.0 still.2 f.apart in
        inr (free_next w s.literals done here t l within is opposite not.0 not.1 f))
        g.0))
        (h.guarded here from to))
        (looks.guarded refl from to)

    pub comes_more : ComesTo clauses last done l u x a b next
    comes_more = record {
      advances = advances_then clauses last u w x a s b h.advances (advances_then clauses last w v x s b b looks.advances (record {
        grows = Propagates-none (take last clauses) b;
        stay = λ seen number among from f. free_pairs v x seen number pairs f;
        watches = watches;
      }));
      watched = watches (looks.advances.watches h.watched);
      guarded = λ number from to. elim (cases_eq number here) [
        | inl same ↦ inl (subst (λ n. IsGuarded x b.literals (take (done + 1) b.literals) (clause_at clauses n) n) (sym same)
            (this (subst (λ n. 1 ≤ n) same from) (subst (λ n. n ≤ last) same to)))
        | inr other ↦ ⊎_elim
            (λ g. inl (moved (done + 1) number (omega arith) from g))
            (λ g. inr (moved done number (omega arith) from g.0, pending number other (unmoved number g.1)))
            (h.guarded number from to)
      ];
    }
      where
        unmoved : (number : ℕ) → Pends w l place number → Pends v l place number
        unmoved number p = subst (λ ns. (k : ℕ) × (place ≤ k) × (k < length ns) × (get_or ns k 0 ≡ number)) (sym (looks.false_lists l is_false)) p

-- a look at a clause that is found by a literal, and none at another
module _ (clauses : List (List Literal)) (last number : ℕ) (l : Literal) where
  pub looks_again : (u v : WatchLists) (a b : LiteralList) (fine : Bool) → Looks clauses last number u v a b fine
      → LooksAgain clauses last number l u v a b fine
  looks_again u v a b fine h = record {
    advances = h.advances;
    guarded = λ e from to. inl (h.guarded e);
    refuted = h.refuted;
    false_lists = h.false_lists;
  }

  pub passes_over : (w : WatchLists) (s : LiteralList) → (1 ≤ number → number ≤ last
      → IsGuarded w s.literals s.literals (clause_at clauses number) number ⊎ ((w ≡ w) × (s ≡ s) × HasNot (pair_of w number) l))
      → LooksAgain clauses last number l w w s s true
  passes_over w s guarded = record {
    advances = advances_none clauses last w s;
    guarded = λ e from to. guarded from to;
    refuted = λ e. absurd (true≢false e);
    false_lists = λ m _. refl;
  }

-- the other literal that a clause is found by is one of its own
pub other_in : (w : WatchLists) (clauses : List (List Literal)) (number : ℕ) (l other : Literal) → 1 ≤ number → HasOther (pair_of w number) l other
    → AreWatchesOf w clauses → Contains (clause_at clauses number) other
other_in w clauses number l other from has h =
    let watched = h.watched number from has.0 in
    ⊎_elim (λ e. subst (λ m. Contains (clause_at clauses number) m) e.1 watched.second)
    (λ e. subst (λ m. Contains (clause_at clauses number) m) e.1 watched.first)
    has.1

-- at the end of the list
pub comes_end : (clauses : List (List Literal)) (last done : ℕ) (l : Literal) (u w : WatchLists) (a s : LiteralList) (place : ℕ)
    → ComesTo clauses last done l u w a s place → length (list_of w l) ≤ place
    → AllGuarded w clauses last s.literals (take (done + 1) s.literals)
comes_end clauses last done l u w a s place h all = λ number from to.
    ⊎_elim (λ g. g) (λ g. absurd (omega (arith, g.1.1, g.1.2, all))) (h.guarded number from to)

-- a true literal's negation is false, and stays so when others come behind
pub taken_false : (a s : List Literal) (done : ℕ) (t l : Literal) → done < length a → t ≡ get_or a done t → l ≡ negation t → take (length a) s ≡ a
    → IsFalse s l
taken_false a s done t l within is opposite front =
    let here : Contains a t = (done, within, get_or_default a done t t within ∙ sym is) in
    let all = subst (λ ts. Contains ts t) (sym front) here in
    subst (λ m. Contains s m) (sym (ap negation opposite ∙ negation-twice t))
    (All-contains (Contains s) (take (length a) s) t (ContainsAll-take (length a) s) all)

-- a place before the end has the same literal when others come behind
pub same_item : (a s : List Literal) (done : ℕ) (t : Literal) → done < length a → t ≡ get_or a done t → take (length a) s ≡ a → t ≡ get_or s done t
same_item a s done t within is front = is ∙ (ap (λ ts. get_or ts done t) (sym front) ∙ get_or-take (length a) s done t within)

-- true literals before a place are taken
pub record TakenTo (clauses : List (List Literal)) (last : ℕ) (start now : WatchLists) (before after : LiteralList) (done : ℕ) : Type 0 where
  pub advances : Advances clauses last start now before after
  pub watched : AreWatchesOf now clauses
  pub guarded : AllGuarded now clauses last after.literals (take done after.literals)

module _ (clauses : List (List Literal)) (last : ℕ) where
  pub taken_none : (w : WatchLists) (s : LiteralList) (done : ℕ) → AreWatchesOf w clauses
      → AllGuarded w clauses last s.literals (take done s.literals) → TakenTo clauses last w w s s done
  taken_none w s done watched guarded = record { advances = advances_none clauses last w s; watched = watched; guarded = guarded }

  pub taken_more : (u w v : WatchLists) (a s b : LiteralList) (done : ℕ) → TakenTo clauses last u w a s done → Advances clauses last w v s b
      → AllGuarded v clauses last b.literals (take (done + 1) b.literals) → TakenTo clauses last u v a b (done + 1)
  taken_more u w v a s b done h step guarded = record {
    advances = advances_then clauses last u w v a s b h.advances step;
    watched = step.watches h.watched;
    guarded = guarded;
  }

  pub taken_all : (u w : WatchLists) (a s : LiteralList) (done : ℕ) → TakenTo clauses last u w a s done → length s.literals ≤ done
      → AllGuarded w clauses last s.literals s.literals
  taken_all u w a s done h all = subst (λ seen. AllGuarded w clauses last s.literals seen) (take_all done s.literals all) h.guarded
