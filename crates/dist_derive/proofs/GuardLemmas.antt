-- Clauses that are guarded by two literals or by a true one.
use Rattle.std.proofs.Common.{◌≡◌, ◌≢◌, ℕ, ⊎_elim, inl, inr, ◌+◌, ◌≤◌, Bool, true, false, List, length, take, refl, ap, sym, subst, ◌∙◌}
use Rattle.std.proofs.Common.{arith}
use Rattle.std.specs.List.{Contains}
use Rattle.std.proofs.lemmas.Bool.{cases_eq, true≢false}
use Rattle.std.proofs.lemmas.List.{take-take}
use Rattle.std.proofs.lemmas.List.Elements.{All-contains, All-contains_itself, All-take, Contains-push}
use Rattle.dist_clause.specs.Formula.{Literal, negation}
use Rattle.dist_clause.specs.ClauseList.{clause_at}
use Rattle.dist_derive.specs.ContainmentPrivate.{ContainsAll}
use Rattle.dist_derive.specs.Propagation.{IsFalse, AllFalse, OthersFalse, IsConsistent}
use Rattle.dist_derive.specs.TrueLiterals.{LiteralList, HasOutcome}
use Rattle.dist_derive.specs.declared.true_literals.Outcome.TheVariants.{Open}
use Rattle.dist_derive.specs.AssumePrivate.{Assumes}
use Rattle.dist_derive.specs.SweepPrivate.{IsRefuted, AllOpen}
use Rattle.dist_derive.specs.Watches.{WatchLists, pair_of, list_of, IsPairKept, AreWatchesOf, IsFree, HasTrueOne, IsGuarded}
use Rattle.dist_derive.specs.WatchesPrivate.{AllGuarded}
use Rattle.dist_derive.specs.WatchesPrivate.{Advances, Looks}
use Rattle.dist_derive.proofs.LiteralLemmas.{same_or_not}
use Rattle.dist_derive.proofs.OutcomeLemmas.{other_false}
use Rattle.dist_derive.proofs.AssumeLemmas.{ContainsAll-then, AllFalse-more}
use Rattle.dist_derive.proofs.WaitLemmas.{All-number, All-from_numbers, Propagates-none, Propagates-then, Propagates-unit, refuted_before}

-- a clause with a true literal is not false or unit, and one with two that are not false isn't
pub true_one_open : (trues clause : List Literal) → IsConsistent trues → HasTrueOne trues clause → HasOutcome trues clause Open
true_one_open trues clause consistent h =
    let l = h.0 in (
      λ all. consistent l h.2 (All-contains (IsFalse trues) clause l all h.1),
      λ m u. elim (same_or_not l m) [
        | inl same ↦ u.unset.0 (subst (λ x. Contains trues x) same h.2)
        | inr other ↦ consistent l h.2 (other_false trues clause m l u.others h.1 other)
      ],
    )

pub two_free_open : (trues clause : List Literal) (a b : Literal) → a ≢ b → Contains clause a → Contains clause b → (¬ IsFalse trues a)
    → (¬ IsFalse trues b) → HasOutcome trues clause Open
two_free_open trues clause a b apart first second free_a free_b = (
  λ all. free_a (All-contains (IsFalse trues) clause a all first),
  λ m u. elim (same_or_not a m) [
    | inl same ↦ free_b (other_false trues clause m b u.others second (λ e. apart (same ∙ sym e)))
    | inr other ↦ free_a (other_false trues clause m a u.others first other)
  ],
)

pub all_guarded_open : (watches : WatchLists) (clauses : List (List Literal)) (last : ℕ) (trues : List Literal) → IsConsistent trues
    → AreWatchesOf watches clauses → AllGuarded watches clauses last trues trues → AllOpen trues (take last clauses)
all_guarded_open watches clauses last trues consistent watched guarded =
    All-from_numbers (λ c. HasOutcome trues c Open) clauses last (λ number from to. ⊎_elim
    (λ h. true_one_open trues (clause_at clauses number) consistent h)
    (λ (f : IsFree watches trues number). let w = watched.watched number from f.apart in
    two_free_open trues (clause_at clauses number) (pair_of watches number).0 (pair_of watches number).1 f.apart w.first w.second f.first_free f.second_free)
    (guarded number from to))

pub true_one_more : (trues more clause : List Literal) → ContainsAll more trues → HasTrueOne trues clause → HasTrueOne more clause
true_one_more trues more clause kept h = (h.0, h.1, All-contains (Contains more) trues h.0 kept h.2)

pub free_fewer : (watches : WatchLists) (trues few : List Literal) (number : ℕ) → ContainsAll trues few → IsFree watches trues number
    → IsFree watches few number
free_fewer watches trues few number among f = record {
  apart = f.apart;
  first_free = λ x. f.first_free (All-contains (Contains trues) few (negation (pair_of watches number).0) among x);
  second_free = λ x. f.second_free (All-contains (Contains trues) few (negation (pair_of watches number).1) among x);
}

pub ContainsAll-take : {X : Type 0} (n : ℕ) (xs : List X) → ContainsAll xs (take n xs)
ContainsAll-take n xs = All-take (Contains xs) n xs (All-contains_itself xs)

-- the first ones of a longer list
pub take-front : {X : Type 0} (n : ℕ) (xs ys : List X) → n ≤ length xs → take (length xs) ys ≡ xs → take n ys ≡ take n xs
take-front n xs ys within front = sym (take-take n (length xs) ys within) ∙ ap (take n) front

-- a number that has the same two literals, or two equal ones before, is free where it was
pub kept_free : (u v : WatchLists) (n : ℕ) → IsPairKept u.pairs v.pairs n → (seen : List Literal) → IsFree u seen n → IsFree v seen n
kept_free u v n kept seen f = ⊎_elim
    (λ same. record {
      apart = λ e. f.apart (subst (λ (p : Literal × Literal). p.0 ≡ p.1) same e);
      first_free = λ h. f.first_free (subst (λ (p : Literal × Literal). IsFalse seen p.0) same h);
      second_free = λ h. f.second_free (subst (λ (p : Literal × Literal). IsFalse seen p.1) same h);
    })
    (λ equal. absurd (f.apart equal.0))
    kept

module _ (clauses : List (List Literal)) (last : ℕ) where
  pub advances_none : (w : WatchLists) (s : LiteralList) → Advances clauses last w w s s
  advances_none w s = record {
    grows = Propagates-none (take last clauses) s;
    stay = λ seen number among from f. f;
    watches = λ h. h;
  }

  pub advances_then : (u v w : WatchLists) (a b c : LiteralList) → Advances clauses last u v a b → Advances clauses last v w b c
      → Advances clauses last u w a c
  advances_then u v w a b c first second = record {
    grows = Propagates-then (take last clauses) a b c first.grows second.grows;
    stay = λ seen number among from f. second.stay seen number (ContainsAll-then seen a.literals b.literals among first.grows.kept) from
        (first.stay seen number among from f);
    watches = λ h. second.watches (first.watches h);
  }

  pub refuted_later : (u v : WatchLists) (a b : LiteralList) → Advances clauses last u v a b → IsRefuted (take last clauses) b.literals
      → IsRefuted (take last clauses) a.literals
  refuted_later u v a b h refuted = refuted_before (take last clauses) a b h.grows refuted

  -- a clause that is guarded where some true literals are taken stays so
  pub guarded_stays : (u v : WatchLists) (a b : LiteralList) → Advances clauses last u v a b → (seen clause : List Literal) (number : ℕ)
      → ContainsAll a.literals seen → 1 ≤ number → IsGuarded u a.literals seen clause number → IsGuarded v b.literals seen clause number
  guarded_stays u v a b h seen clause number among from g = ⊎_elim
      (λ t. inl (true_one_more a.literals b.literals clause h.grows.kept t))
      (λ f. inr (h.stay seen number among from f))
      g

  pub all_guarded_stay : (u v : WatchLists) (a b : LiteralList) → Advances clauses last u v a b → (few done : ℕ) → done ≤ length a.literals
      → AllGuarded u clauses few a.literals (take done a.literals) → AllGuarded v clauses few b.literals (take done b.literals)
  all_guarded_stay u v a b h few done within g = λ number from to.
      subst (λ seen. IsGuarded v b.literals seen (clause_at clauses number) number)
      (sym (take-front done a.literals b.literals within h.grows.front))
      (guarded_stays u v a b h (take done a.literals) (clause_at clauses number) number (ContainsAll-take done a.literals) from (g number from to))

  -- a false clause, and one with one literal left
  module _ (enough : last ≤ length clauses) (number : ℕ) (from : 1 ≤ number) (to : number ≤ last) where
    pub refuted_false : (trues : List Literal) → AllFalse trues (clause_at clauses number) → IsRefuted (take last clauses) trues
    refuted_false trues all = λ more among _ no_conflict. All-number (λ c. ¬ AllFalse more c) clauses last number enough from to no_conflict
        (AllFalse-more trues more (clause_at clauses number) among all)

    pub looks_true : (w : WatchLists) (s : LiteralList) (l : Literal) → Contains (clause_at clauses number) l → Contains s.literals l
        → Looks clauses last number w w s s true
    looks_true w s l member is = record {
      advances = advances_none w s;
      guarded = λ _. inl (l, member, is);
      refuted = λ e. absurd (true≢false e);
      false_lists = λ l _. refl;
    }

    pub looks_false : (w : WatchLists) (s : LiteralList) → AllFalse s.literals (clause_at clauses number) → Looks clauses last number w w s s false
    looks_false w s all = record {
      advances = advances_none w s;
      guarded = λ e. absurd (true≢false (sym e));
      refuted = λ _. refuted_false s.literals all;
      false_lists = λ l _. refl;
    }

    -- two literals that are not false are watched now
    pub looks_watched : (u v : WatchLists) (s : LiteralList) (a b : Literal) → a ≢ b → (¬ IsFalse s.literals a) → (¬ IsFalse s.literals b)
        → pair_of v number ≡ (a, b) → ((n : ℕ) → 1 ≤ n → n ≢ number → (seen : List Literal) → IsFree u seen n → IsFree v seen n)
        → ((l : Literal) → l ≢ a → l ≢ b → list_of v l ≡ list_of u l) → (AreWatchesOf u clauses → AreWatchesOf v clauses)
        → Looks clauses last number u v s s true
    looks_watched u v s a b apart free_a free_b pair others lists watched =
        let free : IsFree v s.literals number = record {
          apart = λ e. apart (sym (ap (λ (p : Literal × Literal). p.0) pair) ∙ (e ∙ ap (λ (p : Literal × Literal). p.1) pair));
          first_free = λ f. free_a (subst (λ (l : Literal). IsFalse s.literals l) (ap (λ (p : Literal × Literal). p.0) pair) f);
          second_free = λ f. free_b (subst (λ (l : Literal). IsFalse s.literals l) (ap (λ (p : Literal × Literal). p.1) pair) f);
        } in
        record {
          advances = record {
            grows = Propagates-none (take last clauses) s;
            stay = λ seen n among one f. elim (cases_eq n number) [
              | inl same ↦ subst (λ k. IsFree v seen k) (sym same) (free_fewer v s.literals seen number among free)
              | inr other ↦ others n one other seen f
            ];
            watches = watched;
          };
          guarded = λ _. inr free;
          refuted = λ e. absurd (true≢false e);
          false_lists = λ l f. lists l (λ e. free_a (subst (λ (m : Literal). IsFalse s.literals m) e f))
              (λ e. free_b (subst (λ (m : Literal). IsFalse s.literals m) e f));
        }

    -- the last literal that is not false is true now
    pub looks_unit : (w : WatchLists) (old new : LiteralList) (l : Literal) (fine : Bool) → Contains (clause_at clauses number) l
        → (¬ IsFalse old.literals l) → OthersFalse old.literals (clause_at clauses number) l → Assumes old new l fine
        → Looks clauses last number w w old new fine
    looks_unit w old new l true member free others h = ⊎_elim
        (λ x. subst (λ (s : LiteralList). Looks clauses last number w w old s true) (sym x.0) (looks_true w old l member x.1))
        (λ x. record {
          advances = record {
            grows = Propagates-unit clauses last enough old new number l x.0 from to (record { member = member; unset = x.1; others = others });
            stay = λ seen n among one f. f;
            watches = λ h. h;
          };
          guarded = λ _. inl (l, member, subst (λ (s : LiteralList). Contains s.literals l) (sym x.0) (Contains-push old.literals l));
          refuted = λ e. absurd (true≢false e);
          false_lists = λ l _. refl;
        })
        h
    looks_unit w old new l false member free others h = absurd (free h.1)

-- clauses up to a place are taken in, where some true literals are taken
pub record TakesIn (clauses : List (List Literal)) (last done place : ℕ) (start now : WatchLists) (before after : LiteralList) : Type 0 where
  pub advances : Advances clauses last start now before after
  pub guarded : AllGuarded now clauses place after.literals (take done after.literals)

module _ (clauses : List (List Literal)) (last done : ℕ) where
  pub takes_none : (w : WatchLists) (s : LiteralList) (taken : ℕ) → AllGuarded w clauses taken s.literals (take done s.literals)
      → TakesIn clauses last done taken w w s s
  takes_none w s taken guarded = record { advances = advances_none clauses last w s; guarded = guarded }

  pub takes_more : (u w v : WatchLists) (a s b : LiteralList) (place : ℕ) → done ≤ length a.literals → TakesIn clauses last done place u w a s
      → Looks clauses last (place + 1) w v s b true → TakesIn clauses last done (place + 1) u v a b
  takes_more u w v a s b place few h looks = record {
    advances = advances_then clauses last u w v a s b h.advances looks.advances;
    guarded = λ number from to. elim (cases_eq number (place + 1)) [
      | inl same ↦ subst (λ n. IsGuarded v b.literals (take done b.literals) (clause_at clauses n) n) (sym same)
          (⊎_elim
          (λ t. inl t)
          (λ f. inr (free_fewer v b.literals (take done b.literals) (place + 1) (ContainsAll-take done b.literals) f))
          (looks.guarded refl))
      | inr other ↦ all_guarded_stay clauses last w v s b looks.advances place done (omega (arith, few, h.advances.grows.longer)) h.guarded number from
          (omega (arith, to, other))
    ];
  }
