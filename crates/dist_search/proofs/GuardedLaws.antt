-- What guarded clauses are: neither false nor unit.
use Rattle.std.proofs.Common.{◌≡◌, ◌≢◌, ℕ, ◌≤◌, ◌+◌, ◌-◌, ⊎_elim, inl, inr, List, [], get_or, ap, sym, subst, ◌∙◌, arith}
use Rattle.std.specs.List.{All, AllPairs, Contains}
use Rattle.std.proofs.lemmas.Bool.{cases_lt}
use Rattle.std.proofs.lemmas.List.{get_or_default}
use Rattle.dist_clause.specs.Formula.{Literal, IsClauseOver}
use Rattle.dist_clause.specs.ClauseList.{clause_at}
use Rattle.dist_derive.specs.Propagation.{IsFalse, AllFalse, IsPropagated, IsConsistent}
use Rattle.dist_derive.specs.Safe.{AreSettledWithin}
use Rattle.dist_derive.specs.Watches.{WatchLists, AreWatchesOf, IsGuarded, pair_of}
use Rattle.dist_search.specs.Guard.{AreGuarded}

-- different literals of a clause are of different variables
pub apart_in : (clause : List Literal) (l m : Literal) → AllPairs (λ a b. a.variable ≢ b.variable) clause → Contains clause l → Contains clause m → l ≢ m
    → l.variable ≢ m.variable
apart_in clause l m distinct here there other e =
    elim (cases_lt here.0 there.0) [
      | inl below ↦ distinct here.0 there.0 l below there.1
          (ap (λ (x : Literal). x.variable) (at_l here.0 here) ∙ (e ∙ sym (ap (λ (x : Literal). x.variable) (at_m there.0 there))))
      | inr past ↦ elim (cases_lt there.0 here.0) [
        | inl below ↦ distinct there.0 here.0 l below here.1
            (ap (λ (x : Literal). x.variable) (at_m there.0 there) ∙ (sym e ∙ sym (ap (λ (x : Literal). x.variable) (at_l here.0 here))))
        | inr same ↦
            let equal : here.0 ≡ there.0 = omega (arith, past, same) in
            other (sym here.2 ∙ (get_or_default clause here.0 l m here.1 ∙ (ap (λ k. get_or clause k m) equal ∙ there.2)))
      ]
    ]
  where
    at_l : (k : ℕ) (h : Contains clause l) → get_or clause h.0 l ≡ l
    at_l k h = h.2

    at_m : (k : ℕ) (h : Contains clause m) → get_or clause h.0 l ≡ m
    at_m k h = get_or_default clause h.0 l m h.1 ∙ h.2

-- the two laws of what settles a clause, as dist_derive tells them
abbrev pub TrueLiteralSettles : Type 0
TrueLiteralSettles = (trues clause : List Literal) (l : Literal) → IsConsistent trues → Contains clause l → Contains trues l
    → (¬ AllFalse trues clause) × IsPropagated trues clause

abbrev pub TwoLiteralsSettle : Type 0
TwoLiteralsSettle = (trues clause : List Literal) (l m : Literal) → Contains clause l → Contains clause m → l.variable ≢ m.variable → (¬ IsFalse trues l)
    → (¬ IsFalse trues m) → (¬ AllFalse trues clause) × IsPropagated trues clause

module _ (by_true : TrueLiteralSettles) (by_two : TwoLiteralsSettle) where
  pub guarded_settles : (n : ℕ) (watches : WatchLists) (clauses : List (List Literal)) (trues : List Literal) (number : ℕ) → AreWatchesOf watches clauses
      → IsConsistent trues → IsClauseOver n (clause_at clauses number) → 1 ≤ number → IsGuarded watches trues trues (clause_at clauses number) number
      → (¬ AllFalse trues (clause_at clauses number)) × IsPropagated trues (clause_at clauses number)
  guarded_settles n watches clauses trues number are consistent over from guarded = ⊎_elim
      (λ t. by_true trues (clause_at clauses number) t.0 consistent t.1 t.2)
      (λ f.
      let w = are.watched number from f.apart in
      let pair = pair_of watches number in
      by_two trues (clause_at clauses number) pair.0 pair.1 w.first w.second
      (apart_in (clause_at clauses number) pair.0 pair.1 over.distinct w.first w.second f.apart) f.first_free f.second_free)
      guarded

  pub settled_within : (n : ℕ) (watches : WatchLists) (clauses : List (List Literal)) (cone : List ℕ) (trues : List Literal) → AreWatchesOf watches clauses
      → All (IsClauseOver n) clauses → IsConsistent trues → AreGuarded watches clauses cone trues trues → AreSettledWithin cone clauses trues
  settled_within n watches clauses cone trues are over consistent guarded k d within in_cone =
      let same : clause_at clauses (k + 1) ≡ get_or clauses k d = ap (λ i. get_or clauses i []) (place k) ∙ get_or_default clauses k [] d within in
      subst (λ clause. (¬ AllFalse trues clause) × IsPropagated trues clause) same
      (guarded_settles n watches clauses trues (k + 1) are consistent (subst (λ clause. IsClauseOver n clause) (sym same) (over k d within)) (omega arith)
      (guarded (k + 1) (omega arith) (omega (arith, within)) (subst (λ clause. All (λ l. Contains cone l.variable) clause) (sym same) in_cone)))
    where
      place : (j : ℕ) → j + 1 - 1 ≡ j
      place j = omega arith
