-- The next clause is watched, or is known by its single literal.
use Rattle.std.proofs.Common.{◌≡◌, ◌≢◌, ℕ, ⊎_elim, inl, inr, ◌+◌, ◌<◌, ◌≤◌, List, [], ◌∷◌, length, get_or, set, ap, sym, subst, ◌∙◌, arith}
use Rattle.std.specs.List.{Contains}
use Rattle.std.proofs.lemmas.Bool.{cases_eq}
use Rattle.std.proofs.lemmas.List.{get_or_default, get_or-set_same, get_or-set_other}
use Rattle.dist_clause.specs.Formula.{Literal, IsClauseOver}
use Rattle.dist_clause.specs.ClauseList.{clause_at}
use Rattle.dist_derive.specs.OccurrencesPrivate.{code_of}
use Rattle.dist_derive.specs.Follows.{IsNumberOf}
use Rattle.dist_derive.specs.Watches.{WatchLists, pair_of, AreWatchesOf, IsPairKept}
use Rattle.dist_search.proofs.ContainmentLemmas.{same_code}
use Rattle.dist_search.specs.Search.{SearchState, IsWatching}

-- ---- clauses of one literal, and of more

pub only_one : (clause : List Literal) (l : Literal) → 1 ≤ length clause → length clause < 2 → l ≡ get_or clause 0 l → clause ≡ l ∷ []
only_one [] l some few is = absurd (omega (arith, some))
only_one (m ∷ []) l some few is = ap (λ x. x ∷ []) (sym is)
only_one (m ∷ other ∷ more) l some few is = absurd (omega (arith, few))

pub has_one : (clause : List Literal) (i : ℕ) (l : Literal) → i < length clause → l ≡ get_or clause i l → Contains clause l
has_one clause i l within is = (i, within, sym is)

pub two_apart : (n : ℕ) (clause : List Literal) (one other : Literal) → IsClauseOver n clause → 2 ≤ length clause → one ≡ get_or clause 0 one
    → other ≡ get_or clause 1 other → one ≢ other
two_apart n clause one other over some first second same =
    let within : 1 < length clause = omega (arith, some) in
    let start : 0 < length clause = omega (arith, some) in
    over.distinct 0 1 one (omega arith) within (ap (λ (x : Literal). x.variable) (sym first ∙ (same ∙ (second ∙ get_or_default clause 1 other one within))))

-- ---- the next clause

module _ (clauses : List (List Literal)) (s : SearchState) (number : ℕ) (next : number ≡ s.watched + 1) (to : number ≤ length clauses) where
  -- by two literals
  pub watching_pair : (w : WatchLists) (one other : Literal) → Contains (clause_at clauses number) one → Contains (clause_at clauses number) other
      → one ≢ other → pair_of w number ≡ (one, other) → ((n : ℕ) → 1 ≤ n → n ≢ number → IsPairKept s.watches.pairs w.pairs n)
      → ((clauses : List (List Literal)) → Contains (clause_at clauses number) one → Contains (clause_at clauses number) other
      → AreWatchesOf s.watches clauses → AreWatchesOf w clauses) → IsWatching clauses s → IsWatching clauses (record s { watches = w; watched = number })
  watching_pair w one other has_one has_other apart pair others watches h = record {
    within = to;
    watches = watches clauses has_one has_other h.watches;
    covered = λ n from below. elim (cases_eq n number) [
      | inl same ↦ inl (subst (λ k. (pair_of w k).0 ≢ (pair_of w k).1) (sym same)
          (subst (λ (p : Literal × Literal). p.0 ≢ p.1) (sym pair) apart))
      | inr different ↦ ⊎_elim
          (λ (a : (pair_of s.watches n).0 ≢ (pair_of s.watches n).1). inl (⊎_elim
          (λ kept. subst (λ (p : Literal × Literal). p.0 ≢ p.1) (sym kept) a)
          (λ equal. absurd (a equal.0))
          (others n from different)))
          (λ single. inr single)
          (h.covered n from (omega (arith, next, below, different)))
    ];
    singles = h.singles;
  }

  -- by its single literal
  module _ (l : Literal) (single : clause_at clauses number ≡ l ∷ []) (within : code_of l < length s.singles) where
    abbrev marked : List ℕ
    marked = set s.singles (code_of l) number

    marked_some : (m : Literal) → get_or s.singles (code_of m) 0 ≢ 0 → get_or marked (code_of m) 0 ≢ 0
    marked_some m some = elim (cases_eq (code_of m) (code_of l)) [
      | inl same ↦ λ e. absurd (omega (arith, next, e, ap (λ k. get_or marked k 0) same, get_or-set_same s.singles (code_of l) number 0 within))
      | inr other ↦ λ e. some (sym (get_or-set_other s.singles (code_of l) (code_of m) number 0 other) ∙ e)
    ]

    pub watching_single : IsWatching clauses s → IsWatching clauses (record s { singles = set s.singles (code_of l) number; watched = number })
    watching_single h = record {
      within = to;
      watches = h.watches;
      covered = λ n from below. elim (cases_eq n number) [
        | inl same ↦ inr (
          l,
          ap (λ k. clause_at clauses k) same ∙ single,
          λ e. absurd (omega (arith, next, e, get_or-set_same s.singles (code_of l) number 0 within)),
        )
        | inr different ↦ ⊎_elim
            (λ pair. inl pair)
            (λ one. inr (one.0, one.1, marked_some one.0 one.2))
            (h.covered n from (omega (arith, next, below, different)))
      ];
      singles = λ m some. elim (cases_eq (code_of m) (code_of l)) [
        | inl same ↦
            let is : get_or marked (code_of m) 0 ≡ number = ap (λ k. get_or marked k 0) same ∙ get_or-set_same s.singles (code_of l) number 0 within in
            let literal : m ≡ l = same_code m l same in (
              subst (λ n. IsNumberOf clauses n) (sym is) (omega (arith, next), to),
              ap (λ n. clause_at clauses n) is ∙ (single ∙ ap (λ x. x ∷ []) (sym literal)),
            )
        | inr other ↦
            let is : get_or marked (code_of m) 0 ≡ get_or s.singles (code_of m) 0 =
            get_or-set_other s.singles (code_of l) (code_of m) number 0 other in
            let known = h.singles m (λ e. some (is ∙ e)) in
            (subst (λ n. IsNumberOf clauses n) (sym is) known.0, ap (λ n. clause_at clauses n) is ∙ known.1)
      ];
    }
