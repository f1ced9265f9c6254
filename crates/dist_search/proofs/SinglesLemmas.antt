-- The single literals of a cone, one after another.
use Rattle.std.proofs.Common.{◌≡◌, ◌≢◌, ℕ, ◌+◌, ◌<◌, true, false, List, [], length, get_or, take, refl, sym, subst, ◌∙◌, arith}
use Rattle.std.specs.List.{All, Contains}
use Rattle.std.proofs.lemmas.List.{get_or_default, take_more}
use Rattle.std.proofs.lemmas.List.Elements.{All-push, All-weaker, All-contains}
use Rattle.dist_clause.specs.Formula.{Literal, literal}
use Rattle.dist_derive.specs.OccurrencesPrivate.{code_of}
use Rattle.dist_search.proofs.ContainmentLemmas.{ContainsAll-itself, ContainsAll-then}
use Rattle.dist_search.specs.Search.{SearchState}
use Rattle.dist_search.specs.QuestionPrivate.{IsBegun, IsTaken, Goes}

pub goes_none : (s : SearchState) → Goes s s
goes_none s = record {
  same_variables = refl;
  same_singles = refl;
  same_watched = refl;
  conflict = λ e. e;
  kept = ContainsAll-itself s.trail.literals;
}

pub goes_then : (a b c : SearchState) → Goes a b → Goes b c → Goes a c
goes_then a b c first second = record {
  same_variables = second.same_variables ∙ first.same_variables;
  same_singles = second.same_singles ∙ first.same_singles;
  same_watched = second.same_watched ∙ first.same_watched;
  conflict = λ e. first.conflict (second.conflict e);
  kept = ContainsAll-then a.trail.literals b.trail.literals c.trail.literals first.kept second.kept;
}

-- what was taken stays true
pub taken_stays : (a b : SearchState) (l : Literal) → Goes a b → IsTaken a l → IsTaken b l
taken_stays a b l goes h some =
    let before : get_or a.singles (code_of l) 0 ≢ 0 = subst (λ ns. get_or ns (code_of l) 0 ≢ 0) goes.same_singles some in
    All-contains (Contains b.trail.literals) a.trail.literals l goes.kept (h before)

abbrev pub AreTaken : SearchState → ℕ → Type 0
AreTaken s v = IsTaken s (literal v true) × IsTaken s (literal v false)

-- the single literals of some variables are taken
pub record Takes (cone members : List ℕ) (old new : SearchState) : Type 0 where
  pub goes : Goes old new
  pub begun : (clauses : List (List Literal)) (assumptions : List Literal) → IsBegun clauses assumptions cone old → IsBegun clauses assumptions cone new
  pub taken : new.conflict ≡ 0 → All (AreTaken new) members

pub takes_none : (cone : List ℕ) (s : SearchState) → Takes cone [] s s
takes_none cone s = record { goes = goes_none s; begun = λ clauses assumptions h. h; taken = λ _ k d within. absurd (omega (arith, within)) }

-- what a call for one literal does
pub record TakesOne (l : Literal) (old new : SearchState) : Type 0 where
  pub goes : Goes old new
  pub begun : (clauses : List (List Literal)) (assumptions : List Literal) (cone : List ℕ) → Contains cone l.variable → IsBegun clauses assumptions cone old
      → IsBegun clauses assumptions cone new
  pub taken : new.conflict ≡ 0 → IsTaken new l

module _ (cone members : List ℕ) (a b c d : SearchState) (i : ℕ) (within : i < length members)
    (same : members ≡ cone) (before : Takes cone (take i members) a b)
    (first : TakesOne (literal (get_or members i 0) true) b c) (second : TakesOne (literal (get_or members i 0) false) c d) where
  pub both_goes : Goes a d
  both_goes = goes_then a c d (goes_then a b c before.goes first.goes) second.goes

  pub both_begun : (clauses : List (List Literal)) (assumptions : List Literal) → IsBegun clauses assumptions cone a → IsBegun clauses assumptions cone d
  both_begun clauses assumptions h =
      let member : Contains cone (get_or members i 0) = subst (λ vs. Contains vs (get_or members i 0)) same
      (i, within, get_or_default members i (get_or members i 0) 0 within) in
      second.begun clauses assumptions cone member (first.begun clauses assumptions cone member (before.begun clauses assumptions h))

  pub takes_more : Takes cone (take (i + 1) members) a d
  takes_more = record {
    goes = both_goes;
    begun = both_begun;
    taken = λ none.
        let none_first = second.goes.conflict none in
        let earlier : All (AreTaken d) (take i members) = All-weaker (AreTaken b) (AreTaken d)
        (λ v h. let l = literal v true in let m = literal v false in (
          taken_stays b d l (goes_then b c d first.goes second.goes) h.0,
          taken_stays b d m (goes_then b c d first.goes second.goes) h.1,
        )) (take i members) (before.taken (first.goes.conflict none_first)) in
        let now : AreTaken d (get_or members i 0) =
        (taken_stays c d (literal (get_or members i 0) true) second.goes (first.taken none_first), second.taken none) in
        subst (λ vs. All (AreTaken d) vs) (sym (take_more members i 0 within)) (All-push (AreTaken d) (take i members) (get_or members i 0) earlier now);
  }
