-- What is reached far from the assumptions, behind starts that are members of the cone.
use Rattle.std.proofs.Common.{◌≡◌, ◌∙◌, ℕ, ◌⊎◌, ⊎_elim, ◌<◌, ◌≤◌, true, List, length}
use Rattle.std.specs.List.{All, Contains}
use Rattle.std.proofs.lemmas.List.Elements.{All-contains, All-weaker}
use Rattle.dist_clause.specs.ClauseList.{clause_at}
use Rattle.dist_clause.specs.Formula.{Literal}
use Rattle.dist_derive.specs.ConePrivate.{AreLinesWithin, AreReachedLines, Reaches}
use Rattle.dist_derive.specs.FarPrivate.{FarView, IsFar}
use Rattle.dist_derive.specs.Marking.{HasAll}
use Rattle.dist_derive.specs.VariableSet.{VariableList}
use Rattle.dist_derive.proofs.GrowingLemmas.{ReachesSoFar}

module _ (inputs : List (List Literal)) where
  -- a walk goes on in what the starts reach
  pub far_more : (n : ℕ) (far : FarView) (next : VariableList) → IsFar inputs n far → Reaches inputs far.set next
      → IsFar inputs n (record far { set = next })
  far_more n far next h step = record {
    same_variables = step.same_variables ∙ h.same_variables;
    in_range = h.in_range;
    least = λ has starts under. step.least has (h.least has starts under) under;
  }

  module _ (clauses : List (List Literal)) (last : ℕ) where
    -- lines whose variables are members, or reached from starts that are, are reached from the members
    pub far_lines : (n : ℕ) (far : FarView) (cone : List ℕ) → IsFar inputs n far → All (Contains cone) far.starts
        → ((number : ℕ) → last < number → number ≤ length clauses
        → All (λ l. Contains cone l.variable ⊎ Contains far.set.members l.variable) (clause_at clauses number))
        → AreReachedLines inputs clauses cone last
    far_lines n far cone h within each number above to has all under =
        let starts : HasAll has far.starts = All-weaker (Contains cone) (λ v. has v ≡ true) (λ v. All-contains (λ w. has w ≡ true) cone v all) far.starts
        within in
        All-weaker (λ l. Contains cone l.variable ⊎ Contains far.set.members l.variable) (λ l. has l.variable ≡ true)
        (λ l. ⊎_elim (All-contains (λ v. has v ≡ true) cone l.variable all)
        (All-contains (λ v. has v ≡ true) far.set.members l.variable (h.least has starts under)))
        (clause_at clauses number) (each number above to)

    -- what members of the cone reach is in the cone
    pub reached_within : (assumptions : List Literal) (cone : VariableList) → ReachesSoFar inputs assumptions cone
        → AreReachedLines inputs clauses cone.members last → AreLinesWithin inputs clauses assumptions last
    reached_within assumptions cone h reached number above to k d within has assumed under =
        reached number above to has (h.least has assumed under) under k d within
