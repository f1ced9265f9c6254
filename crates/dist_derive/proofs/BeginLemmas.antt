-- True literals that assumptions give, and what they leave unset.
use Rattle.std.proofs.Common.{◌≡◌, ℕ, ◌≤◌, true, false, List, [], ◌∷◌, length, take, refl, sym, subst, arith}
use Rattle.std.specs.List.{All, Contains}
use Rattle.std.proofs.lemmas.List.Elements.{All-nil}
use Rattle.dist_clause.specs.Formula.{Literal}
use Rattle.dist_derive.specs.ContainmentPrivate.{ContainsAll}
use Rattle.dist_derive.specs.Propagation.{IsPropagated}
use Rattle.dist_derive.specs.New.{LeavesFirstUnset}
use Rattle.dist_derive.specs.TrueLiterals.{LiteralList}
use Rattle.dist_derive.specs.AssumePrivate.{AssumesAll}
use Rattle.dist_derive.proofs.AssumeLemmas.{ContainsAll-then}
use Rattle.dist_derive.proofs.WaitLemmas.{All-number, All-from_numbers}

-- true literals that hold the assumptions, and no more than these force
pub record Begins (clauses : List (List Literal)) (assumptions trues : List Literal) : Type 0 where
  pub assumed : ContainsAll trues assumptions
  pub forced : (more : List Literal) → ContainsAll more assumptions → All (IsPropagated more) clauses → ContainsAll more trues

-- what holds of the first clauses holds of fewer
pub All-fewer : (P : List Literal → Type 0) (clauses : List (List Literal)) (few many : ℕ) → few ≤ many → many ≤ length clauses
    → All P (take many clauses) → All P (take few clauses)
All-fewer P clauses few many less within all = All-from_numbers P clauses few (λ number from to.
    All-number P clauses many number within from (omega arith) all)

-- where no literal was true before the assumptions
nothing_held : (trues none : List Literal) → none ≡ [] → ContainsAll trues none
nothing_held trues none e = subst (λ ls. ContainsAll trues ls) (sym e) (All-nil (Contains trues))

module _ (clauses : List (List Literal)) (assumptions : List Literal) (old new : LiteralList) (none : old.literals ≡ []) where
  pub nothing_begins : AssumesAll old new assumptions true → Begins clauses assumptions new.literals
  nothing_begins assumes = record {
    assumed = assumes.assumed refl;
    forced = λ trues all _. assumes.least trues (nothing_held trues old.literals none) all;
  }

  pub nothing_refuses : AssumesAll old new assumptions false → (clause : List Literal) → ¬ LeavesFirstUnset clauses assumptions clause
  nothing_refuses assumes [] h = h
  nothing_refuses assumes (first ∷ rest) h =
      assumes.refused refl h.0 (nothing_held h.0 old.literals none) h.1.assumed h.1.settled.consistent

pub begins_unset : (clauses : List (List Literal)) (assumptions trues clause : List Literal) → Begins clauses assumptions trues
    → LeavesFirstUnset clauses assumptions clause → LeavesFirstUnset clauses trues clause
begins_unset clauses assumptions trues [] b h = h
begins_unset clauses assumptions trues (first ∷ rest) b h =
    let t = h.1 in
    (h.0, record { settled = t.settled; assumed = b.forced h.0 t.assumed t.settled.propagated; denied = t.denied; unset = t.unset })

pub unset_begins : (clauses : List (List Literal)) (assumptions trues clause : List Literal) → Begins clauses assumptions trues
    → LeavesFirstUnset clauses trues clause → LeavesFirstUnset clauses assumptions clause
unset_begins clauses assumptions trues [] b h = h
unset_begins clauses assumptions trues (first ∷ rest) b h =
    let t = h.1 in
    (h.0, record { settled = t.settled; assumed = ContainsAll-then assumptions trues h.0 b.assumed t.assumed; denied = t.denied; unset = t.unset })
