-- Literals that are assumed one after another.
use Rattle.std.proofs.Common.{⊎_elim, true, false, List, [], ◌∷◌, ◌++◌, refl, sym, subst, arith}
use Rattle.std.specs.List.{Contains}
use Rattle.std.proofs.lemmas.Bool.{false≢true}
use Rattle.std.proofs.lemmas.List.{length_push}
use Rattle.std.proofs.lemmas.List.Elements.{All-nil, All-push, All-contains, Contains-push}
use Rattle.dist_clause.specs.Formula.{Literal, negation}
use Rattle.dist_derive.specs.ContainmentPrivate.{ContainsAll}
use Rattle.dist_derive.specs.TrueLiterals.{LiteralList}
use Rattle.dist_derive.specs.AssumePrivate.{Assumes, AssumesAll}
use Rattle.dist_derive.proofs.ValuedLemmas.{All-front, All-last}
use Rattle.dist_derive.proofs.AssumeLemmas.{ContainsAll-itself, ContainsAll-then, ContainsAll-push, take-all, front-then, front-push}
use Rattle.dist_derive.proofs.WaitLemmas.{Waits-push}

pub assumes_none : (s : LiteralList) → AssumesAll s s [] true
assumes_none s = record {
  same_variables = refl;
  kept = ContainsAll-itself s.literals;
  longer = omega arith;
  front = take-all s.literals;
  waiting = λ done clause taken h. h;
  least = λ trues all _. all;
  assumed = λ _. All-nil (Contains s.literals);
  refused = λ e. absurd (false≢true (sym e));
}

pub assumes_more : (start now next : LiteralList) (literals : List Literal) (l : Literal) → AssumesAll start now literals true → Assumes now next l true
    → AssumesAll start next (literals ++ l ∷ []) true
assumes_more start now next literals l h step = ⊎_elim
    (λ x. subst (λ (s : LiteralList). AssumesAll start s (literals ++ l ∷ []) true) (sym x.0) (record {
      same_variables = h.same_variables;
      kept = h.kept;
      longer = h.longer;
      front = h.front;
      waiting = h.waiting;
      least = λ trues all assumed. h.least trues all (All-front (Contains trues) literals (l ∷ []) assumed);
      assumed = λ _. All-push (Contains now.literals) literals l (h.assumed refl) x.1;
      refused = λ e. absurd (false≢true (sym e));
    }))
    (λ x. subst (λ (s : LiteralList). AssumesAll start s (literals ++ l ∷ []) true) (sym x.0) (record {
      same_variables = h.same_variables;
      kept = ContainsAll-then start.literals now.literals (now.literals ++ l ∷ []) h.kept (ContainsAll-push now.literals l);
      longer = omega (arith, h.longer, length_push now.literals l);
      front = front-then start.literals now.literals (now.literals ++ l ∷ []) h.front (front-push now.literals l) h.longer;
      waiting = λ done clause taken w. Waits-push now.literals clause l x.1 done (omega (arith, h.longer, taken)) (h.waiting done clause taken w);
      least = λ trues all assumed. All-push (Contains trues) now.literals l (h.least trues all (All-front (Contains trues) literals (l ∷ []) assumed))
          (All-last (Contains trues) literals l assumed);
      assumed = λ _. All-push (Contains (now.literals ++ l ∷ [])) literals l
          (ContainsAll-then literals now.literals (now.literals ++ l ∷ []) (h.assumed refl) (ContainsAll-push now.literals l)) (Contains-push now.literals l);
      refused = λ e. absurd (false≢true (sym e));
    }))
    step

-- one of the literals is false
pub assumes_refused : (start now next : LiteralList) (literals more : List Literal) (l : Literal) → AssumesAll start now literals true
    → Assumes now next l false → AssumesAll start next ((literals ++ l ∷ []) ++ more) false
assumes_refused start now next literals more l h step =
    subst (λ (s : LiteralList). AssumesAll start s ((literals ++ l ∷ []) ++ more) false) (sym step.0) (record {
      same_variables = h.same_variables;
      kept = h.kept;
      longer = h.longer;
      front = h.front;
      waiting = h.waiting;
      least = λ trues all assumed. h.least trues all (front trues assumed);
      assumed = λ e. absurd (false≢true e);
      refused = λ _ trues all assumed consistent.
          let last = All-last (Contains trues) literals l (All-front (Contains trues) (literals ++ l ∷ []) more assumed) in
          consistent l last (All-contains (Contains trues) now.literals (negation l) (h.least trues all (front trues assumed)) step.1);
    })
  where
    front : (trues : List Literal) → ContainsAll trues ((literals ++ l ∷ []) ++ more) → ContainsAll trues literals
    front trues all = All-front (Contains trues) literals (l ∷ []) (All-front (Contains trues) (literals ++ l ∷ []) more all)
