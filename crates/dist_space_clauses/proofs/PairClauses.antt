-- Clauses of two literals of a space.
use Rattle.std.proofs.Common.{◌≡◌, ◌≢◌, ℕ, ◌≤◌, Bool, [], ◌∷◌, length, arith}
use Rattle.std.proofs.lemmas.List.Elements.{All-cons, All-nil}
use Rattle.std.proofs.lemmas.List.Kept.{AllPairs-cons}
use Rattle.dist_clause.specs.Formula.{IsClauseOver, Literal, literal}
use Rattle.dist_space.specs.Space.{IsMeaning, IsSpace, SpaceView, variable_of}
use Rattle.dist_space.specs.declared.meaning.Meaning.{Meaning}
use Rattle.dist_space.specs.VariableLaws.{one-meaning, variable-range}
use Rattle.dist_space.specs.RisingLaws.{pairs-none}

abbrev InRange : ℕ → Literal → Type 0
InRange n l = (1 ≤ l.variable) × (l.variable ≤ n)

abbrev Differ : Literal → Literal → Type 0
Differ l m = l.variable ≢ m.variable

pub pair-over : (n v w : ℕ) (p q : Bool) → 1 ≤ v → v ≤ n → 1 ≤ w → w ≤ n → v ≢ w → IsClauseOver n (literal v p ∷ literal w q ∷ [])
pair-over n v w p q v_from v_to w_from w_to apart = record {
  in_range = All-cons (InRange n) (literal v p) (literal w q ∷ []) (v_from, v_to) (All-cons (InRange n) (literal w q) [] (w_from, w_to) (All-nil (InRange n)));
  distinct = AllPairs-cons Differ (literal v p) (literal w q ∷ []) (All-cons (Differ (literal v p)) (literal w q) [] apart (All-nil (Differ (literal v p))))
      (AllPairs-cons Differ (literal w q) [] (All-nil (Differ (literal w q))) (pairs-none Differ));
}

-- of two meanings
pub meanings-over : (s : SpaceView) (n : ℕ) (a b : Meaning) (p q : Bool) → IsSpace s → n ≡ length s.meanings → IsMeaning s a → IsMeaning s b → a ≢ b
    → IsClauseOver n (literal (variable_of s a) p ∷ literal (variable_of s b) q ∷ [])
meanings-over s n a b p q space count is_a is_b apart =
    let first = variable-range s a space is_a in
    let second = variable-range s b space is_b in
    pair-over n (variable_of s a) (variable_of s b) p q first.0 (omega (arith, first.1, count)) second.0 (omega (arith, second.1, count))
    (λ same. apart (one-meaning s a b space is_a is_b same))
