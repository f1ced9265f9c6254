-- The negations of a clause's literals, one after another.
use Rattle.std.proofs.Common.{◌≡◌, ◌≢◌, ℕ, suc, ◌<◌, ◌≤◌, List, ◌∷◌, length, get_or, take, map, ap, sym, ◌∙◌, arith, length-take}
use Rattle.std.specs.List.{All, Contains}
use Rattle.std.proofs.lemmas.List.{get_or_default, get_or-map, get_or-take, length-map}
use Rattle.std.proofs.lemmas.List.Elements.{All-tail}
use Rattle.dist_clause.specs.Formula.{Literal, negation, IsClauseOver}

-- no literal of a later literal's variable is among the negations of the earlier ones
pub not_denied : (n : ℕ) (clause : List Literal) (i : ℕ) (l m : Literal) → IsClauseOver n clause → i < length clause → l ≡ get_or clause i l
    → m.variable ≡ l.variable → ¬ Contains (map negation (take i clause)) m
not_denied n clause i l m over within at same h =
    let inside : h.0 < length (take i clause) = omega (arith, h.1, length-map (take i clause) negation) in
    let before : h.0 < i = omega (arith, length-take i clause) in
    let denied : negation (get_or clause h.0 l) ≡ m =
    ap negation (sym (get_or-take i clause h.0 l before)) ∙ (sym (get_or-map negation (take i clause) h.0 l m inside) ∙ h.2) in
    over.distinct h.0 i l before within (ap (λ (x : Literal). x.variable) denied ∙ (same ∙ ap (λ (x : Literal). x.variable) at))

-- a literal's variable is that of no earlier one
pub earlier_apart : (n : ℕ) (clause : List Literal) (i : ℕ) (l : Literal) → IsClauseOver n clause → i < length clause → l ≡ get_or clause i l
    → All (λ m. m.variable ≢ l.variable) (take i clause)
earlier_apart n clause i l over within at = λ k d k_within e.
    let before : k < i = omega (arith, length-take i clause) in
    over.distinct k i l before within (ap (λ (x : Literal). x.variable) (sym (get_or_default (take i clause) k d l k_within ∙ get_or-take i clause k l before))
    ∙ (e ∙ ap (λ (x : Literal). x.variable) at))

pub IsClauseOver-tail : (n : ℕ) (l : Literal) (rest : List Literal) → IsClauseOver n (l ∷ rest) → IsClauseOver n rest
IsClauseOver-tail n l rest over = record {
  in_range = All-tail (λ m. (1 ≤ m.variable) × (m.variable ≤ n)) l rest over.in_range;
  distinct = λ i j d before within. over.distinct (suc i) (suc j) d (omega arith) (omega arith);
}
