-- The clause of negated assumptions.
use Rattle.std.proofs.Common.{◌≡◌, ℕ, ◌<◌, ◌≤◌, Bool, true, false, not, List, [], ◌∷◌, length, map, get_or, refl, ap, sym, subst, ◌∙◌, arith}
use Rattle.std.specs.List.{All}
use Rattle.std.proofs.lemmas.Bool.{false≢true}
use Rattle.std.proofs.lemmas.List.{get_or-map, length-map}
use Rattle.std.proofs.lemmas.List.Elements.{All-map}
use Rattle.dist_clause.specs.Formula.{Literal, literal, negation, IsClauseOver, IsTrueLiteral, MakesTrue, IsModel}
use Rattle.dist_derive.specs.ClauseLog.{ClauseLog, inputs_of}
use Rattle.dist_derive.specs.Follows.{EndsFalse, Follows}
use Rattle.dist_search.specs.Learned.{LearnedClause}
use Rattle.dist_search.specs.Search.{IsRefuting}
use Rattle.dist_solver.specs.Evidence.{IsShort}
use Rattle.dist_solver.specs.Ask.{IsRefutation}

not_not : (b : Bool) → not (not b) ≡ b
not_not true = refl
not_not false = refl

negation_twice : (l : Literal) → negation (negation l) ≡ l
negation_twice l = ap (λ b. literal l.variable b) (not_not l.positive)

all_twice : (clause : List Literal) → map negation (map negation clause) ≡ clause
all_twice [] = refl
all_twice (l ∷ clause) = ap (λ m. m ∷ map negation (map negation clause)) (negation_twice l) ∙ ap (λ ms. l ∷ ms) (all_twice clause)

pub negated_over : (n : ℕ) (clause : List Literal) → IsClauseOver n clause → IsClauseOver n (map negation clause)
negated_over n clause over = record {
  in_range = All-map (λ l. (1 ≤ l.variable) × (l.variable ≤ n)) negation clause over.in_range;
  distinct = λ i j d before within e.
      let long : j < length clause = omega (arith, within, length-map clause negation) in
      over.distinct i j d before long
      (sym (ap (λ (l : Literal). l.variable) (get_or-map negation clause i d d (omega (arith, before, long))))
      ∙ (e ∙ ap (λ (l : Literal). l.variable) (get_or-map negation clause j d d long)));
}

-- where all literals are true, no negated one is
denial_not_true : (value : ℕ → Bool) (clause : List Literal) → All (IsTrueLiteral value) clause → ¬ MakesTrue value (map negation clause)
denial_not_true value clause all made =
    let inside : made.0 < length clause = omega (arith, made.2, length-map clause negation) in
    let l = get_or clause made.0 made.1 in
    let is : negation l ≡ made.1 = sym (get_or-map negation clause made.0 made.1 made.1 inside) ∙ made.3 in
    not_itself l.positive (sym (subst (λ m. IsTrueLiteral value m) (sym is) made.4) ∙ all made.0 made.1 inside)
  where
    not_itself : (b : Bool) → not b ≡ b → ⊥
    not_itself true e = false≢true e
    not_itself false e = false≢true (sym e)

-- what follows by hints from a log, as its models show
module _ (log : ClauseLog) (assumed : List Literal)
    (sound : (clause : List Literal) (hints : List ℕ) (value : ℕ → Bool) → Follows log.clauses clause hints → IsModel value (inputs_of log)
    → MakesTrue value clause) where
  pub refuted_by : (hints : List ℕ) → Follows log.clauses (map negation assumed) hints → IsShort log.variables hints → IsRefutation log assumed hints
  refuted_by hints follows short = record {
    follows = follows;
    short = short;
    no_model = λ value model all. denial_not_true value assumed all (sound (map negation assumed) hints value follows model);
  }

  -- what a search refutes
  pub refutation : (learned : LearnedClause) → IsRefuting log assumed learned → IsRefutation log assumed learned.hints
  refutation learned r = refuted_by learned.hints (subst (λ ts. EndsFalse log.clauses ts learned.hints) (sym (all_twice assumed)) r.ends) r.short
