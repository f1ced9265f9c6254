-- The literals of a line as clauses.
use Rattle.std.proofs.Common.{◌≡◌, ◌≢◌, ℕ, ◌≤◌, false, List, [], ◌∷◌, map, arith, nat_lt}
use Rattle.std.specs.List.{All}
use Rattle.std.proofs.lemmas.Bool.{ltb-false, or_parts}
use Rattle.std.proofs.lemmas.List.Elements.{All-map, All-nil, All-cons}
use Rattle.dist_base.specs.declared.TheConstants.{MAX_VARIABLES}
use Rattle.dist_clause.specs.Formula.{Literal, literal, negation, IsClauseOver}
use Rattle.dist_cert.specs.ListLaws.{pairs-map}
use Rattle.dist_cert.specs.Form.{Word, AreLiterals}
use Rattle.dist_cert.specs.Groups.{clause_of}
use Rattle.dist_line_check.specs.Since.{AreLiteralsOver}
use Rattle.dist_line_check.specs.Checker.{names_above}

pub clause-over : (n : ℕ) (literals : List Word) → AreLiteralsOver n literals → IsClauseOver n (clause_of literals)
clause-over n literals over = record {
  in_range = All-map (λ l. (1 ≤ l.variable) × (l.variable ≤ n)) (λ (word : Word). literal word.0 word.1) literals
      (λ k d within. (over.form.0 k d within, over.upto k d within));
  distinct = pairs-map (λ l m. l.variable ≢ m.variable) (λ (word : Word). literal word.0 word.1) literals over.form.1;
}

pub negated-over : (n : ℕ) (clause : List Literal) → IsClauseOver n clause → IsClauseOver n (map negation clause)
negated-over n clause over = record {
  in_range = All-map (λ l. (1 ≤ l.variable) × (l.variable ≤ n)) negation clause over.in_range;
  distinct = pairs-map (λ l m. l.variable ≢ m.variable) negation clause over.distinct;
}

pub all-stated : (n : ℕ) (literals : List Word) → n ≤ MAX_VARIABLES → AreLiteralsOver n literals → All (λ l. (1 ≤ l.0) × (l.0 ≤ MAX_VARIABLES)) literals
all-stated n literals stated over k d within = let low = over.form.0 k d within in let high = over.upto k d within in (low, omega (arith, high, stated))

all-within : (n : ℕ) (words : List Word) → names_above n words ≡ false → All (λ l. l.0 ≤ n) words
all-within n [] none = All-nil (λ l. l.0 ≤ n)
all-within n (w ∷ words) none =
    let parts = or_parts (nat_lt n w.0) (names_above n words) none in
    All-cons (λ l. l.0 ≤ n) w words (ltb-false n w.0 parts.0) (all-within n words parts.1)

pub within-over : (n : ℕ) (literals : List Word) → AreLiterals literals → names_above n literals ≡ false → AreLiteralsOver n literals
within-over n literals form none = record { form = form; upto = all-within n literals none }
