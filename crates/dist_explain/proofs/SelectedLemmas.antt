-- Clauses with their selectors, one after another.
use Rattle.std.proofs.Common.{◌≡◌, ◌≢◌, ℕ, zero, suc, ◌+◌, ◌-◌, ◌<◌, ◌≤◌, false, List, [], ◌∷◌, ◌++◌, length}
use Rattle.std.proofs.Common.{length-append, get_or, take, refl, sym, ap}
use Rattle.std.proofs.Common.{subst, ◌∙◌, arith}
use Rattle.std.proofs.lemmas.List.{take_all, take_more}
use Rattle.std.proofs.lemmas.List.Elements.{All-push}
use Rattle.std.proofs.lemmas.List.Quantifiers.{all_pairs_push}
use Rattle.std.proofs.lemmas.List.Sums.{sum_by-cons}
use Rattle.dist_clause.specs.ClauseList.{ClauseList, IsWithinLimits, clause_at, literal_count}
use Rattle.dist_clause.specs.Formula.{Literal, IsClauseOver, literal}
use Rattle.dist_clause.specs.Demands.{IsRefused}
use Rattle.dist_clause.specs.declared.clause_set.PushError.{PushError}
use Rattle.dist_clause.specs.declared.clause_set.PushError.TheVariants.{TooManyClauses, TooManyLiterals, NoMemory}
use Rattle.dist_outside.specs.declared.limits.Limits.{Limits}
use Rattle.dist_outside.specs.declared.trouble.What.{What}
use Rattle.dist_outside.specs.declared.trouble.What.TheVariants.{Bytes, Stanzas, Variables, Clauses, Literals, Lines}
use Rattle.dist_outside.specs.declared.trouble.What.TheVariants.{LineLiterals, Certificate, RecordLine}
use Rattle.dist_explain.specs.Selectors.{PassesSelected, selected}
use Rattle.dist_explain.specs.SelectedPrivate.{IsFront, IsFullAt}

pub selected-push : (last : ℕ) (clauses : List (List Literal)) (clause : List Literal)
    → selected last (clauses ++ clause ∷ []) ≡ selected last clauses ++ (clause ++ literal (last + length clauses + 1) false ∷ []) ∷ []
unfolding selected
selected-push last [] clause = let same : last + 1 ≡ last + 0 + 1 = omega arith in ap (λ (n : ℕ). (clause ++ literal n false ∷ []) ∷ []) same
selected-push last (c ∷ clauses) clause =
    let same : last + 1 + length clauses + 1 ≡ last + suc (length clauses) + 1 = omega arith in
    ap (λ (xs : List (List Literal)). (c ++ literal (last + 1) false ∷ []) ∷ xs) (selected-push (last + 1) clauses clause
    ∙ ap (λ (n : ℕ). selected (last + 1) clauses ++ (clause ++ literal n false ∷ []) ∷ []) same)

-- one more clause in front
pub take-next : (clauses : List (List Literal)) (k : ℕ) → k < length clauses → take (k + 1) clauses ≡ take k clauses ++ clause_at clauses (k + 1) ∷ []
take-next clauses k short =
    let same : k + 1 - 1 ≡ k = omega arith in
    take_more clauses k [] short ∙ ap (λ (n : ℕ). take k clauses ++ get_or clauses n [] ∷ []) (sym same)

pub length-front : (clauses : List (List Literal)) (k : ℕ) → k ≤ length clauses → length (take k clauses) ≡ k
length-front [] zero within = refl
length-front [] (suc k) within = absurd (omega arith)
length-front (c ∷ clauses) zero within = refl
length-front (c ∷ clauses) (suc k) within = ap (λ (n : ℕ). suc n) (length-front clauses k (omega arith))

pub length-selected : (last : ℕ) (clauses : List (List Literal)) → length (selected last clauses) ≡ length clauses
unfolding selected
length-selected last [] = refl
length-selected last (c ∷ clauses) = ap (λ (n : ℕ). suc n) (length-selected (last + 1) clauses)

-- each clause has one literal more
pub count-selected : (last : ℕ) (clauses : List (List Literal)) → literal_count (selected last clauses) ≡ literal_count clauses + length clauses
unfolding selected
count-selected last [] = refl
count-selected last (c ∷ clauses) =
    let one = sum_by-cons (λ (x : List Literal). length x) (c ++ literal (last + 1) false ∷ []) (selected (last + 1) clauses) in
    let other = sum_by-cons (λ (x : List Literal). length x) c clauses in
    let long = length-append c (literal (last + 1) false ∷ []) in
    let rest = count-selected (last + 1) clauses in
    omega (arith, one, other, long, rest)

-- the literals of a front and one more clause are no more than those of all
pub count-front : (clauses : List (List Literal)) (k : ℕ) → k < length clauses
    → literal_count (take k clauses) + length (clause_at clauses (k + 1)) ≤ literal_count clauses
count-front clauses k short =
    let same : k + 1 - 1 ≡ k = omega arith in
    subst (λ (n : ℕ). literal_count (take k clauses) + length (get_or clauses n []) ≤ literal_count clauses) (sym same) (at clauses k short)
  where
    at : (xs : List (List Literal)) (k : ℕ) → k < length xs → literal_count (take k xs) + length (get_or xs k []) ≤ literal_count xs
    at [] k short = absurd (omega arith)
    at (x ∷ xs) zero short = let all = sum_by-cons (λ (y : List Literal). length y) x xs in omega (arith, all)
    at (x ∷ xs) (suc k) short =
        let all = sum_by-cons (λ (y : List Literal). length y) x xs in
        let front = sum_by-cons (λ (y : List Literal). length y) x (take k xs) in
        let rest = at xs k (omega arith) in
        omega (arith, all, front, rest)

-- a clause with a variable behind its own
pub over-selected : (n k : ℕ) (clause : List Literal) → n < k → IsClauseOver n clause → IsClauseOver k (clause ++ literal k false ∷ [])
over-selected n k clause less over = record {
  in_range = All-push (λ l. (1 ≤ l.variable) × (l.variable ≤ k)) clause (literal k false)
      (λ i d short. let h = over.in_range i d short in (h.0, omega (arith, h.1))) (omega arith, omega arith);
  distinct = all_pairs_push (λ l m. l.variable ≢ m.variable) clause (literal k false) over.distinct
      (λ i d short. λ same. let h = over.in_range i d short in omega (arith, h.1, same));
}

pub over-more : (n k : ℕ) (clause : List Literal) → n ≤ k → IsClauseOver n clause → IsClauseOver k clause
over-more n k clause less over = record {
  in_range = λ i d short. let h = over.in_range i d short in (h.0, omega (arith, h.1));
  distinct = over.distinct;
}

-- the set with one more clause and its selector
pub front-next : (clauses set : ClauseList) (k : ℕ) (clause : List Literal) → k < length clauses.clauses → IsFront clauses k set
    → clause ≡ clause_at clauses.clauses (k + 1) ++ literal (clauses.variables + k + 1) false ∷ []
    → IsFront clauses (k + 1) (record set { clauses = set.clauses ++ clause ∷ [] })
front-next clauses set k clause short front is = let last = clause_at clauses.clauses (k + 1) in record {
  clauses_are = sym (ap (selected clauses.variables) (take-next clauses.clauses k short)
      ∙ selected-push clauses.variables (take k clauses.clauses) (clause_at clauses.clauses (k + 1))
      ∙ ap (λ (n : ℕ). selected clauses.variables (take k clauses.clauses) ++ (last ++ literal (clauses.variables + n + 1) false ∷ []) ∷ [])
      (length-front clauses.clauses k (omega arith))
      ∙ ap (λ (xs : List (List Literal)). xs ++ (last ++ literal (clauses.variables + k + 1) false ∷ []) ∷ []) (sym front.clauses_are)
      ∙ ap (λ (c : List Literal). set.clauses ++ c ∷ []) (sym is));
  variables = front.variables;
  clause_limit = front.clause_limit;
}

-- how many clauses and literals a front has
pub front-clauses : (clauses set : ClauseList) (k : ℕ) → k ≤ length clauses.clauses → IsFront clauses k set → length set.clauses ≡ k
front-clauses clauses set k within front =
    ap length front.clauses_are ∙ length-selected clauses.variables (take k clauses.clauses) ∙ length-front clauses.clauses k within

-- where a front is full, so are all
pub full-front : (clauses set : ClauseList) (k : ℕ) (clause : List Literal) → k < length clauses.clauses → IsFront clauses k set
    → clause ≡ clause_at clauses.clauses (k + 1) ++ literal (clauses.variables + k + 1) false ∷ []
    → set.literal_limit < literal_count set.clauses + length clause
    → set.literal_limit < literal_count clauses.clauses + length clauses.clauses
full-front clauses set k clause short front is full =
    let count = ap literal_count front.clauses_are ∙ count-selected clauses.variables (take k clauses.clauses) in
    let some = length-front clauses.clauses k (omega arith) in
    let long = ap length is ∙ length-append (clause_at clauses.clauses (k + 1)) (literal (clauses.variables + k + 1) false ∷ []) in
    let all = count-front clauses.clauses k short in
    omega (arith, full, count, some, long, all)

-- none of them
pub front-start : (clauses : ClauseList) (n c l : ℕ) → n ≡ clauses.variables + length clauses.clauses → c ≡ length clauses.clauses
    → IsFront clauses 0 (record { clauses = []; variables = n; clause_limit = c; literal_limit = l })
unfolding selected
front-start clauses n c l variables limit = record { clauses_are = refl; variables = variables; clause_limit = limit }

-- a set of all passes no number
pub all-kept : (clauses set : ClauseList) (limits : Limits) (what : What) → IsFront clauses (length clauses.clauses) set → IsWithinLimits set
    → set.literal_limit ≡ limits.literals → set.variables ≤ limits.variables → ¬ PassesSelected limits clauses what
all-kept clauses set limits Variables front within limit variables passes = let n = front.variables in omega (arith, n, variables, passes)
all-kept clauses set limits Literals front within limit variables passes =
    let whole : take (length clauses.clauses) clauses.clauses ≡ clauses.clauses = take_all (length clauses.clauses) clauses.clauses (omega arith) in
    let count = ap literal_count (front.clauses_are ∙ ap (selected clauses.variables) whole) ∙ count-selected clauses.variables clauses.clauses in
    let kept = within.literals_within in
    let passed = passes.1 in
    omega (arith, count, kept, limit, passed)
all-kept clauses set limits Bytes front within limit variables passes = passes
all-kept clauses set limits Stanzas front within limit variables passes = passes
all-kept clauses set limits Clauses front within limit variables passes = passes
all-kept clauses set limits Lines front within limit variables passes = passes
all-kept clauses set limits LineLiterals front within limit variables passes = passes
all-kept clauses set limits Certificate front within limit variables passes = passes
all-kept clauses set limits RecordLine front within limit variables passes = passes

-- why no clause more was added
pub why-full : (clauses set : ClauseList) (k : ℕ) (clause : List Literal) (error : PushError) → k < length clauses.clauses → IsFront clauses k set
    → clause ≡ clause_at clauses.clauses (k + 1) ++ literal (clauses.variables + k + 1) false ∷ [] → IsRefused set clause error
    → IsFullAt clauses set.literal_limit error
why-full clauses set k clause TooManyClauses short front is refused =
    let count = front-clauses clauses set k (omega (arith, short)) front in
    let limit = front.clause_limit in
    let full = refused.1 in
    absurd (omega (arith, count, limit, full, short))
why-full clauses set k clause TooManyLiterals short front is refused = full-front clauses set k clause short front is refused.2
why-full clauses set k clause NoMemory short front is refused = tt
