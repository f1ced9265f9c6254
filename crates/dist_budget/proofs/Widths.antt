-- How long the lines of a file are.
use Rattle.std.proofs.Common.{◌≡◌, ◌≢◌, ⊎_elim, ℕ, ◌+◌, ◌*◌, ◌-◌, ◌^◌, ◌<◌, ◌≤◌, Bool, true, false, List, [], ◌∷◌, ◌++◌, length, get_or, map}
use Rattle.std.proofs.Common.{refl, sym, subst, ◌∙◌, append-nil, arith, length-append, mul-add, mul-one}
use Rattle.std.specs.Prelude.{codes}
use Rattle.std.specs.List.{All, AllPairs, Any}
use Rattle.std.proofs.lemmas.Bool.{cases_lt}
use Rattle.std.proofs.lemmas.Fmt.{length-decimal-le}
use Rattle.std.proofs.lemmas.List.{get_or_default, length-map}
use Rattle.std.proofs.lemmas.List.Elements.{All-nil, All-cons, All-head, All-tail, All-push, All-map}
use Rattle.dist_cert.specs.declared.TheConstants.{REACH}
use Rattle.dist_cert.specs.declared.faults.CertCause.TheVariants as causes
use Rattle.dist_cert.specs.declared.records.CertKind.{CertKind}
use Rattle.dist_cert.specs.declared.records.CertKind.TheVariants as kinds
use Rattle.dist_cert.specs.declared.records.CertRecord.{CertRecord}
use Rattle.dist_cert.specs.declared.records.CertRecord.TheVariants.{Question, Derived, Refuted, Installation, Strong, Challenged}
use Rattle.dist_cert.specs.declared.records.Header.{Header}
use Rattle.dist_cert.specs.ClaimRules.{HoldsChallenged, HoldsClaim, HoldsStrong, IsNamed}
use Rattle.dist_cert.specs.Form.{Word, AreLiterals, IsSmall, plain, signed_text, word_text, words_text, plains, words, record_text, header_text}
use Rattle.dist_cert.specs.Form.{kind_text, mode_text}
use Rattle.dist_cert.specs.Form.{HasHeaderForm, KeepsRules, pair_words}
use Rattle.dist_clause.specs.Formula.{Literal, literal}
use Rattle.dist_cert.specs.Groups.{clause_of, derived, derived_in, installations, is_claim}
use Rattle.dist_cert.specs.FileLines.{lines_text}
use Rattle.dist_cert.specs.Subject.{Matter}
use Rattle.dist_cert.specs.Writing.{ended}
use Rattle.dist_budget.specs.Budget.{pair_count, record_budget}
use Rattle.dist_budget.proofs.Counts.{flat-push}
use Rattle.dist_budget.proofs.EnoughVariables.{HasEnoughVariables}
use Rattle.dist_budget.proofs.FewNumbers.{few-upto, few-within}
use Rattle.dist_budget.proofs.Fronts.{GoesOn, by-fronts}
use Rattle.dist_budget.proofs.KeptLines.{IsKept, AreKept}
use Rattle.dist_budget.proofs.Pairs.{few-pairs}
use Rattle.dist_cert.specs.ListLaws.{pairs-map}

-- ---- words

signed-width : (n : ℕ) (positive : Bool) → IsSmall n → length (signed_text n positive) ≤ 11
signed-width n true small = let digits = length-decimal-le 10 n (omega arith) (omega (arith, small)) (omega (arith, small)) in omega (arith, digits)
signed-width n false small = let digits = length-decimal-le 10 n (omega arith) (omega (arith, small)) (omega (arith, small)) in omega (arith, digits)

pub words-width : (some : List Word) → All (λ w. IsSmall w.0) some → length (words_text some) ≤ 12 * length some
words-width [] small = omega arith
words-width (w ∷ some) small =
    let first = signed-width w.0 w.1 (All-head (λ (v : Word). IsSmall v.0) w some small) in
    let rest = words-width some (All-tail (λ (v : Word). IsSmall v.0) w some small) in
    omega (arith, first, rest, length-append (32 ∷ word_text w) (words_text some))

-- ---- lists of different numbers

all-left : {X : Type 0} (P : X → Type 0) (xs ys : List X) → All P (xs ++ ys) → All P xs
all-left P [] ys all = All-nil P
all-left P (x ∷ xs) ys all = All-cons P x xs (All-head P x (xs ++ ys) all) (all-left P xs ys (All-tail P x (xs ++ ys) all))

all-right : {X : Type 0} (P : X → Type 0) (xs ys : List X) → All P (xs ++ ys) → All P ys
all-right P [] ys all = all
all-right P (x ∷ xs) ys all = all-right P xs ys (All-tail P x (xs ++ ys) all)

few-rising : (xs : List ℕ) (n : ℕ) → AllPairs (λ x y. x < y) xs → All (λ x. 1 ≤ x) xs → All (λ x. x ≤ n) xs → length xs ≤ n
few-rising xs n rising from upto = few-upto xs n (λ i j d before inside same. let below = rising i j d before inside in omega (arith, below, same)) from upto

within-range : (matter : Matter) (variables : List ℕ) → ¬ (Any (λ v. matter.variables < v) variables)
    → All (λ v. v ≤ matter.variables) variables
within-range matter variables none k d inside =
    ⊎_elim (λ above. absurd (none (k, get_or variables k d, inside, get_or_default variables k (get_or variables k d) d inside, above))) (λ upto. upto)
    (cases_lt matter.variables (get_or variables k d))

-- ---- literals

few-named : (matter : Matter) (literals : List Word) → AreLiterals literals
    → ¬ (Any (λ v. matter.variables < v) (map (λ (l : Word). l.0) literals)) → length literals ≤ matter.variables
few-named matter literals are none =
    let distinct = pairs-map (λ (v w : ℕ). v ≢ w) (λ (l : Word). l.0) literals are.1 in
    let from = All-map (λ (v : ℕ). 1 ≤ v) (λ (l : Word). l.0) literals are.0 in
    let few = few-upto (map (λ (l : Word). l.0) literals) matter.variables distinct from
    (within-range matter (map (λ (l : Word). l.0) literals) none) in
    omega (arith, few, length-map literals (λ (l : Word). l.0))

few-literals : (matter : Matter) (h : Header) (before : List CertRecord) (literals : List Word) (hints : List ℕ)
    → IsKept matter h before (Derived literals hints) → length literals ≤ matter.variables
few-literals matter h before literals hints kept = few-named matter literals kept.form.rules.0 (kept.faultless causes.OutOfRange)

abbrev AreShort : Matter → List CertRecord → Type 0
AreShort matter lines = All (λ clause. length clause ≤ matter.variables) (derived lines)

clause-short : (matter : Matter) (h : Header) (before : List CertRecord) (literals : List Word) (hints : List ℕ)
    → IsKept matter h before (Derived literals hints) → length (clause_of literals) ≤ matter.variables
clause-short matter h before literals hints kept =
    omega (arith, few-literals matter h before literals hints kept, length-map literals (λ (l : Word). literal l.0 l.1))

short-on : (matter : Matter) (h : Header) (whole : List CertRecord) → AreKept matter h whole → GoesOn (AreShort matter) whole
short-on matter h whole kept front (Derived literals hints) back is all =
    subst (λ (cs : List (List Literal)). All (λ clause. length clause ≤ matter.variables) cs) (sym (flat-push derived_in front (Derived literals hints)))
    (All-push (λ (clause : List Literal). length clause ≤ matter.variables) (derived front) (clause_of literals) (all front [] (sym (append-nil front)))
    (clause-short matter h front literals hints (kept front (Derived literals hints) back is)))
short-on matter h whole kept front x back is all =
    subst (λ (cs : List (List Literal)). All (λ clause. length clause ≤ matter.variables) cs) (sym (flat-push derived_in front x ∙ append-nil (derived front)))
    (all front [] (sym (append-nil front)))

pub all-literals : (matter : Matter) (h : Header) (steps : List CertRecord) → AreKept matter h steps
    → All (λ clause. length clause ≤ matter.variables) (derived steps)
all-literals matter h steps kept = by-fronts (AreShort matter) steps (All-nil (λ (clause : List Literal). length clause ≤ matter.variables))
    (short-on matter h steps kept)

-- ---- how many words a line has

abbrev HasFewWords : Matter → CertRecord → Type 0
HasFewWords matter step = length (words step) ≤ 2 * matter.variables + (REACH + 74)

-- a question names no variable twice
question-words : (matter : Matter) (h : Header) (before : List CertRecord) (question : List Word) → IsKept matter h before (Question question)
    → HasFewWords matter (Question question)
question-words matter h before question kept =
    let few = few-named matter question kept.form.rules.1 (kept.faultless causes.OutOfRange) in omega (arith, few)

-- the named installations are different ones that a claim may reach
named-few : (before : List CertRecord) (variable : ℕ) (named : List ℕ) → AllPairs (λ m n. m ≢ n) named → All (IsNamed before variable) named
    → length named ≤ REACH
named-few before variable named distinct all = few-within named (length (installations before) - REACH) REACH distinct (λ k d inside.
    let recent = (all k d inside).0 in
    (omega (arith, recent.0, recent.1, recent.2), omega (arith, recent.0, recent.1, recent.2)))

strong-words : (matter : Matter) (before : List CertRecord) (p : ℕ) (named on undecided : List ℕ) → matter.packages ≤ matter.variables
    → KeepsRules (Strong p named on undecided) → AllPairs (λ m n. m ≢ n) named
    → HoldsStrong matter before p named on undecided → HasFewWords matter (Strong p named on undecided)
strong-words matter before p named on undecided enough rules distinct holds =
    let upto : All (λ q. q ≤ matter.packages) (on ++ undecided) = λ k d inside. (holds.others k d inside).1 in
    let on_few = few-rising on matter.packages holds.rising.0 rules.3 (all-left (λ q. q ≤ matter.packages) on undecided upto) in
    let undecided_few = few-rising undecided matter.packages holds.rising.1 rules.4 (all-right (λ q. q ≤ matter.packages) on undecided upto) in
    let names = named-few before p named distinct holds.names in
    omega (
      arith,
      enough,
      on_few,
      undecided_few,
      names,
      length-append (plains named) ((0, true) ∷ (plains on ++ ((0, true) ∷ plains undecided))),
      length-append (plains on) ((0, true) ∷ plains undecided),
      length-map named plain,
      length-map on plain,
      length-map undecided plain,
    )

pair-words : (pairs : List (ℕ × ℕ)) → length (pair_words pairs) ≡ 2 * length pairs
pair-words [] = refl
pair-words (pair ∷ pairs) = let rest = pair-words pairs in omega (arith, rest)

-- the pairs of both lists are different ones
challenged-words : (matter : Matter) (before : List CertRecord) (p : ℕ) (named : List ℕ) (by undecided : List (ℕ × ℕ))
    → pair_count matter ≤ matter.variables → AllPairs (λ m n. m ≢ n) named
    → HoldsChallenged matter before p named by undecided → HasFewWords matter (Challenged p named by undecided)
challenged-words matter before p named by undecided enough distinct holds =
    let few = few-pairs matter p by undecided holds.rising.0 holds.rising.1 holds.apart holds.pairs in
    let names = named-few before (matter.present p) named distinct holds.names in
    omega (
      arith,
      enough,
      few,
      names,
      length-append (plains named) ((0, true) ∷ (pair_words by ++ ((0, true) ∷ pair_words undecided))),
      length-append (pair_words by) ((0, true) ∷ pair_words undecided),
      length-map named plain,
      pair-words by,
      pair-words undecided,
    )

-- the step is a claim that names no installation twice
abbrev IsNextClaim : CertRecord → Type 0
IsNextClaim (Strong p named on undecided) = AllPairs (λ m n. m ≢ n) named
IsNextClaim (Challenged p named by undecided) = AllPairs (λ m n. m ≢ n) named
IsNextClaim step = ⊥

-- a claim with lists whose rules hold is one of its kind
claim-words : (matter : Matter) (kind : CertKind) (before : List CertRecord) (step : CertRecord) → HasEnoughVariables matter kind
    → KeepsRules step → IsNextClaim step → HoldsClaim matter kind before step → HasFewWords matter step
claim-words matter kinds.Strong before (Strong p named on undecided) enough rules distinct holds =
    strong-words matter before p named on undecided enough.packages rules distinct holds
claim-words matter kinds.Outdated before (Strong p named on undecided) enough rules distinct holds = absurd holds
claim-words matter kinds.Challenged before (Strong p named on undecided) enough rules distinct holds = absurd holds
claim-words matter kinds.Strong before (Challenged p named by undecided) enough rules distinct holds = absurd holds
claim-words matter kinds.Outdated before (Challenged p named by undecided) enough rules distinct holds = absurd holds
claim-words matter kinds.Challenged before (Challenged p named by undecided) enough rules distinct holds =
    challenged-words matter before p named by undecided enough.pairs distinct holds
claim-words matter kind before step enough rules none holds = absurd none

held-words : (matter : Matter) (h : Header) (before : List CertRecord) (step : CertRecord) → is_claim step ≡ true → HasEnoughVariables matter h.kind
    → IsKept matter h before step → IsNextClaim step → HasFewWords matter step
held-words matter h before step claim enough kept distinct =
    ⊎_elim (λ many. absurd (kept.faultless causes.WrongClaim (
      claim,
      λ holds.
          let few = claim-words matter h.kind before step enough kept.form.rules distinct holds in omega (arith, few, many),
    ))) (λ few. few)
    (cases_lt (2 * matter.variables + (REACH + 74)) (length (words step)))

few-words : (matter : Matter) (h : Header) (before : List CertRecord) (step : CertRecord) → HasEnoughVariables matter h.kind → IsKept matter h before step
    → HasFewWords matter step
few-words matter h before (Question question) enough kept = question-words matter h before question kept
few-words matter h before (Derived literals hints) enough kept =
    let few = few-literals matter h before literals hints kept in
    let hints_few = kept.next.1 in
    omega (arith, few, hints_few, length-append literals ((0, true) ∷ plains hints), length-map hints plain)
few-words matter h before (Refuted hints) enough kept = let hints_few = kept.next.1 in omega (arith, hints_few, length-map hints plain)
few-words matter h before (Installation variables) enough kept =
    let few = few-rising variables matter.variables kept.form.rules.1 kept.form.rules.0
    (within-range matter variables (kept.faultless causes.OutOfRange)) in
    omega (arith, few, length-map variables plain)
few-words matter h before (Strong p named on undecided) enough kept = held-words matter h before (Strong p named on undecided) refl enough kept kept.next
few-words matter h before (Challenged p named by undecided) enough kept =
    held-words matter h before (Challenged p named by undecided) refl enough kept kept.next
few-words matter h before step enough kept = omega arith

-- ---- how long a line is

pub line-width : (matter : Matter) (h : Header) (before : List CertRecord) (step : CertRecord) → HasEnoughVariables matter h.kind
    → IsKept matter h before step → length (ended (record_text step)) ≤ record_budget matter.variables
line-width matter h before step enough kept =
    let few = few-words matter h before step enough kept in
    let width = words-width (words step) kept.form.numbers in
    omega (arith, few, width, length-append (record_text step) (10 ∷ []))

abbrev IsNarrow : Matter → CertRecord → Type 0
IsNarrow matter step = length (ended (record_text step)) ≤ record_budget matter.variables

narrow-on : (matter : Matter) (h : Header) (whole : List CertRecord) → HasEnoughVariables matter h.kind → AreKept matter h whole
    → GoesOn (All (IsNarrow matter)) whole
narrow-on matter h whole enough kept front x back is all =
    All-push (IsNarrow matter) front x (all front [] (sym (append-nil front))) (line-width matter h front x enough (kept front x back is))

pub all-narrow : (matter : Matter) (h : Header) (steps : List CertRecord) → HasEnoughVariables matter h.kind → AreKept matter h steps
    → All (λ step. length (ended (record_text step)) ≤ record_budget matter.variables) steps
all-narrow matter h steps enough kept = by-fronts (All (IsNarrow matter)) steps (All-nil (IsNarrow matter)) (narrow-on matter h steps enough kept)

pub lines-width : (budget : ℕ) (steps : List CertRecord) → All (λ step. length (ended (record_text step)) ≤ budget) steps
    → length (lines_text steps) ≤ budget * length steps
lines-width budget [] all = omega arith
lines-width budget (x ∷ steps) all =
    let first = All-head (λ step. length (ended (record_text step)) ≤ budget) x steps all in
    let rest = lines-width budget steps (All-tail (λ step. length (ended (record_text step)) ≤ budget) x steps all) in
    omega (arith, first, rest, length-append (ended (record_text x)) (lines_text steps), mul-add budget 1 (length steps), mul-one budget)

-- ---- the first line

mode-width : (essential : Bool) → length (mode_text essential) ≤ 9
mode-width true = omega arith
mode-width false = omega arith

kind-width : (kind : CertKind) → length (kind_text kind) ≤ 10
kind-width kinds.Strong = omega arith
kind-width kinds.Outdated = omega arith
kind-width kinds.Challenged = omega arith

pub header-width : (matter : Matter) (h : Header) → HasHeaderForm (header_text h) h → length (ended (header_text h)) ≤ record_budget matter.variables
header-width matter h form =
    let numbers = h.limit ∷ h.packages ∷ h.variables ∷ h.clauses ∷ [] in
    let small_limit : h.limit < 2 ^ 32 = omega (arith, form.rules.1) in
    let small : All (λ (w : Word). IsSmall w.0) (plains numbers) = All-map (λ (w : Word). IsSmall w.0) plain numbers
    (All-cons (λ n. IsSmall n) h.limit (h.packages ∷ h.variables ∷ h.clauses ∷ []) small_limit
    (All-cons (λ n. IsSmall n) h.packages (h.variables ∷ h.clauses ∷ []) form.numbers.0
    (All-cons (λ n. IsSmall n) h.variables (h.clauses ∷ []) form.numbers.1
    (All-cons (λ n. IsSmall n) h.clauses [] form.numbers.2 (All-nil (λ n. IsSmall n)))))) in
    let words_wide = words-width (plains numbers) small in
    let start : length (codes "distfuture-certificate 1 ") ≡ 25 = refl in
    let four : length (plains numbers) ≡ 4 = refl in
    omega (
      arith,
      words_wide,
      four,
      start,
      mode-width h.essential,
      kind-width h.kind,
      length-append (header_text h) (10 ∷ []),
      length-append (codes "distfuture-certificate 1 ") (kind_text h.kind ++ (32 ∷ (mode_text h.essential ++ words_text (plains numbers)))),
      length-append (kind_text h.kind) (32 ∷ (mode_text h.essential ++ words_text (plains numbers))),
      length-append (mode_text h.essential) (words_text (plains numbers)),
    )
