-- A sweep asks each question at most once for each package, and there are few questions for a package.
use Rattle.std.proofs.Common.{◌≡◌, ◌≢◌, ⊎_elim, inl, inr, ℕ, zero, suc, ◌+◌, ◌-◌, ◌*◌, ◌<◌, ◌≤◌, ◌==◌, ◌||◌, Bool, true, false, List, [], ◌∷◌, ◌++◌}
use Rattle.std.proofs.Common.{length, get_or, map, if◌then◌else◌, refl, ap, sym, subst, ◌∙◌, append-nil, arith, length-append, mul-add, mul-one}
use Rattle.std.proofs.Common.{mul_comm, mul-le-mul_left}
use Rattle.std.specs.List.{All, AllPairs, Any, Contains, range_with_len}
use Rattle.std.proofs.lemmas.Bool.{cases_Bool, cases_lt, eq-eqb, eqb-true}
use Rattle.std.proofs.lemmas.List.{length-map}
use Rattle.std.proofs.lemmas.List.Elements.{All-nil, All-cons, All-append}
use Rattle.std.proofs.lemmas.List.FromFn.{length-range_with_len}
use Rattle.std.proofs.lemmas.List.Quantifiers.{all_pairs_push}
use Rattle.dist_cert.specs.declared.faults.CertCause.TheVariants as causes
use Rattle.dist_cert.specs.declared.records.CertKind.{CertKind}
use Rattle.dist_cert.specs.declared.records.CertKind.TheVariants as kinds
use Rattle.dist_cert.specs.declared.records.CertRecord.{CertRecord}
use Rattle.dist_cert.specs.declared.records.CertRecord.TheVariants.{Question, NotInstallable, Unknown, Strong, Outdated, Alive, Challenged}
use Rattle.dist_cert.specs.declared.records.Header.{Header}
use Rattle.dist_cert.specs.ClaimRules.{yes, no, claim_question, challenge_question}
use Rattle.dist_cert.specs.Form.{Word, AreLiterals}
use Rattle.dist_cert.specs.Groups.{claimed, claim_count, group, is_claim}
use Rattle.dist_cert.specs.GroupLaws.{group-append, group-claim}
use Rattle.dist_cert.specs.ListLaws.{contains-later}
use Rattle.dist_cert.specs.Part.{IsNextQuestion, IsQuestionOn}
use Rattle.dist_cert.specs.Subject.{Matter}
use Rattle.dist_space.specs.RisingLaws.{below-in, map-in}
use Rattle.dist_budget.specs.Budget.{pair_count, question_budget}
use Rattle.dist_budget.proofs.Counts.{asked, asked_in, count-push, flat-push, few-claims}
use Rattle.dist_budget.proofs.EnoughVariables.{HasEnoughVariables}
use Rattle.dist_budget.proofs.FewNumbers.{few-of}
use Rattle.dist_budget.proofs.Fronts.{GoesOn, by-fronts}
use Rattle.dist_budget.proofs.KeptLines.{IsKept, AreAskedInTurn, AreKept}
use Rattle.dist_budget.proofs.Pairs.{all_pairs, length-pairs, pair-there}

-- ---- the questions of one package

-- how many questions there are for one package
abbrev per_claim : CertKind → Matter → ℕ
per_claim kinds.Strong matter = matter.packages
per_claim kinds.Outdated matter = 1
per_claim kinds.Challenged matter = 1 + pair_count matter

-- the package without another one, or alone
abbrev without : ℕ → ℕ → List Word
without p q = if p == q then yes p ∷ [] else yes p ∷ no q ∷ []

-- the questions for the package
abbrev questions_on : Matter → CertKind → ℕ → List (List Word)
questions_on matter kinds.Strong p = map (λ q. without p (q + 1)) (range_with_len 0 matter.packages)
questions_on matter kinds.Outdated p = claim_question matter kinds.Outdated p ∷ []
questions_on matter kinds.Challenged p = claim_question matter kinds.Challenged p ∷ map (challenge_question matter p) (all_pairs matter)

questions-count : (matter : Matter) (kind : CertKind) (p : ℕ) → length (questions_on matter kind p) ≡ per_claim kind matter
questions-count matter kinds.Strong p = length-map (range_with_len 0 matter.packages) (λ q. without p (q + 1)) ∙ length-range_with_len 0 matter.packages
questions-count matter kinds.Outdated p = refl
questions-count matter kinds.Challenged p = omega (arith, length-map (all_pairs matter) (challenge_question matter p), length-pairs matter)

budget-is : (matter : Matter) (kind : CertKind) → per_claim kind matter * matter.packages ≡ question_budget kind matter
budget-is matter kinds.Strong = refl
budget-is matter kinds.Outdated = mul_comm 1 matter.packages ∙ mul-one matter.packages
budget-is matter kinds.Challenged = omega (
  arith,
  mul_comm (1 + pair_count matter) matter.packages,
  mul-add matter.packages 1 (pair_count matter),
  mul-one matter.packages,
)

without-there : (matter : Matter) (p q : ℕ) (question : List Word) → 1 ≤ q → q ≤ matter.packages → without p q ≡ question
    → Contains (questions_on matter kinds.Strong p) question
without-there matter p q question from upto is =
    let same : q - 1 + 1 ≡ q = omega (arith, from) in
    let there = map-in (λ r. without p (r + 1)) (range_with_len 0 matter.packages) (q - 1) (below-in matter.packages (q - 1) (omega (arith, from, upto))) in
    subst (λ (asking : List Word). Contains (questions_on matter kinds.Strong p) asking) (ap (without p) same ∙ is) there

alone-is : (p : ℕ) → without p p ≡ yes p ∷ []
alone-is p = ap (λ (b : Bool). if b then yes p ∷ [] else yes p ∷ no p ∷ []) (eq-eqb p p refl)

without-is : (p q : ℕ) → q ≢ p → without p q ≡ yes p ∷ no q ∷ []
without-is p q other = elim (cases_Bool (p == q)) [
  | inl same ↦ absurd (other (sym (eqb-true p q same)))
  | inr apart ↦ ap (λ (b : Bool). if b then yes p ∷ [] else yes p ∷ no q ∷ []) apart
]

upto-last : (variables v : ℕ) (words : List ℕ) → ¬ Any (λ w. variables < w) words → Contains words v → v ≤ variables
upto-last variables v words none there =
    ⊎_elim (λ above. absurd (none (there.0, v, there.1, there.2, above))) (λ upto. upto) (cases_lt variables v)

-- what a claim may need to ask is one of the questions for its package
question-there : (matter : Matter) (h : Header) (kind : CertKind) (front : List CertRecord) (question : List Word) → HasEnoughVariables matter kind
    → IsKept matter h front (Question question) → IsNextQuestion matter h front question → IsQuestionOn matter kind (claim_count front + 1) question
    → Contains (questions_on matter kind (claim_count front + 1)) question
question-there matter h kinds.Strong front question enough kept next (inl alone) =
    let p = claim_count front + 1 in
    without-there matter p p question (omega arith) (let left = next.claim_left in omega (arith, left)) (alone-is p ∙ sym alone)
question-there matter h kinds.Strong front question enough kept next (inr (q, is)) =
    let p = claim_count front + 1 in
    let form : AreLiterals (yes p ∷ no q ∷ []) = subst AreLiterals is kept.form.rules.1 in
    let upto = upto-last matter.variables q (map (λ (w : Word). w.0) (yes p ∷ no q ∷ []))
    (subst (λ (words : List Word). ¬ Any (λ v. matter.variables < v) (map (λ (w : Word). w.0) words)) is (kept.faultless causes.OutOfRange))
    (1, omega arith, refl) in
    let packages = enough.no_others refl in
    without-there matter p q question (form.0 1 (yes 0) (omega arith)) (omega (arith, upto, packages))
    (without-is p q (λ same. form.1 0 1 (yes 0) (omega arith) (omega arith) (sym same)) ∙ sym is)
question-there matter h kinds.Outdated front question enough kept next on = (0, omega arith, sym on)
question-there matter h kinds.Challenged front question enough kept next (inl own) = (0, omega arith, sym own)
question-there matter h kinds.Challenged front question enough kept next (inr (pair, is_pair, is)) =
    let p = claim_count front + 1 in
    contains-later (claim_question matter kinds.Challenged p) (map (challenge_question matter p) (all_pairs matter)) question
    (subst (λ (asking : List Word). Contains (map (challenge_question matter p) (all_pairs matter)) asking) (sym is)
    (map-in (challenge_question matter p) (all_pairs matter) pair (pair-there matter p pair is_pair)))

few-questions : (matter : Matter) (kind : CertKind) (p : ℕ) (questions : List (List Word)) → All (Contains (questions_on matter kind p)) questions
    → AllPairs (λ a b. a ≢ b) questions → length questions ≤ per_claim kind matter
few-questions matter kind p questions all apart =
    let few = few-of questions (questions_on matter kind p) apart all in omega (arith, few, questions-count matter kind p)

-- what was asked stands among the lines
asked-there : (lines : List CertRecord) (question : List Word) (k : ℕ) (d : List Word) → k < length (asked lines) → get_or (asked lines) k d ≡ question
    → Contains lines (Question question)
asked-there [] question k d inside is = absurd (omega (arith, inside))
asked-there (Question other ∷ lines) question zero d inside is = (0, omega arith, ap Question is)
asked-there (Question other ∷ lines) question (suc k) d inside is = let later = asked-there lines question k d (omega (arith, inside)) is in
    (suc later.0, omega (arith, later.1), later.2)
asked-there (x ∷ lines) question k d inside is = let later = asked-there lines question k d inside is in (suc later.0, omega (arith, later.1), later.2)

-- ---- the questions of all lines

module _ (matter : Matter) (h : Header) (enough : HasEnoughVariables matter h.kind) where
  abbrev most : ℕ
  most = per_claim h.kind matter

  abbrev AreOn : ℕ → List (List Word) → Type 0
  AreOn p questions = All (Contains (questions_on matter h.kind p)) questions

  record IsCounted (lines : List CertRecord) : Type 0 where
    count : length (asked lines) ≤ most * claim_count lines + length (asked (group lines))
    each : AreOn (claim_count lines + 1) (asked (group lines))
    apart : AllPairs (λ a b. a ≢ b) (asked (group lines))
    left : 0 < length (asked (group lines)) → claim_count lines < matter.packages

  nothing-counted : IsCounted []
  nothing-counted = record {
    count = omega arith;
    each = All-nil (Contains (questions_on matter h.kind 1));
    apart = λ i j d before inside. absurd (omega (arith, inside));
    left = λ some. absurd (omega (arith, some));
  }

  question-counted : (front : List CertRecord) (question : List Word) → IsKept matter h front (Question question)
      → IsNextQuestion matter h front question → IsCounted front
      → IsCounted (front ++ Question question ∷ [])
  question-counted front question kept next counted =
      let claims : claim_count (front ++ Question question ∷ []) ≡ claim_count front = count-push claimed front (Question question) ∙ omega arith in
      let grouped : asked (group (front ++ Question question ∷ [])) ≡ asked (group front) ++ question ∷ [] =
      ap asked (group-append front (Question question ∷ []) refl) ∙ flat-push asked_in (group front) (Question question) in
      let longer : length (asked (group (front ++ Question question ∷ []))) ≡ length (asked (group front)) + 1 = ap length grouped
      ∙ length-append (asked (group front)) (question ∷ []) in
      let asks = count-push asked_in front (Question question) in
      let product : most * claim_count (front ++ Question question ∷ []) ≡ most * claim_count front = ap (λ (n : ℕ). most * n) claims in
      let options = questions_on matter h.kind (claim_count front + 1) in
      let one = question-there matter h h.kind front question enough kept next next.on_next in
      record {
        count = omega (arith, counted.count, longer, asks, product);
        each = subst (λ (n : ℕ). AreOn (n + 1) (asked (group (front ++ Question question ∷ [])))) (sym claims)
            (subst (λ (qs : List (List Word)). AreOn (claim_count front + 1) qs) (sym grouped)
            (All-append (Contains options) (asked (group front)) (question ∷ []) counted.each
            (All-cons (Contains options) question [] one (All-nil (Contains options)))));
        apart = subst (λ (qs : List (List Word)). AllPairs (λ a b. a ≢ b) qs) (sym grouped)
            (all_pairs_push (λ a b. a ≢ b) (asked (group front)) question counted.apart
            (λ k d inside same. next.not_twice (asked-there (group front) question k d inside same)));
        left = λ some. omega (arith, claims, next.claim_left);
      }

  claim-counted : (front : List CertRecord) (x : CertRecord) → is_claim x ≡ true → length (claimed x) ≡ 1 → length (asked_in x) ≡ 0 → IsCounted front
      → IsCounted (front ++ x ∷ [])
  claim-counted front x claim one no_question counted =
      let claims : claim_count (front ++ x ∷ []) ≡ claim_count front + 1 = count-push claimed front x ∙ ap (λ (n : ℕ). claim_count front + n) one in
      let grouped : asked (group (front ++ x ∷ [])) ≡ [] = ap asked (group-claim front x claim) in
      let none : length (asked (group (front ++ x ∷ []))) ≡ 0 = ap length grouped in
      let asks = count-push asked_in front x in
      let few = few-questions matter h.kind (claim_count front + 1) (asked (group front)) counted.each counted.apart in
      let product : most * claim_count (front ++ x ∷ []) ≡ most * claim_count front + most =
      ap (λ (n : ℕ). most * n) claims ∙ mul-add most (claim_count front) 1 ∙ ap (λ (n : ℕ). most * claim_count front + n) (mul-one most) in
      record {
        count = omega (arith, counted.count, asks, no_question, few, product, none);
        each = subst (λ (qs : List (List Word)). AreOn (claim_count (front ++ x ∷ []) + 1) qs) (sym grouped)
            (All-nil (Contains (questions_on matter h.kind (claim_count (front ++ x ∷ []) + 1))));
        apart = subst (λ (qs : List (List Word)). AllPairs (λ a b. a ≢ b) qs) (sym grouped) (λ i j d before inside. absurd (omega (arith, inside)));
        left = λ some. absurd (omega (arith, some, none));
      }

  other-counted : (front : List CertRecord) (x : CertRecord) → is_claim x ≡ false → claimed x ≡ [] → asked_in x ≡ [] → IsCounted front
      → IsCounted (front ++ x ∷ [])
  other-counted front x no_claim none no_question counted =
      let claims : claim_count (front ++ x ∷ []) ≡ claim_count front
      = count-push claimed front x ∙ ap (λ (ps : List ℕ). claim_count front + length ps) none ∙ omega arith in
      let grouped : asked (group (front ++ x ∷ [])) ≡ asked (group front)
      = ap asked (group-append front (x ∷ []) (ap (λ b. b || false) no_claim)) ∙ flat-push asked_in (group front) x
      ∙ ap (λ (qs : List (List Word)). asked (group front) ++ qs) no_question ∙ append-nil (asked (group front)) in
      let asks = count-push asked_in front x in
      let no_length : length (asked_in x) ≡ 0 = ap length no_question in
      let same : length (asked (group (front ++ x ∷ []))) ≡ length (asked (group front)) = ap length grouped in
      let product : most * claim_count (front ++ x ∷ []) ≡ most * claim_count front = ap (λ (n : ℕ). most * n) claims in
      record {
        count = omega (arith, counted.count, asks, no_length, same, product);
        each = subst (λ (n : ℕ). AreOn (n + 1) (asked (group (front ++ x ∷ [])))) (sym claims)
            (subst (λ (qs : List (List Word)). AreOn (claim_count front + 1) qs) (sym grouped) counted.each);
        apart = subst (λ (qs : List (List Word)). AllPairs (λ a b. a ≢ b) qs) (sym grouped) counted.apart;
        left = λ some. let before = counted.left (omega (arith, some, same)) in omega (arith, before, claims);
      }

  counted-on : (whole : List CertRecord) → AreKept matter h whole → AreAskedInTurn matter h whole → GoesOn IsCounted whole
  counted-on whole kept turn front (Question question) back is all =
      question-counted front question (kept front (Question question) back is) (turn front question back is) (all front [] (sym (append-nil front)))
  counted-on whole kept turn front (NotInstallable p) back is all =
      claim-counted front (NotInstallable p) refl refl refl (all front [] (sym (append-nil front)))
  counted-on whole kept turn front (Unknown p) back is all = claim-counted front (Unknown p) refl refl refl (all front [] (sym (append-nil front)))
  counted-on whole kept turn front (Strong p named on undecided) back is all =
      claim-counted front (Strong p named on undecided) refl refl refl (all front [] (sym (append-nil front)))
  counted-on whole kept turn front (Outdated p) back is all = claim-counted front (Outdated p) refl refl refl (all front [] (sym (append-nil front)))
  counted-on whole kept turn front (Alive p installation) back is all =
      claim-counted front (Alive p installation) refl refl refl (all front [] (sym (append-nil front)))
  counted-on whole kept turn front (Challenged p named by undecided) back is all =
      claim-counted front (Challenged p named by undecided) refl refl refl (all front [] (sym (append-nil front)))
  counted-on whole kept turn front x back is all = other-counted front x refl refl refl (all front [] (sym (append-nil front)))

  within-product : (n m c a : ℕ) → c ≤ m → a ≤ n → (0 < a → c < m) → n * c + a ≤ n * m
  within-product n m c zero upto few left = let wide = mul-le-mul_left n upto in omega (arith, wide)
  within-product n m c (suc a) upto few left =
      let more : c + 1 ≤ m = omega (arith, left (omega arith)) in
      let wide = mul-le-mul_left n more in
      omega (arith, wide, mul-add n c 1, mul-one n, few)

  pub few-asked : (steps : List CertRecord) → AreKept matter h steps → AreAskedInTurn matter h steps → length (asked steps) ≤ question_budget h.kind matter
  few-asked steps kept turn =
      let counted = by-fronts IsCounted steps nothing-counted (counted-on steps kept turn) in
      let few = few-questions matter h.kind (claim_count steps + 1) (asked (group steps)) counted.each counted.apart in
      let product = within-product most matter.packages (claim_count steps) (length (asked (group steps))) (few-claims matter h steps kept) few counted.left in
      omega (arith, counted.count, product, budget-is matter h.kind)
