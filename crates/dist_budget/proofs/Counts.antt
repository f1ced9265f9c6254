-- How many lines of each sort a part has.
use Rattle.std.proofs.Common.{◌≡◌, ◌≢◌, ◌⊎◌, ⊎_elim, inl, inr, ℕ, suc, ◌+◌, ◌*◌, ◌<◌, ◌≤◌, true, List, [], ◌∷◌, ◌++◌, length, refl, ap, sym, ◌∙◌, append-nil}
use Rattle.std.proofs.Common.{arith, length-append, mul-add, mul-one, mul-le-mul_left}
use Rattle.std.specs.List.{AllPass, Any, Contains, flat_map}
use Rattle.std.proofs.lemmas.Bool.{cases_lt, false≢true}
use Rattle.std.proofs.lemmas.Grind.{flat_map-append}
use Rattle.std.proofs.lemmas.List.Elements.{All-tail, All-head}
use Rattle.dist_cert.specs.declared.faults.CertCause.TheVariants as causes
use Rattle.dist_cert.specs.declared.records.CertRecord.{CertRecord}
use Rattle.dist_cert.specs.declared.records.CertRecord.TheVariants.{Question, Derived, Refuted, Installation, Undecided, NotInstallable, Unknown, Strong}
use Rattle.dist_cert.specs.declared.records.CertRecord.TheVariants.{Outdated, Alive, Challenged, End}
use Rattle.dist_cert.specs.declared.records.Header.{Header}
use Rattle.dist_cert.specs.Form.{Word}
use Rattle.dist_cert.specs.Groups.{claimed, claim_count, derived, derived_in, installations, leaves_open, IsOpen}
use Rattle.dist_cert.specs.Subject.{Matter}
use Rattle.dist_budget.proofs.Fronts.{GoesOn, by-fronts}
use Rattle.dist_budget.proofs.KeptLines.{AreKept}

-- ---- lines of one sort

abbrev pub asked_in : CertRecord → List (List Word)
asked_in (Question question) = question ∷ []
asked_in step = []

abbrev pub asked : List CertRecord → List (List Word)
asked lines = flat_map asked_in lines

abbrev pub answer_in : CertRecord → List CertRecord
answer_in (Refuted hints) = Refuted hints ∷ []
answer_in (Installation variables) = Installation variables ∷ []
answer_in Undecided = Undecided ∷ []
answer_in step = []

abbrev pub answers : List CertRecord → List CertRecord
answers lines = flat_map answer_in lines

abbrev pub end_in : CertRecord → List CertRecord
end_in End = End ∷ []
end_in step = []

abbrev pub ends : List CertRecord → List CertRecord
ends lines = flat_map end_in lines

pub flat-push : {X Y : Type 0} (f : X → List Y) (xs : List X) (x : X) → flat_map f (xs ++ x ∷ []) ≡ flat_map f xs ++ f x
flat-push f xs x = flat_map-append f xs (x ∷ []) ∙ ap (λ ys. flat_map f xs ++ ys) (append-nil (f x))

pub count-push : {X Y : Type 0} (f : X → List Y) (xs : List X) (x : X) → length (flat_map f (xs ++ x ∷ [])) ≡ length (flat_map f xs) + length (f x)
count-push f xs x = ap length (flat-push f xs x) ∙ length-append (flat_map f xs) (f x)

pub count-split : {X Y : Type 0} (f : X → List Y) (whole xs ys : List X) → whole ≡ xs ++ ys
    → length (flat_map f whole) ≡ length (flat_map f xs) + length (flat_map f ys)
count-split f whole xs ys is = ap (λ zs. length (flat_map f zs)) is ∙ ap length (flat_map-append f xs ys) ∙ length-append (flat_map f xs) (flat_map f ys)

-- ---- derived lines

abbrev HasFewDerived : Header → List CertRecord → Type 0
HasFewDerived h lines = length (derived lines) ≤ h.limit * length (asked lines)

one-round : (limit d s a b : ℕ) → d ≤ limit * a → s < limit → d + s + 1 ≤ limit * (a + (1 + b))
one-round limit d s a b before since =
    let whole = mul-add limit a (1 + b) in
    let last = mul-add limit 1 b in
    omega (arith, before, since, whole, last, mul-one limit)

no-derived : (h : Header) (front : List CertRecord) (x : CertRecord) → derived_in x ≡ [] → HasFewDerived h front → HasFewDerived h (front ++ x ∷ [])
no-derived h front x none few =
    let lines = count-push derived_in front x in
    let asks = count-push asked_in front x in
    let none_long : length (derived_in x) ≡ 0 = ap length none in
    let more : length (asked front) ≤ length (asked (front ++ x ∷ [])) = omega (arith, asks) in
    let wider = mul-le-mul_left h.limit more in
    omega (arith, lines, none_long, few, wider)

derived-on : (matter : Matter) (h : Header) (whole : List CertRecord) → AreKept matter h whole → GoesOn (HasFewDerived h) whole
derived-on matter h whole kept front (Derived literals hints) back is all =
    let next = (kept front (Derived literals hints) back is).next.0 in
    let earlier = next.asking.earlier in
    let since = next.asking.opened in
    let lines = count-split derived_in front earlier (Question next.question ∷ next.since) since.ends in
    let asks = count-split asked_in front earlier (Question next.question ∷ next.since) since.ends in
    let pushed = count-push derived_in front (Derived literals hints) in
    let asks_pushed = count-push asked_in front (Derived literals hints) in
    let round = one-round h.limit (length (derived earlier)) (length (derived next.since)) (length (asked earlier)) (length (asked next.since))
    (all earlier (Question next.question ∷ next.since) since.ends) next.line_left in
    let same : length (asked (front ++ Derived literals hints ∷ [])) ≡ length (asked earlier) + (1 + length (asked next.since)) =
    omega (arith, asks, asks_pushed) in
    let product : h.limit * length (asked (front ++ Derived literals hints ∷ [])) ≡ h.limit * (length (asked earlier) + (1 + length (asked next.since))) =
    ap (λ (n : ℕ). h.limit * n) same in
    omega (arith, lines, pushed, round, product)
derived-on matter h whole kept front x back is all = no-derived h front x refl (all front [] (sym (append-nil front)))

pub few-derived : (matter : Matter) (h : Header) (steps : List CertRecord) → AreKept matter h steps → length (derived steps) ≤ h.limit * length (asked steps)
few-derived matter h steps kept = by-fronts (HasFewDerived h) steps (omega arith) (derived-on matter h steps kept)

-- ---- answers

abbrev HasFewAnswers : List CertRecord → Type 0
HasFewAnswers lines = length (answers lines) ≤ length (asked lines)

no-answers : (lines : List CertRecord) → AllPass leaves_open lines → installations lines ≡ [] → length (answers lines) ≡ 0
no-answers [] left_open none = refl
no-answers (Derived literals hints ∷ lines) left_open none =
    no-answers lines (All-tail (λ s. leaves_open s ≡ true) (Derived literals hints) lines left_open) none
no-answers (Installation variables ∷ lines) left_open none = let n = ap length none in absurd (omega (arith, n))
no-answers (x ∷ lines) left_open none = absurd (false≢true (All-head (λ s. leaves_open s ≡ true) x lines left_open))

one-answer : (front earlier : List CertRecord) (question : List Word) (since : List CertRecord) (x : CertRecord) → IsOpen front earlier question since
    → installations since ≡ [] → length (answer_in x) ≡ 1 → length (asked_in x) ≡ 0
    → HasFewAnswers earlier → HasFewAnswers (front ++ x ∷ [])
one-answer front earlier question since x opened none one asks_none few =
    let lines = count-split answer_in front earlier (Question question ∷ since) opened.ends in
    let asks = count-split asked_in front earlier (Question question ∷ since) opened.ends in
    let pushed = count-push answer_in front x in
    let asks_pushed = count-push asked_in front x in
    let zero_since = no-answers since opened.left_open none in
    omega (arith, lines, asks, pushed, asks_pushed, zero_since, one, asks_none, few)

no-answer : (front : List CertRecord) (x : CertRecord) → answer_in x ≡ [] → HasFewAnswers front → HasFewAnswers (front ++ x ∷ [])
no-answer front x none few =
    let lines = count-push answer_in front x in
    let asks = count-push asked_in front x in
    let none_long : length (answer_in x) ≡ 0 = ap length none in
    omega (arith, lines, asks, none_long, few)

answers-on : (matter : Matter) (h : Header) (whole : List CertRecord) → AreKept matter h whole → GoesOn HasFewAnswers whole
answers-on matter h whole kept front (Refuted hints) back is all =
    let asks = (kept front (Refuted hints) back is).next.0 in
    let asking = asks.2 in
    one-answer front asking.earlier asks.0 asks.1 (Refuted hints) asking.opened asking.no_installation refl refl
    (all asking.earlier (Question asks.0 ∷ asks.1) asking.opened.ends)
answers-on matter h whole kept front (Installation variables) back is all =
    let asks = (kept front (Installation variables) back is).next in
    let asking = asks.2 in
    one-answer front asking.earlier asks.0 asks.1 (Installation variables) asking.opened asking.no_installation refl refl
    (all asking.earlier (Question asks.0 ∷ asks.1) asking.opened.ends)
answers-on matter h whole kept front Undecided back is all =
    let asks = (kept front Undecided back is).next in
    let asking = asks.2 in
    one-answer front asking.earlier asks.0 asks.1 Undecided asking.opened asking.no_installation refl refl
    (all asking.earlier (Question asks.0 ∷ asks.1) asking.opened.ends)
answers-on matter h whole kept front x back is all = no-answer front x refl (all front [] (sym (append-nil front)))

pub few-answers : (matter : Matter) (h : Header) (steps : List CertRecord) → AreKept matter h steps → length (answers steps) ≤ length (asked steps)
few-answers matter h steps kept = by-fronts HasFewAnswers steps (omega arith) (answers-on matter h steps kept)

-- ---- the end

no-ends : (lines : List CertRecord) → ¬ Contains lines End → length (ends lines) ≡ 0
no-ends [] none = refl
no-ends (End ∷ lines) none = absurd (none (0, omega arith, refl))
no-ends (x ∷ lines) none = no-ends lines (λ later. none (suc later.0, omega (arith, later.1), later.2))

abbrev HasFewEnds : List CertRecord → Type 0
HasFewEnds lines = length (ends lines) ≤ 1

ends-on : (matter : Matter) (h : Header) (whole : List CertRecord) → AreKept matter h whole → GoesOn HasFewEnds whole
ends-on matter h whole kept front x back is all =
    let none = no-ends front (kept front x back is).not_ended in
    let pushed = count-push end_in front x in
    omega (arith, none, pushed, at-most-one x)
  where
    at-most-one : (s : CertRecord) → length (end_in s) ≤ 1
    at-most-one End = omega arith
    at-most-one s = omega arith

pub few-ends : (matter : Matter) (h : Header) (steps : List CertRecord) → AreKept matter h steps → length (ends steps) ≤ 1
few-ends matter h steps kept = by-fronts HasFewEnds steps (omega arith) (ends-on matter h steps kept)

-- ---- claims

abbrev HasFewClaims : Matter → List CertRecord → Type 0
HasFewClaims matter lines = claim_count lines ≤ matter.packages

one-more : (count packages p : ℕ) → ¬ Any (λ q. (q ≢ count + 1) ⊎ (packages < q)) (p ∷ []) → count + 1 ≤ packages
one-more count packages p none = ⊎_elim (λ above. absurd (none (0, p, omega arith, refl, other above))) (λ upto. upto) (cases_lt packages (count + 1))
  where
    other : packages < count + 1 → (p ≢ count + 1) ⊎ (packages < p)
    other above = ⊎_elim (λ below. inl (λ same. omega (arith, below, same))) (λ at_least. inr (omega (arith, above, at_least))) (cases_lt p (count + 1))

claim-pushed : (matter : Matter) (front : List CertRecord) (x : CertRecord) → length (claimed x) ≡ 1 → claim_count front + 1 ≤ matter.packages
    → HasFewClaims matter (front ++ x ∷ [])
claim-pushed matter front x one left = let pushed = count-push claimed front x in omega (arith, pushed, one, left)

no-claim : (matter : Matter) (front : List CertRecord) (x : CertRecord) → claimed x ≡ [] → HasFewClaims matter front → HasFewClaims matter (front ++ x ∷ [])
no-claim matter front x none few = let pushed = count-push claimed front x in let long : length (claimed x) ≡ 0 = ap length none in
    omega (arith, pushed, long, few)

claims-on : (matter : Matter) (h : Header) (whole : List CertRecord) → AreKept matter h whole → GoesOn (HasFewClaims matter) whole
claims-on matter h whole kept front (NotInstallable p) back is all =
    claim-pushed matter front (NotInstallable p) refl (one-more (claim_count front) matter.packages p
    ((kept front (NotInstallable p) back is).faultless causes.OutOfOrder))
claims-on matter h whole kept front (Unknown p) back is all =
    claim-pushed matter front (Unknown p) refl (one-more (claim_count front) matter.packages p ((kept front (Unknown p) back is).faultless causes.OutOfOrder))
claims-on matter h whole kept front (Strong p named on undecided) back is all =
    claim-pushed matter front (Strong p named on undecided) refl
    (one-more (claim_count front) matter.packages p ((kept front (Strong p named on undecided) back is).faultless causes.OutOfOrder))
claims-on matter h whole kept front (Outdated p) back is all =
    claim-pushed matter front (Outdated p) refl (one-more (claim_count front) matter.packages p ((kept front (Outdated p) back is).faultless causes.OutOfOrder))
claims-on matter h whole kept front (Alive p installation) back is all =
    claim-pushed matter front (Alive p installation) refl (one-more (claim_count front) matter.packages p
    ((kept front (Alive p installation) back is).faultless causes.OutOfOrder))
claims-on matter h whole kept front (Challenged p named by undecided) back is all =
    claim-pushed matter front (Challenged p named by undecided) refl
    (one-more (claim_count front) matter.packages p ((kept front (Challenged p named by undecided) back is).faultless causes.OutOfOrder))
claims-on matter h whole kept front x back is all = no-claim matter front x refl (all front [] (sym (append-nil front)))

pub few-claims : (matter : Matter) (h : Header) (steps : List CertRecord) → AreKept matter h steps → claim_count steps ≤ matter.packages
few-claims matter h steps kept = by-fronts (HasFewClaims matter) steps (omega arith) (claims-on matter h steps kept)

-- ---- all lines

-- each line is of one sort
pub all-sorts : (steps : List CertRecord) → length steps ≤ length (asked steps) + length (derived steps) + length (answers steps) + claim_count steps
    + length (ends steps)
all-sorts [] = omega arith
all-sorts (x ∷ steps) =
    let rest = all-sorts steps in
    let one = sort x in
    omega (
      arith,
      rest,
      one,
      length-append (asked_in x) (asked steps),
      length-append (derived_in x) (derived steps),
      length-append (answer_in x) (answers steps),
      length-append (claimed x) (flat_map claimed steps),
      length-append (end_in x) (ends steps),
    )
  where
    sort : (s : CertRecord) → 1 ≤ length (asked_in s) + length (derived_in s) + length (answer_in s) + length (claimed s) + length (end_in s)
    sort (Question question) = omega arith
    sort (Derived literals hints) = omega arith
    sort (Refuted hints) = omega arith
    sort (Installation variables) = omega arith
    sort Undecided = omega arith
    sort End = omega arith
    sort s = omega arith
