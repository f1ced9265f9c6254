-- Laws of the definitions of `Groups`, which lemmas of several crates cite: the open question, the closed ones, the
-- group, the claims and the installations of some lines, with lines more behind them.
use Rattle.std.proofs.Common.{◌≡◌, ◌⊎◌, inl, inr, ℕ, ◌<◌, ◌||◌, Bool, true, false, List, [], ◌∷◌, ◌++◌, length, get_or}
use Rattle.std.proofs.Common.{refl, sym, ap, subst, ◌∙◌, append_assoc, append-nil, arith, length-append, if◌then◌else◌}
use Rattle.std.specs.List.{All, AllPass, flat_map, list_any}
use Rattle.std.proofs.lemmas.Bool.{true≢false, false≢true, or_right, or_parts}
use Rattle.std.proofs.lemmas.Grind.{flat_map-append}
use Rattle.std.proofs.lemmas.List.{get_or_at, get_or_append_left}
use Rattle.std.proofs.lemmas.List.Elements.{All-push, All-tail}
use Rattle.dist_cert.specs.declared.records.CertRecord.{CertRecord}
use Rattle.dist_cert.specs.declared.records.CertRecord.TheVariants.{Question, Derived, Installation}
use Rattle.dist_cert.specs.Form.{Word}
use Rattle.dist_cert.specs.Groups.{is_some_number, claimed, claim_count, is_claim, installed_in, installations, group}
use Rattle.dist_cert.specs.Groups.{leaves_open, IsOpen, HasOpenQuestion, IsClosedBy}
use Rattle.dist_cert.specs.SomeVerdictLaws.{split_push}

-- what holds of each element holds of one that stands between others
pub all-at : {X : Type 0} (P : X → Type 0) (xs front : List X) (b : X) (cs : List X) → xs ≡ front ++ b ∷ cs → All P xs
    → P b
all-at P xs front b cs e all =
    subst P (ap (λ ys. get_or ys (length front) b) e ∙ get_or_at front b cs b (length front) refl)
    (all (length front) b (omega (arith, ap length e, length-append front (b ∷ cs))))

-- ---- lines that leave a question open

-- a question does not stand among lines that leave one open
no-question : (between front : List CertRecord) (question : List Word) (later : List CertRecord)
    → between ≡ front ++ Question question ∷ later → ¬ AllPass leaves_open between
no-question between front question later is all =
    false≢true (all-at (λ step. leaves_open step ≡ true) between front (Question question) later is all)

first-line : CertRecord → List CertRecord → CertRecord
first-line d [] = d
first-line d (x ∷ xs) = x

other-lines : List CertRecord → List CertRecord
other-lines [] = []
other-lines (x ∷ xs) = xs

words-of : CertRecord → List Word
words-of (Question literals) = literals
words-of step = []

-- one question is open at most
pub one-open : (before earlier others : List CertRecord) (question asked : List Word) (since between : List CertRecord)
    → IsOpen before earlier question since → IsOpen before others asked between
    → (earlier ≡ others) × (question ≡ asked) × (since ≡ between)
unfolding words-of first-line other-lines
one-open before earlier others question asked since between x y = at earlier others (sym x.ends ∙ y.ends)
  where
    at : (e o : List CertRecord) → e ++ Question question ∷ since ≡ o ++ Question asked ∷ between → (e ≡ o)
        × (question ≡ asked) × (since ≡ between)
    at [] [] is = (
      refl,
      ap (λ (ls : List CertRecord). words-of (first-line (Question question) ls)) is,
      ap other-lines is,
    )
    at [] (z ∷ o) is = absurd (no-question since o asked between (ap other-lines is) x.left_open)
    at (z ∷ e) [] is = absurd (no-question between e question since (sym (ap other-lines is)) y.left_open)
    at (z ∷ e) (w ∷ o) is =
        let rest = at e o (ap other-lines is) in (
          subst (λ v. z ∷ e ≡ v ∷ o) (ap (first-line z) is) (ap (λ (ls : List CertRecord). z ∷ ls) rest.0),
          rest.1,
          rest.2,
        )

pub opened : (before : List CertRecord) (question : List Word)
    → IsOpen (before ++ Question question ∷ []) before question []
opened before question = record { ends = refl; left_open = λ k d within. absurd (omega (arith, within)) }

-- a line that leaves a question open
pub still-open : (before : List CertRecord) (step : CertRecord) (earlier : List CertRecord) (question : List Word)
    (since : List CertRecord) → leaves_open step ≡ true → IsOpen before earlier question since
    → IsOpen (before ++ step ∷ []) earlier question (since ++ step ∷ [])
still-open before step earlier question since leaves x = record {
  ends = ap (λ (ls : List CertRecord). ls ++ step ∷ []) x.ends
      ∙ append_assoc earlier (Question question ∷ since) (step ∷ []);
  left_open = All-push (λ s. leaves_open s ≡ true) since step x.left_open leaves;
}

abbrev pub IsOpening : CertRecord → Type 0
IsOpening step = (question : List Word) × (step ≡ Question question)

-- the last line of those since a question
last-since : (before : List CertRecord) (step : CertRecord) (earlier : List CertRecord) (question : List Word)
    (since : List CertRecord) → IsOpen (before ++ step ∷ []) earlier question since
    → (step ≡ Question question) ⊎ ((more : List CertRecord) × IsOpen before earlier question more
    × (leaves_open step ≡ true))
last-since before step earlier question since x =
    elim (split_push before earlier since (Question question) step x.ends) [
      | inl here ↦ inl (sym here.1)
      | inr later ↦ inr (
        later.0,
        record {
          ends = later.1;
          left_open = λ k d within. front later.0 k d within
              (subst (AllPass leaves_open) later.2 x.left_open);
        },
        all-at (λ s. leaves_open s ≡ true) since later.0 step [] later.2 x.left_open,
      )
    ]
  where
    front : (more : List CertRecord) (k : ℕ) (d : CertRecord) → k < length more
        → AllPass leaves_open (more ++ step ∷ []) → leaves_open (get_or more k d) ≡ true
    front more k d within all =
        subst (λ s. leaves_open s ≡ true) (get_or_append_left more (step ∷ []) d k within)
        (all k d (omega (arith, within, length-append more (step ∷ []))))

-- a line that neither opens a question nor leaves one open
pub none-open : (before : List CertRecord) (step : CertRecord) → leaves_open step ≡ false → ¬ IsOpening step
    → ¬ HasOpenQuestion (before ++ step ∷ [])
none-open before step closes never some = elim (last-since before step some.0 some.1 some.2 some.3) [
  | inl here ↦ never (some.1, here)
  | inr later ↦ true≢false (sym later.2 ∙ closes)
]

-- no question is open where none was
pub none-still : (before : List CertRecord) (step : CertRecord) → ¬ IsOpening step → ¬ HasOpenQuestion before
    → ¬ HasOpenQuestion (before ++ step ∷ [])
none-still before step never none some = elim (last-since before step some.0 some.1 some.2 some.3) [
  | inl here ↦ never (some.1, here)
  | inr later ↦ none (some.0, some.1, later.0, later.1)
]

pub none-first : ¬ HasOpenQuestion []
none-first some = let n = ap length some.3.ends in omega (arith, n, length-append some.0 (Question some.1 ∷ some.2))

-- ---- closed questions

-- a question is open at the end of some lines
abbrev pub IsAsked : List CertRecord → List Word → Type 0
IsAsked lines question = (earlier since : List CertRecord) × IsOpen lines earlier question since

pub closed-push : (lines : List CertRecord) (step : CertRecord) (question : List Word) (answer : CertRecord)
    → IsClosedBy (lines ++ step ∷ []) question answer
    → IsClosedBy lines question answer ⊎ ((step ≡ answer) × IsAsked lines question)
closed-push lines step question answer closed =
    elim (split_push lines (closed.0 ++ Question question ∷ closed.1) closed.2 answer step closed.3) [
      | inl here ↦ inr (sym here.1, (closed.0, closed.1, record { ends = sym here.0; left_open = closed.4 }))
      | inr more ↦ inl (closed.0, closed.1, more.0, more.1, closed.4)
    ]

pub closed-more : (lines more : List CertRecord) (question : List Word) (answer : CertRecord)
    → IsClosedBy lines question answer → IsClosedBy (lines ++ more) question answer
closed-more lines more question answer closed = (
  closed.0,
  closed.1,
  closed.2 ++ more,
  ap (λ (ls : List CertRecord). ls ++ more) closed.3
      ∙ append_assoc (closed.0 ++ Question question ∷ closed.1) (answer ∷ closed.2) more,
  closed.4,
)

pub closed-here : (lines : List CertRecord) (question : List Word) (answer : CertRecord) → IsAsked lines question
    → IsClosedBy (lines ++ answer ∷ []) question answer
closed-here lines question answer asked = (
  asked.0,
  asked.1,
  [],
  ap (λ (ls : List CertRecord). ls ++ answer ∷ []) asked.2.ends,
  asked.2.left_open,
)

pub none-closed : (question : List Word) (answer : CertRecord) → ¬ IsClosedBy [] question answer
none-closed question answer closed = let n = ap length closed.3 in
    omega (arith, n, length-append (closed.0 ++ Question question ∷ closed.1) (answer ∷ closed.2))

-- ---- groups

any-push : (lines : List CertRecord) (step : CertRecord)
    → list_any is_claim (lines ++ step ∷ []) ≡ (list_any is_claim lines || is_claim step)
any-push [] step = or-false (is_claim step)
  where
    or-false : (b : Bool) → (b || false) ≡ b
    or-false true = refl
    or-false false = refl
any-push (s ∷ lines) step = ap (λ (b : Bool). is_claim s || b) (any-push lines step)
    ∙ sym (or-assoc (is_claim s) (list_any is_claim lines) (is_claim step))
  where
    or-assoc : (a b c : Bool) → ((a || b) || c) ≡ (a || (b || c))
    or-assoc true b c = refl
    or-assoc false b c = refl

-- a line that is no claim is in the group of the lines before it
pub group-push : (lines : List CertRecord) (step : CertRecord) → is_claim step ≡ false
    → group (lines ++ step ∷ []) ≡ group lines ++ step ∷ []
group-push [] step no_claim = by (is_claim step) no_claim
  where
    by : (b : Bool) → b ≡ false → (if (b || false) then [] else step ∷ []) ≡ step ∷ []
    by true e = absurd (true≢false e)
    by false e = refl
group-push (s ∷ lines) step no_claim =
    let same : list_any is_claim (s ∷ (lines ++ step ∷ [])) ≡ list_any is_claim (s ∷ lines)
    = any-push (s ∷ lines) step ∙ ap (λ (b : Bool). list_any is_claim (s ∷ lines) || b) no_claim
    ∙ or-false (list_any is_claim (s ∷ lines)) in
    ap (λ (b : Bool). if b then group (lines ++ step ∷ []) else s ∷ (lines ++ step ∷ [])) same
    ∙ by (list_any is_claim (s ∷ lines)) (group-push lines step no_claim)
  where
    or-false : (b : Bool) → (b || false) ≡ b
    or-false true = refl
    or-false false = refl

    by : (b : Bool) → group (lines ++ step ∷ []) ≡ group lines ++ step ∷ []
        → (if b then group (lines ++ step ∷ []) else s ∷ (lines ++ step ∷ [])) ≡ (if b then group lines else s ∷ lines)
        ++ step ∷ []
    by true e = e
    by false e = refl

-- the same of several lines
pub group-append : (lines more : List CertRecord) → list_any is_claim more ≡ false
    → group (lines ++ more) ≡ group lines ++ more
group-append lines [] none = ap group (append-nil lines) ∙ sym (append-nil (group lines))
group-append lines (x ∷ more) none =
    let parts = or_parts (is_claim x) (list_any is_claim more) none in
    ap group (sym (append_assoc lines (x ∷ []) more)) ∙ group-append (lines ++ x ∷ []) more parts.1
    ∙ ap (λ (ls : List CertRecord). ls ++ more) (group-push lines x parts.0) ∙ append_assoc (group lines) (x ∷ []) more

-- a claim ends the group
pub group-claim : (lines : List CertRecord) (step : CertRecord) → is_claim step ≡ true → group (lines ++ step ∷ []) ≡ []
group-claim [] step claim = by (is_claim step) claim
  where
    by : (b : Bool) → b ≡ true → (if (b || false) then [] else step ∷ []) ≡ []
    by true e = refl
    by false e = absurd (false≢true e)
group-claim (s ∷ lines) step claim =
    let some : list_any is_claim (s ∷ (lines ++ step ∷ [])) ≡ true = any-push (s ∷ lines) step
    ∙ or_right (list_any is_claim (s ∷ lines)) (is_claim step) claim in
    ap (λ (b : Bool). if b then group (lines ++ step ∷ []) else s ∷ (lines ++ step ∷ [])) some
    ∙ group-claim lines step claim

no-claim : (step : CertRecord) → leaves_open step ≡ true → is_claim step ≡ false
no-claim (Derived literals hints) leaves = refl
no-claim (Installation variables) leaves = refl
no-claim step leaves = absurd (false≢true leaves)

no-claims : (steps : List CertRecord) → AllPass leaves_open steps → list_any is_claim steps ≡ false
no-claims [] all = refl
no-claims (step ∷ steps) all =
    ap (λ (b : Bool). b || list_any is_claim steps) (no-claim step (all 0 step (omega arith)))
    ∙ no-claims steps (All-tail (λ s. leaves_open s ≡ true) step steps all)

-- the open question is one of the group
pub asked-in-group : (earlier : List CertRecord) (question : List Word) (since : List CertRecord)
    → AllPass leaves_open since
    → (front : List CertRecord) × (group (earlier ++ Question question ∷ since) ≡ front ++ Question question ∷ since)
asked-in-group [] question since all = (
  [],
  ap (λ (b : Bool). if b then group since else Question question ∷ since) (no-claims since all),
)
asked-in-group (s ∷ earlier) question since all =
    by (list_any is_claim (s ∷ (earlier ++ Question question ∷ since))) (asked-in-group earlier question since all)
  where
    by : (b : Bool) → (front : List CertRecord)
        × (group (earlier ++ Question question ∷ since) ≡ front ++ Question question ∷ since)
        → (front : List CertRecord) × ((if b then group (earlier ++ Question question ∷ since) else s
        ∷ (earlier ++ Question question ∷ since)) ≡ front ++ Question question ∷ since)
    by true h = h
    by false h = (s ∷ earlier, refl)

-- ---- claims and installations

none-claimed : (step : CertRecord) → is_claim step ≡ false → claimed step ≡ []
none-claimed step none = by (claimed step) none
  where
    by : (ps : List ℕ) → is_some_number ps ≡ false → ps ≡ []
    by [] e = refl
    by (p ∷ ps) e = absurd (true≢false e)

no-claims-count : (lines : List CertRecord) → list_any is_claim lines ≡ false → flat_map claimed lines ≡ []
no-claims-count [] none = refl
no-claims-count (x ∷ lines) none =
    let parts = or_parts (is_claim x) (list_any is_claim lines) none in
    ap (λ (ps : List ℕ). ps ++ flat_map claimed lines) (none-claimed x parts.0) ∙ no-claims-count lines parts.1

pub count-append : (lines more : List CertRecord) → list_any is_claim more ≡ false
    → claim_count (lines ++ more) ≡ claim_count lines
count-append lines more none =
    ap length (flat_map-append claimed lines more
    ∙ ap (λ (ps : List ℕ). flat_map claimed lines ++ ps) (no-claims-count more none)
    ∙ append-nil (flat_map claimed lines))

pub installations-append : (lines more : List CertRecord)
    → installations (lines ++ more) ≡ installations lines ++ installations more
installations-append lines more = flat_map-append installed_in lines more
