-- Laws of lists and of lines: what stands in none of them, and what one line more changes. Proofs cite them, those of
-- the crates above too.
use Rattle.std.proofs.Common.{◌≡◌, ℕ, ◌+◌, ◌<◌, ◌≤◌, Bool, List, [], ◌∷◌, ◌++◌, length, refl, ap, ◌∙◌, arith}
use Rattle.std.proofs.Common.{length-append, ◌^◌, false, true, ◌||◌, append-nil, inl, inr}
use Rattle.std.specs.List.{All, Any, Contains, list_any, AllPairs}
use Rattle.std.proofs.lemmas.List.{get_or_at, get_or_append_left}
use Rattle.std.proofs.lemmas.Bool.{or_parts, cases_lt}
use Rattle.std.proofs.lemmas.List.Elements.{All-map}
use Rattle.dist_clause.specs.Formula.{Literal}
use Rattle.dist_cert.specs.declared.records.CertRecord.{CertRecord}
use Rattle.dist_cert.specs.Form.{Word, IsSmall, plains, is_end}
use Rattle.dist_cert.specs.Groups.{derived, derived_in, installed_in}
use Rattle.dist_line_write.specs.Script.{KeepsLines}
use Rattle.std.proofs.lemmas.Grind.{flat_map-append}
use Rattle.std.proofs.lemmas.List.Sums.{sum_by-append}
use Rattle.dist_clause.specs.ClauseList.{literal_count}
use Rattle.dist_outside.specs.declared.limits.Limits.{Limits}
use Rattle.dist_cert.specs.declared.records.CertKind.{CertKind}
use Rattle.dist_cert.specs.declared.records.CertRecord.TheVariants.{Installation}
use Rattle.dist_cert.specs.LineRules.{IsNoFuture}
use Rattle.dist_cert.specs.Subject.{Matter}
use Rattle.dist_cert.specs.declared.records.CertKind.TheVariants as kinds

-- no number is above the last
pub none-past : (n : ℕ) (xs : List ℕ) → All (λ v. v ≤ n) xs → ¬ Any (λ v. n < v) xs
none-past n xs all any = let least = all any.0 any.1 any.2 in omega (arith, least, any.3, any.4)

pub none-in : {X : Type 0} (P : X → Type 0) → ¬ Any P []
none-in P any = omega (arith, any.2)

pub contains-push : {X : Type 0} (xs : List X) (x y : X) → Contains xs x → Contains (xs ++ y ∷ []) x
contains-push xs x y there = (
  there.0,
  omega (arith, there.1, length-append xs (y ∷ [])),
  get_or_append_left xs
      (y ∷ []) x there.0 there.1 ∙ there.2,
)

pub contains-last : {X : Type 0} (xs : List X) (x : X) → Contains (xs ++ x ∷ []) x
contains-last xs x = (length xs, omega (arith, length-append xs (x ∷ [])), get_or_at xs x [] x (length xs) refl)

-- a number above the others
pub rising-push : (xs : List ℕ) (n k : ℕ) → AllPairs (λ v w. v < w) xs → All (λ v. v ≤ n) xs → n < k → AllPairs
    (λ v w. v < w) (xs ++ k ∷ [])
rising-push xs n k rising upto above i j d before within =
    elim (cases_lt j (length xs)) [
      | inl inside ↦
          let first = get_or_append_left xs (k ∷ []) d i (omega arith) in
          let second = get_or_append_left xs (k ∷ []) d j inside in
          let less = rising i j d before inside in
          omega (arith, first, second, less)
      | inr past ↦
          let last : length xs ≡ j = omega (arith, past, within, length-append xs (k ∷ [])) in
          let early : i < length xs = omega arith in
          let first = get_or_append_left xs (k ∷ []) d i early in
          let second = get_or_at xs k [] d j last in
          let least = upto i d early in
          omega (arith, first, second, least)
    ]

pub all-small : (n : ℕ) (words : List Word) → n < 2 ^ 32 → All (λ w. w.0 ≤ n) words → All (λ w. IsSmall w.0) words
all-small n words fits upto k d within = let least = upto k d within in omega (arith, least, fits)

pub plains-small : (n : ℕ) (numbers : List ℕ) → n < 2 ^ 32 → All (λ v. v ≤ n) numbers → All (λ w. IsSmall w.0)
    (plains numbers)
plains-small n numbers fits upto = All-map (λ w. IsSmall w.0) (λ (v : ℕ). (v, true)) numbers
    (λ k d within. let least = upto k d within in omega (arith, least, fits))

pub none-ended : (lines more : List CertRecord) → list_any is_end lines ≡ false → list_any is_end more ≡ false
    → list_any is_end (lines ++ more) ≡ false
none-ended [] more none later = later
none-ended (x ∷ lines) more none later =
    let parts = or_parts (is_end x) (list_any is_end lines) none in
    ap (λ (b : Bool). b || list_any is_end (lines ++ more)) parts.0 ∙ none-ended lines more parts.1 later

pub derived-append : (lines more : List CertRecord) → derived (lines ++ more) ≡ derived lines ++ derived more
derived-append lines more = flat_map-append derived_in lines more

-- where some lines keep them, those before do
pub keeps-front : (limits : Limits) (lines more : List CertRecord) → KeepsLines limits (lines ++ more)
    → KeepsLines limits lines
keeps-front limits lines more kept =
    let both = flat_map-append derived_in lines more in
    let counts = length-append (derived lines) (derived more) in
    let literals = sum_by-append (λ (c : List Literal). length c) (derived lines) (derived more) in
    record {
      count = omega (arith, kept.count, ap length both, counts);
      literals = omega (
        arith,
        kept.literals,
        ap literal_count both,
        literals,
      );
    }

-- a line that is no derived line changes neither
pub keeps-same : (limits : Limits) (lines : List CertRecord) (step : CertRecord) → derived_in step ≡ []
    → KeepsLines limits lines
    → KeepsLines limits (lines ++ step ∷ [])
keeps-same limits lines step none kept =
    let same : derived (lines ++ step ∷ []) ≡ derived lines
    = flat_map-append derived_in lines (step ∷ []) ∙ ap (λ (cs : List (List Literal)). derived lines ++ (cs ++ []))
    none ∙ append-nil (derived lines) in
    record {
      count = omega (arith, kept.count, ap length same);
      literals = omega (
        arith,
        kept.literals,
        ap literal_count same,
      );
    }

-- ---- the set of a line stands for a future

-- a line that is no installation says nothing of futures
pub no-future : (matter : Matter) (kind : CertKind) (step : CertRecord) → installed_in step ≡ []
    → ¬ IsNoFuture matter kind step
no-future matter kind (Installation variables) none f = absurd (omega (arith, ap length none))
no-future matter kinds.Strong step none f = f
no-future matter kinds.Outdated step none f = f
no-future matter kinds.Challenged step none f = f

pub is-future : (matter : Matter) (kind : CertKind) (variables : List ℕ) → matter.IsFuture variables
    → ¬ IsNoFuture matter kind (Installation variables)
is-future matter kinds.Strong variables standing f = f
is-future matter kinds.Outdated variables standing f = f standing
is-future matter kinds.Challenged variables standing f = f standing
