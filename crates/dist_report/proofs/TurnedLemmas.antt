-- The lists of the first claims, turned round: for each item that they list the packages that list it.
use Rattle.std.proofs.Common.{◌≡◌, ℕ, zero, suc, ◌+◌, ◌<◌, Bool, true, false, List, [], ◌∷◌, ◌++◌, length, get_or, replicate, Option, Some, refl, sym, ap}
use Rattle.std.proofs.Common.{subst, ◌∙◌, arith, slice_get}
use Rattle.std.specs.Prelude.{All, filter}
use Rattle.std.specs.List.{range_with_len}
use Rattle.std.specs.Option.{option_map_or}
use Rattle.std.proofs.lemmas.List.{get_or_default}
use Rattle.dist_cert.specs.Rising.{is_among}
use Rattle.dist_cert.specs.declared.records.Claim.{Claim}
use Rattle.dist_report.specs.ClaimPartsPrivate.{noted}
use Rattle.dist_report.specs.ClaimParts.{packages_with}
use Rattle.dist_report.proofs.PickedLemmas.{picked-none, picked-one, picked-within}

-- ---- the lists so far

-- the packages that pass the test of an item, of so many first ones
abbrev pub picked-of : (ℕ → Claim → Bool) → List Claim → (q n : ℕ) → List ℕ
picked-of test made q n = filter (λ p. option_map_or (test q) (slice_get made p) false) (range_with_len 0 n)

pub record AreTurned (test : ℕ → Claim → Bool) (made : List Claim) (count n : ℕ) (lists : List (List ℕ)) : Type 0 where
  pub same_length : length lists ≡ count
  pub each : (q : ℕ) → q < count → get_or lists q [] ≡ picked-of test made q n

abbrev no-lists : ℕ → List (List ℕ)
no-lists n = replicate n []

length-none : (n : ℕ) → length (no-lists n) ≡ n
length-none zero = refl
length-none (suc n) = ap suc (length-none n)

none-at : (n q : ℕ) → get_or (no-lists n) q [] ≡ []
none-at zero q = refl
none-at (suc n) zero = refl
none-at (suc n) (suc q) = none-at n q

pub turned-none : (test : ℕ → Claim → Bool) (made : List Claim) (count k : ℕ) (lists : List (List ℕ)) → k ≡ count → lists ≡ replicate k []
    → AreTurned test made count 0 lists
turned-none test made count k lists same is =
    let Turned : List (List ℕ) → Type 0 = λ l. AreTurned test made count 0 l in
    let Lists : ℕ → Type 0 = λ n. Turned (replicate n []) in
    subst Turned (sym is) (subst Lists (sym same) (record { same_length = length-none count; each = λ q short. none-at count q }))

-- the lists have lower packages alone
pub turned-lower : (test : ℕ → Claim → Bool) (made : List Claim) (count n : ℕ) (lists : List (List ℕ)) → AreTurned test made count n lists
    → All (λ list. All (λ p. p < n) list) lists
turned-lower test made count n lists so_far k d short =
    let Lower : List ℕ → Type 0 = λ list. All (λ p. p < n) list in
    let is = so_far.each k (omega (arith, so_far.same_length)) in
    let at : get_or lists k d ≡ get_or lists k [] = get_or_default lists k d [] short in
    subst Lower (sym (at ∙ is)) (picked-within (λ p. option_map_or (test k) (slice_get made p) false) n)

noted-picked : (test : ℕ → Bool) (n : ℕ) (b : Bool) (so_far : List ℕ) → test n ≡ b → so_far ≡ filter test (range_with_len 0 n)
    → noted n b so_far ≡ filter test (range_with_len 0 (n + 1))
noted-picked test n true so_far is before = picked-one test n so_far (so_far ++ n ∷ []) is before refl
noted-picked test n false so_far is before = picked-none test n so_far is before

-- the list of one more claim, which has the items that pass the tests
pub turned-more : (test : ℕ → Claim → Bool) (made : List Claim) (count n : ℕ) (claim : Claim) (on : List ℕ) (lists new : List (List ℕ))
    → slice_get made n ≡ Some claim → ((q : ℕ) → q < count → is_among on q ≡ test q claim)
    → AreTurned test made count n lists → length new ≡ length lists
    → ((q : ℕ) → q < length lists → get_or new q [] ≡ noted n (is_among on q) (get_or lists q []))
    → AreTurned test made count (n + 1) new
turned-more test made count n claim on lists new at same so_far long each = record {
  same_length = long ∙ so_far.same_length;
  each = λ q short.
      let picks : ℕ → Bool = λ p. option_map_or (test q) (slice_get made p) false in
      let own : picks n ≡ is_among on q = ap (λ (o : Option Claim). option_map_or (test q) o false) at ∙ sym (same q short) in
      each q (omega (arith, short, so_far.same_length)) ∙ noted-picked picks n (is_among on q) (get_or lists q []) own (so_far.each q short);
}

-- all of them
pub turned-all : (test : ℕ → Claim → Bool) (made : List Claim) (count n : ℕ) (lists : List (List ℕ)) → n ≡ length made
    → AreTurned test made count n lists → (q : ℕ) → q < count → get_or lists q [] ≡ packages_with (test q) made
turned-all test made count n lists end so_far q short = so_far.each q short ∙ ap (λ (k : ℕ). picked-of test made q k) end
