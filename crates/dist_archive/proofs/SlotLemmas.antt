-- Slots: what is held, and how many hold something.
use Rattle.std.proofs.Common.{◌≡◌, ℕ, ◌+◌, List, [], ◌∷◌, ◌++◌, Some}
use Rattle.std.proofs.Common.{length, get_or, set, drop, replicate, append_assoc, append-nil, refl, sym, ap, ◌∙◌, slice_get, arith, cond}
use Rattle.std.proofs.lemmas.List.{length-append, length-set, replicate-append-replicate}
use Rattle.std.proofs.lemmas.List.Folds.{sum_by-replicate}
use Rattle.std.proofs.lemmas.List.Sums.{sum_by-set}
use Rattle.std.proofs.lemmas.Option.{get_or_from_slice_get, slice_get_within}
use Rattle.dist_archive.specs.SlotsPrivate.{filled_count, is_filled, puts}
use Rattle.dist_archive.specs.declared.slots.Slot.{Slot}
use Rattle.dist_archive.specs.declared.slots.Slot.TheVariants.{Kept}
use Rattle.dist_archive.proofs.CarriedLemmas.{drop-at}

-- ---- counts

abbrev weight : Slot → ℕ
weight slot = cond (is_filled slot) 1 0

pub all-kept_count : (n : ℕ) → filled_count (replicate n Kept) ≡ n
all-kept_count n = let all = sum_by-replicate weight n Kept in omega (arith, all)

pub one-more-kept : (n : ℕ) → replicate n Kept ++ Kept ∷ [] ≡ replicate (n + 1) Kept
one-more-kept n = replicate-append-replicate n 1 Kept

-- the count once a slot is put anew
pub put-count : (slots : List Slot) (k : ℕ) (was slot : Slot) → slice_get slots k ≡ Some was
    → filled_count (set slots k slot) + weight was ≡ filled_count slots + weight slot
put-count slots k was slot is =
    let at : get_or slots k was ≡ was = get_or_from_slice_get slots k was was is in
    let sum = sum_by-set weight slots k slot was (slice_get_within slots k was is) in
    ap (λ (s : Slot). filled_count (set slots k slot) + weight s) (sym at) ∙ sum

-- ---- several slots

puts-nothing : (numbers : List ℕ) (old : List Slot) → puts numbers [] old ≡ old
puts-nothing [] old = refl
puts-nothing (n ∷ numbers) old = refl

-- The slots behind those that are left are put.
pub record ArePutSoFar (numbers : List ℕ) (all left old now : List Slot) : Type 0 where
  pub behind : List Slot
  pub whole : all ≡ left ++ behind
  pub done : now ≡ puts (drop (length left) numbers) behind old
  pub size : length now ≡ length old

pub put-none : (numbers : List ℕ) (all old : List Slot) → ArePutSoFar numbers all all old old
put-none numbers all old = record {
  behind = [];
  whole = sym (append-nil all);
  done = sym (puts-nothing (drop (length all) numbers) old);
  size = refl;
}

pub put-one : (numbers : List ℕ) (all left rest old now : List Slot) (slot : Slot) (n : ℕ) → ArePutSoFar numbers all left old now
    → left ≡ rest ++ slot ∷ [] → slice_get numbers (length rest) ≡ Some n → ArePutSoFar numbers all rest old (set now n slot)
put-one numbers all left rest old now slot n before is at = record {
  behind = slot ∷ before.behind;
  whole = before.whole ∙ ap (λ (x : List Slot). x ++ before.behind) is ∙ append_assoc rest (slot ∷ []) before.behind;
  done =
      let one-more : length left ≡ length rest + 1 = ap (λ (x : List Slot). length x) is ∙ length-append rest (slot ∷ []) in
      let here : now ≡ puts (drop (length rest + 1) numbers) before.behind old =
      before.done ∙ ap (λ (k : ℕ). puts (drop k numbers) before.behind old) one-more in
      ap (λ (x : List Slot). set x n slot) here
      ∙ sym (ap (λ (ns : List ℕ). puts ns (slot ∷ before.behind) old) (drop-at numbers (length rest) n at));
  size = length-set now n slot ∙ before.size;
}

pub put-whole : (numbers : List ℕ) (all left old now : List Slot) → ArePutSoFar numbers all left old now → left ≡ [] → now ≡ puts numbers all old
put-whole numbers all left old now so_far none =
    let behind : all ≡ so_far.behind = so_far.whole ∙ ap (λ (x : List Slot). x ++ so_far.behind) none in
    so_far.done ∙ ap (λ (x : List Slot). puts (drop (length x) numbers) so_far.behind old) none
    ∙ ap (λ (x : List Slot). puts numbers x old) (sym behind)
