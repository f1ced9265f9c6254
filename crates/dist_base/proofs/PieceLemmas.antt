-- Lists kept one after another in a single list: each piece, their number, their joint length, and one more piece.
use Rattle.std.proofs.Common.{◌≡◌, ℕ, zero, suc, ◌+◌, ◌-◌, ◌<◌, ◌≤◌, List, [], ◌∷◌, ◌++◌, length, get_or, take, drop, Result, Ok, Err, OnOk, OnErr, refl, ap}
use Rattle.std.proofs.Common.{sym, ◌∙◌, arith, length-drop, length-append}
use Rattle.std.proofs.lemmas.List.{drop_at, take-append-le, drop-append-le}
use Rattle.std.proofs.lemmas.List.Edits.{length-between}
use Rattle.std.proofs.lemmas.List.Sums.{sum_by-cons}
use Rattle.std.specs.List.{slice_range}
use Rattle.dist_base.specs.Pieces.{pieces, total, AddsPiece, AreEnds, begin_of}

pub length-pieces : {X : Type 0} (start : ℕ) (ends : List ℕ) (xs : List X) → length (pieces start ends xs) ≡ length ends
length-pieces start [] xs = refl
length-pieces start (end ∷ ends) xs = ap suc (length-pieces end ends xs)

pub begin_of-after : (start : ℕ) (ends : List ℕ) (place : ℕ) → 0 < place → begin_of start ends place ≡ get_or ends (place - 1) 0
begin_of-after start ends zero h = absurd (omega arith)
begin_of-after start ends (suc place) h = ap (λ k. get_or ends k 0) (let e : place ≡ suc place - 1 = omega arith in e)

begin_of-tail : (start end : ℕ) (ends : List ℕ) (place : ℕ) → begin_of start (end ∷ ends) (suc place) ≡ begin_of end ends place
begin_of-tail start end ends zero = refl
begin_of-tail start end ends (suc place) = refl

pub get_or-pieces : {X : Type 0} (start : ℕ) (ends : List ℕ) (xs : List X) (place : ℕ) (d : List X) → place < length ends
    → get_or (pieces start ends xs) place d ≡ slice_range xs (begin_of start ends place) (get_or ends place 0)
get_or-pieces start [] xs place d h = absurd (omega arith)
get_or-pieces start (end ∷ ends) xs zero d h = refl
get_or-pieces start (end ∷ ends) xs (suc place) d h =
    let within : place < length ends = omega arith in
    get_or-pieces end ends xs place d within ∙ ap (λ k. slice_range xs k (get_or ends place 0)) (sym (begin_of-tail start end ends place))

pub AreEnds-le : (start : ℕ) (ends : List ℕ) (n : ℕ) → AreEnds start ends n → start ≤ n
AreEnds-le start [] n h = omega arith
AreEnds-le start (end ∷ ends) n h = omega (arith, h.0, AreEnds-le end ends n h.1)

pub AreEnds-at : (start : ℕ) (ends : List ℕ) (n place : ℕ) → AreEnds start ends n → place < length ends → (begin_of start ends place ≤ get_or ends place 0)
    × (get_or ends place 0 ≤ n)
AreEnds-at start [] n place h within = absurd (omega arith)
AreEnds-at start (end ∷ ends) n zero h within = (h.0, AreEnds-le end ends n h.1)
AreEnds-at start (end ∷ ends) n (suc place) h within =
    let inner : place < length ends = omega arith in
    let at = AreEnds-at end ends n place h.1 inner in
    (omega (arith, begin_of-tail start end ends place), at.1)

pub AreEnds-push : (start : ℕ) (ends : List ℕ) (n m : ℕ) → n ≤ m → AreEnds start ends n → AreEnds start (ends ++ m ∷ []) m
AreEnds-push start [] n m le h = (omega arith, refl)
AreEnds-push start (end ∷ ends) n m le h = (h.0, AreEnds-push end ends n m le h.1)

slice_range-append_left : {X : Type 0} (xs ys : List X) (i j : ℕ) → i ≤ j → j ≤ length xs → slice_range (xs ++ ys) i j ≡ slice_range xs i j
slice_range-append_left xs ys i j le within =
    let from_within : i ≤ length xs = omega arith in
    let part_within : j - i ≤ length (drop i xs) = omega (arith, length-drop i xs) in
    rw (drop-append-le i xs ys from_within, take-append-le (j - i) (drop i xs) ys part_within) refl

slice_range-append_right : {X : Type 0} (xs ys : List X) (n m : ℕ) → n ≡ length xs → m ≡ n + length ys → slice_range (xs ++ ys) n m ≡ ys
slice_range-append_right xs ys n m at to =
    let part : take (m - n) ys ≡ ys = ap (λ k. take k ys) (let e : m - n ≡ length ys = omega arith in e) ∙ take_all-of ys in
    ap (λ zs. take (m - n) zs) (drop_at xs ys n (sym at)) ∙ part
  where
    take_all-of : {X : Type 0} (ys : List X) → take (length ys) ys ≡ ys
    take_all-of [] = refl
    take_all-of (y ∷ ys) = ap (λ zs. y ∷ zs) (take_all-of ys)

pub pieces-push : {X : Type 0} (start : ℕ) (ends : List ℕ) (xs ys : List X) (m : ℕ) → AreEnds start ends (length xs) → m ≡ length xs + length ys
    → pieces start (ends ++ m ∷ []) (xs ++ ys) ≡ pieces start ends xs ++ ys ∷ []
pieces-push start [] xs ys m h to =
    let to' : m ≡ start + length ys = omega arith in
    ap (λ piece. piece ∷ []) (slice_range-append_right xs ys start m h to')
pieces-push start (end ∷ ends) xs ys m h to =
    let first = slice_range-append_left xs ys start end h.0 (AreEnds-le end ends (length xs) h.1) in
    let rest = pieces-push end ends xs ys m h.1 to in
    ap (λ piece. piece ∷ pieces end (ends ++ m ∷ []) (xs ++ ys)) first ∙ ap (λ others. slice_range xs start end ∷ others) rest

pub AreEnds-adds : {X : Type 0} (items : List X) (ends : List ℕ) (piece new_items : List X) (new_ends : List ℕ) → AreEnds 0 ends (length items) →
    AddsPiece items ends piece new_items new_ends → AreEnds 0 new_ends (length new_items)
AreEnds-adds items ends piece new_items new_ends h adds =
    rw (adds.items, adds.ends, length-append items piece) (AreEnds-push 0 ends (length items) (length items + length piece) (omega arith) h)

pub pieces-adds : {X : Type 0} (items : List X) (ends : List ℕ) (piece new_items : List X) (new_ends : List ℕ) → AreEnds 0 ends (length items) →
    AddsPiece items ends piece new_items new_ends → pieces 0 new_ends new_items ≡ pieces 0 ends items ++ piece ∷ []
pieces-adds items ends piece new_items new_ends h adds =
    rw (adds.items, adds.ends) (pieces-push 0 ends items piece (length items + length piece) h refl)

-- what is kept after a list was added, or after a refusal
pub AreEnds-after : {X A E : Type 0} (r : Result A E) (items : List X) (ends : List ℕ) (piece new_items : List X) (new_ends : List ℕ)
    → AreEnds 0 ends (length items) →
    OnOk r (AddsPiece items ends piece new_items new_ends) → OnErr r (new_items ≡ items) → OnErr r (new_ends ≡ ends) → AreEnds 0 new_ends (length new_items)
AreEnds-after (Ok v) items ends piece new_items new_ends h adds same_items same_ends = AreEnds-adds items ends piece new_items new_ends h adds
AreEnds-after (Err e) items ends piece new_items new_ends h adds same_items same_ends = rw (same_items, same_ends) h

pub pieces-after_ok : {X A E : Type 0} (r : Result A E) (items : List X) (ends : List ℕ) (piece new_items : List X) (new_ends : List ℕ)
    → AreEnds 0 ends (length items) →
    OnOk r (AddsPiece items ends piece new_items new_ends) → (old : List (List X)) → pieces 0 ends items ≡ old
    → OnOk r (pieces 0 new_ends new_items ≡ old ++ piece ∷ [])
pieces-after_ok (Ok v) items ends piece new_items new_ends h adds old is = pieces-adds items ends piece new_items new_ends h adds
    ∙ ap (λ lists. lists ++ piece ∷ []) is
pieces-after_ok (Err e) items ends piece new_items new_ends h adds old is = tt

pub pieces-after_err : {X A E : Type 0} (r : Result A E) (items : List X) (ends : List ℕ) (new_items : List X) (new_ends : List ℕ) →
    OnErr r (new_items ≡ items) → OnErr r (new_ends ≡ ends) → (old : List (List X)) → pieces 0 ends items ≡ old → OnErr r (pieces 0 new_ends new_items ≡ old)
pieces-after_err (Ok v) items ends new_items new_ends same_items same_ends old is = tt
pieces-after_err (Err e) items ends new_items new_ends same_items same_ends old is = rw (same_items, same_ends) is

pub total-pieces : {X : Type 0} (start : ℕ) (ends : List ℕ) (xs : List X) → AreEnds start ends (length xs) → total (pieces start ends xs) + start ≡ length xs
total-pieces start [] xs h = omega arith
total-pieces start (end ∷ ends) xs h =
    let end_within = AreEnds-le end ends (length xs) h.1 in
    let first = length-between xs start end end_within in
    let rest = total-pieces end ends xs h.1 in
    let split = sum_by-cons (λ c. length c) (slice_range xs start end) (pieces end ends xs) in
    omega (arith, h.0)
