-- Loops that read several things one after the other, with a byte between each two.
use Rattle.std.proofs.Common.{◌≡◌, ℕ, zero, suc, ◌<◌, ◌≤◌, Bool, true, false, eqb, cond, List, [], ◌∷◌, ◌++◌, length, refl, sym, ap, ◌∙◌, append_assoc}
use Rattle.std.proofs.Common.{append-nil, length-append, Option, None, Some, eq-eqb, arith}
use Rattle.std.proofs.lemmas.Bool.{eqb-true}
use Rattle.std.specs.List.{filter_map, take_while}
use Rattle.std.specs.Option.{option_to_list}
use Rattle.std.specs.Prelude.{Result, Ok, Err}
use Rattle.dist_base.specs.Ascii.{comma, is_white}
use Rattle.dist_relation.specs.declared.error.Fault.{Fault}
use Rattle.dist_relation.specs.declared.error.ReadError.{ReadError}
use Rattle.dist_relation.specs.declared.error.ReadError.TheVariants as stops
use Rattle.dist_relation.specs.Bytes.{Stops}
use Rattle.dist_relation.specs.ReadingPrivate.{◌>>=◌, Fails, skip, ends_piece, then_more, others_at, joined_at, piece_at, items_of}
use Rattle.dist_relation.proofs.Runs.{take_while-past}

-- what was read before, and what is still read
abbrev pub with_front : {X : Type 0} → List X → Result (List X × List ℕ) Fault → Result (List X × List ℕ) Fault
with_front front read = read >>= λ y. Ok (front ++ y.0, y.1)

abbrev pub with_entries : {X : Type 0} → List X → Result (List (Option X) × List ℕ) Fault → Result (List X) Fault
with_entries front read = read >>= λ y. Ok (front ++ filter_map (λ piece. piece) y.0)

skip_shorter : (text : List ℕ) → length (skip text) ≤ length text
skip_shorter text = omega (arith, ap length (take_while-past is_white text), length-append (take_while is_white text) (skip text))

module _ {X : Type 0} (between : ℕ) (one : List ℕ → Result (X × List ℕ) Fault)
    (shorter : (text : List ℕ) (x : X) (rest : List ℕ) → one text ≡ Ok (x, rest) → length rest ≤ length text) where
  abbrev next : ℕ → X × List ℕ → Result (List X × List ℕ) Fault
  next n x = then_more between x.0 x.1 (joined_at between one n)

  abbrev after_one : ℕ → Result (X × List ℕ) Fault → Result (List X × List ℕ) Fault
  after_one n x = x >>= next n

  abbrev onto : X → Result (List X × List ℕ) Fault → Result (List X × List ℕ) Fault
  onto x read = read >>= λ y. Ok (x ∷ y.0, y.1)

  abbrev stop_at : X → List ℕ → Result (List X × List ℕ) Fault
  stop_at x rest = Ok (x ∷ [], rest)

  next_same : (n m : ℕ) (x : X) (rest : List ℕ) → ((bs : List ℕ) → length bs < length rest → joined_at between one n bs ≡ joined_at between one m bs)
      → next n (x, rest) ≡ next m (x, rest)
  next_same n m x [] ih = refl
  next_same n m x (b ∷ bs) ih = ap (λ (r : Result (List X × List ℕ) Fault). cond (eqb b between) (onto x r) (stop_at x (b ∷ bs))) (ih bs (omega arith))

  -- enough is enough
  same_count : (n m : ℕ) (text : List ℕ) → length text < n → length text < m → joined_at between one n text ≡ joined_at between one m text
  unfolding joined_at
  same_count zero m text p q = absurd (omega arith)
  same_count (suc n) zero text p q = absurd (omega arith)
  same_count (suc n) (suc m) text p q = by_one (one text) refl (same_count n)
    where
      by_one : (x : Result (X × List ℕ) Fault) → one text ≡ x
          → ((m : ℕ) (bs : List ℕ) → length bs < n → length bs < m → joined_at between one n bs ≡ joined_at between one m bs)
          → after_one n (one text) ≡ after_one m (one text)
      by_one (Err f) e ih = ap (after_one n) e ∙ sym (ap (after_one m) e)
      by_one (Ok x) e ih =
          let less : length x.1 ≤ length text = shorter text x.0 x.1 e in
          ap (after_one n) e ∙ next_same n m x.0 x.1 (λ bs lt. ih m bs (omega arith) (omega arith)) ∙ sym (ap (after_one m) e)

  abbrev rest_of : List ℕ → Result (List X × List ℕ) Fault
  rest_of text = joined_at between one (suc (length text)) text

  -- a thing with the byte behind it is the first of several
  rest_more : (text : List ℕ) (x : X) (tail : List ℕ) → one text ≡ Ok (x, between ∷ tail) → rest_of text ≡ onto x (rest_of tail)
  unfolding joined_at
  rest_more text x tail e =
      let less : length (between ∷ tail) ≤ length text = shorter text x (between ∷ tail) e in
      ap (after_one (length text)) e
      ∙ ap (λ (t : Bool). cond t (onto x (joined_at between one (length text) tail)) (stop_at x (between ∷ tail))) (eq-eqb between between refl)
      ∙ ap (onto x) (same_count (length text) (suc (length tail)) tail (omega arith) (omega arith))

  next_last : (n : ℕ) (x : X) (rest : List ℕ) → Stops (λ b. eqb b between) rest → next n (x, rest) ≡ stop_at x rest
  next_last n x [] h = refl
  next_last n x (b ∷ bs) h = ap (λ (t : Bool). cond t (onto x (joined_at between one n bs)) (stop_at x (b ∷ bs))) h

  rest_last : (text : List ℕ) (x : X) (rest : List ℕ) → one text ≡ Ok (x, rest) → Stops (λ b. eqb b between) rest → rest_of text ≡ stop_at x rest
  unfolding joined_at
  rest_last text x rest e h = ap (after_one (length text)) e ∙ next_last (length text) x rest h

  rest_fails : (text : List ℕ) (fault : Fault) → one text ≡ Err fault → rest_of text ≡ Err fault
  unfolding joined_at
  rest_fails text fault e = ap (after_one (length text)) e

  -- ---- the first, and those behind it

  pub first_fails : (e : ReadError) (text : List ℕ) → Fails e (one text) → Fails e (rest_of text)
  first_fails stops.NoMemory text h = tt
  first_fails (stops.Fault f) text h = rest_fails text f h

  first_and_others : (text : List ℕ) (x : X) (rest : List ℕ) → one text ≡ Ok (x, rest) → rest_of text ≡ onto x (others_at between rest_of rest)
  first_and_others text x [] e = rest_last text x [] e tt
  first_and_others text x (b ∷ bs) e = by_byte (eqb b between) refl
    where
      by_byte : (t : Bool) → eqb b between ≡ t → rest_of text ≡ onto x (cond t (rest_of bs) (Ok ([], b ∷ bs)))
      by_byte true is =
          let with_rest : List ℕ → Result (X × List ℕ) Fault = λ rest. Ok (x, rest) in
          rest_more text x bs (e ∙ ap (λ (k : ℕ). with_rest (k ∷ bs)) (eqb-true b between is))
      by_byte false is = rest_last text x (b ∷ bs) e is

  pub others_fail : (e : ReadError) (text : List ℕ) (x : X) (rest : List ℕ) → one text ≡ Ok (x, rest) → Fails e (others_at between rest_of rest)
      → Fails e (rest_of text)
  others_fail stops.NoMemory text x rest read h = tt
  others_fail (stops.Fault f) text x rest read h = first_and_others text x rest read ∙ ap (onto x) h

  pub with_others : (text : List ℕ) (x : X) (rest : List ℕ) (others : List X × List ℕ) → one text ≡ Ok (x, rest) → others_at between rest_of rest ≡ Ok others
      → rest_of text ≡ Ok (x ∷ others.0, others.1)
  with_others text x rest others read h = first_and_others text x rest read ∙ ap (onto x) h

  -- ---- a list of them

  abbrev done : List X → List ℕ → Result (List X × List ℕ) Fault
  done items rest = Ok (items, rest)

  pub start : (text : List ℕ) → with_front [] (rest_of text) ≡ rest_of text
  start text = by_read (rest_of text)
    where
      by_read : (read : Result (List X × List ℕ) Fault) → with_front [] read ≡ read
      by_read (Ok y) = refl
      by_read (Err f) = refl

  onto_front : (front : List X) (x : X) (read : Result (List X × List ℕ) Fault) → with_front front (onto x read) ≡ with_front (front ++ x ∷ []) read
  onto_front front x (Ok y) = ap (λ (items : List X). done items y.1) (sym (append_assoc front (x ∷ []) y.0))
  onto_front front x (Err f) = refl

  pub loop_more : (front : List X) (text : List ℕ) (x : X) (tail : List ℕ) (total : Result (List X × List ℕ) Fault) → one text ≡ Ok (x, between ∷ tail)
      → with_front front (rest_of text) ≡ total → with_front (front ++ x ∷ []) (rest_of tail) ≡ total
  loop_more front text x tail total e so_far = sym (ap (with_front front) (rest_more text x tail e) ∙ onto_front front x (rest_of tail)) ∙ so_far

  pub loop_last : (front : List X) (text : List ℕ) (x : X) (rest : List ℕ) (total : Result (List X × List ℕ) Fault) → one text ≡ Ok (x, rest)
      → Stops (λ b. eqb b between) rest → with_front front (rest_of text) ≡ total → total ≡ Ok (front ++ x ∷ [], rest)
  loop_last front text x rest total e h so_far = sym so_far ∙ ap (with_front front) (rest_last text x rest e h)

  pub loop_fails : (e : ReadError) (front : List X) (text : List ℕ) (total : Result (List X × List ℕ) Fault) → Fails e (one text)
      → with_front front (rest_of text) ≡ total → Fails e total
  loop_fails stops.NoMemory front text total h so_far = tt
  loop_fails (stops.Fault f) front text total h so_far = sym so_far ∙ ap (with_front front) (rest_fails text f h)

-- ---- the entries of pieces, of which some have none

module _ {X : Type 0} (one : List ℕ → Result (X × List ℕ) Fault)
    (shorter : (text : List ℕ) (piece : Option X) (rest : List ℕ) → piece_at one text ≡ Ok (piece, rest) → length rest ≤ length text) where
  abbrev pieces_of : List ℕ → Result (List (Option X) × List ℕ) Fault
  pieces_of text = joined_at comma (piece_at one) (suc (length text)) text

  abbrev entries_done : List X → Result (List X) Fault
  entries_done entries = Ok entries

  pub entries_start : (value : List ℕ) → with_entries [] (pieces_of value) ≡ items_of one value
  unfolding items_of
  entries_start value = by_read (pieces_of value)
    where
      by_read : (read : Result (List (Option X) × List ℕ) Fault) → with_entries [] read ≡ (read >>= λ y. Ok (filter_map (λ piece. piece) y.0))
      by_read (Ok y) = refl
      by_read (Err f) = refl

  onto_entries : (front : List X) (piece : Option X) (read : Result (List (Option X) × List ℕ) Fault)
      → with_entries front (read >>= λ y. Ok (piece ∷ y.0, y.1)) ≡ with_entries (front ++ option_to_list piece) read
  onto_entries front None (Ok y) = ap (λ (items : List X). entries_done (items ++ filter_map (λ piece. piece) y.0)) (sym (append-nil front))
  onto_entries front (Some x) (Ok y) = ap entries_done (sym (append_assoc front (x ∷ []) (filter_map (λ piece. piece) y.0)))
  onto_entries front piece (Err f) = refl

  pub entries_more : (front : List X) (text : List ℕ) (piece : Option X) (tail : List ℕ) (total : Result (List X) Fault)
      → piece_at one text ≡ Ok (piece, comma ∷ tail) → with_entries front (pieces_of text) ≡ total
      → with_entries (front ++ option_to_list piece) (pieces_of tail) ≡ total
  entries_more front text piece tail total e so_far = sym (ap (with_entries front) (rest_more comma (piece_at one) shorter text piece tail e)
      ∙ onto_entries front piece (pieces_of tail)) ∙ so_far

  last_entries : (front : List X) (piece : Option X) → front ++ filter_map (λ piece. piece) (piece ∷ []) ≡ front ++ option_to_list piece
  last_entries front None = refl
  last_entries front (Some x) = refl

  pub entries_last : (front : List X) (text : List ℕ) (piece : Option X) (rest : List ℕ) (total : Result (List X) Fault) → piece_at one text ≡ Ok (piece, rest)
      → Stops (λ b. eqb b comma) rest → with_entries front (pieces_of text) ≡ total → total ≡ Ok (front ++ option_to_list piece)
  entries_last front text piece rest total e h so_far = sym so_far ∙ ap (with_entries front) (rest_last comma (piece_at one) shorter text piece rest e h)
      ∙ ap entries_done (last_entries front piece)

  pub entries_fail : (e : ReadError) (front : List X) (text : List ℕ) (total : Result (List X) Fault) → Fails e (piece_at one text)
      → with_entries front (pieces_of text) ≡ total → Fails e total
  entries_fail stops.NoMemory front text total h so_far = tt
  entries_fail (stops.Fault f) front text total h so_far = sym so_far ∙ ap (with_entries front) (rest_fails comma (piece_at one) shorter text f h)

abbrev pub piece_done : {X : Type 0} → Option X → List ℕ → Result (Option X × List ℕ) Fault
piece_done piece rest = Ok (piece, rest)

-- what follows what was read
abbrev pub left_of : {X : Type 0} → Result (X × List ℕ) Fault → List ℕ
left_of (Ok y) = y.1
left_of (Err f) = []

-- a piece leaves no more than was there where an entry does
piece_shorter_by : {X : Type 0} (t : Bool) (one : List ℕ → Result (X × List ℕ) Fault) (text : List ℕ) (read : Result (X × List ℕ) Fault) (piece : Option X)
    (rest : List ℕ)
    → ((x : X) (rest : List ℕ) → read ≡ Ok (x, rest) → length rest ≤ length text)
    → cond t (piece_done None (skip text)) (read >>= λ x. piece_done (Some x.0) x.1) ≡ piece_done piece rest → length rest ≤ length text
piece_shorter_by true one text read piece rest h e = omega (arith, ap (λ r. length (left_of r)) e, skip_shorter text)
piece_shorter_by false one text (Ok x) piece rest h e = omega (arith, ap (λ r. length (left_of r)) e, h x.0 x.1 refl)
piece_shorter_by false one text (Err f) piece rest h e = absurd cc

pub piece_shorter : {X : Type 0} (one : List ℕ → Result (X × List ℕ) Fault)
    → ((text : List ℕ) (x : X) (rest : List ℕ) → one text ≡ Ok (x, rest) → length rest ≤ length text) → (text : List ℕ) (piece : Option X) (rest : List ℕ)
    → piece_at one text ≡ Ok (piece, rest) → length rest ≤ length text
unfolding piece_at
piece_shorter one h text piece rest e = piece_shorter_by (ends_piece (skip text)) one text (one text) piece rest (h text) e
