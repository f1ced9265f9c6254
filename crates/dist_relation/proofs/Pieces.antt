-- The reader of a piece, which is white space alone or one item, and the reader of a value, which is pieces with commas between them.
use Rattle.std.proofs.Common.{◌≡◌, ℕ, suc, Bool, true, false, true≢false, ◌⊎◌, inl, inr, cond, List, [], ◌∷◌, ◌++◌, length, refl, sym, ap, ◌∙◌, subst}
use Rattle.std.proofs.Common.{append-nil, Option, None, Some}
use Rattle.std.specs.List.{filter_map, take_while}
use Rattle.std.specs.Prelude.{Result, Ok, Err}
use Rattle.dist_base.specs.Ascii.{comma, is_comma, is_white}
use Rattle.dist_relation.specs.declared.error.Fault.{Fault}
use Rattle.dist_relation.specs.Bytes.{IsBlank, Meets, Stops}
use Rattle.dist_relation.specs.Grammar.{Joined, SpellsPiece, ReadsValue}
use Rattle.dist_relation.specs.Faults.{PassedOver}
use Rattle.dist_relation.specs.ReadingPrivate.{◌>>=◌, skip, ends_piece, piece_at, joined_at, items_of}
use Rattle.dist_relation.proofs.Runs.{past-append, take_while-past, take_while_all}
use Rattle.dist_relation.proofs.ByteFacts.{Stops-meets, fails_at}
use Rattle.dist_relation.proofs.Heads.{done}
use Rattle.dist_relation.proofs.Joining.{Found, Reader, EndsBetween, JoinedFaulty, joined_reader}

-- ---- pieces

passes_over : (rest : List ℕ) → ends_piece rest ≡ true → Meets is_comma rest
passes_over [] h = tt
passes_over (b ∷ bs) h = h

ends_from : (rest : List ℕ) → Meets is_comma rest → ends_piece rest ≡ true
ends_from [] h = refl
ends_from (b ∷ bs) h = h

-- white space up to a comma or the end is what is passed over
pub passed_over : (text : List ℕ) → ends_piece (skip text) ≡ true → PassedOver text
passed_over text h = record {
  space = take_while is_white text;
  rest = skip text;
  blank = take_while_all is_white text;
  parts = sym (take_while-past is_white text);
  ends = passes_over (skip text) h;
}

comma_stops : (rest : List ℕ) → Meets is_comma rest → Stops is_white rest
comma_stops rest h = Stops-meets is_white is_comma rest (fails_at is_white comma refl) h

skipped_to : (space rest : List ℕ) → IsBlank space → Meets is_comma rest → skip (space ++ rest) ≡ rest
skipped_to space rest blank h = past-append is_white space rest blank (comma_stops rest h)

pub ends_passed : (text : List ℕ) → PassedOver text → ends_piece (skip text) ≡ true
ends_passed text h = ap ends_piece (ap skip h.parts ∙ skipped_to h.space h.rest h.blank h.ends) ∙ ends_from h.rest h.ends

false_from : (b : Bool) → (b ≡ true → ⊥) → b ≡ false
false_from true h = absurd (h refl)
false_from false h = refl

-- the piece isn't passed over, and its item has the fault
pub record PieceFaulty (Faulty : List ℕ → Fault → Type 0) (text : List ℕ) (fault : Fault) : Type 0 where
  pub not_passed_over : PassedOver text → ⊥
  pub faulty : Faulty text fault

-- A whole value spells items, which are read, or has a fault, for which it is refused.
pub record ValueLaws {X : Type 0} (Spells : List ℕ → X → Type 0) (Faulty : List ℕ → Fault → Type 0) (one : List ℕ → Result (X × List ℕ) Fault) : Type 0 where
  pub cases : (value : List ℕ) → ((items : List X) × ReadsValue Spells value items)
      ⊎ ((fault : Fault) × JoinedFaulty comma (SpellsPiece Spells) (PieceFaulty Faulty) value fault)
  pub again : (value : List ℕ) (items : List X) → ReadsValue Spells value items → items_of one value ≡ Ok items
  pub refused : (value : List ℕ) (fault : Fault) → JoinedFaulty comma (SpellsPiece Spells) (PieceFaulty Faulty) value fault → items_of one value ≡ Err fault

abbrev pub finished : {X : Type 0} → List X → Result (List X) Fault
finished items = Ok items

module _ {X : Type 0} (Spells : List ℕ → X → Type 0) (Faulty : List ℕ → Fault → Type 0) (one : List ℕ → Result (X × List ℕ) Fault)
    (reader : Reader Spells is_comma Faulty one) (needed : (text : List ℕ) → PassedOver text → (fault : Fault) × (one text ≡ Err fault)) where
  abbrev given : Result (X × List ℕ) Fault → Result (Option X × List ℕ) Fault
  given x = x >>= λ y. Ok (Some y.0, y.1)

  piece_none : (text : List ℕ) → ends_piece (skip text) ≡ true → piece_at one text ≡ done None (skip text)
  unfolding piece_at
  piece_none text h = ap (λ (t : Bool). cond t (done None (skip text)) (given (one text))) h

  piece_some : (text : List ℕ) → ends_piece (skip text) ≡ false → piece_at one text ≡ given (one text)
  unfolding piece_at
  piece_some text h = ap (λ (t : Bool). cond t (done None (skip text)) (given (one text))) h

  piece_cases : (text : List ℕ) → Found (SpellsPiece Spells) is_comma text ⊎ ((fault : Fault) × PieceFaulty Faulty text fault)
  piece_cases text = by_test (ends_piece (skip text)) refl
    where
      by_item : (ends_piece (skip text) ≡ false) → Found Spells is_comma text ⊎ ((fault : Fault) × Faulty text fault) → Found (SpellsPiece Spells) is_comma text
          ⊎ ((fault : Fault) × PieceFaulty Faulty text fault)
      by_item e (inl f) = inl (record { front = f.front; item = Some f.item; rest = f.rest; spelled = f.spelled; parts = f.parts; stops = f.stops })
      by_item e (inr (fault, f)) = inr (fault, record { not_passed_over = λ p. true≢false (sym (ends_passed text p) ∙ e); faulty = f })

      by_test : (t : Bool) → ends_piece (skip text) ≡ t → Found (SpellsPiece Spells) is_comma text ⊎ ((fault : Fault) × PieceFaulty Faulty text fault)
      by_test true e =
          let p = passed_over text e in
          inl (record { front = p.space; item = None; rest = p.rest; spelled = p.blank; parts = p.parts; stops = p.ends })
      by_test false e = by_item e (reader.cases text)

  not_passed : (front : List ℕ) (item : X) (rest : List ℕ) → Spells front item → Meets is_comma rest → ends_piece (skip (front ++ rest)) ≡ false
  not_passed front item rest h stops =
      false_from (ends_piece (skip (front ++ rest))) (λ e.
      let refused = needed (front ++ rest) (passed_over (front ++ rest) e) in
      let clash : done item rest ≡ Err refused.0 = sym (reader.again front item rest h stops) ∙ refused.1 in
      absurd cc)

  piece_again : (front : List ℕ) (piece : Option X) (rest : List ℕ) → SpellsPiece Spells front piece → Meets is_comma rest
      → piece_at one (front ++ rest) ≡ done piece rest
  piece_again front None rest h stops =
      let skipped : skip (front ++ rest) ≡ rest = skipped_to front rest h stops in
      piece_none (front ++ rest) (ap ends_piece skipped ∙ ends_from rest stops) ∙ ap (done None) skipped
  piece_again front (Some item) rest h stops =
      piece_some (front ++ rest) (not_passed front item rest h stops) ∙ ap given (reader.again front item rest h stops)

  piece_refused : (text : List ℕ) (fault : Fault) → PieceFaulty Faulty text fault → piece_at one text ≡ Err fault
  piece_refused text fault h =
      piece_some text (false_from (ends_piece (skip text)) (λ e. h.not_passed_over (passed_over text e))) ∙ ap given (reader.refused text fault h.faulty)

  piece_reader : Reader (SpellsPiece Spells) is_comma (PieceFaulty Faulty) (piece_at one)
  piece_reader = record { cases = piece_cases; again = piece_again; refused = piece_refused }

  -- ---- values

  abbrev never : ℕ → Bool
  never b = false

  comma_between : EndsBetween is_comma never comma
  comma_between = record { one_ends = refl; goes_on = refl; both = λ b h. absurd (true≢false (sym h)); last = λ b h e. absurd (true≢false (sym h ∙ e)) }

  pieces_reader : Reader (Joined comma (SpellsPiece Spells)) never (JoinedFaulty comma (SpellsPiece Spells) (PieceFaulty Faulty))
      (λ text. joined_at comma (piece_at one) (suc (length text)) text)
  pieces_reader = joined_reader (SpellsPiece Spells) is_comma never comma (PieceFaulty Faulty) (piece_at one) piece_reader comma_between

  abbrev items_given : Result (List (Option X) × List ℕ) Fault → Result (List X) Fault
  items_given x = x >>= λ y. Ok (filter_map (λ piece. piece) y.0)

  nothing_left : (rest : List ℕ) → Meets never rest → rest ≡ []
  nothing_left [] h = refl
  nothing_left (b ∷ bs) h = absurd cc

  value_again : (value : List ℕ) (items : List X) → ReadsValue Spells value items → items_of one value ≡ finished items
  unfolding items_of
  value_again value items h =
      let text : List ℕ = value ++ [] in
      let read : joined_at comma (piece_at one) (suc (length text)) text ≡ done h.pieces [] = pieces_reader.again value h.pieces [] h.joined tt in
      ap items_given (ap (λ (t : List ℕ). joined_at comma (piece_at one) (suc (length t)) t) (sym (append-nil value)) ∙ read) ∙ ap finished (sym h.given)

  value_refused : (value : List ℕ) (fault : Fault) → JoinedFaulty comma (SpellsPiece Spells) (PieceFaulty Faulty) value fault → items_of one value ≡ Err fault
  unfolding items_of
  value_refused value fault h = ap items_given (pieces_reader.refused value fault h)

  value_cases : (value : List ℕ) → ((items : List X) × ReadsValue Spells value items)
      ⊎ ((fault : Fault) × JoinedFaulty comma (SpellsPiece Spells) (PieceFaulty Faulty) value fault)
  value_cases value = by_pieces (pieces_reader.cases value)
    where
      by_pieces : Found (Joined comma (SpellsPiece Spells)) never value
          ⊎ ((fault : Fault) × JoinedFaulty comma (SpellsPiece Spells) (PieceFaulty Faulty) value fault)
          → ((items : List X) × ReadsValue Spells value items) ⊎ ((fault : Fault) × JoinedFaulty comma (SpellsPiece Spells) (PieceFaulty Faulty) value fault)
      by_pieces (inl f) =
          let whole : f.front ≡ value = sym (f.parts ∙ ap (λ (t : List ℕ). f.front ++ t) (nothing_left f.rest f.stops) ∙ append-nil f.front) in
          inl (
            filter_map (λ piece. piece) f.item,
            record {
              pieces = f.item;
              joined = subst (λ (t : List ℕ). Joined comma (SpellsPiece Spells) t f.item) whole f.spelled;
              given = refl;
            },
          )
      by_pieces (inr f) = inr f

  pub value_laws : ValueLaws Spells Faulty one
  value_laws = record { cases = value_cases; again = value_again; refused = value_refused }
