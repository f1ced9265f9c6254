-- The lines of one stanza, field by field, and the stanzas after it.
use Rattle.std.proofs.Common.{◌≡◌, ℕ, suc, ◌+◌, ◌<◌, ◌^◌, true, false, not, ◌||◌, cond, eqb, List, [], ◌∷◌, ◌++◌, Some, None, length, get_or, take, map, filter}
use Rattle.std.proofs.Common.{refl, sym, ap, ◌∙◌, arith, subst, inl, inr, append_assoc, length-append}
use Rattle.std.specs.List.{list_any}
use Rattle.std.proofs.lemmas.Bool.{cond-true, cond-false, not_from_true, not_from_false, ne_eqb, both_ways, cases_Bool}
use Rattle.std.proofs.lemmas.List.{append-nil, take_at, get_or_at, map-append, length_push}
use Rattle.dist_base.specs.Ascii.{is_colon}
use borrow.Author.Count.{below_more}
use Rattle.dist_control.specs.declared.error.ControlError.{ControlError}
use Rattle.dist_control.specs.declared.error.ControlError.TheVariants.{OrphanContinuation, DoubleField}
use Rattle.dist_control.specs.Bytes.{is_blank, is_continuation, is_field_name}
use Rattle.dist_control.specs.Faults.{line_fault, fault_at, IsSoundBelow, HasFault}
use Rattle.dist_control.specs.Fields.{name_of, continuations, field_spelled, fields_from, is_same_name, field_names}
use Rattle.dist_control.specs.FieldText.{FieldText}
use Rattle.dist_control.specs.Lines.{lines}
use Rattle.dist_control.specs.RawStanza.{RawStanza, run, raw_stanzas_from}
use Rattle.dist_control.specs.Pieces.{IsAtStanza, IsAtField, IsAtNoField, EndsField, AreContinuations, ReadsField, IsFieldFault, ReadsFields, AreLateNames}
use Rattle.dist_control.specs.Pieces.{raw_here}

-- ---- faults of a line

pub orphan-line : (number : ℕ) (line : List ℕ) → is_continuation line ≡ true → line_fault number [] line ≡ Some (OrphanContinuation number)
orphan-line number line is = cond-true (is_continuation line) _ _ is

continuation-line : (number : ℕ) (before : List (List ℕ)) (line : List ℕ) → is_continuation line ≡ true → 0 < length before
    → line_fault number before line ≡ None
continuation-line number before line is some =
    cond-true (is_continuation line) _ _ is ∙ cond-false (eqb (length before) 0) _ _ (ne_eqb (length before) 0 (λ none. absurd (omega arith)))

module _ (number : ℕ) (before : List (List ℕ)) (line : List ℕ) (field_line : is_continuation line ≡ false)
    (colon : list_any is_colon line ≡ true) (named : is_field_name (name_of line) ≡ true) where
  last-test : line_fault number before line ≡ cond (list_any (is_same_name (name_of line)) (field_names before)) (Some (DoubleField number)) None
  last-test =
      cond-false (is_continuation line) _ _ field_line
      ∙ cond-false (not (list_any is_colon line)) _ _ (not_from_true _ colon)
      ∙ cond-false (not (is_field_name (name_of line))) _ _ (not_from_true _ named)

  sound-line : list_any (is_same_name (name_of line)) (field_names before) ≡ false → line_fault number before line ≡ None
  sound-line fresh = last-test ∙ cond-false (list_any (is_same_name (name_of line)) (field_names before)) _ _ fresh

  double-line : list_any (is_same_name (name_of line)) (field_names before) ≡ true → line_fault number before line ≡ Some (DoubleField number)
  double-line double = last-test ∙ cond-true (list_any (is_same_name (name_of line)) (field_names before)) _ _ double

-- the fault of the line after some lines of a stanza
fault-here : (raw : RawStanza) (before : List (List ℕ)) (line : List ℕ) (rest : List (List ℕ)) (number : ℕ) →
    raw.lines ≡ before ++ line ∷ rest → number ≡ raw.line + length before → fault_at raw (length before) ≡ line_fault number before line
fault-here raw before line rest number cut at =
    ap (λ n. line_fault n (take (length before) raw.lines) (get_or raw.lines (length before) [])) (sym at)
    ∙ ap (λ b. line_fault number b (get_or raw.lines (length before) []))
    (ap (λ l. take (length before) l) cut ∙ take_at before (line ∷ rest) (length before) refl)
    ∙ ap (λ l. line_fault number before l) (ap (λ l. get_or l (length before) []) cut ∙ get_or_at before line rest [] (length before) refl)

sound-more : (raw : RawStanza) (place : ℕ) → IsSoundBelow raw place → fault_at raw place ≡ None → IsSoundBelow raw (place + 1)
sound-more raw place sound here = below_more (λ k. fault_at raw k ≡ None) place sound here

sound-push : (raw : RawStanza) (before : List (List ℕ)) (line : List ℕ) (rest : List (List ℕ)) (number : ℕ) →
    raw.lines ≡ before ++ line ∷ rest → number ≡ raw.line + length before → line_fault number before line ≡ None →
    IsSoundBelow raw (length before) → IsSoundBelow raw (length (before ++ line ∷ []))
sound-push raw before line rest number cut at none sound =
    subst (IsSoundBelow raw) (sym (length_push before line)) (sound-more raw (length before) sound (fault-here raw before line rest number cut at ∙ none))

sound-continued : (raw : RawStanza) (more before left : List (List ℕ)) → raw.lines ≡ before ++ (more ++ left) → 0 < length before →
    AreContinuations more → IsSoundBelow raw (length before) → IsSoundBelow raw (length (before ++ more))
sound-continued raw [] before left cut some all sound = subst (IsSoundBelow raw) (sym (ap length (append-nil before))) sound
sound-continued raw (line ∷ more) before left cut some all sound =
    let P : List (List ℕ) → Type 0 = λ l. IsSoundBelow raw (length l) in
    subst P (append_assoc before (line ∷ []) more)
    (sound-continued raw more (before ++ line ∷ []) left (cut ∙ sym (append_assoc before (line ∷ []) (more ++ left)))
    (omega (arith, length_push before line)) all.2
    (sound-push raw before line (more ++ left) (raw.line + length before) cut refl (continuation-line _ before line all.0 some) sound))

-- ---- names and fields of lines

field_names-append : (lines more : List (List ℕ)) → field_names (lines ++ more) ≡ field_names lines ++ field_names more
field_names-append [] more = refl
field_names-append (line ∷ lines) more =
    elim (not (is_continuation line)) as (λ b. map name_of (cond b (line ∷ filter (λ l. not (is_continuation l)) (lines ++ more))
    (filter (λ l. not (is_continuation l)) (lines ++ more)))
    ≡ map name_of (cond b (line ∷ filter (λ l. not (is_continuation l)) lines) (filter (λ l. not (is_continuation l)) lines)) ++ field_names more) [
      | true ↦ ap (λ (names : List (List ℕ)). name_of line ∷ names) (field_names-append lines more)
      | false ↦ field_names-append lines more
    ]

field_names-continued : (more : List (List ℕ)) → AreContinuations more → field_names more ≡ []
field_names-continued [] all = refl
field_names-continued (line ∷ more) all = ap (map name_of) (cond-false (not (is_continuation line)) _ _ (not_from_true _ all.0))
    ∙ field_names-continued more all.2

field_names-field : (line : List ℕ) (more : List (List ℕ)) → is_continuation line ≡ false → AreContinuations more
    → field_names (line ∷ more) ≡ name_of line ∷ []
field_names-field line more field_line all =
    ap (map name_of) (cond-true (not (is_continuation line)) _ _ (not_from_false _ field_line))
    ∙ ap (λ (names : List (List ℕ)). name_of line ∷ names) (field_names-continued more all)

same-names : (name : List ℕ) (fields : List FieldText) → list_any (is_same_name name) (map (λ (field : FieldText). field.name) fields)
    ≡ list_any (λ field. is_same_name name field.name) fields
same-names name [] = refl
same-names name (field ∷ fields) = ap (λ b. is_same_name name field.name || b) (same-names name fields)

continuations-more : (more left : List (List ℕ)) → AreContinuations more → EndsField left → continuations (more ++ left) ≡ more
continuations-more [] [] all ends = refl
continuations-more [] (line ∷ left) all ends = cond-false (is_continuation line) _ _ ends
continuations-more (line ∷ more) left all ends =
    cond-true (is_continuation line) _ _ all.0 ∙ ap (λ (l : List (List ℕ)). line ∷ l) (continuations-more more left all.2 ends)

fields-continued : (number : ℕ) (more left : List (List ℕ)) → AreContinuations more
    → fields_from number (more ++ left) ≡ fields_from (number + length more) left
fields-continued number [] left all = ap (λ n. fields_from n left) (let e : number ≡ number + 0 = omega arith in e)
fields-continued number (line ∷ more) left all =
    cond-true (is_continuation line) _ _ all.0
    ∙ fields-continued (number + 1) more left all.2
    ∙ ap (λ n. fields_from n left) (let e : number + 1 + length more ≡ number + suc (length more) = omega arith in e)

fields-field : (number : ℕ) (line : List ℕ) (more left : List (List ℕ)) → is_continuation line ≡ false → AreContinuations more → EndsField left →
    fields_from number (line ∷ more ++ left) ≡ field_spelled number line more ∷ fields_from (number + 1 + length more) left
fields-field number line more left field_line all ends =
    cond-false (is_continuation line) _ _ field_line
    ∙ ap (λ (l : List (List ℕ)). field_spelled number line l ∷ fields_from (number + 1) (more ++ left)) (continuations-more more left all ends)
    ∙ ap (λ (fs : List FieldText). field_spelled number line more ∷ fs) (fields-continued (number + 1) more left all)

-- ---- lines and stanzas

run-continued : (more left : List (List ℕ)) → AreContinuations more → run (more ++ left) ≡ more ++ run left
run-continued [] left all = refl
run-continued (line ∷ more) left all = cond-false (is_blank line) _ _ all.1 ∙ ap (λ (l : List (List ℕ)). line ∷ l) (run-continued more left all.2)

raw-continued : (number : ℕ) (more left : List (List ℕ)) → AreContinuations more
    → raw_stanzas_from number false (more ++ left) ≡ raw_stanzas_from (number + length more) false left
raw-continued number [] left all = ap (λ n. raw_stanzas_from n false left) (let e : number ≡ number + 0 = omega arith in e)
raw-continued number (line ∷ more) left all =
    cond-false (is_blank line) _ _ all.1
    ∙ raw-continued (number + 1) more left all.2
    ∙ ap (λ n. raw_stanzas_from n false left) (let e : number + 1 + length more ≡ number + suc (length more) = omega arith in e)

pub raw-begins : (number : ℕ) (ls : List (List ℕ)) → 0 < length ls → IsAtStanza ls →
    raw_stanzas_from number true ls ≡ record { line = number; lines = run ls } ∷ raw_stanzas_from number false ls
raw-begins number [] some at = absurd (omega arith)
raw-begins number (line ∷ rest) some at =
    let rests : List (List ℕ) → List RawStanza → List RawStanza = λ l raws. record { line = number; lines = l } ∷ raws in
    cond-false (is_blank line) _ _ at
    ∙ ap (λ (l : List (List ℕ)). rests l (raw_stanzas_from (number + 1) false rest)) (sym (cond-false (is_blank line) [] (line ∷ run rest) at))
    ∙ ap (rests (run (line ∷ rest))) (sym (cond-false (is_blank line) (raw_stanzas_from (number + 1) true rest) (raw_stanzas_from (number + 1) false rest) at))

-- no line of a stanza is next
pub record IsPast (number : ℕ) (ls : List (List ℕ)) : Type 0 where
  pub none : run ls ≡ []
  pub apart : raw_stanzas_from number true ls ≡ raw_stanzas_from number false ls

past-blank : (number : ℕ) (line : List ℕ) (rest : List (List ℕ)) → is_blank line ≡ true → IsPast number (line ∷ rest)
past-blank number line rest is = record {
  none = cond-true (is_blank line) _ _ is;
  apart = cond-true (is_blank line) _ _ is ∙ sym (cond-true (is_blank line) (raw_stanzas_from (number + 1) true rest) (raw_stanzas_from (number + 1) false rest)
      is);
}

past : (number : ℕ) (ls : List (List ℕ)) → IsAtNoField ls → EndsField (run ls) → IsPast number ls
past number [] at ends = record { none = refl; apart = refl }
past number (line ∷ rest) (inl blank) ends = past-blank number line rest blank
past number (line ∷ rest) (inr continuation) ends =
    elim (cases_Bool (is_blank line)) [
      | inl blank ↦ past-blank number line rest blank
      | inr not_blank ↦ absurd (both_ways (is_continuation line) (subst EndsField (cond-false (is_blank line) [] (line ∷ run rest) not_blank) ends)
          continuation)
    ]

-- ---- where the loop over the fields of a stanza stands

-- The lines before this place have no fault, their names are those of the fields so far, and the fields of
-- the lines that are left are the other fields of the stanza.
pub record IsStanzaSoFar (raw : RawStanza) (fields : List FieldText) (number : ℕ) (left : List (List ℕ)) : Type 0 where
  pub before : List (List ℕ)
  pub cut : raw.lines ≡ before ++ left
  pub at : number ≡ raw.line + length before
  pub sound : IsSoundBelow raw (length before)
  pub names : field_names before ≡ map (λ (field : FieldText). field.name) fields
  pub read : fields_from raw.line raw.lines ≡ fields ++ fields_from number left

pub record ReadsOn (number : ℕ) (text : List ℕ) (fields : List FieldText) (late : List (List ℕ)) (line : ℕ) (rest : List ℕ) : Type 0 where
  pub so_far : IsStanzaSoFar (raw_here number text) fields line (run (lines rest))
  pub known : AreLateNames fields late
  pub stanzas : raw_stanzas_from line false (lines rest) ≡ raw_stanzas_from number false (lines text)
  pub ends : EndsField (run (lines rest))
  pub room : line + length rest < 2 ^ 64

field-run : (ls : List (List ℕ)) → IsAtField ls → EndsField (run ls)
field-run [] at = absurd at
field-run (line ∷ rest) at = subst EndsField (sym (cond-false (is_blank line) [] (line ∷ run rest) at.0)) at.1

pub reads-first : (number : ℕ) (text : List ℕ) → IsAtField (lines text) → number + length text < 2 ^ 64 → ReadsOn number text [] [] number text
reads-first number text at room = record {
  so_far = record { before = []; cut = refl; at = omega arith; sound = λ k h. absurd (omega arith); names = refl; read = refl };
  known = λ name. refl;
  stanzas = refl;
  ends = field-run (lines text) at;
  room = room;
}

-- the next line and the others of the stanza
run-field : (line : List ℕ) (more after : List (List ℕ)) → is_blank line ≡ false → AreContinuations more → run (line ∷ more ++ after) ≡ line ∷ more ++ run after
run-field line more after not_blank all = cond-false (is_blank line) _ _ not_blank ∙ ap (λ (l : List (List ℕ)). line ∷ l) (run-continued more after all)

module _ (number : ℕ) (text : List ℕ) (fields : List FieldText) (late : List (List ℕ)) (line : ℕ) (rest : List ℕ)
    (on : ReadsOn number text fields late line rest) (at_field : IsAtField (lines rest)) where
  abbrev raw : RawStanza
  raw = raw_here number text

  -- a fault of the next line is the first fault of the stanza
  has-fault : (here : List ℕ) (others : List (List ℕ)) (error : ControlError) → run (lines rest) ≡ here ∷ others →
      line_fault line on.so_far.before here ≡ Some error → HasFault raw error
  has-fault here others error left fault =
      let so_far = on.so_far in
      let cut : raw.lines ≡ so_far.before ++ here ∷ others = so_far.cut ∙ ap (λ l. so_far.before ++ l) left in
      record {
        place = length so_far.before;
        within = omega (arith, ap length cut, length-append so_far.before (here ∷ others));
        first = so_far.sound;
        fault = fault-here raw so_far.before here others line cut so_far.at ∙ fault;
      }

  here-is : (here : List ℕ) (others : List (List ℕ)) → lines rest ≡ here ∷ others → (is_blank here ≡ false) × (is_continuation here ≡ false)
  here-is here others pieces = subst IsAtField pieces at_field

  pub field-fault : (error : ControlError) → IsFieldFault line rest error → HasFault raw error
  field-fault error fault =
      let is = here-is fault.line fault.rest fault.pieces in
      has-fault fault.line (run fault.rest) error (ap run fault.pieces ∙ cond-false (is_blank fault.line) [] (fault.line ∷ run fault.rest) is.0)
      (fault.fault on.so_far.before is.1)

  module _ (field : FieldText) (after : List ℕ) (next : ℕ) (reads : ReadsField line rest field after next) where
    is_here : (is_blank reads.line ≡ false) × (is_continuation reads.line ≡ false)
    is_here = here-is reads.line (reads.more ++ lines after) reads.pieces

    left_is : run (lines rest) ≡ reads.line ∷ reads.more ++ run (lines after)
    left_is = ap run reads.pieces ∙ run-field reads.line reads.more (lines after) is_here.0 reads.continued

    names-tested : list_any (is_same_name (name_of reads.line)) (field_names on.so_far.before)
        ≡ list_any (λ earlier. is_same_name field.name earlier.name) fields
    names-tested =
        ap (λ (names : List (List ℕ)). list_any (is_same_name (name_of reads.line)) names) on.so_far.names
        ∙ same-names (name_of reads.line) fields
        ∙ ap (λ (f : FieldText). list_any (λ earlier. is_same_name f.name earlier.name) fields) (sym reads.spelled)

    pub double-fault : list_any (λ earlier. is_same_name field.name earlier.name) fields ≡ true → HasFault raw (DoubleField line)
    double-fault double =
        has-fault reads.line (reads.more ++ run (lines after)) (DoubleField line) left_is
        (double-line line on.so_far.before reads.line is_here.1 reads.has_colon reads.named (names-tested ∙ double))

    pub reads-more : (new : List FieldText) (names : List (List ℕ)) → list_any (λ earlier. is_same_name field.name earlier.name) fields ≡ false →
        new ≡ fields ++ field ∷ [] → AreLateNames new names → ReadsOn number text new names next after
    reads-more new names fresh added known =
        let so_far = on.so_far in
        let block = reads.line ∷ reads.more in
        let after_run = run (lines after) in
        let cut : raw.lines ≡ so_far.before ++ (block ++ after_run) = so_far.cut ∙ ap (λ l. so_far.before ++ l) left_is in
        let none : line_fault line so_far.before reads.line ≡ None =
        sound-line line so_far.before reads.line is_here.1 reads.has_colon reads.named (names-tested ∙ fresh) in
        let P : List (List ℕ) → Type 0 = λ l. IsSoundBelow raw (length l) in
        record {
          so_far = record {
            before = so_far.before ++ block;
            cut = cut ∙ sym (append_assoc so_far.before block after_run);
            at = omega (arith, so_far.at, reads.counted, length-append so_far.before block);
            sound = subst P (append_assoc so_far.before (reads.line ∷ []) reads.more)
                (sound-continued raw reads.more (so_far.before ++ reads.line ∷ []) after_run
                (cut ∙ sym (append_assoc so_far.before (reads.line ∷ []) (reads.more ++ after_run)))
                (omega (arith, length_push so_far.before reads.line)) reads.continued
                (sound-push raw so_far.before reads.line (reads.more ++ after_run) line cut so_far.at none so_far.sound));
            names = field_names-append so_far.before block
                ∙ ap (λ (l : List (List ℕ)). l ++ field_names block) so_far.names
                ∙ ap (λ (l : List (List ℕ)). map (λ (f : FieldText). f.name) fields ++ l)
                (field_names-field reads.line reads.more is_here.1 reads.continued ∙ ap (λ (f : FieldText). f.name ∷ []) (sym reads.spelled))
                ∙ sym (map-append (λ (f : FieldText). f.name) fields (field ∷ []))
                ∙ ap (map (λ (f : FieldText). f.name)) (sym added);
            read = so_far.read
                ∙ ap (λ (l : List (List ℕ)). fields ++ fields_from line l) left_is
                ∙ ap (λ (fs : List FieldText). fields ++ fs) (fields-field line reads.line reads.more after_run is_here.1 reads.continued reads.ends)
                ∙ ap (λ (f : FieldText). fields ++ f ∷ fields_from (line + 1 + length reads.more) after_run) (sym reads.spelled)
                ∙ sym (append_assoc fields (field ∷ []) (fields_from (line + 1 + length reads.more) after_run))
                ∙ ap (λ (fs : List FieldText). fs ++ fields_from (line + 1 + length reads.more) after_run) (sym added)
                ∙ ap (λ n. new ++ fields_from n after_run) (sym reads.counted);
          };
          known = known;
          stanzas = ap (λ n. raw_stanzas_from n false (lines after)) reads.counted
              ∙ sym (ap (raw_stanzas_from line false) reads.pieces
              ∙ cond-false (is_blank reads.line) _ _ is_here.0
              ∙ raw-continued (line + 1) reads.more (lines after) reads.continued)
              ∙ on.stanzas;
          ends = reads.ends;
          room = reads.room;
        }

pub reads-all : (number : ℕ) (text : List ℕ) (fields : List FieldText) (late : List (List ℕ)) (line : ℕ) (rest : List ℕ) →
    ReadsOn number text fields late line rest → IsAtNoField (lines rest) → ReadsFields number text fields rest line
reads-all number text fields late line rest on at =
    let so_far = on.so_far in
    let here = past line (lines rest) at on.ends in
    let all : (raw_here number text).lines ≡ so_far.before = so_far.cut ∙ ap (λ l. so_far.before ++ l) here.none ∙ append-nil so_far.before in
    record {
      sound = subst (IsSoundBelow (raw_here number text)) (sym (ap length all)) so_far.sound;
      spelled = sym (so_far.read ∙ ap (λ (l : List (List ℕ)). fields ++ fields_from line l) here.none ∙ append-nil fields);
      stanzas = here.apart ∙ on.stanzas;
      room = on.room;
    }

-- a continuation line that is the first of its stanza
pub orphan-fault : (number : ℕ) (text : List ℕ) (ls : List (List ℕ)) → lines text ≡ ls → 0 < length ls → IsAtStanza ls → IsAtNoField ls →
    HasFault (raw_here number text) (OrphanContinuation number)
orphan-fault number text [] is some at no_field = absurd (omega arith)
orphan-fault number text (line ∷ rest) is some at (inl blank) = absurd (both_ways (is_blank line) at blank)
orphan-fault number text (line ∷ rest) is some at (inr continuation) =
    let cut : run (lines text) ≡ line ∷ run rest = ap run is ∙ cond-false (is_blank line) [] (line ∷ run rest) at in
    record {
      place = 0;
      within = omega (arith, ap length cut);
      first = λ k h. absurd (omega arith);
      fault = fault-here (raw_here number text) [] line (run rest) number cut (omega arith) ∙ orphan-line number line continuation;
    }
