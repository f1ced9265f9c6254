-- The pieces of a field.
use Rattle.std.proofs.Common.{◌≡◌, ℕ, zero, suc, ◌+◌, ◌-◌, ◌<◌, ◌≤◌, true, false, not, List, [], ◌∷◌, ◌++◌, Option, Some, None, length, get_or, take, drop}
use Rattle.std.proofs.Common.{refl, sym, ap, ◌∙◌, arith, inl, inr, append_assoc, length-append}
use Rattle.std.specs.List.{list_any, list_all, position_or_len, prefix_len, take_while, join_with_byte}
use Rattle.std.proofs.lemmas.Bool.{false_from_ne_true, or_from, cases_Bool, cond-true, not_from_false}
use Rattle.std.proofs.lemmas.List.{get_or_past, append-nil, append_cancel_right, drop-append-le, take_at, flat_map_more, length-drop}
use Rattle.std.proofs.lemmas.List.Folds.{list_any_at, length-prefix_len}
use Rattle.std.proofs.lemmas.List.Sums.{position_or_len_is, prefix_len_passes, passes_at_first, take_while-cons}
use Rattle.memchr.specs.Find.{IsFirstByte, is_byte}
use Rattle.std.specs.Option.{is_some}
use Rattle.dist_base.specs.Ascii.{is_colon}
use Rattle.dist_control.specs.Bytes.{is_field_name_byte, is_field_name}
use Rattle.dist_control.specs.Fields.{name_of, trim}
use Rattle.dist_control.specs.Lines.{lines, IsCutAtLine}
use Rattle.dist_control.specs.Pieces.{IsFirstColon, HasInFront, IsFieldInFront, IsContinuedTo, AreContinuations, ended}
use Rattle.dist_control.proofs.TrimLemmas.{trim-end}

no-colon : (line : List ℕ) → ((j : ℕ) → j < length line → is_colon (get_or line j 0) ≡ false) → list_any is_colon line ≡ false
no-colon [] none = refl
no-colon (byte ∷ line) none = or_from _ _ (none 0 (omega arith)) (no-colon line (λ j h. none (suc j) (omega arith)))

pub has-colon : (line : List ℕ) (r : Option ℕ) → IsFirstByte (is_byte 58) line r → is_some r ≡ list_any is_colon line
has-colon line None none = sym (no-colon line (λ j h. false_from_ne_true _ (none j (omega arith) h)))
has-colon line (Some place) found = sym (list_any_at is_colon line place 0 found.0.high found.1)

-- ---- the end of the name

colon-in-name : (byte : ℕ) → is_field_name_byte byte ≡ true → is_colon byte ≡ false
colon-in-name byte is = grind arith

all-taken : (line : List ℕ) → list_all is_field_name_byte (take_while is_field_name_byte line) ≡ true
all-taken [] = refl
all-taken (byte ∷ line) = grind (arith, take_while-cons is_field_name_byte byte line, all-taken line)

named-from_first : (line : List ℕ) → is_field_name (take 1 line) ≡ true → is_field_name (take_while is_field_name_byte line) ≡ true
named-from_first [] begins = absurd cc
named-from_first (byte ∷ line) begins = grind (arith, take_while-cons is_field_name_byte byte line, all-taken line)

first-from_named : (n : ℕ) (line : List ℕ) → is_field_name (take n line) ≡ true → (list_all is_field_name_byte (take n line) ≡ true)
    × (is_field_name (take 1 line) ≡ true)
first-from_named zero line named = absurd cc
first-from_named (suc n) [] named = absurd cc
first-from_named (suc n) (byte ∷ line) named = (grind arith, grind arith)

name-more : (byte : ℕ) (line : List ℕ) → is_colon byte ≡ false → name_of (byte ∷ line) ≡ byte ∷ name_of line
name-more byte line is =
    let more : 1 + position_or_len is_colon line ≡ suc (position_or_len is_colon line) = omega arith in
    ap (λ n. take n (byte ∷ line)) (cond-true (not (is_colon byte)) _ _ (not_from_false _ is) ∙ more)

colon-within : (line : List ℕ) → list_any is_colon line ≡ true → position_or_len is_colon line < length line
colon-within [] found = absurd cc
colon-within (byte ∷ line) found = grind (arith, colon-within line)

ends-at-colon : (line : List ℕ) → list_any is_colon line ≡ true → list_all is_field_name_byte (name_of line) ≡ true
    → prefix_len is_field_name_byte line ≡ position_or_len is_colon line
ends-at-colon [] found all = absurd cc
ends-at-colon (byte ∷ line) found all =
    elim (cases_Bool (is_colon byte)) [
      | inl is ↦ grind (arith, is, colon-in-name byte)
      | inr is ↦
          let named : list_all is_field_name_byte (byte ∷ name_of line) ≡ true = ap (list_all is_field_name_byte) (sym (name-more byte line is)) ∙ all in
          grind (arith, is, named, ends-at-colon line)
    ]

-- where the bytes of a name end at a colon, that is the first one, and they are the field name
pub named-at_colon : (line : List ℕ) (place : ℕ) → place ≡ length (take_while is_field_name_byte line) → is_colon (get_or line place 0) ≡ true
    → is_field_name (take 1 line) ≡ true →
    IsFirstColon line place × (is_field_name (name_of line) ≡ true)
named-at_colon line place is colon begins =
    let within : place < length line = grind (arith, get_or_past line place 0) in
    let run : place ≡ prefix_len is_field_name_byte line = is ∙ length-prefix_len is_field_name_byte line in
    let at : position_or_len is_colon line ≡ place = position_or_len_is is_colon line place 0 (omega arith)
    (λ k h. colon-in-name _ (prefix_len_passes is_field_name_byte line k 0 (omega arith))) (λ _. colon) in (
      record {
        within = within;
        found = list_any_at is_colon line place 0 within colon;
        before = ap (λ n. take n line) at;
        after = ap (λ n. drop (n + 1) line) at;
      },
      ap (λ n. is_field_name (take n line)) (at ∙ run) ∙ named-from_first line begins,
    )

-- where a line has a colon and a field name before it, the bytes of a name end at a colon
pub colon-from_named : (line : List ℕ) (place : ℕ) → place ≡ length (take_while is_field_name_byte line) → list_any is_colon line ≡ true
    → is_field_name (name_of line) ≡ true →
    (is_colon (get_or line place 0) ≡ true) × (is_field_name (take 1 line) ≡ true)
colon-from_named line place is found named =
    let begun = first-from_named (position_or_len is_colon line) line named in
    let at : place ≡ position_or_len is_colon line = is ∙ length-prefix_len is_field_name_byte line ∙ ends-at-colon line found begun.0 in
    (ap (λ n. is_colon (get_or line n 0)) at ∙ passes_at_first is_colon line 0 (colon-within line found), begun.1)

-- ---- lines in front of a text

ended-push : (front : List (List ℕ)) (line : List ℕ) → ended (front ++ line ∷ []) ≡ ended front ++ (line ++ 10 ∷ [])
ended-push front line = sym (flat_map_more (λ (line : List ℕ). line ++ 10 ∷ []) [] front line)

in-front-cut : (text after taken : List ℕ) (front : List (List ℕ)) (rest line : List ℕ) → text ≡ taken ++ rest → taken ≡ ended front
    → IsCutAtLine rest line after →
    HasInFront text (front ++ line ∷ []) after
in-front-cut text after taken front rest line is spelled (inl cut) = record {
  taken = taken ++ (line ++ 10 ∷ []);
  cut = is ∙ ap (λ (t : List ℕ). taken ++ t) (cut ∙ sym (append_assoc line (10 ∷ []) after)) ∙ sym (append_assoc taken (line ++ 10 ∷ []) after);
  spelled = inl (ap (λ (t : List ℕ). t ++ (line ++ 10 ∷ [])) spelled ∙ sym (ended-push front line));
}
in-front-cut text after taken front rest line is spelled (inr cut) = record {
  taken = taken ++ line;
  cut = is ∙ ap (λ (t : List ℕ). taken ++ t) cut.0 ∙ sym (append-nil (taken ++ line)) ∙ ap (λ (t : List ℕ). (taken ++ line) ++ t) (sym cut.1);
  spelled = inr (cut.1, append_assoc taken line (10 ∷ []) ∙ ap (λ (t : List ℕ). t ++ (line ++ 10 ∷ [])) spelled ∙ sym (ended-push front line));
}

in-front-more : (text rest line after : List ℕ) (front : List (List ℕ)) → HasInFront text front rest → 0 < length rest → IsCutAtLine rest line after →
    HasInFront text (front ++ line ∷ []) after
in-front-more text rest line after front has some cut =
    elim has.spelled [
      | inl spelled ↦ in-front-cut text after has.taken front rest line has.cut spelled cut
      | inr none ↦ absurd (omega (arith, ap length none.0))
    ]

continued-push : (more : List (List ℕ)) (line : List ℕ) → AreContinuations more → AreContinuations (line ∷ []) → AreContinuations (more ++ line ∷ [])
continued-push [] line all here = here
continued-push (first ∷ more) line all here = (all.0, all.1, continued-push more line all.2 here)

pub field-first : (text line after : List ℕ) → lines text ≡ line ∷ lines after → IsCutAtLine text line after → IsFieldInFront text line [] after
field-first text line after pieces cut = record {
  pieces = pieces;
  front = in-front-cut text after [] [] text line refl refl cut;
  continued = tt;
}

pub field-more : (text line rest after : List ℕ) (more : List (List ℕ)) → IsFieldInFront text line more rest → (next : IsContinuedTo rest after) →
    IsFieldInFront text line (more ++ next.line ∷ []) after
field-more text line rest after more so_far next = record {
  pieces = so_far.pieces ∙ ap (λ (l : List (List ℕ)). line ∷ more ++ l) next.pieces ∙ sym (append_assoc (line ∷ more) (next.line ∷ []) (lines after));
  front = in-front-more text rest next.line after (line ∷ more) so_far.front (omega (arith, next.shorter)) next.cut;
  continued = continued-push more next.line so_far.continued (next.continuation, next.not_blank, tt);
}

-- ---- the value

ended-joined : (line : List ℕ) (more : List (List ℕ)) → ended (line ∷ more) ≡ join_with_byte 10 (line ∷ more) ++ 10 ∷ []
ended-joined line [] = append-nil (line ++ 10 ∷ [])
ended-joined line (next ∷ more) =
    append_assoc line (10 ∷ []) (ended (next ∷ more))
    ∙ ap (λ (t : List ℕ). line ++ 10 ∷ t) (ended-joined next more)
    ∙ sym (append_assoc line (10 ∷ join_with_byte 10 (next ∷ more)) (10 ∷ []))

drop-ended : (n : ℕ) (line : List ℕ) (more : List (List ℕ)) → n ≤ length line → drop n (ended (line ∷ more)) ≡ ended (drop n line ∷ more)
drop-ended n line more fits =
    drop-append-le n (line ++ 10 ∷ []) (ended more) (omega (arith, length-append line (10 ∷ [])))
    ∙ ap (λ (t : List ℕ). t ++ ended more) (drop-append-le n line (10 ∷ []) fits)

middle : (n : ℕ) (text taken after : List ℕ) → text ≡ taken ++ after → n ≤ length taken →
    take (length text - length after - n) (drop n text) ≡ drop n taken
middle n text taken after is fits =
    let long : length text ≡ length taken + length after = ap length is ∙ length-append taken after in
    ap (λ (t : List ℕ). take (length text - length after - n) (drop n t)) is
    ∙ ap (λ (t : List ℕ). take (length text - length after - n) t) (drop-append-le n taken after fits)
    ∙ take_at (drop n taken) after (length text - length after - n) (omega (arith, length-drop n taken))

-- what stands after a place of the first line, up to the end of the last line
pub value-spelled : (text line after : List ℕ) (more : List (List ℕ)) (n : ℕ) → HasInFront text (line ∷ more) after → n ≤ length line →
    trim (take (length text - length after - n) (drop n text)) ≡ trim (join_with_byte 10 (drop n line ∷ more))
value-spelled text line after more n has fits =
    let joined = join_with_byte 10 (drop n line ∷ more) in
    elim has.spelled [
      | inl spelled ↦
          let long : length line ≤ length has.taken = omega (
            arith,
            ap length spelled,
            length-append (line ++ 10 ∷ []) (ended more),
            length-append line (10 ∷ []),
          ) in
          let slice : take (length text - length after - n) (drop n text) ≡ joined ++ 10 ∷ [] =
          middle n text has.taken after has.cut (omega arith) ∙ ap (drop n) spelled ∙ drop-ended n line more fits ∙ ended-joined (drop n line) more in
          ap trim slice ∙ trim-end joined 10 refl
      | inr spelled ↦
          let long : length line ≤ length has.taken = omega (
            arith,
            ap length spelled.1,
            length-append has.taken (10 ∷ []),
            length-append (line ++ 10 ∷ []) (ended more),
            length-append line (10 ∷ []),
          ) in
          let closed : drop n has.taken ++ 10 ∷ [] ≡ joined ++ 10 ∷ [] =
          sym (drop-append-le n has.taken (10 ∷ []) (omega arith)) ∙ ap (drop n) spelled.1 ∙ drop-ended n line more fits ∙ ended-joined (drop n line) more in
          ap trim (middle n text has.taken after has.cut (omega arith) ∙ append_cancel_right (drop n has.taken) joined (10 ∷ []) closed)
    ]
