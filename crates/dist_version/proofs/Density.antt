-- Texts just above a version and below one are versions, and stand where they should in the order.
use Rattle.std.proofs.Common.{◌≡◌, ℕ, zero, suc, ◌+◌, ◌-◌, ◌<◌, ◌≤◌, Bool, true, false, true≢false, cond, not, ◌&&◌, ◌==◌, nat_lt, eqb-true, lt-ltb, le-ltb}
use Rattle.std.proofs.Common.{ltb-true, ltb-false, drop_at, List, [], ◌∷◌, ◌++◌, append_assoc, append-nil, one-add, length, length-append, length-take}
use Rattle.std.proofs.Common.{length-drop, map, take, drop, take-append-drop, pos, Option, None, Some, Ordering, Less, Equal, Greater, int_cmp, nat_cmp}
use Rattle.std.proofs.Common.{unwrap_or, IfSome, MatchOption, slice_get, slice_range, refl, sym, ap, ap₂, ◌∙◌, subst, ◌⊎◌, inl, inr, arith}
use Rattle.std.specs.Prelude.{replicate}
use Rattle.std.specs.Char.{is_ascii_digit, is_ascii_alphabetic}
use Rattle.std.specs.List.{list_all, prefix_len}
use Rattle.std.specs.Option.{option_map_or}
use Rattle.std.specs.Ordering.{ordering_then}
use Rattle.std.specs.Str.Parse.{digits_value}
use Rattle.std.proofs.Math.Seq.{take-length, take-append_seam, drop-append_seam}
use Rattle.std.proofs.lemmas.Bool.{false≢true, and_parts, and_from, cases_Bool, cond-true, cond-false}
use Rattle.std.proofs.lemmas.Bool.Decides.{nat_tests}
use Rattle.std.proofs.lemmas.Cmp.{tied_itself}
use Rattle.std.proofs.lemmas.List.{length-replicate, drop-append-le, take-append-le}
use Rattle.std.proofs.lemmas.List.Folds.{list_all-append}
use Rattle.std.proofs.lemmas.List.Sums.{prefix_len-le-length}
use Rattle.dist_base.specs.Ascii.{colon, hyphen, letter_b, plus, tilde}
use Rattle.dist_version.specs.declared.error.VersionError.{VersionError}
use Rattle.dist_version.specs.Spelling.{rsplit_once, has, is_upstream_byte, is_revision_byte, IsMadeOf, Parts, Spells}
use Rattle.dist_version.specs.Spelling.{revision_text, parts_of, epoch_of, upstream_of, revision_of}
use Rattle.dist_version.specs.Faults.{fault_of}
use Rattle.dist_version.specs.Order.{weight_of, text_start, digit_start, after_text, after_turn, number_of, weights_cmp, part_cmp, IsBelow}
use Rattle.dist_version.specs.Between.{IsRebuildOf, ends_in_digit, extension, missing_hyphen, above_text, below_text, is_rebuild}
use Rattle.dist_version.specs.Between.{without_rebuild_text}
use Rattle.dist_version.specs.Kept.{Keeps}
use Rattle.dist_version.specs.CutLaws.{CutsLast, rsplit_once-at, cases_rsplit}
use Rattle.dist_version.specs.OrderLaws.{weights_total, part_total, version_cmp-parts}
use Rattle.dist_version.specs.TextLaws.{lacks, version_from_no_fault, spells_parts, one_version, no_fault_from_version}
use Rattle.dist_version.proofs.Steps.{room, revision_size}
use Rattle.dist_version.proofs.Then.{nat_cmp-same, nat_cmp-less}
use Rattle.dist_version.proofs.Turns.{text_weights, part_cmp-turn, part_cmp-empty, after_turn-shorter_by_one, take_while-all}

abbrev pub other_byte : ℕ → Bool
other_byte b = not (is_ascii_digit b)

-- the bytes don't go on with one that passes
abbrev pub Halts : (ℕ → Bool) → List ℕ → Type 0
Halts test [] = Unit {0}
Halts test (b ∷ bs) = test b ≡ false

-- ---- longest starts

prefix_len-at : (test : ℕ → Bool) (a b : List ℕ) → list_all test a ≡ true → Halts test b → prefix_len test (a ++ b) ≡ length a
prefix_len-at test [] [] all halts = refl
prefix_len-at test [] (x ∷ b) all halts = rw halts refl
prefix_len-at test (x ∷ a) b all halts =
    let p = and_parts (test x) (list_all test a) all in rw p.0 (omega (arith, prefix_len-at test a b p.1 halts))

halts-drop : (test : ℕ → Bool) (xs : List ℕ) → Halts test (drop (prefix_len test xs) xs)
halts-drop test [] = tt
halts-drop test (x ∷ xs) = elim (cases_Bool (test x)) [
  | inl pass ↦ rw (pass, one-add) (halts-drop test xs)
  | inr fail ↦ rw (fail) fail
]

-- ---- one turn, put together and taken apart

-- what the first turn of a part is, and what is left
pub record Turned (part first number left : List ℕ) : Type 0 where
  pub text : text_start part ≡ first
  pub digits : digit_start (after_text part) ≡ number
  pub rest : after_turn part ≡ left

taken : (test : ℕ → Bool) (a b : List ℕ) → list_all test a ≡ true → Halts test b → take (prefix_len test (a ++ b)) (a ++ b) ≡ a
taken test a b all halts = rw (prefix_len-at test a b all halts) (take-append_seam a b)

pub turned : (t d x : List ℕ) → list_all other_byte t ≡ true → list_all is_ascii_digit d ≡ true → Halts other_byte (d ++ x) → Halts is_ascii_digit x
    → Turned (t ++ (d ++ x)) t d x
turned t d x texts digits stop halt =
    let first : text_start (t ++ (d ++ x)) ≡ t = taken other_byte t (d ++ x) texts stop in
    let after : after_text (t ++ (d ++ x)) ≡ d ++ x = ap (λ (s : List ℕ). drop (length s) (t ++ (d ++ x))) first ∙ drop-append_seam t (d ++ x) in
    let second : digit_start (d ++ x) ≡ d = taken is_ascii_digit d x digits halt in
    record {
      text = first;
      digits = ap digit_start after ∙ second;
      rest = ap (λ (s : List ℕ). drop (length (digit_start s)) s) after ∙ ap (λ (s : List ℕ). drop (length s) (d ++ x)) second ∙ drop-append_seam d x;
    }

length-start : (test : ℕ → Bool) (xs : List ℕ) → length (take (prefix_len test xs) xs) ≡ prefix_len test xs
length-start test xs = omega (arith, length-take (prefix_len test xs) xs, prefix_len-le-length test xs)

-- a part is its text, its digits and what is left
parted : (part : List ℕ) → part ≡ text_start part ++ (digit_start (after_text part) ++ after_turn part)
parted part =
    let one : text_start part ++ after_text part ≡ part = ap (λ n. text_start part ++ drop n part) (length-start other_byte part)
    ∙ take-append-drop (prefix_len other_byte part) part in
    let rest : List ℕ = after_text part in
    let two : digit_start rest ++ after_turn part ≡ rest = ap (λ n. digit_start rest ++ drop n rest) (length-start is_ascii_digit rest)
    ∙ take-append-drop (prefix_len is_ascii_digit rest) rest in
    sym (ap (λ (s : List ℕ). text_start part ++ s) two ∙ one)

pub after_text-halts : (part : List ℕ) → Halts other_byte (after_text part)
after_text-halts part = subst (λ n. Halts other_byte (drop n part)) (sym (length-start other_byte part)) (halts-drop other_byte part)

pub after_turn-halts : (part : List ℕ) → Halts is_ascii_digit (after_turn part)
after_turn-halts part = subst (λ n. Halts is_ascii_digit (drop n (after_text part))) (sym (length-start is_ascii_digit (after_text part)))
    (halts-drop is_ascii_digit (after_text part))

-- ---- the last byte

ends-append : (a : List ℕ) (b : ℕ) (bs : List ℕ) → ends_in_digit (a ++ (b ∷ bs)) ≡ ends_in_digit (b ∷ bs)
ends-append [] b bs = refl
ends-append (x ∷ []) b bs = refl
ends-append (x ∷ y ∷ a) b bs = ends-append (y ∷ a) b bs

ends-digits : (d : ℕ) (ds : List ℕ) → list_all is_ascii_digit (d ∷ ds) ≡ true → ends_in_digit (d ∷ ds) ≡ true
ends-digits d [] all = (and_parts (is_ascii_digit d) true all).0
ends-digits d (e ∷ ds) all = ends-digits e ds (and_parts (is_ascii_digit d) (list_all is_ascii_digit (e ∷ ds)) all).1

not_true : (b : Bool) → not b ≡ true → b ≡ false
not_true true h = absurd (true≢false (sym h))
not_true false h = refl

ends-texts : (t : List ℕ) → list_all other_byte t ≡ true → ends_in_digit t ≡ false
ends-texts [] all = refl
ends-texts (x ∷ []) all = not_true (is_ascii_digit x) (and_parts (other_byte x) true all).0
ends-texts (x ∷ y ∷ t) all = ends-texts (y ∷ t) (and_parts (other_byte x) (list_all other_byte (y ∷ t)) all).1

-- the same by the byte at the last place
pub last_digit : (bytes : List ℕ) → ends_in_digit bytes ≡ option_map_or is_ascii_digit (slice_get bytes (length bytes - 1)) false
last_digit [] = refl
last_digit (b ∷ []) = refl
last_digit (b ∷ c ∷ cs) =
    let last : length (b ∷ c ∷ cs) - 1 ≡ suc (length (c ∷ cs) - 1) = omega arith in
    last_digit (c ∷ cs) ∙ sym (ap (λ n. option_map_or is_ascii_digit (slice_get (b ∷ c ∷ cs) n) false) last)

-- ---- tildes

pub tildes-all : (test : ℕ → Bool) (n : ℕ) → test tilde ≡ true → list_all test (replicate n tilde) ≡ true
tildes-all test zero h = refl
tildes-all test (suc n) h = and_from (test tilde) (list_all test (replicate n tilde)) h (tildes-all test n h)

-- tildes are below all that has fewer bytes
tildes_less : (n : ℕ) (bytes : List ℕ) → length bytes < n → weights_cmp (map weight_of (replicate n tilde)) (map weight_of bytes) ≡ Less
tildes_less zero bytes h = absurd (omega (arith, h))
tildes_less (suc n) [] h = refl
tildes_less (suc n) (b ∷ bytes) h = elim (cases_Bool (b == 126)) [
  | inl same ↦ rw same (tildes_less n bytes (omega (arith, h)))
  | inr other ↦ elim (cases_Bool (is_ascii_alphabetic b)) [
    | inl letter ↦ rw (other, letter) refl
    | inr sign ↦ rw (other, sign) refl
  ]
]

text_start-shorter : (part : List ℕ) → length (text_start part) ≤ length part
text_start-shorter part = omega (arith, length-take (prefix_len other_byte part) part)

then_less : (o p : Ordering) → o ≡ Less → ordering_then o p ≡ Less
then_less o p e = rw e refl

pub alone : (text : List ℕ) → list_all other_byte text ≡ true → Turned text text [] []
alone text all =
    let t = turned text [] [] all refl tt tt in
    subst (λ (s : List ℕ). Turned s text [] []) (append-nil text) t

tildes_part_less : (n : ℕ) (part : List ℕ) → length part < n → part_cmp (replicate n tilde) part ≡ Less
tildes_part_less n part h =
    let t = alone (replicate n tilde) (tildes-all other_byte n refl) in
    let first : weights_cmp (text_weights (replicate n tilde)) (text_weights part) ≡ Less =
    ap (λ (s : List ℕ). weights_cmp (map weight_of s) (text_weights part)) t.text
    ∙ tildes_less n (text_start part) (omega (arith, h, text_start-shorter part)) in
    part_cmp-turn (replicate n tilde) part ∙ then_less _ _ first

-- ---- `A` and tildes

abbrev pub letter_and : ℕ → List ℕ
letter_and n = 65 ∷ replicate n tilde

pub letter_turn : (n : ℕ) → Turned (letter_and n) (letter_and n) [] []
letter_turn n = alone (letter_and n) (tildes-all other_byte n refl)

letter_above_nothing : (n : ℕ) → part_cmp [] (letter_and n) ≡ Less
letter_above_nothing n =
    let t = letter_turn n in
    let first : weights_cmp (text_weights []) (text_weights (letter_and n)) ≡ Less = ap (λ (s : List ℕ). weights_cmp [] (map weight_of s)) t.text in
    part_cmp-turn [] (letter_and n) ∙ then_less _ _ first

-- no letter is below `A`
letter_least : (b : ℕ) → is_ascii_alphabetic b ≡ true → (b ≡ 65) ⊎ (int_cmp (pos 65) (pos b) ≡ Less)
letter_least b letter = elim (cases_Bool (b == 65)) [
  | inl same ↦ inl (eqb-true b 65 same)
  | inr other ↦ inr (grind (arith, nat_tests))
]

-- the first bytes without digits of what begins with such a byte
pub text_start-cons : (c : ℕ) (cs : List ℕ) → is_ascii_digit c ≡ false → text_start (c ∷ cs) ≡ c ∷ text_start cs
text_start-cons c cs other = rw (other, one-add) refl

-- what is above nothing is above `A` and so many tildes, where it begins with no digit and has no more bytes
letter_below : (n : ℕ) (s : List ℕ) → Halts is_ascii_digit s → part_cmp [] s ≡ Less → length s ≤ n → part_cmp (letter_and n) s ≡ Less
letter_below n [] halts less size = absurd (let e = part_cmp-empty in cc)
letter_below n (c ∷ cs) halts less size = part_cmp-turn (letter_and n) (c ∷ cs)
    ∙ then_less _ _ (ap₂ (λ (s t : List ℕ). weights_cmp (map weight_of s) (map weight_of t)) (letter_turn n).text start ∙ first)
  where
    start : text_start (c ∷ cs) ≡ c ∷ text_start cs
    start = text_start-cons c cs halts

    not_less : Greater ≡ Less → ⊥
    not_less e = cc

    above : ordering_then (weights_cmp [] (map weight_of (c ∷ text_start cs)))
        (ordering_then (nat_cmp (number_of []) (number_of (c ∷ cs))) (part_cmp (after_turn []) (after_turn (c ∷ cs)))) ≡ Less
    above = sym (ap (λ (s : List ℕ). ordering_then (weights_cmp [] (map weight_of s))
        (ordering_then (nat_cmp (number_of []) (number_of (c ∷ cs))) (part_cmp (after_turn []) (after_turn (c ∷ cs))))) start) ∙ sym (part_cmp-turn [] (c ∷ cs))
        ∙ less

    first : weights_cmp (map weight_of (letter_and n)) (map weight_of (c ∷ text_start cs)) ≡ Less
    first = elim (cases_Bool (c == 126)) [
      | inl same ↦ absurd (not_less (rw same at above))
      | inr other ↦ elim (cases_Bool (is_ascii_alphabetic c)) [
        | inl letter ↦ elim (letter_least c letter) [
          | inl a ↦ rw a (tildes_less n (text_start cs) (omega (arith, size, text_start-shorter cs)))
          | inr more ↦ rw (other, letter) (then_less _ _ more)
        ]
        | inr sign ↦ rw (other, sign) (then_less _ _ (by_sign c))
      ]
    ]
      where
        by_sign : (b : ℕ) → int_cmp (pos 65) (pos (b + 256)) ≡ Less
        by_sign b = grind (arith, nat_tests)

-- ---- a revision and what is put behind it

abbrev pub extended : List ℕ → ℕ → List ℕ
extended revision tildes = revision ++ extension revision tildes

extension-digit : (revision : List ℕ) (n : ℕ) → ends_in_digit revision ≡ true → extension revision n ≡ letter_and n
extension-digit revision n e = rw e refl

extension-other : (revision : List ℕ) (n : ℕ) → ends_in_digit revision ≡ false → extension revision n ≡ 48 ∷ letter_and n
extension-other revision n e = rw e refl

extension-same : (a b : List ℕ) (n : ℕ) → ends_in_digit a ≡ ends_in_digit b → extension a n ≡ extension b n
extension-same a b n e = rw e refl

-- Extended, a part has the turns that it had, up to its last; then come the extended rest, or `A` and the tildes where nothing is left.
pub record ExtendedTurn (part : List ℕ) (n : ℕ) : Type 0 where
  pub text : text_start (extended part n) ≡ text_start part
  pub number : number_of (extended part n) ≡ number_of part
  pub rest : ((0 < length (after_turn part)) × (after_turn (extended part n) ≡ extended (after_turn part) n))
      ⊎ ((after_turn part ≡ []) × (after_turn (extended part n) ≡ letter_and n))

some_halts : (test : ℕ → Bool) (x : ℕ) (xs ys : List ℕ) → Halts test (x ∷ xs) → Halts test ((x ∷ xs) ++ ys)
some_halts test x xs ys h = h

-- the digits begin where the text ends, whatever follows them
digits_halt : (d x y : List ℕ) → Halts other_byte (d ++ x) → 0 < length (d ++ x) → Halts other_byte (d ++ (x ++ y))
digits_halt [] [] y h some = absurd (omega (arith, some))
digits_halt [] (b ∷ x) y h some = h
digits_halt (b ∷ d) x y h some = h

pub digit_other : (b : ℕ) → is_ascii_digit b ≡ true → other_byte b ≡ false
digit_other b h = rw h refl

extended_turn-at : (n : ℕ) (part t d x : List ℕ) → part ≡ t ++ (d ++ x) → text_start part ≡ t → digit_start (after_text part) ≡ d → after_turn part ≡ x
    → list_all other_byte t ≡ true → list_all is_ascii_digit d ≡ true → Halts other_byte (d ++ x) → Halts is_ascii_digit x → ExtendedTurn part n
extended_turn-at n part t [] [] whole text digits rest texts all stop halt =
    let same : part ≡ t = whole ∙ append-nil t in
    let ext : extended part n ≡ t ++ ((48 ∷ []) ++ letter_and n) = ap₂ ◌++◌ same (extension-other part n (ap ends_in_digit same ∙ ends-texts t texts)) in
    let turn = turned t (48 ∷ []) (letter_and n) texts refl refl refl in
    record {
      text = ap text_start ext ∙ turn.text ∙ sym text;
      number = ap number_of ext ∙ ap (digits_value 10) turn.digits ∙ sym (ap (digits_value 10) digits);
      rest = inr (rest, ap after_turn ext ∙ turn.rest);
    }
extended_turn-at n part t [] (b ∷ x) whole text digits rest texts all stop halt = absurd (true≢false (sym (ap not halt) ∙ stop))
extended_turn-at n part t (b ∷ d) [] whole text digits rest texts all stop halt =
    let same : part ≡ t ++ (b ∷ d) = whole ∙ ap (λ (s : List ℕ). t ++ s) (append-nil (b ∷ d)) in
    let ends : ends_in_digit part ≡ true = ap ends_in_digit same ∙ ends-append t b d ∙ ends-digits b d all in
    let ext : extended part n ≡ t ++ ((b ∷ d) ++ letter_and n) = ap₂ ◌++◌ same (extension-digit part n ends) ∙ append_assoc t (b ∷ d) (letter_and n) in
    let turn = turned t (b ∷ d) (letter_and n) texts all stop refl in
    record {
      text = ap text_start ext ∙ turn.text ∙ sym text;
      number = ap number_of ext ∙ ap (digits_value 10) turn.digits ∙ sym (ap (digits_value 10) digits);
      rest = inr (rest, ap after_turn ext ∙ turn.rest);
    }
extended_turn-at n part t (b ∷ d) (c ∷ x) whole text digits rest texts all stop halt =
    let front : List ℕ = t ++ (b ∷ d) in
    let same : part ≡ front ++ (c ∷ x) = whole ∙ sym (append_assoc t (b ∷ d) (c ∷ x)) in
    let more : extension part n ≡ extension (c ∷ x) n = extension-same part (c ∷ x) n (ap ends_in_digit same ∙ ends-append front c x) in
    let ext : extended part n ≡ t ++ ((b ∷ d) ++ extended (c ∷ x) n) = ap₂ ◌++◌ whole more ∙ append_assoc t ((b ∷ d) ++ (c ∷ x)) (extension (c ∷ x) n)
    ∙ ap (λ (s : List ℕ). t ++ s) (append_assoc (b ∷ d) (c ∷ x) (extension (c ∷ x) n)) in
    let turn = turned t (b ∷ d) (extended (c ∷ x) n) texts all stop halt in
    record {
      text = ap text_start ext ∙ turn.text ∙ sym text;
      number = ap number_of ext ∙ ap (digits_value 10) turn.digits ∙ sym (ap (digits_value 10) digits);
      rest = inl (omega (arith, ap length rest), ap after_turn ext ∙ turn.rest ∙ sym (ap (λ (s : List ℕ). extended s n) rest));
    }

pub extended_turn : (part : List ℕ) (n : ℕ) → ExtendedTurn part n
extended_turn part n =
    extended_turn-at n part (text_start part) (digit_start (after_text part)) (after_turn part) (parted part) refl refl refl
    (take_while-all other_byte part) (take_while-all is_ascii_digit (after_text part))
    (subst (Halts other_byte) (rest_parted part) (after_text-halts part)) (after_turn-halts part)
  where
    rest_parted : (part : List ℕ) → after_text part ≡ digit_start (after_text part) ++ after_turn part
    rest_parted part =
        let rest : List ℕ = after_text part in
        sym (ap (λ n. digit_start rest ++ drop n rest) (length-start is_ascii_digit rest) ∙ take-append-drop (prefix_len is_ascii_digit rest) rest)

-- where the last answer is less in place of another that is less, so is the whole
then_keeps : (o p q r : Ordering) → (q ≡ Less → r ≡ Less) → ordering_then o (ordering_then p q) ≡ Less → ordering_then o (ordering_then p r) ≡ Less
then_keeps Less p q r f h = refl
then_keeps Greater p q r f h = h
then_keeps Equal Less q r f h = refl
then_keeps Equal Greater q r f h = h
then_keeps Equal Equal q r f h = f h

above_step : (part : List ℕ) (n : ℕ) → (0 < length (after_turn part) → part_cmp (after_turn part) (extended (after_turn part) n) ≡ Less) → ExtendedTurn part n
    → part_cmp part (extended part n) ≡ Less
above_step part n further e = part_cmp-turn part (extended part n) ∙ rw (texts, numbers) (rests e.rest)
  where
    texts : weights_cmp (text_weights part) (text_weights (extended part n)) ≡ Equal
    texts = ap (λ (s : List ℕ). weights_cmp (text_weights part) (map weight_of s)) e.text ∙ tied_itself weights_total (text_weights part)

    numbers : nat_cmp (number_of part) (number_of (extended part n)) ≡ Equal
    numbers = nat_cmp-same (number_of part) (number_of (extended part n)) (sym e.number)

    rests : ((0 < length (after_turn part)) × (after_turn (extended part n) ≡ extended (after_turn part) n))
        ⊎ ((after_turn part ≡ []) × (after_turn (extended part n) ≡ letter_and n)) → part_cmp (after_turn part) (after_turn (extended part n)) ≡ Less
    rests (inr (none, rest)) = ap₂ part_cmp none rest ∙ letter_above_nothing n
    rests (inl (some, rest)) = ap (part_cmp (after_turn part)) rest ∙ further some

above_all : (m : ℕ) (part : List ℕ) (n : ℕ) → length part ≤ m → part_cmp part (extended part n) ≡ Less
above_all zero part n size = above_step part n (λ some. absurd (omega (arith, size, some, after_turn-shorter_by_one part))) (extended_turn part n)
above_all (suc m) part n size = above_step part n (λ some. above_all m (after_turn part) n (omega (arith, size, after_turn-shorter_by_one part)))
    (extended_turn part n)

-- an extended part is above the part
pub part_above : (part : List ℕ) (n : ℕ) → part_cmp part (extended part n) ≡ Less
part_above part n = above_all (length part) part n (omega arith)

below_step : (part other : List ℕ) (n : ℕ) → (0 < length (after_turn part) → part_cmp (after_turn part) (after_turn other) ≡ Less
    → length (after_turn other) ≤ n → part_cmp (extended (after_turn part) n) (after_turn other) ≡ Less)
    → ExtendedTurn part n → part_cmp part other ≡ Less → length other ≤ n → part_cmp (extended part n) other ≡ Less
below_step part other n further e less room =
    part_cmp-turn (extended part n) other
    ∙ ap₂ (λ (s : List ℕ) (k : ℕ). ordering_then (weights_cmp (map weight_of s) (text_weights other))
    (ordering_then (nat_cmp k (number_of other)) (part_cmp (after_turn (extended part n)) (after_turn other)))) e.text e.number
    ∙ then_keeps (weights_cmp (text_weights part) (text_weights other)) (nat_cmp (number_of part) (number_of other))
    (part_cmp (after_turn part) (after_turn other)) (part_cmp (after_turn (extended part n)) (after_turn other))
    (rests e.rest) (sym (part_cmp-turn part other) ∙ less)
  where
    shorter : length (after_turn other) ≤ n
    shorter = omega (arith, room, after_turn-shorter_by_one other)

    rests : ((0 < length (after_turn part)) × (after_turn (extended part n) ≡ extended (after_turn part) n))
        ⊎ ((after_turn part ≡ []) × (after_turn (extended part n) ≡ letter_and n)) → part_cmp (after_turn part) (after_turn other) ≡ Less
        → part_cmp (after_turn (extended part n)) (after_turn other) ≡ Less
    rests (inr (none, rest)) h =
        ap (λ (s : List ℕ). part_cmp s (after_turn other)) rest
        ∙ letter_below n (after_turn other) (after_turn-halts other) (ap (λ (s : List ℕ). part_cmp s (after_turn other)) (sym none) ∙ h) shorter
    rests (inl (some, rest)) h = ap (λ (s : List ℕ). part_cmp s (after_turn other)) rest ∙ further some h shorter

below_all : (m : ℕ) (part other : List ℕ) (n : ℕ) → length part ≤ m → part_cmp part other ≡ Less → length other ≤ n → part_cmp (extended part n) other ≡ Less
below_all zero part other n size less room = below_step part other n (λ some h k. absurd (omega (arith, size, some, after_turn-shorter_by_one part)))
    (extended_turn part n) less room
below_all (suc m) part other n size less room = below_step part other n
    (λ some h k. below_all m (after_turn part) (after_turn other) n (omega (arith, size, after_turn-shorter_by_one part)) h k) (extended_turn part n) less room

-- and below each part above it that has no more bytes than tildes were put
pub part_below : (part other : List ℕ) (n : ℕ) → part_cmp part other ≡ Less → length other ≤ n → part_cmp (extended part n) other ≡ Less
part_below part other n less room = below_all (length part) part other n (omega arith) less room

-- ---- the texts are versions

bytes-all : (revision : List ℕ) (n : ℕ) → list_all is_revision_byte revision ≡ true → list_all is_revision_byte (extended revision n) ≡ true
bytes-all revision n all = list_all-append is_revision_byte revision (extension revision n) ∙ and_from _ _ all (by_last (ends_in_digit revision) refl)
  where
    by_last : (b : Bool) → ends_in_digit revision ≡ b → list_all is_revision_byte (extension revision n) ≡ true
    by_last true e = rw e (tildes-all is_revision_byte n refl)
    by_last false e = rw e (tildes-all is_revision_byte n refl)

extension-some : (revision : List ℕ) (n : ℕ) → 0 < length (extension revision n)
extension-some revision n = by_last (ends_in_digit revision) refl
  where
    by_last : (b : Bool) → ends_in_digit revision ≡ b → 0 < length (extension revision n)
    by_last true e = rw e (omega arith)
    by_last false e = rw e (omega arith)

extended-made : (revision : List ℕ) (n : ℕ) → list_all is_revision_byte revision ≡ true → IsMadeOf is_revision_byte (extended revision n)
extended-made revision n all = (omega (arith, extension-some revision n, length-append revision (extension revision n)), bytes-all revision n all)

-- the revision, with its hyphen, and what is put behind it
extended_text : (revision : Option (List ℕ)) (n : ℕ) → revision_text revision ++ (missing_hyphen revision ++ extension (unwrap_or revision []) n)
    ≡ revision_text (Some (extended (unwrap_or revision []) n))
extended_text None n = refl
extended_text (Some revision) n = refl

revision-passes : (revision : Option (List ℕ)) → IfSome revision (IsMadeOf is_revision_byte) → list_all is_revision_byte (unwrap_or revision []) ≡ true
revision-passes None made = refl
revision-passes (Some r) made = made.1

abbrev pub above_parts : List ℕ → ℕ → Parts
above_parts text n = record { epoch = epoch_of text; upstream = upstream_of text; revision = Some (extended (unwrap_or (revision_of text) []) n) }

above_spells : (text : List ℕ) (n : ℕ) → fault_of text ≡ None → Spells (above_text text n) (above_parts text n)
unfolding above_text
above_spells text n sound =
    let s = spells_parts text sound in
    let r : Option (List ℕ) = revision_of text in
    let tail : List ℕ = missing_hyphen r ++ extension (unwrap_or r []) n in
    record {
      front = s.front;
      whole = ap (λ (w : List ℕ). w ++ tail) s.whole ∙ append_assoc (s.front ++ upstream_of text) (revision_text r) tail
          ∙ ap (λ (w : List ℕ). (s.front ++ upstream_of text) ++ w) (extended_text r n);
      epoch = s.epoch;
      small = s.small;
      upstream = s.upstream;
      revision = extended-made (unwrap_or r []) n (revision-passes r s.revision);
      written = s.written;
      revised = λ h. refl;
    }

pub above_sound : (text : List ℕ) (n : ℕ) → fault_of text ≡ None → fault_of (above_text text n) ≡ None
above_sound text n sound = no_fault_from_version (above_text text n) (above_parts text n, above_spells text n sound)

pub above_parts_are : (text : List ℕ) (n : ℕ) → fault_of text ≡ None → above_parts text n ≡ parts_of (above_text text n)
above_parts_are text n sound = one_version (above_text text n) (above_parts text n) (above_spells text n sound)

-- ---- where they stand

same_epochs : (a b : List ℕ) → epoch_of a ≡ epoch_of b → nat_cmp (epoch_of a) (epoch_of b) ≡ Equal
same_epochs a b e = nat_cmp-same (epoch_of a) (epoch_of b) e

part-itself : (a b : List ℕ) → a ≡ b → part_cmp a b ≡ Equal
part-itself a b e = ap (part_cmp a) (sym e) ∙ tied_itself part_total a

pub above : (text : List ℕ) (n : ℕ) → fault_of text ≡ None → IsBelow text (above_text text n)
above text n sound =
    let e = above_parts_are text n sound in
    let r : List ℕ = unwrap_or (revision_of text) [] in
    let revision : part_cmp r (unwrap_or (revision_of (above_text text n)) []) ≡ Less = ap (λ (p : Parts). part_cmp r (unwrap_or p.revision [])) (sym e)
    ∙ part_above r n in
    version_cmp-parts text (above_text text n) ∙ rw (
      same_epochs text (above_text text n) (ap (λ (p : Parts). p.epoch) e),
      part-itself (upstream_of text) (upstream_of (above_text text n)) (ap (λ (p : Parts). p.upstream) e),
    ) revision

length-revision : (other : List ℕ) → length (unwrap_or (revision_of other) []) ≤ length other
length-revision other = omega (arith, room other, revision_size (revision_of other))

pub below_greater : (text other : List ℕ) (n : ℕ) → fault_of text ≡ None → IsBelow text other → length other ≤ n → IsBelow (above_text text n) other
below_greater text other n sound less size =
    let e = above_parts_are text n sound in
    let r : List ℕ = unwrap_or (revision_of text) [] in
    let s : List ℕ = unwrap_or (revision_of other) [] in
    let order : Parts → Ordering = λ p. ordering_then (nat_cmp p.epoch (epoch_of other))
    (ordering_then (part_cmp p.upstream (upstream_of other)) (part_cmp (unwrap_or p.revision []) s)) in
    version_cmp-parts (above_text text n) other ∙ ap order (sym e)
    ∙ then_keeps (nat_cmp (epoch_of text) (epoch_of other)) (part_cmp (upstream_of text) (upstream_of other)) (part_cmp r s) (part_cmp (extended r n) s)
    (λ h. part_below r s n h (omega (arith, size, length-revision other))) (sym (version_cmp-parts text other) ∙ less)

-- ---- tildes alone

abbrev pub below_parts : List ℕ → Parts
below_parts text = record { epoch = 0; upstream = below_text text; revision = None }

lacks_colon : (n : ℕ) → has colon (replicate n tilde) ≡ false
lacks_colon zero = refl
lacks_colon (suc n) = lacks_colon n

lacks_hyphen : (n : ℕ) → has hyphen (replicate n tilde) ≡ false
lacks_hyphen zero = refl
lacks_hyphen (suc n) = lacks_hyphen n

below_spells : (text : List ℕ) → Spells (below_text text) (below_parts text)
below_spells text =
    let n : ℕ = length text + 1 in
    record {
      front = [];
      whole = sym (append-nil (below_text text));
      epoch = inr (refl, refl);
      small = omega arith;
      upstream = (omega (arith, length-replicate n tilde), tildes-all is_upstream_byte n refl);
      revision = tt;
      written = λ h. absurd (false≢true (sym (lacks_colon n) ∙ h));
      revised = λ h. absurd (false≢true (sym (lacks_hyphen n) ∙ h));
    }

pub below_sound : (text : List ℕ) → fault_of (below_text text) ≡ None
below_sound text = no_fault_from_version (below_text text) (below_parts text, below_spells text)

pub below_parts_are : (text : List ℕ) → below_parts text ≡ parts_of (below_text text)
below_parts_are text = one_version (below_text text) (below_parts text) (below_spells text)

length-upstream : (other : List ℕ) → length (upstream_of other) ≤ length other
length-upstream other = omega (arith, room other)

least_epoch : (n : ℕ) (o : Ordering) → o ≡ Less → ordering_then (nat_cmp 0 n) o ≡ Less
least_epoch zero o e = e
least_epoch (suc n) o e = then_less (nat_cmp 0 (suc n)) o (nat_cmp-less 0 (suc n) (omega arith))

pub below_is_below : (text : List ℕ) → IsBelow (below_text text) text
below_is_below text =
    let e = below_parts_are text in
    let order : Parts → Ordering = λ p. ordering_then (nat_cmp p.epoch (epoch_of text))
    (ordering_then (part_cmp p.upstream (upstream_of text)) (part_cmp (unwrap_or p.revision []) (unwrap_or (revision_of text) []))) in
    version_cmp-parts (below_text text) text ∙ ap order (sym e)
    ∙ least_epoch (epoch_of text) _ (then_less _ _ (tildes_part_less (length text + 1) (upstream_of text) (omega (arith, length-upstream text))))

-- ---- their places

pub below_keeps : (text below : List ℕ) (length_below : ℕ) → below ≡ below_text text → length_below ≡ length below → Keeps below 0 0 length_below
below_keeps text below n is size =
    let e = below_parts_are text in
    record {
      sound = ap fault_of is ∙ below_sound text;
      epoch = ap epoch_of is ∙ sym (ap (λ (p : Parts). p.epoch) e);
      ordered = omega arith;
      within = omega (arith, size);
      upstream = ap upstream_of is ∙ sym (ap (λ (p : Parts). p.upstream) e) ∙ sym is
          ∙ sym (ap (λ m. take m below) (let whole : n - 0 ≡ length below = omega (arith, size) in whole) ∙ take-length below);
      revision = ap revision_of is ∙ sym (ap (λ (p : Parts). p.revision) e)
          ∙ sym (ap (λ b. cond b (Some (drop (n + 1) below)) None) (le-ltb n (length below) (omega (arith, size))));
    }

some_none : {A : Type 0} (x : A) → Some x ≡ None → ⊥
some_none x e = cc

above_revision : (text tail : List ℕ) (end : ℕ) (r : Option (List ℕ)) (n : ℕ) → end ≤ length text → tail ≡ missing_hyphen r ++ extension (unwrap_or r []) n
    → r ≡ cond (nat_lt end (length text)) (Some (drop (end + 1) text)) None
    → Some (extended (unwrap_or r []) n) ≡ cond (nat_lt end (length (text ++ tail))) (Some (drop (end + 1) (text ++ tail))) None
above_revision text tail end None n within is e = elim (cases_Bool (nat_lt end (length text))) [
  | inl here ↦ absurd (some_none (drop (end + 1) text) (sym (e ∙ cond-true (nat_lt end (length text)) (Some (drop (end + 1) text)) None here)))
  | inr there ↦
      let all : end ≡ length text = omega (arith, within, ltb-false end (length text) there) in
      let before : List ℕ = text ++ hyphen ∷ [] in
      let cut : text ++ tail ≡ before ++ extension [] n = ap (λ (s : List ℕ). text ++ s) is ∙ sym (append_assoc text (hyphen ∷ []) (extension [] n)) in
      let size : length before ≡ end + 1 = omega (arith, all, length-append text (hyphen ∷ [])) in
      let after : drop (end + 1) (text ++ tail) ≡ extension [] n = ap (drop (end + 1)) cut ∙ drop_at before (extension [] n) (end + 1) size in
      sym (cond-true (nat_lt end (length (text ++ tail))) (Some (drop (end + 1) (text ++ tail))) None
      (lt-ltb end (length (text ++ tail)) (omega (arith, all, ap length cut, length-append before (extension [] n), size)))
      ∙ ap (λ (s : List ℕ). Some s) after)
]
above_revision text tail end (Some r) n within is e = elim (cases_Bool (nat_lt end (length text))) [
  | inr there ↦ absurd (some_none r (e ∙ cond-false (nat_lt end (length text)) (Some (drop (end + 1) text)) None there))
  | inl here ↦
      let inside : end < length text = ltb-true end (length text) here in
      let same : r ≡ drop (end + 1) text = let f = e ∙ cond-true (nat_lt end (length text)) (Some (drop (end + 1) text)) None here in cc in
      let after : drop (end + 1) (text ++ tail) ≡ r ++ tail = drop-append-le (end + 1) text tail (omega (arith, inside))
      ∙ ap (λ (s : List ℕ). s ++ tail) (sym same) in
      sym (cond-true (nat_lt end (length (text ++ tail))) (Some (drop (end + 1) (text ++ tail))) None
      (lt-ltb end (length (text ++ tail)) (omega (arith, inside, length-append text tail)))
      ∙ ap (λ (s : List ℕ). Some s) (after ∙ ap (λ (s : List ℕ). r ++ s) is))
]

slice_range-front : (text tail : List ℕ) (start end : ℕ) → start ≤ end → end ≤ length text → slice_range (text ++ tail) start end ≡ slice_range text start end
slice_range-front text tail start end ordered within =
    ap (take (end - start)) (drop-append-le start text tail (omega (arith, ordered, within)))
    ∙ take-append-le (end - start) (drop start text) tail (omega (arith, within, length-drop start text))

pub above_keeps : (text above : List ℕ) (n epoch start end : ℕ) → above ≡ above_text text n → Keeps text epoch start end → Keeps above epoch start end
unfolding above_text
above_keeps text above n epoch start end is k =
    let e = above_parts_are text n k.sound in
    let tail : List ℕ = missing_hyphen (revision_of text) ++ extension (unwrap_or (revision_of text) []) n in
    let size : length above ≡ length text + length tail = ap length is ∙ length-append text tail in
    record {
      sound = ap fault_of is ∙ above_sound text n k.sound;
      epoch = ap epoch_of is ∙ sym (ap (λ (p : Parts). p.epoch) e) ∙ k.epoch;
      ordered = k.ordered;
      within = omega (arith, size, k.within);
      upstream = ap upstream_of is ∙ sym (ap (λ (p : Parts). p.upstream) e) ∙ k.upstream
          ∙ sym (ap (λ (s : List ℕ). slice_range s start end) is ∙ slice_range-front text tail start end k.ordered k.within);
      revision = ap revision_of is ∙ sym (ap (λ (p : Parts). p.revision) e) ∙ above_revision text tail end (revision_of text) n k.within refl k.revision
          ∙ sym (ap (λ (s : List ℕ). cond (nat_lt end (length s)) (Some (drop (end + 1) s)) None) is);
    }

-- ---- what the code puts together

pub above_text-some : (text revision : List ℕ) (n : ℕ) → revision_of text ≡ Some revision → text ++ extension revision n ≡ above_text text n
unfolding above_text
above_text-some text revision n e = rw e refl

pub above_text-none : (text : List ℕ) (n : ℕ) → revision_of text ≡ None → (text ++ hyphen ∷ []) ++ extension [] n ≡ above_text text n
unfolding above_text
above_text-none text n e = rw e (append_assoc text (hyphen ∷ []) (extension [] n))

-- ---- a rebuild's suffix, by what the code finds of it

pub rebuilt-base : (text base suffix : List ℕ) → rsplit_once plus text ≡ Some (base, suffix) → is_rebuild suffix ≡ true → fault_of base ≡ None
    → without_rebuild_text text ≡ base
unfolding without_rebuild_text
rebuilt-base text base suffix cut rebuild sound = rw (cut, rebuild, sound) refl

pub rebuilt-fault : (text base suffix : List ℕ) (fault : VersionError) → rsplit_once plus text ≡ Some (base, suffix) → fault_of base ≡ Some fault
    → without_rebuild_text text ≡ text
unfolding without_rebuild_text
rebuilt-fault text base suffix fault cut bad = rw (cut, bad) (kept (is_rebuild suffix))
  where
    kept : (b : Bool) → cond (b && false) base text ≡ text
    kept true = refl
    kept false = refl

pub rebuilt-other : (text base suffix : List ℕ) → rsplit_once plus text ≡ Some (base, suffix) → is_rebuild suffix ≡ false → without_rebuild_text text ≡ text
unfolding without_rebuild_text
rebuilt-other text base suffix cut other = rw (cut, other) refl

pub rebuilt-none : (text : List ℕ) → rsplit_once plus text ≡ None → without_rebuild_text text ≡ text
unfolding without_rebuild_text
rebuilt-none text cut = rw cut refl

rebuild_passes : (digits : List ℕ) → IsMadeOf is_ascii_digit digits → is_rebuild (letter_b ∷ digits) ≡ true
rebuild_passes [] made = absurd (omega (arith, made.0))
rebuild_passes (d ∷ ds) made = made.1

-- a rebuild's suffix is taken off
pub rebuild_taken : (text base : List ℕ) → IsRebuildOf text base → without_rebuild_text text ≡ base
rebuild_taken text base r =
    rebuilt-base text base (letter_b ∷ r.digits)
    (ap (rsplit_once plus) r.whole ∙ rsplit_once-at plus base (letter_b ∷ r.digits) (lacks plus is_ascii_digit r.digits refl r.made.1))
    (rebuild_passes r.digits r.made) (no_fault_from_version base r.version)

rebuild_parts : (suffix : List ℕ) → is_rebuild suffix ≡ true → (digits : List ℕ) × (suffix ≡ letter_b ∷ digits) × IsMadeOf is_ascii_digit digits
rebuild_parts [] h = absurd (true≢false (sym h))
rebuild_parts (b ∷ []) h = absurd (true≢false (sym h))
rebuild_parts (b ∷ d ∷ ds) h =
    let p = and_parts (b == letter_b) (list_all is_ascii_digit (d ∷ ds)) h in (d ∷ ds, ap (λ x. x ∷ d ∷ ds) (eqb-true b letter_b p.0), (omega arith, p.1))

abbrev Untouched : List ℕ → Type 0
Untouched text = (without_rebuild_text text ≡ text) ⊎ IsRebuildOf text (without_rebuild_text text)

rebuild_of : (text base suffix : List ℕ) → rsplit_once plus text ≡ Some (base, suffix) → text ≡ base ++ plus ∷ suffix → is_rebuild suffix ≡ true
    → fault_of base ≡ None → IsRebuildOf text base
rebuild_of text base suffix cut whole rebuild sound =
    let r = rebuild_parts suffix rebuild in
    record { digits = r.0; whole = whole ∙ ap (λ (s : List ℕ). base ++ plus ∷ s) r.1; made = r.2; version = version_from_no_fault base sound }

untouched_by : (text base suffix : List ℕ) → rsplit_once plus text ≡ Some (base, suffix) → text ≡ base ++ plus ∷ suffix → (fault : Option VersionError)
    → fault_of base ≡ fault → (b : Bool) → is_rebuild suffix ≡ b → Untouched text
untouched_by text base suffix cut whole fault is false other = inl (rebuilt-other text base suffix cut other)
untouched_by text base suffix cut whole (Some fault) is true rebuild = inl (rebuilt-fault text base suffix fault cut is)
untouched_by text base suffix cut whole None is true rebuild =
    inr (subst (IsRebuildOf text) (sym (rebuilt-base text base suffix cut rebuild is)) (rebuild_of text base suffix cut whole rebuild is))

untouched_at : (text : List ℕ) (o : Option (List ℕ × List ℕ)) → rsplit_once plus text ≡ o → MatchOption o (has plus text ≡ false) (CutsLast plus text)
    → Untouched text
untouched_at text None cut found = inl (rebuilt-none text cut)
untouched_at text (Some s) cut found = untouched_by text s.0 s.1 cut found.0 (fault_of s.0) refl (is_rebuild s.1) refl

-- and nothing else is
pub rebuild_only : (text : List ℕ) → (without_rebuild_text text ≡ text) ⊎ IsRebuildOf text (without_rebuild_text text)
rebuild_only text = untouched_at text (rsplit_once plus text) refl (cases_rsplit plus text)
