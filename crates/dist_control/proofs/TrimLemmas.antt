-- White space at both ends of a text, by the places of the bytes that are not white.
use Rattle.std.proofs.Common.{◌≡◌, ℕ, zero, suc, ◌+◌, ◌-◌, ◌<◌, ◌≤◌, true, false, not, ◌||◌, cond, eqb, List, [], ◌∷◌, ◌++◌, length, get_or, take, drop}
use Rattle.std.proofs.Common.{reverse, refl, sym, ap, ◌∙◌, arith, length-append}
use Rattle.std.proofs.lemmas.Bool.{cond-true, cond-false, not-true}
use Rattle.std.proofs.lemmas.List.{get_or-reverse, get_or-take, reverse-append, reverse-reverse, length-reverse, length-drop, length-take-le, take-append-drop}
use Rattle.std.proofs.lemmas.List.{get_or_append_left, get_or_push, drop_at}
use Rattle.std.proofs.Math.Seq.{take-append_seam}
use Rattle.dist_base.specs.Ascii.{is_white}
use Rattle.bstr.specs.Bytes.{is_in, not_in}
use Rattle.dist_control.specs.Fields.{trim_start, trim}

-- the set that the searches are given
in_white : (byte : ℕ) → is_in (32 ∷ 9 ∷ 10 ∷ []) byte ≡ is_white byte
unfolding is_in
in_white byte =
    elim (eqb byte 32) as (λ a. (a || (eqb byte 9 || (eqb byte 10 || false))) ≡ ((a || eqb byte 9) || eqb byte 10)) [
      | true ↦ refl
      | false ↦ elim (eqb byte 9) as (λ b. (b || (eqb byte 10 || false)) ≡ (b || eqb byte 10)) [
        | true ↦ refl
        | false ↦ elim (eqb byte 10) as (λ c. (c || false) ≡ c) [ true ↦ refl | false ↦ refl ]
      ]
    ]

pub not_white : (byte : ℕ) → not_in (32 ∷ 9 ∷ 10 ∷ []) byte ≡ true → is_white byte ≡ false
not_white byte is = sym (in_white byte) ∙ not-true _ is

pub white : (byte : ℕ) → ¬ (not_in (32 ∷ 9 ∷ 10 ∷ []) byte ≡ true) → is_white byte ≡ true
white byte is =
    sym (in_white byte) ∙ (elim (is_in (32 ∷ 9 ∷ 10 ∷ []) byte) as (λ b. ¬ (not b ≡ true) → b ≡ true) [
      | true ↦ λ _. refl
      | false ↦ λ none. absurd (none refl)
    ] is)

-- white space in front is passed over
pub trim_start-drop : (text : List ℕ) (k : ℕ) → k ≤ length text → ((j : ℕ) → j < k → is_white (get_or text j 0) ≡ true) →
    trim_start text ≡ trim_start (drop k text)
trim_start-drop text zero fits all = refl
trim_start-drop [] (suc k) fits all = absurd (omega arith)
trim_start-drop (byte ∷ text) (suc k) fits all =
    cond-true (is_white byte) _ _ (all 0 (omega arith))
    ∙ trim_start-drop text k (omega arith) (λ j h. all (suc j) (omega arith))

pub trim_start-stops : (text : List ℕ) → 0 < length text → is_white (get_or text 0 0) ≡ false → trim_start text ≡ text
trim_start-stops [] some first = absurd (omega arith)
trim_start-stops (byte ∷ text) some first = cond-false (is_white byte) _ _ first

pub trim_start-at : (text : List ℕ) (k : ℕ) → k < length text → ((j : ℕ) → j < k → is_white (get_or text j 0) ≡ true) →
    is_white (get_or text k 0) ≡ false → trim_start text ≡ drop k text
trim_start-at [] k fits all first = absurd (omega arith)
trim_start-at (byte ∷ text) zero fits all first = cond-false (is_white byte) _ _ first
trim_start-at (byte ∷ text) (suc k) fits all first =
    cond-true (is_white byte) _ _ (all 0 (omega arith))
    ∙ trim_start-at text k (omega arith) (λ j h. all (suc j) (omega arith)) first

pub trim_start-all : (text : List ℕ) → ((j : ℕ) → j < length text → is_white (get_or text j 0) ≡ true) → trim_start text ≡ []
trim_start-all [] all = refl
trim_start-all (byte ∷ text) all = cond-true (is_white byte) _ _ (all 0 (omega arith)) ∙ trim_start-all text (λ j h. all (suc j) (omega arith))

drop-reverse : (text : List ℕ) (k : ℕ) → k ≤ length text → drop (length text - k) (reverse text) ≡ reverse (take k text)
drop-reverse text k fits =
    ap (λ (t : List ℕ). drop (length text - k) (reverse t)) (sym (take-append-drop k text))
    ∙ ap (λ (t : List ℕ). drop (length text - k) t) (reverse-append (take k text) (drop k text))
    ∙ drop_at (reverse (drop k text)) (reverse (take k text)) (length text - k) (length-reverse (drop k text) ∙ length-drop k text)

-- after the last byte that is not white, white space is cut off
pub trim_end-at : (text : List ℕ) (k : ℕ) → k < length text → ((j : ℕ) → k < j → j < length text → is_white (get_or text j 0) ≡ true) →
    is_white (get_or text k 0) ≡ false → reverse (trim_start (reverse text)) ≡ take (k + 1) text
trim_end-at text k fits all last =
    let n = length text - (k + 1) in
    let front = take (k + 1) text in
    let long : length front ≡ k + 1 = length-take-le (k + 1) text (omega arith) in
    let all_back : (j : ℕ) → j < n → is_white (get_or (reverse text) j 0) ≡ true = λ j h.
    ap is_white (get_or-reverse text j 0 (omega arith)) ∙ all (length text - 1 - j) (omega arith) (omega arith) in
    let skipped : trim_start (reverse text) ≡ trim_start (reverse front) =
    trim_start-drop (reverse text) n (omega (arith, length-reverse text)) all_back
    ∙ ap trim_start (drop-reverse text (k + 1) (omega arith)) in
    let first : get_or (reverse front) 0 0 ≡ get_or text k 0 =
    get_or-reverse front 0 0 (omega arith)
    ∙ ap (λ i. get_or front i 0) (let e : length front - 1 - 0 ≡ k = omega arith in e)
    ∙ get_or-take (k + 1) text k 0 (omega arith) in
    let stopped : trim_start (reverse front) ≡ reverse front =
    trim_start-stops (reverse front) (omega (arith, length-reverse front)) (ap is_white first ∙ last) in
    ap reverse (skipped ∙ stopped) ∙ reverse-reverse front

-- white space after a text makes no difference
pub trim-end : (text : List ℕ) (byte : ℕ) → is_white byte ≡ true → trim (text ++ byte ∷ []) ≡ trim text
trim-end [] byte is = ap (λ (t : List ℕ). reverse (trim_start (reverse t))) (cond-true (is_white byte) [] (byte ∷ []) is)
trim-end (first ∷ text) byte is =
    elim (is_white first) as (λ b. reverse (trim_start (reverse (cond b (trim_start (text ++ byte ∷ [])) (first ∷ text ++ byte ∷ []))))
    ≡ reverse (trim_start (reverse (cond b (trim_start text) (first ∷ text))))) [
      | true ↦ trim-end text byte is
      | false ↦ ap reverse (ap trim_start (reverse-append (first ∷ text) (byte ∷ []))
          ∙ cond-true (is_white byte) (trim_start (reverse (first ∷ text))) (byte ∷ reverse (first ∷ text)) is)
    ]

-- of a text that neither begins nor ends with white space, a space in front and a line feed behind are what is cut
pub trim-between : (text : List ℕ) → 0 < length text → is_white (get_or text 0 0) ≡ false → is_white (get_or text (length text - 1) 0) ≡ false →
    trim (32 ∷ (text ++ 10 ∷ [])) ≡ text
trim-between text some first last =
    let whole = text ++ 10 ∷ [] in
    let long : length whole ≡ length text + 1 = length-append text (10 ∷ []) in
    let in_front : (k : ℕ) → k < length text → get_or whole k 0 ≡ get_or text k 0 = λ k h. get_or_append_left text (10 ∷ []) 0 k h in
    let behind : (j : ℕ) → length text - 1 < j → j < length whole → is_white (get_or whole j 0) ≡ true = λ j above within.
    ap is_white (get_or_push text 10 0 j (omega arith)) in
    ap (λ (t : List ℕ). reverse (trim_start (reverse t))) (trim_start-stops whole (omega arith) (ap is_white (in_front 0 some) ∙ first))
    ∙ trim_end-at whole (length text - 1) (omega arith) behind (ap is_white (in_front (length text - 1) (omega arith)) ∙ last)
    ∙ ap (λ n. take n whole) (let e : length text - 1 + 1 ≡ length text = omega arith in e)
    ∙ take-append_seam text (10 ∷ [])
