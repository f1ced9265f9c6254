-- What a line is read as: a record of its letter and its loose words, or nothing.
use Rattle.std.proofs.Common.{◌≡◌, ℕ, zero, suc, ◌-◌, ◌≤◌, Bool, true, false, nat_eq, List, [], ◌∷◌, ◌++◌, All, length, get_or, take, drop, take_all, ap, sym}
use Rattle.std.proofs.Common.{subst, ◌∙◌, arith}
use Rattle.std.specs.Prelude.{if◌then◌else◌}
use Rattle.std.proofs.lemmas.List.Elements.{All-head, All-tail, All-cons, All-nil, All-append}
use Rattle.dist_cert.specs.declared.records.CertRecord.{CertRecord}
use Rattle.dist_cert.specs.Form.{Word, plain, plains, pair_words, separator, letter, words, words_text, record_text, KeepsRules, IsSmall, HasForm}
use Rattle.dist_cert.specs.DecodedPrivate.{before, after, numbers, pairs, first, rest, decoded}
use Rattle.dist_cert.specs.LooseWords.{with_digit, with_byte, words_from, loose_words}
use Rattle.dist_cert.proofs.OneForm.{heads, tails, not_empty, decoded_of}
use Rattle.dist_cert.proofs.LooseLemmas.{words_read}

abbrev pub AreSmall : List Word → Type 0
AreSmall words = All (λ w. IsSmall w.0) words

-- ---- loose words are small

small_cons : (w : Word) (ws : List Word) → IsSmall w.0 → AreSmall ws → AreSmall (w ∷ ws)
small_cons w ws here there = All-cons (λ v. IsSmall v.0) w ws here there

small_head : (w : Word) (ws : List Word) → AreSmall (w ∷ ws) → IsSmall w.0
small_head w ws small = All-head (λ v. IsSmall v.0) w ws small

small_tail : (w : Word) (ws : List Word) → AreSmall (w ∷ ws) → AreSmall ws
small_tail w ws small = All-tail (λ v. IsSmall v.0) w ws small

small_append : (vs ws : List Word) → AreSmall vs → AreSmall ws → AreSmall (vs ++ ws)
small_append vs ws some more = All-append (λ v. IsSmall v.0) vs ws some more

small_byte : (w : Word) (byte : ℕ) → IsSmall w.0 → IsSmall (with_byte w byte).0
small_byte w byte small = elim (nat_eq byte 45) as (λ b. let byte_more : Word = if b then (w.0, false) else (with_digit w.0 byte, w.1) in IsSmall byte_more.0)
    [ true ↦ small | false ↦ omega arith ]

small_from : (w : Word) (bytes : List ℕ) → IsSmall w.0 → AreSmall (words_from w bytes)
small_from w [] small = small_cons w [] small (All-nil (λ v. IsSmall v.0))
small_from w (byte ∷ bytes) small =
    elim (nat_eq byte 32) as (λ b. AreSmall (if b then (w ∷ words_from (0, true) bytes) else (words_from (with_byte w byte) bytes))) [
      | true ↦ small_cons w (words_from (0, true) bytes) small (small_from (0, true) bytes (omega arith))
      | false ↦ small_from (with_byte w byte) bytes (small_byte w byte small)
    ]

pub small_words : (bytes : List ℕ) → AreSmall (loose_words bytes)
small_words [] = All-nil (λ v. IsSmall v.0)
small_words (byte ∷ bytes) = small_from (0, true) bytes (omega arith)

-- ---- the words of a decoded record are small

small_before : (ws : List Word) → AreSmall ws → AreSmall (before ws)
small_before [] small = small
small_before ((zero, s) ∷ ws) small = All-nil (λ v. IsSmall v.0)
small_before ((suc n, s) ∷ ws) small = small_cons (suc n, s) (before ws) (small_head (suc n, s) ws small) (small_before ws (small_tail (suc n, s) ws small))

small_after : (ws : List Word) → AreSmall ws → AreSmall (after ws)
small_after [] small = small
small_after ((zero, s) ∷ ws) small = small_tail (zero, s) ws small
small_after ((suc n, s) ∷ ws) small = small_after ws (small_tail (suc n, s) ws small)

small_numbers : (ws : List Word) → AreSmall ws → AreSmall (plains (numbers ws))
small_numbers [] small = small
small_numbers (w ∷ ws) small = small_cons (plain w.0) (plains (numbers ws)) (small_head w ws small) (small_numbers ws (small_tail w ws small))

small_pairs : (ws : List Word) → AreSmall ws → AreSmall (pair_words (pairs ws))
small_pairs [] small = small
small_pairs (v ∷ []) small = All-nil (λ v. IsSmall v.0)
small_pairs (v ∷ w ∷ ws) small =
    let behind = small_tail v (w ∷ ws) small in
    small_cons (plain v.0) (plain w.0 ∷ pair_words (pairs ws)) (small_head v (w ∷ ws) small)
    (small_cons (plain w.0) (pair_words (pairs ws)) (small_head w ws behind) (small_pairs ws (small_tail w ws behind)))

small_first : (ws : List Word) → AreSmall ws → IsSmall (first ws)
small_first [] small = omega arith
small_first (w ∷ ws) small = small_head w ws small

small_rest : (ws : List Word) → AreSmall ws → AreSmall (rest ws)
small_rest [] small = small
small_rest (w ∷ ws) small = small_tail w ws small

separated : (vs ws : List Word) → AreSmall vs → AreSmall ws → AreSmall (vs ++ (separator ∷ ws))
separated vs ws some more = small_append vs (separator ∷ ws) some (small_cons separator ws (omega arith) more)

abbrev HasSmall : CertRecord → Type 0
HasSmall step = AreSmall (words step)

either : (b : Bool) (x y : CertRecord) → HasSmall x → HasSmall y → HasSmall (if b then x else y)
either true x y one other = one
either false x y one other = other

one_small : (n : ℕ) → IsSmall n → AreSmall (plain n ∷ [])
one_small n small = small_cons (plain n) [] small (All-nil (λ v. IsSmall v.0))

small_decoded : (c : ℕ) (ws : List Word) → AreSmall ws → HasSmall (decoded c ws)
small_decoded c ws small =
    let claimed : IsSmall (first ws) = small_first ws small in
    let alone : AreSmall (plain (first ws) ∷ []) = one_small (first ws) claimed in
    let behind : AreSmall (rest ws) = small_rest ws small in
    let named : AreSmall (plains (numbers (before (rest ws)))) = small_numbers (before (rest ws)) (small_before (rest ws) behind) in
    let lists : AreSmall (after (rest ws)) = small_after (rest ws) behind in
    let last : AreSmall (before (after (after (rest ws)))) = small_before _ (small_after _ lists) in
    let none : AreSmall [] = All-nil (λ v. IsSmall v.0) in
    either (nat_eq c 113) _ _ (small_before ws small) (
    either (nat_eq c 100) _ _ (separated (before ws) (plains (numbers (before (after ws)))) (small_before ws small)
    (small_numbers (before (after ws)) (small_before (after ws) (small_after ws small)))) (
    either (nat_eq c 102) _ _ (small_numbers (before ws) (small_before ws small)) (
    either (nat_eq c 109) _ _ (small_numbers (before ws) (small_before ws small)) (
    either (nat_eq c 117) _ _ none (
    either (nat_eq c 120) _ _ alone (
    either (nat_eq c 121) _ _ alone (
    either (nat_eq c 115) _ _ (small_cons (plain (first ws)) _ claimed (separated _ _ named
    (separated _ _ (small_numbers _ (small_before _ lists)) (small_numbers _ last)))) (
    either (nat_eq c 111) _ _ alone (
    either (nat_eq c 97) _ _ (small_cons (plain (first ws)) (plain (first (rest ws)) ∷ []) claimed (one_small (first (rest ws)) (small_first (rest ws) behind)))
    (
    either (nat_eq c 99) _ _ (small_cons (plain (first ws)) _ claimed (separated _ _ named
    (separated _ _ (small_pairs _ (small_before _ lists)) (small_pairs _ last)))) none))))))))))

-- ---- what a line is read as

pub line_parts : (line : List ℕ) → 1 ≤ length line → line ≡ get_or line 0 0 ∷ take (length line - 1) (drop 1 line)
line_parts [] some = absurd (omega (arith, some))
line_parts (c ∷ text) some = ap (λ t. c ∷ t) (sym (take_all (length (c ∷ text) - 1) text (omega arith)))

-- a record that keeps the rules and whose text is the line
pub has_form : (line : List ℕ) (c : ℕ) (text : List ℕ) (step : CertRecord) → step ≡ decoded c (loose_words text) → KeepsRules step × (record_text step ≡ line)
    → HasForm line step
has_form line c text step is kept = record {
  text = sym kept.1;
  rules = kept.0;
  numbers = subst HasSmall (sym is) (small_decoded c (loose_words text) (small_words text));
}

-- a line has no form but that of the record of its letter and its loose words
pub no_form : (line : List ℕ) (c : ℕ) (text : List ℕ) (step : CertRecord) → line ≡ c ∷ text → step ≡ decoded c (loose_words text)
    → ¬ (KeepsRules step × (record_text step ≡ line))
    → (other : CertRecord) → ¬ HasForm line other
no_form line c text step parts is not_kept other form =
    let e : c ∷ text ≡ letter other ∷ words_text (words other) = sym parts ∙ form.text in
    let l : c ≡ letter other = heads c (letter other) text (words_text (words other)) e in
    let t : text ≡ words_text (words other) = tails c (letter other) text (words_text (words other)) e in
    let same : step ≡ other = is ∙ ((λ i. decoded (l i) (loose_words (t i)))
    ∙ (ap (decoded (letter other)) (words_read (words other) form.numbers) ∙ decoded_of other form.rules)) in
    not_kept (subst KeepsRules (sym same) form.rules, ap record_text same ∙ sym form.text)

pub no_text : (other : CertRecord) → ¬ HasForm [] other
no_text other form = not_empty (letter other) (words_text (words other)) form.text
