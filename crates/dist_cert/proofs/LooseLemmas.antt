-- The text of words is read as these words.
use Rattle.std.proofs.Common.{◌≡◌, ℕ, ◌+◌, ◌*◌, ◌/◌, ◌%◌, ◌^◌, ◌<◌, ◌≤◌, Bool, true, false, List, [], ◌∷◌, ◌++◌, All, nat_eq, decimal, refl, ap, ◌∙◌, arith}
use Rattle.std.proofs.Common.{append_assoc}
use Rattle.std.specs.Prelude.{if◌then◌else◌}
use Rattle.std.proofs.lemmas.Bool.{ne_eqb}
use Rattle.std.proofs.lemmas.List.Elements.{All-head, All-tail}
use Rattle.std.proofs.lemmas.Fmt.{decimal_by_steps}
use Rattle.dist_cert.specs.Form.{Word, signed_text, words_text, IsSmall}
use Rattle.dist_cert.specs.LooseWords.{with_digit, with_byte, words_from, loose_words}

-- ---- one byte more

digit_more : (n d : ℕ) → d < 10 → n * 10 + d < 2 ^ 32 → with_digit n (48 + d) ≡ n * 10 + d
digit_more n d low small = omega arith

digit_read : (n d : ℕ) (s : Bool) (bytes : List ℕ) → d < 10 → n * 10 + d < 2 ^ 32 → words_from (n, s) ((48 + d) ∷ bytes) ≡ words_from (n * 10 + d, s) bytes
digit_read n d s bytes low small =
    let space : nat_eq (48 + d) 32 ≡ false = ne_eqb (48 + d) 32 (λ e. omega arith) in
    let sign : nat_eq (48 + d) 45 ≡ false = ne_eqb (48 + d) 45 (λ e. omega arith) in
    ap (λ b. if b then ((n, s) ∷ words_from (0, true) bytes) else (words_from (with_byte (n, s) (48 + d)) bytes)) space
    ∙ ap (λ b. words_from (if b then (n, false) else (with_digit n (48 + d), s)) bytes) sign
    ∙ ap (λ m. words_from (m, s) bytes) (digit_more n d low small)

-- ---- a number, a word, words

abbrev Reads : ℕ → List ℕ → Type 0
Reads n digits = n < 2 ^ 32 → (s : Bool) (bytes : List ℕ) → words_from (0, s) (digits ++ bytes) ≡ words_from (n, s) bytes

one_digit : (n : ℕ) → n < 10 → Reads n ((48 + n) ∷ [])
one_digit n low small s bytes = digit_read 0 n s bytes low (omega arith) ∙ ap (λ m. words_from (m, s) bytes) (omega arith)

more_digits : (n : ℕ) (digits : List ℕ) → 10 ≤ n → Reads (n / 10) digits → Reads n (digits ++ ((48 + n % 10) ∷ []))
more_digits n digits high before small s bytes =
    let split : n / 10 * 10 + n % 10 ≡ n = omega arith in
    ap (words_from (0, s)) (append_assoc digits ((48 + n % 10) ∷ []) bytes)
    ∙ before (omega arith) s ((48 + n % 10) ∷ bytes)
    ∙ digit_read (n / 10) (n % 10) s bytes (omega arith) (omega arith)
    ∙ ap (λ m. words_from (m, s) bytes) split

number_read : (n : ℕ) → IsSmall n → (s : Bool) (bytes : List ℕ) → words_from (0, s) (decimal n ++ bytes) ≡ words_from (n, s) bytes
number_read n small = decimal_by_steps Reads one_digit more_digits n (omega arith) small

word_read : (n : ℕ) (s : Bool) → IsSmall n → (bytes : List ℕ) → words_from (0, true) (signed_text n s ++ bytes) ≡ words_from (n, s) bytes
word_read n true small bytes = number_read n small true bytes
word_read n false small bytes = number_read n small false bytes

all_read : (w : Word) (ws : List Word) → All (λ v. IsSmall v.0) ws → words_from w (words_text ws) ≡ w ∷ ws
all_read w [] small = refl
all_read w (v ∷ ws) small = ap (λ l. w ∷ l)
    (word_read v.0 v.1 (All-head (λ x. IsSmall x.0) v ws small) (words_text ws) ∙ all_read v ws (All-tail (λ x. IsSmall x.0) v ws small))

pub words_read : (ws : List Word) → All (λ v. IsSmall v.0) ws → loose_words (words_text ws) ≡ ws
words_read [] small = refl
words_read (w ∷ ws) small =
    word_read w.0 w.1 (All-head (λ x. IsSmall x.0) w ws small) (words_text ws) ∙ all_read w ws (All-tail (λ x. IsSmall x.0) w ws small)
