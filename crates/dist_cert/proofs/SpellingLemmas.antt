-- What is left of a text behind some words, one after another.
use Rattle.std.proofs.Common.{◌≡◌, ℕ, ◌-◌, ◌≤◌, Bool, true, false, List, [], ◌∷◌, ◌++◌, length, get_or, take, take_all, drop, decimal, Option, None, Some, refl}
use Rattle.std.proofs.Common.{sym, ap}
use Rattle.std.proofs.Common.{subst, ◌∙◌, append-nil, append_assoc, arith}
use Rattle.std.proofs.lemmas.List.Concat.{flat_map-append}
use Rattle.dist_cert.specs.Form.{Word, pair_words, plain, plains, signed_text, word_text, words_text}
use Rattle.dist_cert.specs.declared.spelling.Part.{Part}
use Rattle.std.specs.Borrow.{Bor}
use Rattle.std.proofs.lemmas.List.{append_cancel_left}
use Rattle.dist_cert.proofs.OneForm.{tails}
use Rattle.dist_cert.specs.SpellingPrivate.{Leaves, part_words, parts_words, sign_text}

-- one front behind another
pub leaves-both : (text one other : List ℕ) (middle : Bor (List ℕ)) (result : Option (Bor (List ℕ))) → Leaves text one (Some middle)
    → Leaves middle.now other result → Leaves text (one ++ other) result
leaves-both text one other middle None first none =
    λ rest e. none rest (append_cancel_left one middle.now (other ++ rest) (sym first ∙ e ∙ append_assoc one other rest))
leaves-both text one other middle (Some rest) first is = first ∙ ap (λ l. one ++ l) is ∙ sym (append_assoc one other rest.now)

-- no text begins with more than it begins with
pub leaves-none : (text one other : List ℕ) → Leaves text one None → Leaves text (one ++ other) None
leaves-none text one other none = λ rest e. none (other ++ rest) (e ∙ append_assoc one other rest)

-- A front of the text was passed that is a front of all: what is behind it in the text, and what is left of all.
pub record IsPassed (text all rest left : List ℕ) : Type 0 where
  pub front : List ℕ
  pub text_is : text ≡ front ++ rest
  pub all_is : all ≡ front ++ left

pub passed-none : (text all : List ℕ) → IsPassed text all text all
passed-none text all = record { front = []; text_is = refl; all_is = refl }

pub passed-more : (text all rest word left : List ℕ) (behind : Bor (List ℕ)) → IsPassed text all rest (word ++ left) → Leaves rest word (Some behind)
    → IsPassed text all behind.now left
passed-more text all rest word left behind passed is = record {
  front = passed.front ++ word;
  text_is = passed.text_is ∙ ap (λ l. passed.front ++ l) is ∙ sym (append_assoc passed.front word behind.now);
  all_is = passed.all_is ∙ sym (append_assoc passed.front word left);
}

-- where a word is not there, the text does not begin with all
pub passed-never : (text all rest word left : List ℕ) → IsPassed text all rest (word ++ left) → Leaves rest word None → Leaves text all None
passed-never text all rest word left passed none = λ other e.
    none (left ++ other) (append_cancel_left passed.front rest (word ++ (left ++ other))
    (sym passed.text_is ∙ e ∙ ap (λ l. l ++ other) passed.all_is ∙ append_assoc passed.front (word ++ left) other
    ∙ ap (λ l. passed.front ++ l) (append_assoc word left other)))

-- where nothing is left, all was passed
pub passed-all : (text all : List ℕ) (rest : Bor (List ℕ)) → IsPassed text all rest.now [] → Leaves text all (Some rest)
passed-all text all rest passed = passed.text_is ∙ ap (λ l. l ++ rest.now) (sym (append-nil passed.front) ∙ sym passed.all_is)

-- ---- lists of words

-- a list is its first element and the others
pub first-and : {X : Type 0} (xs : List X) (d : X) → 1 ≤ length xs → xs ≡ get_or xs 0 d ∷ take (length xs - 1) (drop 1 xs)
first-and [] d some = absurd (omega (arith, some))
first-and (x ∷ xs) d some = ap (λ l. x ∷ l) (sym (take_all (length (x ∷ xs) - 1) xs (omega arith)))

module _ {X : Type 0} (text_of : List X → List ℕ) (one : X → List ℕ) (adds : (x : X) (xs : List X) → text_of (x ∷ xs) ≡ one x ++ text_of xs)
    (text all rest : List ℕ) (left : List X) (d : X) (some : 1 ≤ length left) (passed : IsPassed text all rest (text_of left)) where
  passed-first : IsPassed text all rest (one (get_or left 0 d) ++ text_of (take (length left - 1) (drop 1 left)))
  passed-first = subst (IsPassed text all rest) (ap text_of (first-and left d some) ∙ adds _ _) passed

  pub first-more : (behind : Bor (List ℕ)) → Leaves rest (one (get_or left 0 d)) (Some behind)
      → IsPassed text all behind.now (text_of (take (length left - 1) (drop 1 left)))
  first-more behind is = passed-more text all rest (one (get_or left 0 d)) _ behind passed-first is

  pub first-never : Leaves rest (one (get_or left 0 d)) None → Leaves text all None
  first-never none = passed-never text all rest (one (get_or left 0 d)) _ passed-first none

abbrev pub word_behind : Word → List ℕ
word_behind word = 32 ∷ word_text word

pub words-add : (w : Word) (ws : List Word) → words_text (w ∷ ws) ≡ word_behind w ++ words_text ws
words-add w ws = refl

pub numbers-add : (n : ℕ) (ns : List ℕ) → words_text (plains (n ∷ ns)) ≡ word_behind (plain n) ++ words_text (plains ns)
numbers-add n ns = refl

abbrev pub pair_text : ℕ × ℕ → List ℕ
pair_text pair = words_text (pair_words (pair ∷ []))

pub pairs-add : (pair : ℕ × ℕ) (pairs : List (ℕ × ℕ)) → words_text (pair_words (pair ∷ pairs)) ≡ pair_text pair ++ words_text (pair_words pairs)
pairs-add pair pairs = flat_map-append word_behind (pair_words (pair ∷ [])) (pair_words pairs)

abbrev pub part_text : Part → List ℕ
part_text part = words_text (part_words part)

pub parts-add : (part : Part) (parts : List Part) → words_text (parts_words (part ∷ parts)) ≡ part_text part ++ words_text (parts_words parts)
parts-add part parts = flat_map-append word_behind (part_words part) (parts_words parts)

pub sign-and : (n : ℕ) (positive : Bool) → sign_text positive ++ decimal n ≡ 32 ∷ signed_text n positive
sign-and n true = refl
sign-and n false = refl

-- a line whose words don't begin with these is not of any letter and these
pub no-text-of : (line words : List ℕ) (letter : ℕ) → 1 ≤ length line → Leaves (take (length line - 1) (drop 1 line)) words None
    → ¬ (letter ∷ words ≡ line)
no-text-of line words letter some none is =
    let behind = take (length line - 1) (drop 1 line) in
    let same : words ≡ behind = tails letter (get_or line 0 0) words behind (is ∙ first-and line 0 some) in
    none [] (sym same ∙ sym (append-nil words))
