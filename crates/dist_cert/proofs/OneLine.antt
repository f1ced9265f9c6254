-- The text of a form is one line, without a line feed, and of one form alone.
use Rattle.std.proofs.Common.{◌≡◌, ◌≢◌, ◌==◌, ℕ, Bool, true, false, not, List, [], ◌∷◌, ◌++◌, codes, refl, ap, sym, ◌∙◌, arith}
use Rattle.std.specs.List.{All, list_all}
use Rattle.std.proofs.lemmas.Bool.{false≢true, and_parts}
use Rattle.std.proofs.lemmas.List.Elements.{All-head, All-tail, All-map, All-cons, All-nil, All-append}
use Rattle.dist_base.specs.Ascii.{line_feed}
use Rattle.dist_cert.specs.declared.records.CertKind.{CertKind}
use Rattle.dist_cert.specs.declared.records.CertKind.TheVariants as kinds
use Rattle.dist_cert.specs.declared.records.CertRecord.{CertRecord}
use Rattle.dist_cert.specs.declared.records.CertRecord.TheVariants.{Question, Derived, Refuted, Installation, Undecided, NotInstallable, Unknown, Strong}
use Rattle.dist_cert.specs.declared.records.CertRecord.TheVariants.{Outdated, Alive, Challenged, End}
use Rattle.dist_cert.specs.declared.records.Header.{Header}
use Rattle.dist_cert.specs.Form.{Word, IsSmall, signed_text, word_text, words_text, plain, plains, letter, words, record_text, HasForm, kind_text, mode_text}
use Rattle.dist_cert.specs.Form.{header_text, HasHeaderForm}
use Rattle.dist_cert.specs.FileLines.{IsOneLine}
use Rattle.dist_cert.specs.ClearFormsLaws.{FormsAreClear}
use Rattle.dist_cert.specs.FirstLines.{first_line}
use Rattle.dist_cert.specs.DecodedPrivate.{numbers}
use Rattle.dist_cert.proofs.OneForm.{Digits, digits_of_decimal, header_words_small, numbers_of_plains, one_record, one_header}
use Rattle.dist_cert.proofs.OneForm.{one_list_of_words, tails}

digits_line : (cs : List ℕ) → Digits cs → IsOneLine cs
digits_line [] all = All-nil (λ byte. byte ≢ line_feed)
digits_line (c ∷ cs) all = All-cons (λ byte. byte ≢ line_feed) c cs (λ e. omega (arith, all.0.0, e)) (digits_line cs all.1)

word_line : (n : ℕ) (positive : Bool) → IsSmall n → IsOneLine (signed_text n positive)
word_line n true small = digits_line _ (digits_of_decimal n (omega (arith, small)))
word_line n false small = All-cons (λ byte. byte ≢ line_feed) 45 _ (λ e. omega (arith, e)) (digits_line _ (digits_of_decimal n (omega (arith, small))))

words_line : (ws : List Word) → All (λ w. IsSmall w.0) ws → IsOneLine (words_text ws)
words_line [] all = All-nil (λ byte. byte ≢ line_feed)
words_line (w ∷ ws) all = All-append (λ byte. byte ≢ line_feed) (32 ∷ word_text w) (words_text ws)
    (All-cons (λ byte. byte ≢ line_feed) 32 (word_text w) (λ e. omega (arith, e)) (word_line w.0 w.1 (All-head (λ v. IsSmall v.0) w ws all)))
    (words_line ws (All-tail (λ v. IsSmall v.0) w ws all))

letter_other : (step : CertRecord) → letter step ≢ line_feed
letter_other (Question literals) e = omega (arith, e)
letter_other (Derived literals hints) e = omega (arith, e)
letter_other (Refuted hints) e = omega (arith, e)
letter_other (Installation variables) e = omega (arith, e)
letter_other Undecided e = omega (arith, e)
letter_other (NotInstallable p) e = omega (arith, e)
letter_other (Unknown p) e = omega (arith, e)
letter_other (Strong p installations on undecided) e = omega (arith, e)
letter_other (Outdated p) e = omega (arith, e)
letter_other (Alive p installation) e = omega (arith, e)
letter_other (Challenged p installations by undecided) e = omega (arith, e)
letter_other End e = omega (arith, e)

record_line : (step : CertRecord) → HasForm (record_text step) step → IsOneLine (record_text step)
record_line step form = All-cons (λ byte. byte ≢ line_feed) (letter step) (words_text (words step)) (letter_other step) (words_line (words step) form.numbers)

abbrev is_other : ℕ → Bool
is_other byte = not (byte == 10)

other_byte : (byte : ℕ) → is_other byte ≡ true → byte ≢ line_feed
other_byte byte h e = false≢true (ap is_other (sym e) ∙ h)

fixed_line : (bytes : List ℕ) → list_all is_other bytes ≡ true → IsOneLine bytes
fixed_line [] h = All-nil (λ byte. byte ≢ line_feed)
fixed_line (b ∷ bytes) h = let parts = and_parts (is_other b) (list_all is_other bytes) h in
    All-cons (λ byte. byte ≢ line_feed) b bytes (other_byte b parts.0) (fixed_line bytes parts.1)

kind_line : (kind : CertKind) → IsOneLine (kind_text kind)
kind_line kinds.Strong = fixed_line (kind_text kinds.Strong) refl
kind_line kinds.Outdated = fixed_line (kind_text kinds.Outdated) refl
kind_line kinds.Challenged = fixed_line (kind_text kinds.Challenged) refl

mode_line : (essential : Bool) → IsOneLine (mode_text essential)
mode_line true = fixed_line (mode_text true) refl
mode_line false = fixed_line (mode_text false) refl

-- the same, as a word that does not unfold
NoFeed : List ℕ → Type 0
NoFeed bytes = IsOneLine bytes

to_line : (bytes : List ℕ) → NoFeed bytes → IsOneLine bytes
unfolding NoFeed
to_line bytes h = h

joined : (a b c d : List ℕ) → IsOneLine a → IsOneLine b → IsOneLine c → IsOneLine d → NoFeed (a ++ b ++ 32 ∷ (c ++ d))
unfolding NoFeed
joined a b c d ha hb hc hd =
    let both : (x y : List ℕ) → IsOneLine x → IsOneLine y → IsOneLine (x ++ y) = All-append (λ byte. byte ≢ line_feed) in
    both (a ++ b) (32 ∷ (c ++ d)) (both a b ha hb) (All-cons (λ byte. byte ≢ line_feed) 32 (c ++ d) (λ e. omega (arith, e)) (both c d hc hd))

header_line : (h : Header) → HasHeaderForm (header_text h) h → IsOneLine (header_text h)
header_line h form = to_line (header_text h)
    (joined (codes "distfuture-certificate 1 ") (kind_text h.kind) (mode_text h.essential)
    (words_text (plains (h.limit ∷ h.packages ∷ h.variables ∷ h.clauses ∷ [])))
    (fixed_line (codes "distfuture-certificate 1 ") refl) (kind_line h.kind) (mode_line h.essential)
    (words_line (plains (h.limit ∷ h.packages ∷ h.variables ∷ h.clauses ∷ [])) (header_words_small (header_text h) h form)))

-- ---- first lines of a front and numbers

plains_small : (ns : List ℕ) → All IsSmall ns → All (λ w. IsSmall w.0) (plains ns)
plains_small ns all = All-map (λ w. IsSmall w.0) plain ns all

behind_front : (front r s : List ℕ) → front ++ r ≡ front ++ s → r ≡ s
behind_front [] r s e = e
behind_front (c ∷ front) r s e = behind_front front r s (tails c c (front ++ r) (front ++ s) e)

one_list : (front numbers other : List ℕ) → All IsSmall numbers → All IsSmall other → first_line front numbers ≡ first_line front other → numbers ≡ other
one_list front ns ms hn hm e =
    let words = one_list_of_words (plains ns) (plains ms) (plains_small ns hn) (plains_small ms hm)
    (behind_front front (words_text (plains ns)) (words_text (plains ms)) e) in
    sym (numbers_of_plains ns) ∙ ap numbers words ∙ numbers_of_plains ms

front_line : (front numbers : List ℕ) → IsOneLine front → All IsSmall numbers → IsOneLine (first_line front numbers)
front_line front ns one all =
    All-append (λ byte. byte ≢ line_feed) front (words_text (plains ns)) one (words_line (plains ns) (plains_small ns all))

pub clear : FormsAreClear
clear = record {
  one_header = one_header;
  one_record = one_record;
  header_line = header_line;
  record_line = record_line;
  one_list = one_list;
  front_line = front_line;
}
