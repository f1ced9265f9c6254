-- What a first line is read as.
use Rattle.std.proofs.Common.{◌≡◌, ℕ, Bool, true, false, List, ◌∷◌, ◌++◌, drop, codes, refl, ap, sym, subst, ◌∙◌, Option, Some, None}
use Rattle.dist_cert.specs.declared.records.CertKind.{CertKind}
use Rattle.dist_cert.specs.declared.records.CertKind.TheVariants as kinds
use Rattle.dist_cert.specs.declared.records.Header.{Header}
use Rattle.dist_cert.specs.Form.{words_text, kind_text, mode_text, header_text, KeepsLimit, HasHeaderForm}
use Rattle.dist_cert.specs.LooseWords.{loose_words}
use Rattle.dist_cert.specs.LooseHeaderPrivate.{kind_in, mode_in, before_numbers, header_with, loose_header}
use Rattle.dist_cert.proofs.OneForm.{header_words, header_words_small}
use Rattle.dist_cert.proofs.LooseLemmas.{words_read}

-- a first line, before the numbers and with them
abbrev pub begun : CertKind → Bool → List ℕ → List ℕ
begun kind essential numbers = codes "distfuture-certificate 1 " ++ (kind_text kind ++ (32 ∷ (mode_text essential ++ numbers)))

kind_of_line : (kind : CertKind) (essential : Bool) (numbers : List ℕ) → kind_in (begun kind essential numbers) ≡ kind
kind_of_line kinds.Strong essential numbers = refl
kind_of_line kinds.Outdated essential numbers = refl
kind_of_line kinds.Challenged essential numbers = refl

mode_of_line : (kind : CertKind) (essential : Bool) (numbers : List ℕ) → mode_in (begun kind essential numbers) kind ≡ essential
mode_of_line kinds.Strong true numbers = refl
mode_of_line kinds.Strong false numbers = refl
mode_of_line kinds.Outdated true numbers = refl
mode_of_line kinds.Outdated false numbers = refl
mode_of_line kinds.Challenged true numbers = refl
mode_of_line kinds.Challenged false numbers = refl

numbers_of_line : (kind : CertKind) (essential : Bool) (numbers : List ℕ) → drop (before_numbers kind essential) (begun kind essential numbers) ≡ numbers
numbers_of_line kinds.Strong true numbers = refl
numbers_of_line kinds.Strong false numbers = refl
numbers_of_line kinds.Outdated true numbers = refl
numbers_of_line kinds.Outdated false numbers = refl
numbers_of_line kinds.Challenged true numbers = refl
numbers_of_line kinds.Challenged false numbers = refl

parts_of_line : (kind : CertKind) (essential : Bool) (numbers : List ℕ)
    → loose_header (begun kind essential numbers) ≡ header_with kind essential (loose_words numbers)
parts_of_line kind essential numbers =
    ap (λ k. header_with k (mode_in (begun kind essential numbers) k)
    (loose_words (drop (before_numbers k (mode_in (begun kind essential numbers) k)) (begun kind essential numbers)))) (kind_of_line kind essential numbers)
    ∙ ap (λ m. header_with kind m (loose_words (drop (before_numbers kind m) (begun kind essential numbers)))) (mode_of_line kind essential numbers)
    ∙ ap (λ bytes. header_with kind essential (loose_words bytes)) (numbers_of_line kind essential numbers)

-- a line of the form of a header is read as it
pub header_read : (line : List ℕ) (h : Header) → HasHeaderForm line h → loose_header line ≡ Some h
header_read line h form =
    ap loose_header form.text
    ∙ parts_of_line h.kind h.essential (words_text (header_words h))
    ∙ ap (header_with h.kind h.essential) (words_read (header_words h) (header_words_small line h form))

pub no_header : (line : List ℕ) (found : Option Header) → found ≡ loose_header line → found ≡ None → (h : Header) → ¬ HasHeaderForm line h
no_header line found is none h form = let bad : None ≡ Some h = sym none ∙ is ∙ header_read line h form in cc

pub other_header : (line : List ℕ) (found : Option Header) (header : Header) → found ≡ loose_header line → found ≡ Some header
    → ¬ (KeepsLimit header × (header_text header ≡ line)) → (h : Header) → ¬ HasHeaderForm line h
other_header line found header is some not_kept h form =
    let both : Some header ≡ Some h = sym some ∙ is ∙ header_read line h form in
    let same : header ≡ h = cc in
    not_kept (subst KeepsLimit (sym same) form.rules, ap header_text same ∙ sym form.text)
