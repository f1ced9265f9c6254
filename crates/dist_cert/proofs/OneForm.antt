-- A line is the text of one record at most, and of one first line at most.
use Rattle.std.proofs.Common.{◌≡◌, ◌≢◌, ℕ, zero, suc, ◌<◌, ◌≤◌, ◌^◌, Bool, true, false, List, [], ◌∷◌, ◌++◌, All, length, drop, get_or, decimal, refl, ap, sym}
use Rattle.std.proofs.Common.{◌∙◌, arith, rules}
use Rattle.std.proofs.lemmas.List.Elements.{All-head, All-tail, All-map, All-cons, All-nil}
use Rattle.std.proofs.lemmas.Fmt.{decimal_by_steps, decimal_injective}
use Rattle.dist_cert.specs.Form.{Word, word_text, signed_text, words_text, plain, plains, pair_words, separator, letter, words, AreFromOne, ArePairs}
use Rattle.dist_cert.specs.Form.{KeepsRules, IsSmall, HasForm, kind_text, mode_text, HasHeaderForm}
use Rattle.dist_cert.proofs.Parts.{HasNoSpace, IsBehind}
use Rattle.dist_cert.specs.DecodedPrivate.{before, after, numbers, pairs, decoded}
use Rattle.dist_cert.specs.declared.records.CertKind.{CertKind}
use Rattle.dist_cert.specs.declared.records.CertKind.TheVariants as kinds
use Rattle.dist_cert.specs.declared.records.CertRecord.{CertRecord}
use Rattle.dist_cert.specs.declared.records.CertRecord.TheVariants.{Question, Derived, Refuted, Installation, Undecided, NotInstallable, Unknown, Strong}
use Rattle.dist_cert.specs.declared.records.CertRecord.TheVariants.{Outdated, Alive, Challenged, End}
use Rattle.dist_cert.specs.declared.records.Header.{Header}

-- ---- bytes of a word

abbrev pub IsDigit : ℕ → Type 0
IsDigit c = (48 ≤ c) × (c ≤ 57)

abbrev pub Digits : List ℕ → Type 0
Digits [] = Unit {0}
Digits (c ∷ cs) = IsDigit c × Digits cs

digits_push : (cs : List ℕ) (c : ℕ) → Digits cs → IsDigit c → Digits (cs ++ c ∷ [])
digits_push [] c all is = (is, tt)
digits_push (d ∷ cs) c all is = (all.0, digits_push cs c all.1 is)

pub digits_of_decimal : (n : ℕ) → n < 2 ^ 64 → Digits (decimal n)
digits_of_decimal n small = decimal_by_steps (λ k ds. Digits ds)
    (λ k low. ((omega arith, omega arith), tt))
    (λ k ds high all. digits_push ds _ all (omega arith, omega arith)) n small

-- ---- where a word ends

pub heads : (a b : ℕ) (r s : List ℕ) → a ∷ r ≡ b ∷ s → a ≡ b
heads a b r s e = ap (λ l. get_or l 0 0) e

pub tails : (a b : ℕ) (r s : List ℕ) → a ∷ r ≡ b ∷ s → r ≡ s
tails a b r s e = ap (λ l. drop 1 l) e

pub not_empty : (c : ℕ) (cs : List ℕ) → [] ≡ c ∷ cs → ⊥
not_empty c cs e = let bad : 0 ≡ suc (length cs) = ap (λ l. length l) e in omega arith

pub one_end : (a b r s : List ℕ) → HasNoSpace a → HasNoSpace b → IsBehind r → IsBehind s → a ++ r ≡ b ++ s → (a ≡ b) × (r ≡ s)
one_end [] [] r s na nb br bs e = (refl, e)
one_end [] (c ∷ b) [] s na nb br bs e = absurd (not_empty c (b ++ s) e)
one_end [] (c ∷ b) (d ∷ r) s na nb br bs e = absurd (nb.0 (sym (heads d c r (b ++ s) e) ∙ br))
one_end (c ∷ a) [] r [] na nb br bs e = absurd (not_empty c (a ++ r) (sym e))
one_end (c ∷ a) [] r (d ∷ s) na nb br bs e = absurd (na.0 (heads c d (a ++ r) s e ∙ bs))
one_end (c ∷ a) (d ∷ b) r s na nb br bs e =
    let rest = one_end a b r s na.1 nb.1 br bs (tails c d (a ++ r) (b ++ s) e) in
    let same : c ≡ d = heads c d (a ++ r) (b ++ s) e in (rw same (ap (λ l. d ∷ l) rest.0), rest.1)

no_space_in_digits : (cs : List ℕ) → Digits cs → HasNoSpace cs
no_space_in_digits [] all = tt
no_space_in_digits (c ∷ cs) all = (λ is. omega (arith, all.0.0), no_space_in_digits cs all.1)

pub no_space_in_word : (n : ℕ) (positive : Bool) → IsSmall n → HasNoSpace (signed_text n positive)
no_space_in_word n true small = no_space_in_digits _ (digits_of_decimal n (omega arith))
no_space_in_word n false small = (λ is. omega arith, no_space_in_digits _ (digits_of_decimal n (omega arith)))

pub behind_word : (ws : List Word) → IsBehind (words_text ws)
behind_word [] = tt
behind_word (w ∷ ws) = refl

-- ---- a word is read in one way

pub no_minus : (cs ds : List ℕ) → Digits cs → cs ≡ 45 ∷ ds → ⊥
no_minus [] ds all e = not_empty 45 ds e
no_minus (c ∷ cs) ds all e = let is : c ≡ 45 = heads c 45 cs ds e in omega (arith, all.0.0)

one_word : (m n : ℕ) (s t : Bool) → IsSmall m → IsSmall n → signed_text m s ≡ signed_text n t → (m ≡ n) × (s ≡ t)
one_word m n true true hm hn e = (decimal_injective m n (omega arith) (omega arith) e, refl)
one_word m n false false hm hn e = (decimal_injective m n (omega arith) (omega arith) (tails 45 45 _ _ e), refl)
one_word m n true false hm hn e = absurd (no_minus _ _ (digits_of_decimal m (omega arith)) e)
one_word m n false true hm hn e = absurd (no_minus _ _ (digits_of_decimal n (omega arith)) (sym e))

pub one_list_of_words : (vs ws : List Word) → All (λ w. IsSmall w.0) vs → All (λ w. IsSmall w.0) ws → words_text vs ≡ words_text ws → vs ≡ ws
one_list_of_words [] [] hv hw e = refl
one_list_of_words [] (w ∷ ws) hv hw e = absurd (not_empty _ _ e)
one_list_of_words (v ∷ vs) [] hv hw e = absurd (not_empty _ _ (sym e))
one_list_of_words (v ∷ vs) (w ∷ ws) hv hw e =
    let hv0 = All-head (λ x. IsSmall x.0) v vs hv in
    let hw0 = All-head (λ x. IsSmall x.0) w ws hw in
    let parts = one_end (word_text v) (word_text w) (words_text vs) (words_text ws)
    (no_space_in_word v.0 v.1 hv0) (no_space_in_word w.0 w.1 hw0) (behind_word vs) (behind_word ws) (tails 32 32 _ _ e) in
    let one = one_word v.0 w.0 v.1 w.1 hv0 hw0 parts.0 in
    let same : v ≡ w = λ i. (one.0 i, one.1 i) in
    let rest = one_list_of_words vs ws (All-tail (λ x. IsSmall x.0) v vs hv) (All-tail (λ x. IsSmall x.0) w ws hw) parts.1 in
    λ i. same i ∷ rest i

-- ---- a letter and words are of one record

pub before_at : (a b : List Word) → All (λ w. 1 ≤ w.0) a → before (a ++ (separator ∷ b)) ≡ a
before_at [] b all = refl
before_at ((zero, s) ∷ a) b all = absurd (let bad : 1 ≤ 0 = All-head (λ w. 1 ≤ w.0) (zero, s) a all in omega arith)
before_at ((suc n, s) ∷ a) b all = ap (λ l. (suc n, s) ∷ l) (before_at a b (All-tail (λ w. 1 ≤ w.0) (suc n, s) a all))

pub after_at : (a b : List Word) → All (λ w. 1 ≤ w.0) a → after (a ++ (separator ∷ b)) ≡ b
after_at [] b all = refl
after_at ((zero, s) ∷ a) b all = absurd (let bad : 1 ≤ 0 = All-head (λ w. 1 ≤ w.0) (zero, s) a all in omega arith)
after_at ((suc n, s) ∷ a) b all = after_at a b (All-tail (λ w. 1 ≤ w.0) (suc n, s) a all)

pub before_all : (a : List Word) → All (λ w. 1 ≤ w.0) a → before a ≡ a
before_all [] all = refl
before_all ((zero, s) ∷ a) all = absurd (let bad : 1 ≤ 0 = All-head (λ w. 1 ≤ w.0) (zero, s) a all in omega arith)
before_all ((suc n, s) ∷ a) all = ap (λ l. (suc n, s) ∷ l) (before_all a (All-tail (λ w. 1 ≤ w.0) (suc n, s) a all))

pub numbers_of_plains : (ns : List ℕ) → numbers (plains ns) ≡ ns
numbers_of_plains [] = refl
numbers_of_plains (n ∷ ns) = ap (λ l. n ∷ l) (numbers_of_plains ns)

pub pairs_of_words : (ps : List (ℕ × ℕ)) → pairs (pair_words ps) ≡ ps
pairs_of_words [] = refl
pairs_of_words (p ∷ ps) = ap (λ l. p ∷ l) (pairs_of_words ps)

pub plains_from_one : (ns : List ℕ) → AreFromOne ns → All (λ w. 1 ≤ w.0) (plains ns)
plains_from_one ns all = All-map (λ w. 1 ≤ w.0) plain ns all

pub pairs_from_one : (ps : List (ℕ × ℕ)) → ArePairs ps → All (λ w. 1 ≤ w.0) (pair_words ps)
pairs_from_one [] all = All-nil _
pairs_from_one (p ∷ ps) all =
    let here = All-head (λ q. (1 ≤ q.0) × (1 ≤ q.1)) p ps all in
    let there = pairs_from_one ps (All-tail (λ q. (1 ≤ q.0) × (1 ≤ q.1)) p ps all) in
    All-cons (λ w. 1 ≤ w.0) (plain p.0) (plain p.1 ∷ pair_words ps) here.0 (All-cons (λ w. 1 ≤ w.0) (plain p.1) (pair_words ps) here.1 there)

-- the numbers of a last list, and those of a list before a 0
last_numbers : (ns : List ℕ) → AreFromOne ns → numbers (before (plains ns)) ≡ ns
last_numbers ns all = ap numbers (before_all (plains ns) (plains_from_one ns all)) ∙ numbers_of_plains ns

last_pairs : (ps : List (ℕ × ℕ)) → ArePairs ps → pairs (before (pair_words ps)) ≡ ps
last_pairs ps all = ap pairs (before_all (pair_words ps) (pairs_from_one ps all)) ∙ pairs_of_words ps

first_numbers : (ns : List ℕ) (b : List Word) → AreFromOne ns → numbers (before (plains ns ++ (separator ∷ b))) ≡ ns
first_numbers ns b all = ap numbers (before_at (plains ns) b (plains_from_one ns all)) ∙ numbers_of_plains ns

pub decoded_of : (step : CertRecord) → KeepsRules step → decoded (letter step) (words step) ≡ step
decoded_of (Question literals) rules = ap Question (before_all literals rules.1.0)
decoded_of (Derived literals hints) rules =
    let l = before_at literals (plains hints) rules.0.0 in
    let h = ap (λ ws. numbers (before ws)) (after_at literals (plains hints) rules.0.0) ∙ last_numbers hints rules.1 in
    λ i. Derived (l i) (h i)
decoded_of (Refuted hints) rules = ap Refuted (last_numbers hints rules)
decoded_of (Installation variables) rules = ap Installation (last_numbers variables rules.0)
decoded_of Undecided rules = refl
decoded_of (NotInstallable p) rules = refl
decoded_of (Unknown p) rules = refl
decoded_of (Strong p installations on undecided) rules =
    let lists = plains on ++ (separator ∷ plains undecided) in
    let behind = after_at (plains installations) lists (plains_from_one installations rules.2) in
    let last = after_at (plains on) (plains undecided) (plains_from_one on rules.3) in
    let i1 = first_numbers installations lists rules.2 in
    let i2 = ap (λ l. numbers (before l)) behind ∙ first_numbers on (plains undecided) rules.3 in
    let i3 = ap (λ l. numbers (before (after l))) behind ∙ (ap (λ l. numbers (before l)) last ∙ last_numbers undecided rules.4) in
    λ i. Strong p (i1 i) (i2 i) (i3 i)
decoded_of (Outdated p) rules = refl
decoded_of (Alive p installation) rules = refl
decoded_of (Challenged p installations by undecided) rules =
    let lists = pair_words by ++ (separator ∷ pair_words undecided) in
    let two = pairs_from_one by rules.3 in
    let behind = after_at (plains installations) lists (plains_from_one installations rules.2) in
    let last = after_at (pair_words by) (pair_words undecided) two in
    let i1 = first_numbers installations lists rules.2 in
    let i2 = ap (λ l. pairs (before l)) behind ∙ (ap pairs (before_at (pair_words by) (pair_words undecided) two) ∙ pairs_of_words by) in
    let i3 = ap (λ l. pairs (before (after l))) behind ∙ (ap (λ l. pairs (before l)) last ∙ last_pairs undecided rules.4) in
    λ i. Challenged p (i1 i) (i2 i) (i3 i)
decoded_of End rules = refl

pub one_record : (line : List ℕ) (step other : CertRecord) → HasForm line step → HasForm line other → step ≡ other
one_record line step other is also =
    let e = sym is.text ∙ also.text in
    let l : letter step ≡ letter other = heads _ _ _ _ e in
    let w = one_list_of_words (words step) (words other) is.numbers also.numbers (tails _ _ _ _ e) in
    sym (decoded_of step is.rules) ∙ ((λ i. decoded (l i) (w i)) ∙ decoded_of other also.rules)

-- ---- a first line is of one header

differ : (a b : ℕ) (r s : List ℕ) → a ≢ b → a ∷ r ≡ b ∷ s → ⊥
differ a b r s other e = other (heads a b r s e)

no_space_in_kind : (kind : CertKind) → HasNoSpace (kind_text kind)
no_space_in_kind kinds.Strong = search (rules, arith)
no_space_in_kind kinds.Outdated = search (rules, arith)
no_space_in_kind kinds.Challenged = search (rules, arith)

no_space_in_mode : (essential : Bool) → HasNoSpace (mode_text essential)
no_space_in_mode true = search (rules, arith)
no_space_in_mode false = search (rules, arith)

one_kind : (kind other : CertKind) → kind_text kind ≡ kind_text other → kind ≡ other
one_kind kinds.Strong kinds.Strong e = refl
one_kind kinds.Strong kinds.Outdated e = absurd (differ _ _ _ _ (omega arith) e)
one_kind kinds.Strong kinds.Challenged e = absurd (differ _ _ _ _ (omega arith) e)
one_kind kinds.Outdated kinds.Strong e = absurd (differ _ _ _ _ (omega arith) e)
one_kind kinds.Outdated kinds.Outdated e = refl
one_kind kinds.Outdated kinds.Challenged e = absurd (differ _ _ _ _ (omega arith) e)
one_kind kinds.Challenged kinds.Strong e = absurd (differ _ _ _ _ (omega arith) e)
one_kind kinds.Challenged kinds.Outdated e = absurd (differ _ _ _ _ (omega arith) e)
one_kind kinds.Challenged kinds.Challenged e = refl

one_mode : (essential other : Bool) → mode_text essential ≡ mode_text other → essential ≡ other
one_mode true true e = refl
one_mode true false e = absurd (differ _ _ _ _ (omega arith) e)
one_mode false true e = absurd (differ _ _ _ _ (omega arith) e)
one_mode false false e = refl

abbrev pub header_words : Header → List Word
header_words h = plains (h.limit ∷ h.packages ∷ h.variables ∷ h.clauses ∷ [])

pub header_words_small : (line : List ℕ) (h : Header) → HasHeaderForm line h → All (λ w. IsSmall w.0) (header_words h)
header_words_small line h is =
    All-cons (λ w. IsSmall w.0) (plain h.limit) (plain h.packages ∷ plain h.variables ∷ plain h.clauses ∷ []) (omega (arith, is.rules.1))
    (All-cons (λ w. IsSmall w.0) (plain h.packages) (plain h.variables ∷ plain h.clauses ∷ []) is.numbers.0
    (All-cons (λ w. IsSmall w.0) (plain h.variables) (plain h.clauses ∷ []) is.numbers.1
    (All-cons (λ w. IsSmall w.0) (plain h.clauses) [] is.numbers.2 (All-nil _))))

pub one_header : (line : List ℕ) (h other : Header) → HasHeaderForm line h → HasHeaderForm line other → h ≡ other
one_header line h other is also =
    let e = ap (λ l. drop 25 l) (sym is.text ∙ also.text) in
    let k = one_end (kind_text h.kind) (kind_text other.kind) _ _ (no_space_in_kind h.kind) (no_space_in_kind other.kind) refl refl e in
    let m = one_end (mode_text h.essential) (mode_text other.essential) (words_text (header_words h)) (words_text (header_words other))
    (no_space_in_mode h.essential) (no_space_in_mode other.essential) (behind_word (header_words h)) (behind_word (header_words other)) (tails 32 32 _ _ k.1) in
    let w = ap numbers (one_list_of_words (header_words h) (header_words other) (header_words_small line h is) (header_words_small line other also) m.1) in
    let kind = one_kind h.kind other.kind k.0 in
    let mode = one_mode h.essential other.essential m.0 in
    λ i. record {
      kind = kind i;
      limit = get_or (w i) 0 0;
      packages = get_or (w i) 1 0;
      variables = get_or (w i) 2 0;
      clauses = get_or (w i) 3 0;
      essential = mode i;
    }
