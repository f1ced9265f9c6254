-- The readers of an operator and of a version give them, or the faults of missing ones.
use Rattle.std.proofs.Common.{◌≡◌, ℕ, ◌<◌, Bool, true, false, ◌||◌, ◌&&◌, ◌⊎◌, inl, inr, eqb, cond, List, [], ◌∷◌, ◌++◌, length, refl, sym, ap, ◌∙◌, subst}
use Rattle.std.proofs.Common.{length-append, Option, None, Some, arith}
use Rattle.std.specs.Int.{is_in_range}
use Rattle.std.specs.Char.{is_ascii_alphanumeric, is_ascii_digit}
use Rattle.std.specs.List.{list_all, take_while}
use Rattle.std.specs.Prelude.{Ok, IfSome, not, IsTrue}
use Rattle.std.proofs.lemmas.Bool.{eqb-true}
use Rattle.std.proofs.lemmas.List.Folds.{list_all-append}
use Rattle.dist_base.specs.Ascii.{bar, closing, comma, is_white, opening}
use Rattle.dist_version.specs.Spelling.{IsVersion, SpellsEpoch, IsMadeOf, revision_text, is_upstream_byte, is_revision_byte}
use Rattle.dist_version.specs.Faults.{fault_of}
use Rattle.dist_version.specs.declared.error.VersionError.{VersionError}
use Rattle.dist_version.specs.TextLaws.{version_from_no_fault, no_fault_from_version}
use Rattle.dist_relation.specs.declared.atom.Kind.{Kind}
use Rattle.dist_relation.specs.declared.atom.Op.{Op}
use Rattle.dist_relation.specs.declared.atom.Op.TheVariants.{Lt, Le, Eq, Ge, Gt}
use Rattle.dist_relation.specs.declared.error.Problem.TheVariants.{BadOp, BadVersion, OpInProvides}
use Rattle.dist_relation.specs.Bytes.{is_operator_byte, is_word_byte, Stops}
use Rattle.dist_relation.specs.Grammar.{allows_operator, SpellsOperator}
use Rattle.dist_relation.specs.ReadingPrivate.{refuse, past, operator_of, operator_found, operator_at, version_found, version_at}
use Rattle.dist_relation.proofs.Runs.{both_true, true_both, take_while-append, past-append, take_while-past, past_stops}
use Rattle.dist_relation.proofs.ByteFacts.{or_false, or_true, or_cases, not_at, no_space}
use Rattle.dist_relation.proofs.Heads.{done, ok_pair}

-- ---- operators

-- what holds of each operator's text
pub record OperatorFacts (text : List ℕ) (op : Op) : Type 0 where
  pub all : list_all is_operator_byte text ≡ true
  pub found : operator_of text ≡ Some op
  pub no_blank : (r : List ℕ) → Stops is_white (text ++ r)

pub operator_facts : (op : Op) (text : List ℕ) → SpellsOperator text op → OperatorFacts text op
operator_facts Lt text h = subst (λ (t : List ℕ). OperatorFacts t Lt) (sym h) (record { all = refl; found = refl; no_blank = λ r. refl })
operator_facts Eq text h = subst (λ (t : List ℕ). OperatorFacts t Eq) (sym h) (record { all = refl; found = refl; no_blank = λ r. refl })
operator_facts Gt text h = subst (λ (t : List ℕ). OperatorFacts t Gt) (sym h) (record { all = refl; found = refl; no_blank = λ r. refl })
operator_facts Le text (inl h) = subst (λ (t : List ℕ). OperatorFacts t Le) (sym h) (record { all = refl; found = refl; no_blank = λ r. refl })
operator_facts Le text (inr h) = subst (λ (t : List ℕ). OperatorFacts t Le) (sym h) (record { all = refl; found = refl; no_blank = λ r. refl })
operator_facts Ge text (inl h) = subst (λ (t : List ℕ). OperatorFacts t Ge) (sym h) (record { all = refl; found = refl; no_blank = λ r. refl })
operator_facts Ge text (inr h) = subst (λ (t : List ℕ). OperatorFacts t Ge) (sym h) (record { all = refl; found = refl; no_blank = λ r. refl })

-- the text spells the operator that was found
abbrev pub SpellsFound : List ℕ → Option Op → Type 0
SpellsFound text None = Unit {0}
SpellsFound text (Some op) = SpellsOperator text op

one_byte : (t : Bool) (a k : ℕ) (op : Op) (other : Option Op) → eqb a k ≡ t → SpellsOperator (k ∷ []) op → SpellsFound (a ∷ []) other
    → SpellsFound (a ∷ []) (cond t (Some op) other)
one_byte true a k op other e h g = subst (λ (c : ℕ). SpellsOperator (c ∷ []) op) (sym (eqb-true a k e)) h
one_byte false a k op other e h g = g

two_bytes : (t : Bool) (a b k m : ℕ) (op : Op) (other : Option Op) → (eqb a k && eqb b m) ≡ t → SpellsOperator (k ∷ m ∷ []) op → SpellsFound (a ∷ b ∷ []) other
    → SpellsFound (a ∷ b ∷ []) (cond t (Some op) other)
two_bytes true a b k m op other e h g =
    let p = both_true (eqb a k) (eqb b m) e in
    subst (λ (c : ℕ). SpellsOperator (c ∷ b ∷ []) op) (sym (eqb-true a k p.0)) (subst (λ (c : ℕ). SpellsOperator (k ∷ c ∷ []) op) (sym (eqb-true b m p.1)) h)
two_bytes false a b k m op other e h g = g

pub operator_spelled : (text : List ℕ) → SpellsFound text (operator_of text)
operator_spelled [] = tt
operator_spelled (a ∷ []) = one_byte (eqb a 60) a 60 Le _ refl (inr refl)
    (one_byte (eqb a 61) a 61 Eq _ refl refl (one_byte (eqb a 62) a 62 Ge None refl (inr refl) tt))
operator_spelled (a ∷ b ∷ []) =
    two_bytes (eqb a 60 && eqb b 60) a b 60 60 Lt _ refl refl
    (two_bytes (eqb a 60 && eqb b 61) a b 60 61 Le _ refl (inl refl)
    (two_bytes (eqb a 62 && eqb b 61) a b 62 61 Ge _ refl (inl refl)
    (two_bytes (eqb a 62 && eqb b 62) a b 62 62 Gt None refl refl tt)))
operator_spelled (a ∷ b ∷ c ∷ bs) = tt

pub operator_again : (kind : Kind) (text : List ℕ) (op : Op) (r : List ℕ) → SpellsOperator text op → IsTrue (allows_operator kind op) → Stops is_operator_byte r
    → operator_at kind (text ++ r) ≡ Ok (op, r)
unfolding operator_at
operator_again kind text op r h allowed stops =
    let facts = operator_facts op text h in
    let run : take_while is_operator_byte (text ++ r) ≡ text = take_while-append is_operator_byte text r facts.all stops in
    ap (λ (t : List ℕ). operator_found kind (text ++ r) (operator_of t)) run
    ∙ ap (operator_found kind (text ++ r)) facts.found
    ∙ ap (λ (t : Bool). cond t (done op (past is_operator_byte (text ++ r))) (refuse OpInProvides (text ++ r))) allowed
    ∙ ap (done op) (past-append is_operator_byte text r facts.all stops)

none_from : (found : Option Op) (text : List ℕ) → operator_of text ≡ found → ((op : Op) → SpellsOperator text op → ⊥) → SpellsFound text found → found ≡ None
none_from None text e never h = refl
none_from (Some op) text e never h = absurd (never op h)

pub operator_missing : (kind : Kind) (here : List ℕ) → ((op : Op) → SpellsOperator (take_while is_operator_byte here) op → ⊥)
    → operator_at kind here ≡ refuse BadOp here
unfolding operator_at
operator_missing kind here never =
    let run : List ℕ = take_while is_operator_byte here in
    ap (operator_found kind here) (none_from (operator_of run) run refl never (operator_spelled run))

pub operator_forbidden : (kind : Kind) (here : List ℕ) (op : Op) → SpellsOperator (take_while is_operator_byte here) op → allows_operator kind op ≡ false
    → operator_at kind here ≡ refuse OpInProvides here
unfolding operator_at
operator_forbidden kind here op h forbidden =
    ap (operator_found kind here) (operator_facts op (take_while is_operator_byte here) h).found
    ∙ ap (λ (t : Bool). cond t (done op (past is_operator_byte here)) (refuse OpInProvides here)) forbidden

pub record OperatorRead (kind : Kind) (text : List ℕ) : Type 0 where
  pub operator : List ℕ
  pub op : Op
  pub rest : List ℕ
  pub is_operator : SpellsOperator operator op
  pub allowed : IsTrue (allows_operator kind op)
  pub parts : text ≡ operator ++ rest
  pub ends : Stops is_operator_byte rest

pub record OperatorFault (kind : Kind) (text : List ℕ) : Type 0 where
  pub op : Op
  pub is_operator : SpellsOperator (take_while is_operator_byte text) op
  pub forbidden : allows_operator kind op ≡ false

allowed_cases : (t : Bool) (kind : Kind) (text : List ℕ) (op : Op) → allows_operator kind op ≡ t → SpellsOperator (take_while is_operator_byte text) op
    → OperatorRead kind text ⊎ OperatorFault kind text
allowed_cases true kind text op e h = inl (record {
  operator = take_while is_operator_byte text;
  op = op;
  rest = past is_operator_byte text;
  is_operator = h;
  allowed = e;
  parts = sym (take_while-past is_operator_byte text);
  ends = past_stops is_operator_byte text;
})
allowed_cases false kind text op e h = inr (record { op = op; is_operator = h; forbidden = e })

found_cases : (found : Option Op) (kind : Kind) (text : List ℕ) → operator_of (take_while is_operator_byte text) ≡ found
    → SpellsFound (take_while is_operator_byte text) found
    → (OperatorRead kind text ⊎ OperatorFault kind text) ⊎ ((op : Op) → SpellsOperator (take_while is_operator_byte text) op → ⊥)
found_cases None kind text e h = inr (λ op g. let f = sym e ∙ (operator_facts op (take_while is_operator_byte text) g).found in absurd cc)
found_cases (Some op) kind text e h = inl (allowed_cases (allows_operator kind op) kind text op refl h)

-- the text begins with an operator, with one that is forbidden, or with none
pub operator_cases : (kind : Kind) (text : List ℕ) → (OperatorRead kind text ⊎ OperatorFault kind text)
    ⊎ ((op : Op) → SpellsOperator (take_while is_operator_byte text) op → ⊥)
operator_cases kind text = found_cases (operator_of (take_while is_operator_byte text)) kind text refl (operator_spelled (take_while is_operator_byte text))

-- ---- versions

all_weaker : (f g : ℕ → Bool) (bs : List ℕ) → ((b : ℕ) → f b ≡ true → g b ≡ true) → list_all f bs ≡ true → list_all g bs ≡ true
all_weaker f g [] k h = refl
all_weaker f g (b ∷ bs) k h = let p = both_true (f b) (list_all f bs) h in true_both (g b) (list_all g bs) (k b p.0) (all_weaker f g bs k p.1)

all_append : (f : ℕ → Bool) (a b : List ℕ) → list_all f a ≡ true → list_all f b ≡ true → list_all f (a ++ b) ≡ true
all_append f a b p q = list_all-append f a b ∙ true_both (list_all f a) (list_all f b) p q

digit_is_upstream : (b : ℕ) → is_ascii_digit b ≡ true → is_upstream_byte b ≡ true
digit_is_upstream b h = or_true (is_ascii_alphanumeric b) _ (or_true (is_in_range 48 57 b || is_in_range 65 90 b) _ (or_true (is_in_range 48 57 b) _ h))

revision_is_upstream : (b : ℕ) → is_revision_byte b ≡ true → is_upstream_byte b ≡ true
revision_is_upstream b h =
    elim (or_cases (is_ascii_alphanumeric b) _ h) [
      | inl e ↦ or_true (is_ascii_alphanumeric b) _ e
      | inr e ↦ elim (or_cases (eqb 46 b) _ e) [
        | inl f ↦ ap is_upstream_byte (sym (eqb-true 46 b f))
        | inr f ↦ elim (or_cases (eqb 43 b) _ f) [
          | inl g ↦ ap is_upstream_byte (sym (eqb-true 43 b g))
          | inr g ↦ elim (or_cases (eqb 126 b) false g) [ inl i ↦ ap is_upstream_byte (sym (eqb-true 126 b i)) | inr i ↦ absurd cc ]
        ]
      ]
    ]

epoch_all : (front : List ℕ) (epoch : ℕ) → SpellsEpoch front epoch → list_all is_upstream_byte front ≡ true
epoch_all front epoch (inl (digits, e, made, value)) = ap (list_all is_upstream_byte) e
    ∙ all_append is_upstream_byte digits (58 ∷ []) (all_weaker is_ascii_digit is_upstream_byte digits digit_is_upstream made.1) refl
epoch_all front epoch (inr (e, zero)) = ap (list_all is_upstream_byte) e

revision_all : (revision : Option (List ℕ)) → IfSome revision (IsMadeOf is_revision_byte) → list_all is_upstream_byte (revision_text revision) ≡ true
revision_all None h = refl
revision_all (Some r) h = all_weaker is_revision_byte is_upstream_byte r revision_is_upstream h.1

-- every byte of a version is one that an upstream version may have
pub version_bytes : (text : List ℕ) → IsVersion text → list_all is_upstream_byte text ≡ true
version_bytes text (version, s) =
    ap (list_all is_upstream_byte) s.whole
    ∙ all_append is_upstream_byte (s.front ++ version.upstream) (revision_text version.revision)
    (all_append is_upstream_byte s.front version.upstream (epoch_all s.front version.epoch s.epoch) s.upstream.1) (revision_all version.revision s.revision)

version_not_empty : (text : List ℕ) → IsVersion text → 0 < length text
version_not_empty text (version, s) =
    let long : 0 < length version.upstream = s.upstream.0 in
    omega (arith, ap length s.whole, length-append (s.front ++ version.upstream) (revision_text version.revision), length-append s.front version.upstream)

upstream_is_word : (b : ℕ) → is_upstream_byte b ≡ true → is_word_byte b ≡ true
upstream_is_word b h =
    let space : is_white b ≡ false = no_space is_upstream_byte b refl refl refl h in
    let mark : (eqb b opening || eqb b closing || eqb b comma || eqb b bar) ≡ false =
    or_false (eqb b opening || eqb b closing || eqb b comma) (eqb b bar)
    (or_false (eqb b opening || eqb b closing) (eqb b comma)
    (or_false (eqb b opening) (eqb b closing) (not_at is_upstream_byte b opening h refl) (not_at is_upstream_byte b closing h refl))
    (not_at is_upstream_byte b comma h refl))
    (not_at is_upstream_byte b bar h refl) in
    ap not (or_false (is_white b) (eqb b opening || eqb b closing || eqb b comma || eqb b bar) space mark)

pub version_words : (text : List ℕ) → IsVersion text → list_all is_word_byte text ≡ true
version_words text h = all_weaker is_upstream_byte is_word_byte text upstream_is_word (version_bytes text h)

upstream_no_operator : (b : ℕ) → is_upstream_byte b ≡ true → is_operator_byte b ≡ false
upstream_no_operator b h = or_false (eqb b 60 || eqb b 61) (eqb b 62)
    (or_false (eqb b 60) (eqb b 61) (not_at is_upstream_byte b 60 h refl) (not_at is_upstream_byte b 61 h refl)) (not_at is_upstream_byte b 62 h refl)

starts_by : (f : ℕ → Bool) (text r : List ℕ) → 0 < length text → list_all is_upstream_byte text ≡ true → ((b : ℕ) → is_upstream_byte b ≡ true → f b ≡ false)
    → Stops f (text ++ r)
starts_by f [] r long all k = absurd (omega arith)
starts_by f (b ∷ bs) r long all k = k b (both_true (is_upstream_byte b) (list_all is_upstream_byte bs) all).0

-- a version begins with no byte of an operator and no white space
pub version_no_operator : (text r : List ℕ) → IsVersion text → Stops is_operator_byte (text ++ r)
version_no_operator text r h = starts_by is_operator_byte text r (version_not_empty text h) (version_bytes text h) upstream_no_operator

pub version_no_blank : (text r : List ℕ) → IsVersion text → Stops is_white (text ++ r)
version_no_blank text r h = starts_by is_white text r (version_not_empty text h) (version_bytes text h) (λ b e. no_space is_upstream_byte b refl refl refl e)

pub version_again : (text r : List ℕ) → IsVersion text → Stops is_word_byte r → version_at (text ++ r) ≡ Ok (text, r)
unfolding version_at
version_again text r h stops =
    let run : take_while is_word_byte (text ++ r) ≡ text = take_while-append is_word_byte text r (version_words text h) stops in
    ap (λ (t : List ℕ). version_found (text ++ r) (fault_of t)) run
    ∙ ap (version_found (text ++ r)) (no_fault_from_version text h)
    ∙ ok_pair (take_while is_word_byte (text ++ r)) text (past is_word_byte (text ++ r)) r run (past-append is_word_byte text r (version_words text h) stops)

pub version_refused : (here : List ℕ) (fault : VersionError) → fault_of (take_while is_word_byte here) ≡ Some fault
    → version_at here ≡ refuse (BadVersion fault) here
unfolding version_at
version_refused here fault h = ap (version_found here) h

pub record VersionRead (text : List ℕ) : Type 0 where
  pub version : List ℕ
  pub rest : List ℕ
  pub is_version : IsVersion version
  pub parts : text ≡ version ++ rest
  pub ends : Stops is_word_byte rest

version_cases_by : (found : Option VersionError) (text : List ℕ) → fault_of (take_while is_word_byte text) ≡ found → VersionRead text
    ⊎ ((fault : VersionError) × (fault_of (take_while is_word_byte text) ≡ Some fault))
version_cases_by None text e = inl (record {
  version = take_while is_word_byte text;
  rest = past is_word_byte text;
  is_version = version_from_no_fault (take_while is_word_byte text) e;
  parts = sym (take_while-past is_word_byte text);
  ends = past_stops is_word_byte text;
})
version_cases_by (Some fault) text e = inr (fault, e)

-- the text begins with a version, or its longest word has a fault
pub version_cases : (text : List ℕ) → VersionRead text ⊎ ((fault : VersionError) × (fault_of (take_while is_word_byte text) ≡ Some fault))
version_cases text = version_cases_by (fault_of (take_while is_word_byte text)) text refl
