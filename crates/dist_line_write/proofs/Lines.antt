-- Lines that may come next.
use Rattle.std.proofs.Common.{◌≡◌, ◌≢◌, ⊎_elim, ℕ, ◌+◌, ◌<◌, ◌≤◌, ◌^◌, false, true, List, [], ◌∷◌, ◌++◌, length, map}
use Rattle.std.proofs.Common.{refl, ap, sym, subst, arith, Bool}
use Rattle.std.specs.List.{All, list_any}
use Rattle.std.proofs.lemmas.Bool.{false≢true}
use Rattle.std.proofs.lemmas.List.Elements.{All-map, All-nil, All-cons, All-append}
use Rattle.dist_clause.specs.Formula.{Literal, negation, IsClauseOver, IsModel, value_of}
use Rattle.dist_derive.specs.Follows.{IsNumberOf, EndsFalse, Follows}
use Rattle.dist_derive.specs.New.{EachIsNew, IsNew}
use Rattle.dist_cert.specs.declared.faults.CertCause.{CertCause}
use Rattle.dist_cert.specs.declared.records.CertRecord.{CertRecord}
use Rattle.dist_cert.specs.declared.records.CertRecord.TheVariants.{Question, Derived, Refuted, Installation}
use Rattle.dist_cert.specs.declared.records.CertRecord.TheVariants.{Undecided}
use Rattle.dist_cert.specs.Form.{Word, AreLiterals, IsSmall, plains, is_end}
use Rattle.dist_cert.specs.Groups.{clause_of, derived, numbered}
use Rattle.dist_cert.specs.LineRules.{HasRecordFault}
use Rattle.dist_cert.specs.Part.{AsksSome, IsAsking}
use Rattle.dist_cert.specs.GroupLaws.{one-open}
use Rattle.dist_line_write.specs.Asking.{IsOver}
use Rattle.dist_line_write.specs.LineLaws.{no-future, none-past, none-in, all-small, plains-small}
use Rattle.dist_line_write.specs.Script.{header_in, IsLine, Script, matter_in}
use Rattle.dist_line_write.specs.TrueOnesLaws.{true-low, true-rising, true-upto}
use Rattle.dist_line_write.specs.Words.{true_variables, words_of}
use Rattle.dist_cert.specs.ListLaws.{pairs-map}
use Rattle.dist_cert.specs.declared.faults.CertCause.TheVariants as causes

-- ---- hints

pub all-numbered : (clauses : List (List Literal)) (trues : List Literal) (hints : List ℕ) → EndsFalse clauses trues hints
    → All (λ hint. IsNumberOf clauses hint) hints
all-numbered clauses trues [] ends = absurd ends
all-numbered clauses trues (hint ∷ hints) ends = All-cons (λ h. IsNumberOf clauses h) hint hints ends.0
    (⊎_elim (λ fails. ⊎_elim (λ last. subst (λ (hs : List ℕ). All (λ h. IsNumberOf clauses h) hs) (sym last) (All-nil (λ h. IsNumberOf clauses h)))
    (λ more. all-numbered clauses trues hints more) fails.1)
    (λ unit. all-numbered clauses (trues ++ unit.0 ∷ []) hints unit.2) ends.1)

pub from-one : (clauses : List (List Literal)) (hints : List ℕ) → All (λ hint. IsNumberOf clauses hint) hints → All (λ h. 1 ≤ h) hints
from-one clauses hints all k d within = (all k d within).0

upto-last : (clauses : List (List Literal)) (hints : List ℕ) → All (λ hint. IsNumberOf clauses hint) hints → All (λ h. h ≤ length clauses) hints
upto-last clauses hints all k d within = (all k d within).1

-- ---- literals

pub words-form : (n : ℕ) (clause : List Literal) → IsClauseOver n clause → AreLiterals (words_of clause)
words-form n clause over = (
  All-map (λ w. 1 ≤ w.0) (λ (l : Literal). (l.variable, l.positive)) clause (λ k d within. (over.in_range k d within).0),
  pairs-map (λ v w. v.0 ≢ w.0) (λ (l : Literal). (l.variable, l.positive)) clause over.distinct,
)

words-upto : (n : ℕ) (clause : List Literal) → IsClauseOver n clause → All (λ w. w.0 ≤ n) (words_of clause)
words-upto n clause over = All-map (λ w. w.0 ≤ n) (λ (l : Literal). (l.variable, l.positive)) clause (λ k d within. (over.in_range k d within).1)

pub clause-words : (clause : List Literal) → clause_of (words_of clause) ≡ clause
clause-words [] = refl
clause-words (l ∷ clause) = ap (λ (ls : List Literal). l ∷ ls) (clause-words clause)

variables-upto : (n : ℕ) (words : List Word) → All (λ w. w.0 ≤ n) words → All (λ v. v ≤ n) (map (λ w. w.0) words)
variables-upto n words upto = All-map (λ v. v ≤ n) (λ (w : Word). w.0) words upto

-- ---- the lines

pub question-line : (g : Script) (before : List CertRecord) (words : List Word) → g.variables < 2 ^ 32
    → list_any is_end before ≡ false
    → IsOver g.variables words → IsLine g before (Question words)
question-line g before words fits going over = record {
  form = record { text = refl; rules = (over.some, over.form); numbers = all-small g.variables words fits over.upto };
  not_ended = going;
  faultless = none;
  next = tt;
}
  where
    none : (cause : CertCause) → ¬ HasRecordFault (matter_in g) (header_in g) before (Question words) cause
    none causes.OutOfRange f = none-past g.variables (map (λ w. w.0) words) (variables-upto g.variables words over.upto) f
    none causes.OutOfOrder f = none-in _ f
    none causes.UnknownLine f = none-in _ f
    none causes.NotAFuture f = no-future (matter_in g) (header_in g).kind (Question words) refl f
    none causes.WrongClaim f = false≢true f.0
    none cause f = f

pub derived-line : (g : Script) (before : List CertRecord) (clause : List Literal) (hints : List ℕ) (question : List Word) (since : List CertRecord)
    → list_any is_end before ≡ false → g.variables < 2 ^ 32 → length (numbered (matter_in g) before) < 2 ^ 32
    → IsClauseOver g.variables clause
    → Follows (numbered (matter_in g) before) clause hints → length hints ≤ g.variables + 1 → IsAsking before question since
    → length (derived since) < g.limit
    → IsNew (numbered (matter_in g) before) (length g.inputs) (clause_of question) clause
    → IsLine g before (Derived (words_of clause) hints)
derived-line g before clause hints question since going fits fits_clauses over follows few asking left new = record {
  form = record {
    text = refl;
    rules = (words-form g.variables clause over, from-one clauses hints numbers);
    numbers = All-append (λ w. IsSmall w.0) (words_of clause) ((0, true) ∷ plains hints)
        (all-small g.variables (words_of clause) fits (words-upto g.variables clause over))
        (All-cons (λ w. IsSmall w.0) (0, true) (plains hints) (omega arith)
        (plains-small (length clauses) hints fits_clauses (upto-last clauses hints numbers)));
  };
  not_ended = going;
  faultless = none;
  next = (
    record {
      question = question;
      since = since;
      asking = asking;
      line_left = left;
      is_new = subst (λ c. IsNew clauses (length g.inputs) (clause_of question) c) (sym (clause-words clause)) new;
    },
    few,
  );
}
  where
    clauses : List (List Literal)
    clauses = numbered (matter_in g) before

    numbers : All (λ hint. IsNumberOf clauses hint) hints
    numbers = all-numbered clauses (map negation clause) hints follows

    none : (cause : CertCause) → ¬ HasRecordFault (matter_in g) (header_in g) before (Derived (words_of clause) hints) cause
    none causes.OutOfRange f = none-past g.variables (map (λ w. w.0) (words_of clause))
        (variables-upto g.variables (words_of clause) (words-upto g.variables clause over)) f
    none causes.OutOfOrder f = none-in _ f
    none causes.UnknownLine f = none-past (length clauses) hints (upto-last clauses hints numbers) f
    none causes.BadLine f = f (subst (λ c. Follows clauses c hints) (sym (clause-words clause)) follows)
    none causes.NotAFuture f = no-future (matter_in g) (header_in g).kind (Derived (words_of clause) hints) refl f
    none causes.WrongClaim f = false≢true f.0
    none cause f = f

pub refuted-line : (g : Script) (before : List CertRecord) (hints : List ℕ) (question : List Word) (since : List CertRecord)
    → list_any is_end before ≡ false → length (numbered (matter_in g) before) < 2 ^ 32
    → Follows (numbered (matter_in g) before) (map negation (clause_of question)) hints
    → length hints ≤ g.variables + 1 → IsAsking before question since → IsLine g before (Refuted hints)
refuted-line g before hints question since going fits_clauses follows few asking = record {
  form = record {
    text = refl;
    rules = from-one clauses hints numbers;
    numbers = plains-small (length clauses) hints fits_clauses (upto-last clauses hints numbers);
  };
  not_ended = going;
  faultless = none;
  next = ((question, since, asking), few);
}
  where
    clauses : List (List Literal)
    clauses = numbered (matter_in g) before

    numbers : All (λ hint. IsNumberOf clauses hint) hints
    numbers = all-numbered clauses (map negation (map negation (clause_of question))) hints follows

    none : (cause : CertCause) → ¬ HasRecordFault (matter_in g) (header_in g) before (Refuted hints) cause
    none causes.OutOfRange f = none-in _ f
    none causes.OutOfOrder f = f (asking.earlier, question, since, asking.opened)
    none causes.UnknownLine f = none-past (length clauses) hints (upto-last clauses hints numbers) f
    none causes.BadLine f =
        let one = one-open before asking.earlier f.0 question f.1 since f.2 asking.opened f.3 in
        f.4 (subst (λ q. Follows clauses (map negation (clause_of q)) hints) one.1 follows)
    none causes.NotAFuture f = no-future (matter_in g) (header_in g).kind (Refuted hints) refl f
    none causes.WrongClaim f = false≢true f.0
    none cause f = f

pub undecided-line : (g : Script) (before : List CertRecord) (question : List Word) (since : List CertRecord)
    → list_any is_end before ≡ false → (asking : IsAsking before question since) → g.limit ≤ length (derived since)
    → EachIsNew (numbered (matter_in g) asking.earlier) (length g.inputs) (clause_of question) (derived since) → IsLine g before Undecided
undecided-line g before question since going asking reached new = record {
  form = record { text = refl; rules = tt; numbers = All-nil (λ w. IsSmall w.0) };
  not_ended = going;
  faultless = none;
  next = (question, since, asking);
}
  where
    none : (cause : CertCause) → ¬ HasRecordFault (matter_in g) (header_in g) before Undecided cause
    none causes.OutOfRange f = none-in _ f
    none causes.OutOfOrder f = f (asking.earlier, question, since, asking.opened)
    none causes.UnknownLine f = none-in _ f
    none causes.NotAFuture f = no-future (matter_in g) (header_in g).kind Undecided refl f
    none causes.LimitNotReached f =
        let one = one-open before asking.earlier f.0 question f.1 since f.2 asking.opened f.3 in
        let less = subst (λ s. length (derived s) < g.limit) (sym one.2) f.4 in
        omega (arith, less, reached)
    none causes.NotNew f =
        let one = one-open before asking.earlier f.0 question f.1 since f.2 asking.opened f.3 in
        f.4 (subst (λ e. EachIsNew (numbered (matter_in g) e) (length g.inputs) (clause_of f.1) (derived f.2)) one.0
        (subst (λ q. EachIsNew (numbered (matter_in g) asking.earlier) (length g.inputs) (clause_of q) (derived f.2)) one.1
        (subst (λ s. EachIsNew (numbered (matter_in g) asking.earlier) (length g.inputs) (clause_of question) (derived s)) one.2 new)))
    none causes.WrongClaim f = false≢true f.0
    none cause f = f

pub installation-line : (g : Script) (before : List CertRecord) (values : List Bool) → list_any is_end before ≡ false
    → g.variables < 2 ^ 32 → length values ≡ g.variables → IsModel (value_of values) g.inputs → AsksSome before
    → IsLine g before (Installation (true_variables values))
installation-line g before values going fits size model asks = record {
  form = record { text = refl; rules = (true-low values, true-rising values); numbers = plains-small g.variables (true_variables values) fits upto };
  not_ended = going;
  faultless = none;
  next = (asks, record { values = values; size = size; are = refl; model = model });
}
  where
    upto : All (λ v. v ≤ g.variables) (true_variables values)
    upto = subst (λ n. All (λ v. v ≤ n) (true_variables values)) size (true-upto values)

    none : (cause : CertCause) → ¬ HasRecordFault (matter_in g) (header_in g) before (Installation (true_variables values)) cause
    none causes.OutOfRange f = none-past g.variables (true_variables values) upto f
    none causes.OutOfOrder f = none-in _ f
    none causes.UnknownLine f = none-in _ f
    none causes.NotAFuture f = f tt
    none causes.NotAnInstallation f = f tt
    none causes.WrongClaim f = false≢true f.0
    none cause f = f
