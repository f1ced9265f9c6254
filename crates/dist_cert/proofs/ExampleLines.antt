-- What a line of a worked example needs to have no fault, for each letter that stands in one.
use Rattle.std.proofs.Common.{◌≡◌, ◌≢◌, ◌⊎◌, ⊎_elim, inl, inr, ℕ, zero, suc, ◌+◌, ◌<◌, ◌≤◌, ◌^◌, ◌&&◌, Bool, true, false, not, List, [], ◌∷◌, ◌++◌, codes}
use Rattle.std.proofs.Common.{length, get_or, map, eqb, leb, ltb, refl, sym, ap, ◌∙◌, subst, append_assoc, append-nil, arith, lit<}
use Rattle.std.specs.List.{All, Any, Contains, list_all, list_any}
use Rattle.std.proofs.lemmas.Bool.{true≢false, false≢true, and_parts, ltb-true, leb-true, eq-eqb}
use Rattle.std.proofs.lemmas.List.Elements.{All-map}
use Rattle.dist_outside.specs.declared.limits.Limits.{Limits}
use Rattle.dist_clause.specs.Formula.{negation}
use Rattle.dist_derive.specs.Follows.{Follows}
use Rattle.dist_cert.specs.declared.faults.CertCause.{CertCause}
use Rattle.dist_cert.specs.declared.faults.CertCause.TheVariants as causes
use Rattle.dist_cert.specs.declared.records.CertKind.{CertKind}
use Rattle.dist_cert.specs.declared.records.CertKind.TheVariants as kinds
use Rattle.dist_cert.specs.declared.records.CertRecord.{CertRecord}
use Rattle.dist_cert.specs.declared.records.CertRecord.TheVariants.{Question, Refuted, Installation, Strong, Challenged, End}
use Rattle.dist_cert.specs.declared.records.Header.{Header}
use Rattle.dist_cert.specs.Form.{Word, IsSmall, plains, words, record_text, AreFromOne, KeepsRules, is_end}
use Rattle.dist_cert.specs.Subject.{Matter}
use Rattle.dist_cert.specs.Groups.{clause_of, numbered, claim_count, IsOpen}
use Rattle.dist_cert.specs.GroupLaws.{one-open}
use Rattle.dist_cert.specs.ClaimRules.{HoldsClaim, OmitsPackage, OmitsPair}
use Rattle.dist_cert.specs.FileLines.{in_order, IsFirstOf}
use Rattle.dist_cert.specs.LineRules.{variables_of, IsNoFuture, HasRecordFault}
use Rattle.dist_cert.specs.ByRecordsLaws.{IsSound, AreSound}
use Rattle.dist_cert.proofs.ExampleTests.{all-by, all_pairs, pairs-by}

-- ---- lists of numbers

abbrev pub UpTo : ℕ → List ℕ → Type 0
UpTo n numbers = All (λ k. k ≤ n) numbers

none-above : (n : ℕ) (numbers : List ℕ) → UpTo n numbers → ¬ Any (λ k. n < k) numbers
none-above n numbers all any = let least = all any.0 any.1 any.2 in omega (arith, least, any.3, any.4)

none-in : {X : Type 0} (P : X → Type 0) → ¬ Any P []
none-in P any = omega (arith, any.2)

next-one : (count packages p : ℕ) → p ≡ count + 1 → p ≤ packages → ¬ Any (λ q. (q ≡ count + 1 → ⊥) ⊎ (packages < q)) (p ∷ [])
next-one count packages p is within any = at any.0 any.1 any.2 any.3 any.4
  where
    at : (k q : ℕ) → k < 1 → get_or (p ∷ []) k q ≡ q → (q ≡ count + 1 → ⊥) ⊎ (packages < q) → ⊥
    at zero q low e wrong = ⊎_elim (λ other. other (sym e ∙ is)) (λ above. omega (arith, above, within, e)) wrong
    at (suc k) q low e wrong = omega (arith, low)

-- ---- lines

pub asks : (matter : Matter) (h : Header) (before : List CertRecord) (literals : List Word) → UpTo matter.variables (variables_of (Question literals))
    → (cause : CertCause) → ¬ HasRecordFault matter h before (Question literals) cause
asks matter h before literals all causes.OutOfRange f = none-above matter.variables (variables_of (Question literals)) all f
asks matter h before literals all causes.OutOfOrder f = none-in (λ p. (p ≡ claim_count before + 1 → ⊥) ⊎ (matter.packages < p)) f
asks matter h before literals all causes.UnknownLine f = none-in (λ hint. length (numbered matter before) < hint) f
asks matter h before literals all causes.NotAFuture f = at h.kind f
  where
    at : (kind : CertKind) → ¬ IsNoFuture matter kind (Question literals)
    at kinds.Strong g = g
    at kinds.Outdated g = g
    at kinds.Challenged g = g
asks matter h before literals all causes.WrongClaim f = false≢true f.0
asks matter h before literals all cause f = f

pub refutes-asked : (matter : Matter) (h : Header) (before earlier : List CertRecord) (question : List Word) (since : List CertRecord) (hints : List ℕ)
    → IsOpen before earlier question since → UpTo (length (numbered matter before)) hints
    → Follows (numbered matter before) (map negation (clause_of question)) hints
    → (cause : CertCause) → ¬ HasRecordFault matter h before (Refuted hints) cause
refutes-asked matter h before earlier question since hints asked all follows causes.OutOfRange f = none-in (λ variable. matter.variables < variable) f
refutes-asked matter h before earlier question since hints asked all follows causes.OutOfOrder f = f (earlier, question, since, asked)
refutes-asked matter h before earlier question since hints asked all follows causes.UnknownLine f = none-above (length (numbered matter before)) hints all f
refutes-asked matter h before earlier question since hints asked all follows causes.BadLine f =
    let same = (one-open before earlier f.0 question f.1 since f.2 asked f.3).1 in
    f.4 (subst (λ (words : List Word). Follows (numbered matter before) (map negation (clause_of words)) hints) same follows)
refutes-asked matter h before earlier question since hints asked all follows causes.NotAFuture f = at h.kind f
  where
    at : (kind : CertKind) → ¬ IsNoFuture matter kind (Refuted hints)
    at kinds.Strong g = g
    at kinds.Outdated g = g
    at kinds.Challenged g = g
refutes-asked matter h before earlier question since hints asked all follows causes.WrongClaim f = false≢true f.0
refutes-asked matter h before earlier question since hints asked all follows cause f = f

pub installs : (matter : Matter) (h : Header) (before : List CertRecord) (variables : List ℕ) → UpTo matter.variables variables → matter.IsFuture variables
    → matter.IsHealthy variables → (cause : CertCause) → ¬ HasRecordFault matter h before (Installation variables) cause
installs matter h before variables all future healthy causes.OutOfRange f = none-above matter.variables variables all f
installs matter h before variables all future healthy causes.OutOfOrder f = none-in (λ p. (p ≡ claim_count before + 1 → ⊥) ⊎ (matter.packages < p)) f
installs matter h before variables all future healthy causes.UnknownLine f = none-in (λ hint. length (numbered matter before) < hint) f
installs matter h before variables all future healthy causes.NotAFuture f = at h.kind f
  where
    at : (kind : CertKind) → ¬ IsNoFuture matter kind (Installation variables)
    at kinds.Strong g = g
    at kinds.Outdated g = g future
    at kinds.Challenged g = g future
installs matter h before variables all future healthy causes.NotAnInstallation f = f healthy
installs matter h before variables all future healthy causes.WrongClaim f = false≢true f.0
installs matter h before variables all future healthy cause f = f

pub claims-strong : (matter : Matter) (h : Header) (before : List CertRecord) (p : ℕ) (named on undecided : List ℕ) → p ≡ claim_count before + 1
    → p ≤ matter.packages
    → HoldsClaim matter h.kind before (Strong p named on undecided) → ¬ OmitsPackage matter before p named (on ++ undecided)
    → (cause : CertCause) → ¬ HasRecordFault matter h before (Strong p named on undecided) cause
claims-strong matter h before p named on undecided is within holds whole causes.OutOfRange f = none-in (λ variable. matter.variables < variable) f
claims-strong matter h before p named on undecided is within holds whole causes.OutOfOrder f = next-one (claim_count before) matter.packages p is within f
claims-strong matter h before p named on undecided is within holds whole causes.UnknownLine f = none-in (λ hint. length (numbered matter before) < hint) f
claims-strong matter h before p named on undecided is within holds whole causes.NotAFuture f = at h.kind f
  where
    at : (kind : CertKind) → ¬ IsNoFuture matter kind (Strong p named on undecided)
    at kinds.Strong g = g
    at kinds.Outdated g = g
    at kinds.Challenged g = g
claims-strong matter h before p named on undecided is within holds whole causes.WrongClaim f = f.1 holds
claims-strong matter h before p named on undecided is within holds whole causes.Incomplete f = whole f
claims-strong matter h before p named on undecided is within holds whole cause f = f

pub claims-challenged : (matter : Matter) (h : Header) (before : List CertRecord) (p : ℕ) (named : List ℕ) (by undecided : List (ℕ × ℕ))
    → p ≡ claim_count before + 1
    → p ≤ matter.packages → HoldsClaim matter h.kind before (Challenged p named by undecided) → ¬ OmitsPair matter before p named (by ++ undecided)
    → (cause : CertCause) → ¬ HasRecordFault matter h before (Challenged p named by undecided) cause
claims-challenged matter h before p named by undecided is within holds whole causes.OutOfRange f = none-in (λ variable. matter.variables < variable) f
claims-challenged matter h before p named by undecided is within holds whole causes.OutOfOrder f = next-one (claim_count before) matter.packages p is within f
claims-challenged matter h before p named by undecided is within holds whole causes.UnknownLine f = none-in (λ hint. length (numbered matter before) < hint) f
claims-challenged matter h before p named by undecided is within holds whole causes.NotAFuture f = at h.kind f
  where
    at : (kind : CertKind) → ¬ IsNoFuture matter kind (Challenged p named by undecided)
    at kinds.Strong g = g
    at kinds.Outdated g = g
    at kinds.Challenged g = g
claims-challenged matter h before p named by undecided is within holds whole causes.WrongClaim f = f.1 holds
claims-challenged matter h before p named by undecided is within holds whole causes.Incomplete f = whole f
claims-challenged matter h before p named by undecided is within holds whole cause f = f

pub is-the-end : (matter : Matter) (h : Header) (before : List CertRecord) → matter.packages ≤ claim_count before → (cause : CertCause)
    → ¬ HasRecordFault matter h before End cause
is-the-end matter h before all causes.OutOfRange f = none-in (λ variable. matter.variables < variable) f
is-the-end matter h before all causes.OutOfOrder f = none-in (λ p. (p ≡ claim_count before + 1 → ⊥) ⊎ (matter.packages < p)) f
is-the-end matter h before all causes.UnknownLine f = none-in (λ hint. length (numbered matter before) < hint) f
is-the-end matter h before all causes.NotAFuture f = at h.kind f
  where
    at : (kind : CertKind) → ¬ IsNoFuture matter kind End
    at kinds.Strong g = g
    at kinds.Outdated g = g
    at kinds.Challenged g = g
is-the-end matter h before all causes.WrongClaim f = false≢true f.0
is-the-end matter h before all causes.Incomplete f = omega (arith, f, all)
is-the-end matter h before all cause f = f

-- ---- the text of a line

abbrev small : Word → Bool
small word = ltb word.0 (2 ^ 32)

-- A line of such a text has no fault where its record has none.
pub sound : (limits : Limits) (matter : Matter) (h : Header) (before : List CertRecord) (step : CertRecord) (line : List ℕ) → record_text step ≡ line
    → KeepsRules step
    → list_all small (words step) ≡ true → length line < limits.record_line → list_any is_end before ≡ false
    → ((cause : CertCause) → ¬ HasRecordFault matter h before step cause)
    → IsSound limits matter h before step
sound limits matter h before step line is rules numbers short not_ended faultless = record {
  form = record { text = refl; rules = rules; numbers = all-by small (λ word. IsSmall word.0) (λ word e. ltb-true word.0 (2 ^ 32) e) (words step) numbers };
  short = subst (λ (bytes : List ℕ). length bytes < limits.record_line) (sym is) short;
  not_ended = not_ended;
  faultless = faultless;
}

-- ---- lines whose rules compute

up-to : (n : ℕ) (numbers : List ℕ) → list_all (λ k. leb k n) numbers ≡ true → UpTo n numbers
up-to n numbers e = all-by (λ k. leb k n) (λ k. k ≤ n) (λ k t. leb-true k n t) numbers e

pub from-one : (numbers : List ℕ) → list_all (leb 1) numbers ≡ true → AreFromOne numbers
from-one numbers e = all-by (leb 1) (λ k. 1 ≤ k) (λ k t. leb-true 1 k t) numbers e

other-variable : (l m : Word) → not (eqb l.0 m.0) ≡ true → l.0 ≢ m.0
other-variable l m t e = true≢false (sym t ∙ ap not (eq-eqb l.0 m.0 e))

-- at least one literal, no variable above the last, and none twice
abbrev keeps_question : ℕ → List Word → Bool
keeps_question last literals = ltb 0 (length literals) && (list_all (λ (l : Word). leb l.0 last) literals
    && (list_all (λ (l : Word). leb 1 l.0) literals && (all_pairs (λ (l m : Word). not (eqb l.0 m.0)) literals && list_all small literals)))

pub question-line : (limits : Limits) (matter : Matter) (h : Header) (before : List CertRecord) (literals : List Word) (line : List ℕ)
    → record_text (Question literals) ≡ line
    → keeps_question matter.variables literals ≡ true → length line < limits.record_line → list_any is_end before ≡ false
    → IsSound limits matter h before (Question literals)
question-line limits matter h before literals line is keeps short not_ended =
    let a = and_parts (ltb 0 (length literals)) _ keeps in
    let b = and_parts (list_all (λ (l : Word). leb l.0 matter.variables) literals) _ a.1 in
    let c = and_parts (list_all (λ (l : Word). leb 1 l.0) literals) _ b.1 in
    let d = and_parts (all_pairs (λ (l m : Word). not (eqb l.0 m.0)) literals) _ c.1 in
    sound limits matter h before (Question literals) line is (
      ltb-true 0 (length literals) a.0,
      (
        all-by (λ (l : Word). leb 1 l.0) (λ (l : Word). 1 ≤ l.0) (λ l t. leb-true 1 l.0 t) literals c.0,
        pairs-by (λ (l m : Word). not (eqb l.0 m.0)) (λ (l m : Word). l.0 ≢ m.0) other-variable literals d.0,
      ),
    )
    d.1 short not_ended
    (asks matter h before literals (All-map (λ k. k ≤ matter.variables) (λ (l : Word). l.0) literals
    (all-by (λ (l : Word). leb l.0 matter.variables) (λ (l : Word). l.0 ≤ matter.variables) (λ l t. leb-true l.0 matter.variables t) literals b.0)))

-- no hint above the last clause, and none is zero
abbrev pub keeps_hints : ℕ → List ℕ → Bool
keeps_hints last hints = list_all (leb 1) hints && (list_all (λ k. leb k last) hints && list_all small (plains hints))

pub refuted-line : (limits : Limits) (matter : Matter) (h : Header) (before earlier : List CertRecord) (question : List Word) (since : List CertRecord)
    (hints line : List ℕ)
    → record_text (Refuted hints) ≡ line → IsOpen before earlier question since → keeps_hints (length (numbered matter before)) hints ≡ true
    → Follows (numbered matter before) (map negation (clause_of question)) hints → length line < limits.record_line
    → list_any is_end before ≡ false → IsSound limits matter h before (Refuted hints)
refuted-line limits matter h before earlier question since hints line is asked keeps follows short not_ended =
    let a = and_parts (list_all (leb 1) hints) _ keeps in
    let b = and_parts (list_all (λ k. leb k (length (numbered matter before))) hints) _ a.1 in
    sound limits matter h before (Refuted hints) line is (from-one hints a.0) b.1 short not_ended
    (refutes-asked matter h before earlier question since hints asked (up-to (length (numbered matter before)) hints b.0) follows)

-- no variable above the last, and they rise from one on
abbrev pub keeps_installation : ℕ → List ℕ → Bool
keeps_installation last variables = list_all (leb 1) variables
    && (list_all (λ k. leb k last) variables && (all_pairs ltb variables && list_all small (plains variables)))

pub installation-line : (limits : Limits) (matter : Matter) (h : Header) (before : List CertRecord) (variables line : List ℕ)
    → record_text (Installation variables) ≡ line
    → keeps_installation matter.variables variables ≡ true → matter.IsFuture variables → matter.IsHealthy variables → length line < limits.record_line
    → list_any is_end before ≡ false → IsSound limits matter h before (Installation variables)
installation-line limits matter h before variables line is keeps future healthy short not_ended =
    let a = and_parts (list_all (leb 1) variables) _ keeps in
    let b = and_parts (list_all (λ k. leb k matter.variables) variables) _ a.1 in
    let c = and_parts (all_pairs ltb variables) _ b.1 in
    sound limits matter h before (Installation variables) line is (from-one variables a.0, pairs-by ltb (λ v w. v < w) ltb-true variables c.0) c.1 short
    not_ended
    (installs matter h before variables (up-to matter.variables variables b.0) future healthy)

pub end-line : (limits : Limits) (matter : Matter) (h : Header) (before : List CertRecord) → record_text End ≡ codes "e" → matter.packages ≤ claim_count before
    → 1 < limits.record_line → list_any is_end before ≡ false → IsSound limits matter h before End
end-line limits matter h before is all short not_ended =
    sound limits matter h before End (codes "e") is tt refl short not_ended (is-the-end matter h before all)

-- ---- lines behind others

pub sound-more : (limits : Limits) (matter : Matter) (h : Header) (before lines more : List CertRecord) → AreSound limits matter h before lines
    → AreSound limits matter h (before ++ lines) more → AreSound limits matter h before (lines ++ more)
sound-more limits matter h before [] more all later = subst (λ (ls : List CertRecord). AreSound limits matter h ls more) (append-nil before) later
sound-more limits matter h before (step ∷ lines) more all later = (
  all.0,
  sound-more limits matter h (before ++ step ∷ []) lines more all.1
      (subst (λ (ls : List CertRecord). AreSound limits matter h ls more) (sym (append_assoc before (step ∷ []) lines)) later),
)

-- ---- refusals

-- the one fault is the first one
lone-first : (Has : CertCause → Type 0) (cause : CertCause) → Has cause → ((other : CertCause) → (¬ Has other) ⊎ (cause ≡ other)) → (list : List CertCause)
    → Contains list cause
    → IsFirstOf list Has cause
lone-first Has cause has alone [] there = omega (arith, there.1)
lone-first Has cause has alone (next ∷ later) there =
    ⊎_elim (λ none. inr (none, lone-first Has cause has alone later (behind none there.0 there.1 there.2))) (λ is. inl (subst Has is has, is)) (alone next)
  where
    behind : ¬ Has next → (k : ℕ) → k < length (next ∷ later) → get_or (next ∷ later) k cause ≡ cause → Contains later cause
    behind none zero within is = absurd (none (subst Has (sym is) has))
    behind none (suc k) within is = (k, omega (arith, within), is)

-- a refutation without hints
pub no-hints : (matter : Matter) (h : Header) (before earlier : List CertRecord) (question : List Word) (since : List CertRecord)
    → IsOpen before earlier question since
    → IsFirstOf in_order (HasRecordFault matter h before (Refuted [])) causes.BadLine
no-hints matter h before earlier question since asked =
    lone-first (HasRecordFault matter h before (Refuted [])) causes.BadLine (earlier, question, since, asked, λ follows. follows) alone in_order
    (7, lit< tt, refl)
  where
    none-new : (kind : CertKind) → ¬ IsNoFuture matter kind (Refuted [])
    none-new kinds.Strong g = g
    none-new kinds.Outdated g = g
    none-new kinds.Challenged g = g

    alone : (other : CertCause) → (¬ HasRecordFault matter h before (Refuted []) other) ⊎ (causes.BadLine ≡ other)
    alone causes.OutOfRange = inl (none-in (λ variable. matter.variables < variable))
    alone causes.OutOfOrder = inl (λ f. f (earlier, question, since, asked))
    alone causes.UnknownLine = inl (none-in (λ hint. length (numbered matter before) < hint))
    alone causes.BadLine = inr refl
    alone causes.NotAFuture = inl (none-new h.kind)
    alone causes.WrongClaim = inl (λ f. false≢true f.0)
    alone other = inl (λ f. f)

-- an end before each package has its claim
pub ends-early : (matter : Matter) (h : Header) (before : List CertRecord) → claim_count before < matter.packages
    → IsFirstOf in_order (HasRecordFault matter h before End) causes.Incomplete
ends-early matter h before few = lone-first (HasRecordFault matter h before End) causes.Incomplete few alone in_order (13, lit< tt, refl)
  where
    none-new : (kind : CertKind) → ¬ IsNoFuture matter kind End
    none-new kinds.Strong g = g
    none-new kinds.Outdated g = g
    none-new kinds.Challenged g = g

    alone : (other : CertCause) → (¬ HasRecordFault matter h before End other) ⊎ (causes.Incomplete ≡ other)
    alone causes.OutOfRange = inl (none-in (λ variable. matter.variables < variable))
    alone causes.OutOfOrder = inl (none-in (λ p. (p ≡ claim_count before + 1 → ⊥) ⊎ (matter.packages < p)))
    alone causes.UnknownLine = inl (none-in (λ hint. length (numbered matter before) < hint))
    alone causes.NotAFuture = inl (none-new h.kind)
    alone causes.WrongClaim = inl (λ f. false≢true f.0)
    alone causes.Incomplete = inr refl
    alone other = inl (λ f. f)
