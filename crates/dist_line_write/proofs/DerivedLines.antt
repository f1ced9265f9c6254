-- The derived lines of a question may come next one after another.
use Rattle.std.proofs.Common.{◌≡◌, ℕ, ◌+◌, ◌-◌, ◌<◌, ◌≤◌, ◌^◌, Bool, ◌||◌, false, List, [], ◌∷◌, ◌++◌, length, refl, ap, sym, subst, ◌∙◌, append_assoc}
use Rattle.std.proofs.Common.{arith, length-append, slice_index_or}
use Rattle.std.specs.List.{All, list_any}
use Rattle.std.proofs.lemmas.Bool.{or_parts}
use Rattle.std.proofs.lemmas.Grind.{flat_map-append}
use Rattle.std.proofs.lemmas.List.{get_or_at}
use Rattle.std.proofs.lemmas.List.Elements.{All-head, All-tail}
use Rattle.dist_clause.specs.ClauseList.{clause_at}
use Rattle.dist_clause.specs.Formula.{Literal, IsClauseOver}
use Rattle.dist_derive.specs.Follows.{Follows}
use Rattle.dist_derive.specs.New.{EachIsNew, IsNew}
use Rattle.dist_solver.specs.Derived.{DerivedLine}
use Rattle.dist_solver.specs.Evidence.{EachIsEvidence, IsShort}
use Rattle.dist_cert.specs.declared.records.CertRecord.{CertRecord}
use Rattle.dist_cert.specs.declared.records.CertRecord.TheVariants.{Derived}
use Rattle.dist_cert.specs.Form.{Word, is_end}
use Rattle.dist_cert.specs.Groups.{clause_of, derived, derived_in, numbered}
use Rattle.dist_cert.specs.Part.{IsAsking}
use Rattle.dist_line_write.specs.Script.{Script, AllNext, matter_in}
use Rattle.dist_line_write.specs.Words.{words_of, derived_line, derived_lines}
use Rattle.dist_line_write.proofs.Lines.{derived-line, clause-words}
use Rattle.dist_line_write.proofs.Opened.{asking-more}

-- ---- one more derived line

pub derived-push : (lines : List CertRecord) (clause : List Literal) (hints : List ℕ)
    → derived (lines ++ Derived (words_of clause) hints ∷ []) ≡ derived lines ++ clause ∷ []
derived-push lines clause hints = flat_map-append derived_in lines (Derived (words_of clause) hints ∷ [])
    ∙ ap (λ (c : List Literal). derived lines ++ c ∷ []) (clause-words clause)

pub numbered-push : (g : Script) (lines : List CertRecord) (clause : List Literal) (hints : List ℕ)
    → numbered (matter_in g) (lines ++ Derived (words_of clause) hints ∷ []) ≡ numbered (matter_in g) lines ++ clause ∷ []
numbered-push g lines clause hints = ap (λ (cs : List (List Literal)). g.inputs ++ cs) (derived-push lines clause hints)
    ∙ sym (append_assoc g.inputs (derived lines) (clause ∷ []))

pub none-ended : (lines : List CertRecord) (literals : List Word) (hints : List ℕ) → list_any is_end lines ≡ false
    → list_any is_end (lines ++ Derived literals hints ∷ []) ≡ false
none-ended [] literals hints none = refl
none-ended (x ∷ lines) literals hints none =
    let parts = or_parts (is_end x) (list_any is_end lines) none in
    ap (λ (b : Bool). b || list_any is_end (lines ++ Derived literals hints ∷ [])) parts.0 ∙ none-ended lines literals hints parts.1

-- ---- all of them

-- derived clauses with their hints
abbrev pub records : List (List Literal) → List DerivedLine → List CertRecord
records [] ds = []
records (line ∷ lines) [] = []
records (line ∷ lines) (d ∷ ds) = Derived (words_of line) d.hints ∷ records lines ds

pub derived-next : (g : Script) (question : List Word) → g.variables < 2 ^ 32
    → (before since : List CertRecord) (clauses lines : List (List Literal)) (ds : List DerivedLine) → list_any is_end before ≡ false
    → IsAsking before question since → numbered (matter_in g) before ≡ clauses
    → EachIsEvidence clauses lines ds → EachIsNew clauses (length g.inputs) (clause_of question) lines → All (λ d. IsShort
    g.variables d.hints) ds
    → All (IsClauseOver g.variables) lines → length (derived since) + length lines ≤ g.limit → length clauses + length lines < 2 ^ 32
    → AllNext g before (records lines ds)
derived-next g question fits before since clauses [] ds going asking are evidence new short over left fits_clauses = tt
derived-next g question fits before since clauses (line ∷ lines) [] going asking are evidence new short over left fits_clauses = tt
derived-next g question fits before since clauses (line ∷ lines) (d ∷ ds) going asking are evidence new short over left fits_clauses = (
  derived-line g before line d.hints question since going fits (omega (arith, ap length are, fits_clauses))
      (All-head (IsClauseOver g.variables) line lines over)
      (subst (λ cs. Follows cs line d.hints) (sym are) evidence.1) (All-head (λ e. IsShort g.variables e.hints) d ds short) asking
      (omega (arith, left))
      (subst (λ cs. IsNew cs (length g.inputs) (clause_of question) line) (sym are) new.0),
  derived-next g question fits (before ++ Derived (words_of line) d.hints ∷ []) (since ++ Derived (words_of line) d.hints ∷ []) (clauses ++ line ∷ [])
      lines ds
      (none-ended before (words_of line) d.hints going) (asking-more before question since (words_of line) d.hints asking)
      (numbered-push g before line d.hints ∙ ap (λ (cs : List (List Literal)). cs ++ line ∷ []) are) evidence.2 new.1
      (All-tail (λ e. IsShort g.variables e.hints) d ds short) (All-tail (IsClauseOver g.variables) line lines over)
      (omega (arith, left, ap length (derived-push since line d.hints), length-append (derived since) (line ∷ [])))
      (omega (arith, fits_clauses, length-append clauses (line ∷ []))),
)

-- the clauses of the numbers are the derived ones
pub records-same : (clauses lines : List (List Literal)) (ds : List DerivedLine) (all : List (List Literal)) → EachIsEvidence clauses lines ds
    → all ≡ clauses ++ lines → records lines ds ≡ derived_lines all ds
records-same clauses [] [] all evidence is = refl
records-same clauses [] (d ∷ ds) all evidence is = absurd evidence
records-same clauses (line ∷ lines) [] all evidence is = absurd evidence
records-same clauses (line ∷ lines) (d ∷ ds) all evidence is =
    let place : d.line - 1 ≡ length clauses = omega (arith, evidence.0) in
    let clause : clause_at all d.line ≡ line = ap (λ (n : ℕ). slice_index_or all n []) place
    ∙ ap (λ (cs : List (List Literal)). slice_index_or cs (length clauses) []) is ∙ get_or_at clauses line lines [] (length clauses) refl in
    ap (λ (c : List Literal). Derived (words_of c) d.hints ∷ records lines ds) (sym clause)
    ∙ ap (λ (rs : List CertRecord). derived_line all d ∷ rs)
    (records-same (clauses ++ line ∷ []) lines ds all evidence.2 (is ∙ sym (append_assoc clauses (line ∷ []) lines)))
