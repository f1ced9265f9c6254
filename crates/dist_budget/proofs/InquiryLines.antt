-- Line by line, what the lines of a file of one question keep, and what is counted of them.
use Rattle.std.proofs.Common.{◌≡◌, ⊎_elim, inl, inr, ℕ, ◌*◌, ◌≤◌, List, [], ◌∷◌, ◌++◌, Option, Some, None, length, refl, sym, ap, subst}
use Rattle.std.proofs.Common.{append-nil, append_assoc, arith}
use Rattle.std.specs.List.{All, Contains}
use Rattle.std.proofs.lemmas.Bool.{false≢true}
use Rattle.std.proofs.lemmas.List.Elements.{All-nil}
use Rattle.dist_outside.specs.declared.trouble.What.{What}
use Rattle.dist_outside.specs.declared.trouble.What.TheVariants.{Lines, LineLiterals, RecordLine, Certificate}
use Rattle.dist_cert.specs.declared.faults.CertCause.{CertCause}
use Rattle.dist_cert.specs.declared.faults.CertCause.TheVariants as causes
use Rattle.dist_cert.specs.declared.records.CertKind.TheVariants as kinds
use Rattle.dist_cert.specs.declared.records.CertRecord.{CertRecord}
use Rattle.dist_cert.specs.declared.records.CertRecord.TheVariants.{Question, Derived, Refuted, Installation, Undecided, End}
use Rattle.dist_cert.specs.ByRecordsLaws.{no_end_in}
use Rattle.dist_cert.specs.Form.{IsSmall, Word, record_text}
use Rattle.dist_cert.specs.Groups.{derived}
use Rattle.dist_cert.specs.ListLaws.{contains-cases}
use Rattle.dist_cert.specs.LineRules.{HasRecordFault}
use Rattle.dist_cert.specs.SomeVerdictLaws.{split_push}
use Rattle.dist_cert.specs.Writing.{ended}
use Rattle.dist_line_write.specs.Script.{AllNext, AreAsked, Asks, IsLine, IsNextLine, Passes, Script, header_in}
use Rattle.dist_line_write.specs.Script.{matter_in}
use Rattle.dist_line_write.specs.ScriptLaws.{asked-join}
use Rattle.dist_inquiry.specs.Written.{Course, IsFull, MayBeWritten, PassesNext}
use Rattle.dist_budget.specs.Budget.{FileSize, IsBelowFileBudget, record_budget}
use Rattle.dist_budget.proofs.Counts.{asked, few-answers, few-claims, few-derived, few-ends}
use Rattle.dist_budget.proofs.EnoughVariables.{HasEnoughVariables}
use Rattle.dist_budget.proofs.KeptLines.{AreKept, ComesNext, IsKept}
use Rattle.dist_budget.proofs.Totals.{AreCounted, bytes-within, derived-within, line-above, literals-within}
use Rattle.dist_budget.proofs.Widths.{all-literals, all-narrow}

-- ---- each line behind those before it

line-at : (g : Script) (before earlier : List CertRecord) (step : CertRecord) (later : List CertRecord)
    → AllNext g before (earlier ++ step ∷ later) → IsLine g (before ++ earlier) step
line-at g before [] step later all = subst (λ b. IsLine g b step) (sym (append-nil before)) all.0
line-at g before (x ∷ earlier) step later all =
    subst (λ b. IsLine g b step) (append_assoc before (x ∷ []) earlier) (line-at g (before ++ x ∷ []) earlier step later all.1)

-- a question among lines was one that may be asked
pub asked-at : (asks : Asks) (before earlier : List CertRecord) (question : List Word) (later : List CertRecord)
    → AreAsked asks before (earlier ++ Question question ∷ later) → asks (before ++ earlier) question
asked-at asks before [] question later all = subst (λ b. asks b question) (sym (append-nil before)) all.0
asked-at asks before (x ∷ earlier) question later all =
    subst (λ b. asks b question) (append_assoc before (x ∷ []) earlier) (asked-at asks (before ++ x ∷ []) earlier question later all.1)

-- ---- what they keep

next-comes : (g : Script) (before : List CertRecord) (step : CertRecord) → IsNextLine g before step → ComesNext (matter_in g) (header_in g) before step
next-comes g before (Question question) next = tt
next-comes g before (Derived literals hints) next = next
next-comes g before (Refuted hints) next = next
next-comes g before (Installation variables) next = next.0
next-comes g before Undecided next = next
next-comes g before step next = absurd next

line-kept : (g : Script) (before : List CertRecord) (step : CertRecord) → IsLine g before step → IsKept (matter_in g) (header_in g) before step
line-kept g before step line = record {
  form = line.form;
  not_ended = no_end_in before line.not_ended;
  faultless = line.faultless;
  next = next-comes g before step line.next;
}

end-faultless : (g : Script) (before : List CertRecord) (cause : CertCause) → ¬ HasRecordFault (matter_in g) (header_in g) before End cause
end-faultless g before causes.OutOfRange fault = omega (arith, fault.2)
end-faultless g before causes.OutOfOrder fault = omega (arith, fault.2)
end-faultless g before causes.UnknownLine fault = omega (arith, fault.2)
end-faultless g before causes.WrongClaim fault = false≢true fault.0
end-faultless g before causes.Incomplete fault = omega (arith, fault)
end-faultless g before cause fault = fault

no-end : (g : Script) (before lines : List CertRecord) → AllNext g before lines → ¬ Contains lines End
no-end g before [] all there = omega (arith, there.1)
no-end g before (step ∷ lines) all there = elim (contains-cases step lines End there) [
  | inl same ↦ subst (λ s. IsNextLine g before s) same all.0.next
  | inr later ↦ no-end g (before ++ step ∷ []) lines all.1 later
]

-- the end may stand behind lines that are written
end-kept : (g : Script) (lines : List CertRecord) → AllNext g [] lines → IsKept (matter_in g) (header_in g) lines End
end-kept g lines all = record {
  form = record { text = refl; rules = tt; numbers = All-nil (λ (w : Word). IsSmall w.0) };
  not_ended = no-end g [] lines all;
  faultless = end-faultless g lines;
  next = tt;
}

lines-kept : (g : Script) (lines : List CertRecord) → AllNext g [] lines → AreKept (matter_in g) (header_in g) lines
lines-kept g lines all before step after is =
    line-kept g before step (line-at g [] before step after (subst (λ ls. AllNext g [] ls) is all))

-- a line may stand behind others
kept-push : (g : Script) (lines : List CertRecord) (last : CertRecord) → AreKept (matter_in g) (header_in g) lines
    → IsKept (matter_in g) (header_in g) lines last → AreKept (matter_in g) (header_in g) (lines ++ last ∷ [])
kept-push g lines last kept next before step after is = elim (split_push lines before after step last is) [
  | inl same ↦ subst (λ s. IsKept (matter_in g) (header_in g) before s) (sym same.1)
      (subst (λ b. IsKept (matter_in g) (header_in g) b last) (sym same.0) next)
  | inr (more, stands, rest) ↦ kept before step more stands
]

-- ---- where the writing is full

-- Lines that pass a number, with the one that passes it: each is kept, and each question may be asked.
pub record Passing (g : Script) (asks : Asks) (what : What) : Type 0 where
  pub steps : List CertRecord
  pub kept : AreKept (matter_in g) (header_in g) steps
  pub in_order : AreAsked asks [] steps
  pub passes : Passes g steps what

passing-next : (g : Script) (course : Course) (before : Option (List CertRecord)) (what : What) → MayBeWritten g course before
    → PassesNext g course before what → Passing g course.asks what
passing-next g course None what written (line, after, next, passes) = record {
  steps = [];
  kept = λ front step back is. absurd (nothing front step back is);
  in_order = tt;
  passes = subst (λ ls. Passes g ls what) next.1 passes;
}
  where
    nothing : (front : List CertRecord) (step : CertRecord) (back : List CertRecord) → [] ≡ front ++ step ∷ back → ⊥
    nothing [] step back is = let n = ap length is in omega (arith, n)
    nothing (x ∷ front) step back is = let n = ap length is in omega (arith, n)
passing-next g course (Some lines) what written (line, after, (step, next, text, is), passes) = elim next [
  | inl may ↦ record {
    steps = lines ++ step ∷ [];
    kept = kept-push g lines step (lines-kept g lines written.0.next) (line-kept g lines step may.0);
    in_order = asked-join course.asks [] lines (step ∷ []) written.1 (may.1, tt);
    passes = subst (λ ls. Passes g ls what) is passes;
  }
  | inr (ends, decided) ↦ record {
    steps = lines ++ End ∷ [];
    kept = kept-push g lines End (lines-kept g lines written.0.next) (end-kept g lines written.0.next);
    in_order = asked-join course.asks [] lines (End ∷ []) written.1 (tt, tt);
    passes = subst (λ s. Passes g (lines ++ s ∷ []) what) ends (subst (λ ls. Passes g ls what) is passes);
  }
]

pub passing : (g : Script) (course : Course) (what : What) (text : List ℕ) → IsFull g course what text → Passing g course.asks what
passing g course what text full = passing-next g course full.before what full.written full.passes

-- ---- what is counted

enough : (g : Script) → HasEnoughVariables (matter_in g) kinds.Outdated
enough g = record { packages = omega arith; pairs = omega arith; no_others = λ same. cc }

module _ (g : Script) (size : FileSize) (asks : Asks) (variables : g.variables ≡ size.variables) (limit : g.limit ≡ size.limit)
    (first : length (ended g.first) ≤ record_budget size.variables)
    (few : (steps : List CertRecord) → AreKept (matter_in g) (header_in g) steps → AreAsked asks [] steps → length (asked steps) ≤ size.questions) where
  are-counted : (steps : List CertRecord) → AreKept (matter_in g) (header_in g) steps → AreAsked asks [] steps → AreCounted size g.first steps
  are-counted steps kept in_order = record {
    questions = few steps kept in_order;
    lines = subst (λ (n : ℕ). length (derived steps) ≤ n * length (asked steps)) limit (few-derived (matter_in g) (header_in g) steps kept);
    closings = few-answers (matter_in g) (header_in g) steps kept;
    claims = let none = few-claims (matter_in g) (header_in g) steps kept in omega (arith, none);
    endings = few-ends (matter_in g) (header_in g) steps kept;
    literals = subst (λ (n : ℕ). All (λ clause. length clause ≤ n) (derived steps)) variables (all-literals (matter_in g) (header_in g) steps kept);
    narrow = subst (λ (n : ℕ). All (λ step. length (ended (record_text step)) ≤ record_budget n) steps) variables
        (all-narrow (matter_in g) (header_in g) steps (enough g) kept);
    first_narrow = first;
  }

  below : (steps : List CertRecord) (what : What) → AreCounted size g.first steps → Passes g steps what → IsBelowFileBudget g.limits size what
  below steps Lines counted passes = let most = derived-within size g.first steps counted in omega (arith, most, passes)
  below steps LineLiterals counted passes = let most = literals-within size g.first steps counted in omega (arith, most, passes)
  below steps RecordLine counted passes =
      ⊎_elim (λ long. omega (arith, first, long)) (line-above size g.first steps counted g.limits.record_line) passes
  below steps Certificate counted passes = let most = bytes-within size g.first steps counted in omega (arith, most, passes)
  below steps what counted passes = absurd passes

  pub stays-below : (what : What) → Passing g asks what → IsBelowFileBudget g.limits size what
  stays-below what full = below full.steps what (are-counted full.steps full.kept full.in_order) full.passes
